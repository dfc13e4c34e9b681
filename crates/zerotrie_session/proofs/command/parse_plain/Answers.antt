use Rattle.std.proofs.Common.{rules}
use Rattle.zerotrie_session.proofs.BadLineLemmas.{no_words_of_any}
use Rattle.zerotrie_session.proofs.command.parse_plain.Goals as goal

pub returns-in_default-key_behind-clause-err : goal.returns-in_default-key_behind-clause-err
returns-in_default-key_behind-clause-err c =
    no_words_of_any c.args.line.now c.in_default.ensures.cases c.in_default-strip_prefix.ensures.cases (search rules) (search rules) c.in_default-key_behind.ensures.none
