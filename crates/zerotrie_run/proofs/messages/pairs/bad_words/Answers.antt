use Rattle.std.proofs.Common.{rules}
use Rattle.zerotrie_run.proofs.messages.pairs.bad_words.Goals as goal

pub returns : goal.returns
returns c = search rules
