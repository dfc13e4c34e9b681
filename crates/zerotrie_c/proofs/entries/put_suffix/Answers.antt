use Rattle.std.proofs.Common.{ap, ◌∙◌}
use Rattle.zerotrie.specs.dense.Views.{pairs_in}
use Rattle.zerotrie_c.proofs.FrontLemmas.{suffix_front}
use Rattle.zerotrie_c.proofs.entries.put_suffix.Goals as goal

pub returns-clause-put : goal.returns-clause-put
returns-clause-put c = ap pairs_in (c.in_ok-insert.ensures.entries ∙ suffix_front c.args.row.now.entries c.args.suffix c.args.value (c.is_below.ensures.0 c.if-not-is_below.false))
