use Rattle.std.proofs.Common.{◌∙◌, ap}
use Rattle.zerotrie.specs.dense.Windows.{fullest}
use Rattle.zerotrie.proofs.FullestLemmas.{permuted_fullest}
use Rattle.zerotrie.proofs.dense.rows.offset_of.Goals as goal

pub returns-clause-offset : goal.returns-clause-offset
returns-clause-offset c = c.fullest_in.ensures ∙ ap fullest c.as_slice.ensures.value
    ∙ permuted_fullest c.in_ok-values.values.items c.sort_unstable.new.self.items c.sort_unstable.ensures.permutation ∙ ap fullest c.in_ok-values.ensures.values
