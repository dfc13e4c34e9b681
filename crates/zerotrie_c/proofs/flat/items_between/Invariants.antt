use Rattle.std.proofs.Common.{◌≡◌, ◌++◌}
use Rattle.zerotrie_core.specs.Items.{pairs_of}
use Rattle.zerotrie_c.specs.Builds.{given_flat}
use Rattle.zerotrie_c.proofs.FlatLemmas.{pairs_from}
use Rattle.zerotrie_c.proofs.flat.items_between.Given as goal

abbrev pub invariant-loop-number : goal.invariant-loop-number
invariant-loop-number l = pairs_of l.items.items ++ pairs_from l.number l.from l.keys l.ends l.values ≡ given_flat l.keys l.ends l.values
