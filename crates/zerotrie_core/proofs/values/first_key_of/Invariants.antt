use Rattle.std.proofs.Common.{◌≡◌}
use Rattle.zerotrie_core.specs.Listings.{turns_left}
use Rattle.zerotrie_base.specs.Maps.{Pairs}
use Rattle.zerotrie_base.specs.Texts.{Lists}
use Rattle.zerotrie_core.specs.Values.{first_key_of}
use Rattle.zerotrie_core.proofs.values.first_key_of.Given as goal

abbrev pub invariant-loop-pairs : goal.invariant-loop-pairs
invariant-loop-pairs g l = (pairs : Pairs) → Lists g.K.ZeroTrieWithOptions.kind l.bytes pairs → first_key_of l.value l.pairs.left.pairs ≡ first_key_of l.value pairs

abbrev pub decreases-loop-pairs : goal.decreases-loop-pairs
decreases-loop-pairs g l = turns_left l.pairs.left
