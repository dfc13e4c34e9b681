use Rattle.std.proofs.Common.{◌≡◌, ◌+◌, ◌++◌, ◌≤◌, length}
use Rattle.zerotrie_core.specs.Listings.{turns_left}
use Rattle.zerotrie_core.specs.Maps.{Pairs}
use Rattle.zerotrie_core.specs.Texts.{Lists}
use Rattle.zerotrie_reverse.specs.Tables.{pairs_at}
use Rattle.zerotrie_reverse.proofs.places.places_of.Given as goal

abbrev pub invariant-loop-pairs : goal.invariant-loop-pairs
invariant-loop-pairs g l =
    ((pairs : Pairs) → Lists g.K.ZeroTrieWithOptions.kind l.bytes pairs → pairs_at g.K.ZeroTrieWithOptions.kind l.bytes l.places.items ++ l.pairs.left.pairs ≡ pairs)
    × (length l.places.items + length l.pairs.left.pairs ≤ length l.bytes)

abbrev pub decreases-loop-pairs : goal.decreases-loop-pairs
decreases-loop-pairs g l = turns_left l.pairs.left
