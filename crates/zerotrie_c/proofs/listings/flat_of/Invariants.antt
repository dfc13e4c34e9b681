use Rattle.std.proofs.Common.{◌≡◌, ◌++◌, length}
use Rattle.zerotrie_core.specs.Listings.{turns_left}
use Rattle.zerotrie_c.specs.Listed.{joined, ends_from, values_of}
use Rattle.zerotrie_c.proofs.listings.flat_of.Given as goal

abbrev pub invariant-loop-listed : goal.invariant-loop-listed
invariant-loop-listed l =
    (l.listed.keys.items ++ joined l.pairs.left.pairs ≡ joined l.fn.pairs.left.pairs)
    × (l.listed.ends.items ++ ends_from (length l.listed.keys.items) l.pairs.left.pairs ≡ ends_from 0 l.fn.pairs.left.pairs)
    × (l.listed.values.items ++ values_of l.pairs.left.pairs ≡ values_of l.fn.pairs.left.pairs)

abbrev pub decreases-loop-listed : goal.decreases-loop-listed
decreases-loop-listed l = turns_left l.pairs.left
