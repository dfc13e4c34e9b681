-- The pairs of a slice from some place on.
use Rattle.std.proofs.Common.{◌≡◌, ℕ, ◌+◌, ◌<◌, [], ◌∷◌, length, drop, refl, arith}
use Rattle.std.proofs.Common.{zero, suc}
use Rattle.zerotrie_core.specs.Items.{Items, pairs_of}
use Rattle.zerotrie_sets.specs.Streams.{pair_at}

pub pairs_from : (items : Items) (i : ℕ) → i < length items → pairs_of (drop i items) ≡ pair_at items i ∷ pairs_of (drop (i + 1) items)
pairs_from [] i h = absurd (omega arith)
pairs_from (e ∷ items) zero h = refl
pairs_from (e ∷ items) (suc i) h = let n : suc i + 1 ≡ suc (i + 1) = omega arith in rw n (pairs_from items i (omega arith))
