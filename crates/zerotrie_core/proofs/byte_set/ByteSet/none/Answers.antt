use Rattle.std.proofs.Common.{refl, suc, zero, ◌≡◌, ◌∷◌, [], ℕ}
use Rattle.std.specs.Prelude.{slice_index}
use Rattle.zerotrie_core.specs.ByteSets.{is_in}
use Rattle.zerotrie_core.proofs.ByteSetLemmas.{none_set}
use Rattle.zerotrie_core.proofs.byte_set.ByteSet.none.Goals as goal

zeros : (i : ℕ) → slice_index (0 ∷ 0 ∷ 0 ∷ 0 ∷ []) i ≡ 0
zeros zero = refl
zeros (suc zero) = refl
zeros (suc (suc zero)) = refl
zeros (suc (suc (suc zero))) = refl
zeros (suc (suc (suc (suc i)))) = refl

pub returns : goal.returns
unfolding is_in
returns c byte = none_set (0 ∷ 0 ∷ 0 ∷ 0 ∷ []) byte zeros
