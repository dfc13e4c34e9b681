use Rattle.std.proofs.Common.{refl, suc, zero, ◌≡◌, ◌<◌, ◌-◌, ◌^◌, ◌∷◌, [], ℕ, List, arith}
use Rattle.std.specs.Prelude.{slice_index}
use Rattle.zerotrie_core.specs.ByteSets.{is_in}
use Rattle.zerotrie_core.proofs.ByteSetLemmas.{all_set}
use Rattle.zerotrie_core.proofs.byte_set.ByteSet.all.Goals as goal

abbrev ones : List ℕ
ones = (2 ^ 64 - 1) ∷ (2 ^ 64 - 1) ∷ (2 ^ 64 - 1) ∷ (2 ^ 64 - 1) ∷ []

one : (i : ℕ) → i < 4 → slice_index ones i ≡ 2 ^ 64 - 1
one zero h = refl
one (suc zero) h = refl
one (suc (suc zero)) h = refl
one (suc (suc (suc zero))) h = refl
one (suc (suc (suc (suc i)))) h = absurd (omega (arith, h))

pub returns : goal.returns
unfolding is_in
returns c byte h = all_set ones byte (one _ (omega (arith, h)))
