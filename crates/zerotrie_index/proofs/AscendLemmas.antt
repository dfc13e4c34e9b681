-- Keys that ascend.
use Rattle.std.specs.Prelude.{◌≡◌, ℕ, ◌↔◌, List, [], ◌∷◌, Some, slice_get, Bool, IsTrue}
use Rattle.std.specs.Cmp.Lexicographic.{slice_cmp}
use Rattle.std.specs.Ordering.{nat_cmp}
use Rattle.std.specs.declared.cmp.Ordering.TheVariants.{Less}
use Rattle.std.proofs.Common.{sym, subst}
use Rattle.zerotrie_base.specs.Items.{keyed}
use Rattle.zerotrie_base.specs.Maps.{FirstAbove}

-- a key is below others that ascend if it is below the first
pub above_first : {K : Type 0} (key : K → List ℕ) (own : List ℕ) (others : List (K × ℕ)) (next : K × ℕ) → slice_get others 0 ≡ Some next → (r : Bool)
    → (IsTrue r → slice_cmp nat_cmp own (key next.0) ≡ Less) × (slice_cmp nat_cmp own (key next.0) ≡ Less → IsTrue r) → IsTrue r ↔ FirstAbove own (keyed key others)
above_first key own [] next is r h = absurd (cc)
above_first key own (e ∷ others) next is r h =
    let same : e ≡ next = cc in
    subst (λ x. (IsTrue r → slice_cmp nat_cmp own (key x.0) ≡ Less) × (slice_cmp nat_cmp own (key x.0) ≡ Less → IsTrue r)) (sym same) h
