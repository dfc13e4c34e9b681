-- Maps in the order of their keys' bytes.
use Rattle.std.proofs.Common.{ℕ, List, [], ◌∷◌, Ordering, sym, ◌∙◌, map}
use Rattle.std.specs.List.Sorted.{IsStrictlySortedBy}
use Rattle.std.proofs.lemmas.Map.Keys.{sorted_head, sorted_tail}
use Rattle.zerotrie_core.specs.Maps.{Ascends}
use Rattle.zerotrie_core.specs.Items.{keyed}
use Rattle.zerotrie_any.specs.Order.{IsByBytes}

-- keys that are in order ascend by their bytes, if the order is that of the bytes
pub keyed_ascends : {K : Type 0} (cmp : K → K → Ordering) (key : K → List ℕ) → IsByBytes cmp key → (entries : List (K × ℕ))
    → IsStrictlySortedBy cmp (map (λ e. e.0) entries) → Ascends (keyed key entries)
keyed_ascends cmp key by [] s = tt
keyed_ascends cmp key by (e ∷ []) s = (tt, tt)
keyed_ascends {K = K} cmp key by (e ∷ f ∷ entries) s =
    let keys : List K = map (λ d. d.0) entries in (
      sym (by e.0 f.0) ∙ (sorted_head cmp e.0 (f.0 ∷ keys) s).0,
      keyed_ascends cmp key by (f ∷ entries) (sorted_tail cmp e.0 (f.0 ∷ keys) s),
    )
