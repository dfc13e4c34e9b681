-- Constant tables in the order of a kind.
use Rattle.std.proofs.Common.{◌≡◌, ℕ, zero, suc, ◌+◌, ◌^◌, ◌<◌, List, [], ◌∷◌, arith, inl, inr, All, true, ltb, eqb}
use Rattle.std.specs.Prelude.{◌&&◌}
use Rattle.std.specs.List.{list_all}
use Rattle.std.proofs.lemmas.Bool.{ltb-true, eqb-true, and_parts, or_cases}
use Rattle.zerotrie_base.specs.Kind.{Kind, fold_byte, edge_limit, greatest_width}
use Rattle.zerotrie_base.specs.Maps.{Pairs}
use Rattle.zerotrie_base.specs.Bounds.{build_bound}
use Rattle.zerotrie_base.proofs.CallerLemmas.{SuitsArray}
use Rattle.zerotrie_build.specs.Order.{Before, Ordered, AreKeys}
use Rattle.zerotrie_build.specs.Clean.{comes_before, are_in_order, is_clean_in_order}
use Rattle.zerotrie_build.proofs.OrderLemmas.Agreeing.{ordered_consistent}
use Rattle.zerotrie_build.proofs.ArrayLemmas.Ordering.{ordered_ascends_in}

before_told : (kind : Kind) (key next : List ℕ) → comes_before kind key next ≡ true → Before kind key next
before_told kind [] [] h = absurd (cc)
before_told kind (a ∷ key) [] h = absurd (cc)
before_told kind [] (b ∷ next) h = tt
before_told kind (a ∷ key) (b ∷ next) h = elim (or_cases (ltb (fold_byte kind a) (fold_byte kind b)) (eqb a b && comes_before kind key next) h) [
  | inl less ↦ inl (ltb-true (fold_byte kind a) (fold_byte kind b) less)
  | inr same ↦ let r = and_parts (eqb a b) (comes_before kind key next) same in inr (eqb-true a b r.0, before_told kind key next r.1)
]

order_told : (kind : Kind) (pairs : Pairs) → are_in_order kind pairs ≡ true → Ordered kind pairs
order_told kind [] h = tt
order_told kind (e ∷ []) h = (tt, tt)
order_told kind (e ∷ f ∷ pairs) h =
    let r = and_parts (comes_before kind e.0 f.0) (are_in_order kind (f ∷ pairs)) h in
    (before_told kind e.0 f.0 r.0, order_told kind (f ∷ pairs) r.1)

key_told : (kind : Kind) (key : List ℕ) → list_all (λ b. ltb b (edge_limit kind)) key ≡ true → All (λ b. b < edge_limit kind) key
key_told kind [] h i d l = absurd (omega arith)
key_told kind (b ∷ key) h zero d l = ltb-true b (edge_limit kind) (and_parts (ltb b (edge_limit kind)) (list_all (λ b. ltb b (edge_limit kind)) key) h).0
key_told kind (b ∷ key) h (suc i) d l = key_told kind key (and_parts (ltb b (edge_limit kind)) (list_all (λ b. ltb b (edge_limit kind)) key) h).1 i d (omega arith)

keys_told : (kind : Kind) (pairs : Pairs) → list_all (λ e. list_all (λ b. ltb b (edge_limit kind)) e.0) pairs ≡ true → AreKeys kind pairs
keys_told kind [] h i d l = absurd (omega arith)
keys_told kind (e ∷ pairs) h zero d l = key_told kind e.0 (and_parts (list_all (λ b. ltb b (edge_limit kind)) e.0) (list_all (λ e. list_all (λ b. ltb b (edge_limit kind)) e.0) pairs) h).0
keys_told kind (e ∷ pairs) h (suc i) d l = keys_told kind pairs (and_parts (list_all (λ b. ltb b (edge_limit kind)) e.0) (list_all (λ e. list_all (λ b. ltb b (edge_limit kind)) e.0) pairs) h).1 i d (omega arith)

-- No build into an array refuses a table that is clean in the order of its kind.
pub clean_in_order_suits : (kind : Kind) (pairs : Pairs) → is_clean_in_order kind pairs ≡ true → SuitsArray kind pairs
unfolding is_clean_in_order
clean_in_order_suits kind pairs h =
    let keys = list_all (λ e. list_all (λ b. ltb b (edge_limit kind)) e.0) pairs in
    let small = ltb (build_bound pairs) (256 ^ (greatest_width kind + 1)) in
    let r = and_parts (are_in_order kind pairs && keys) small h in
    let s = and_parts (are_in_order kind pairs) keys r.0 in
    let ordered = order_told kind pairs s.0 in
    record {
      ascends = ordered_ascends_in kind pairs ordered;
      key_bytes = keys_told kind pairs s.1;
      case = ordered_consistent kind pairs ordered;
      small = ltb-true (build_bound pairs) (256 ^ (greatest_width kind + 1)) r.1;
    }
