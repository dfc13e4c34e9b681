-- Keys in the order of a kind agree in case.
use Rattle.std.proofs.Common.{◌≡◌, ℕ, zero, suc, ◌+◌, ◌<◌, List, [], ◌∷◌, length, refl, sym, ap, arith, get_or, inl, inr}
use Rattle.std.specs.Prelude.{◌==◌}
use Rattle.std.proofs.lemmas.Bool.{eq-eqb, ne_eqb}
use Rattle.zerotrie_base.specs.Kind.{Kind, fold_byte, same_byte}
use Rattle.zerotrie_base.specs.Maps.{Pairs, common_front, IsCaseConsistent}
use Rattle.zerotrie_build.specs.Order.{Before, BeforeFirst, Ordered}
use Rattle.zerotrie_build.proofs.OrderLemmas.Sorting.{before_trans}

abbrev Agree : Kind → List ℕ → List ℕ → Type 0
Agree kind k l = common_front (same_byte kind) k l ≡ common_front (λ a b. a == b) k l

agree_itself : (kind : Kind) (k : List ℕ) → Agree kind k k
agree_itself kind [] = refl
agree_itself kind (b ∷ k) = rw (eq-eqb (fold_byte kind b) (fold_byte kind b) refl, eq-eqb b b refl) (ap (λ n. 1 + n) (agree_itself kind k))

agree_before : (kind : Kind) (k l : List ℕ) → Before kind k l → Agree kind k l
agree_before kind [] l h = refl
agree_before kind (a ∷ k) [] h = refl
agree_before kind (a ∷ k) (b ∷ l) h =
    elim h [
      | inl less ↦ rw (ne_eqb (fold_byte kind a) (fold_byte kind b) (λ e. omega arith), ne_eqb a b (λ e. let f = ap (fold_byte kind) e in omega arith)) refl
      | inr same ↦ let f = ap (fold_byte kind) same.0 in rw (eq-eqb (fold_byte kind a) (fold_byte kind b) f, eq-eqb a b same.0) (ap (λ n. 1 + n) (agree_before kind k l same.1))
    ]

agree_after : (kind : Kind) (k l : List ℕ) → Before kind l k → Agree kind k l
agree_after kind [] l h = refl
agree_after kind (a ∷ k) [] h = refl
agree_after kind (a ∷ k) (b ∷ l) h =
    elim h [
      | inl less ↦ rw (ne_eqb (fold_byte kind a) (fold_byte kind b) (λ e. omega arith), ne_eqb a b (λ e. let f = ap (fold_byte kind) e in omega arith)) refl
      | inr same ↦ let e = sym same.0 in let f = ap (fold_byte kind) e in rw (eq-eqb (fold_byte kind a) (fold_byte kind b) f, eq-eqb a b e) (ap (λ n. 1 + n) (agree_after kind k l same.1))
    ]

-- a key that comes before the first of ordered pairs comes before each
before_each : (kind : Kind) (key : List ℕ) (pairs : Pairs) → BeforeFirst kind key pairs → Ordered kind pairs → (i : ℕ) (d : List ℕ × ℕ) → i < length pairs → Before kind key (get_or pairs i d).0
before_each kind key [] h up i d below = absurd (let g : i < 0 = below in omega arith)
before_each kind key (e ∷ pairs) h up zero d below = h
before_each kind key (e ∷ pairs) h up (suc i) d below = before_each kind key pairs (next pairs up.0) up.1 i d (let g : suc i < suc (length pairs) = below in omega arith)
  where
    next : (more : Pairs) → BeforeFirst kind e.0 more → BeforeFirst kind key more
    next [] g = tt
    next (f ∷ more) g = before_trans kind key e.0 f.0 h g

pub ordered_consistent : (kind : Kind) (pairs : Pairs) → Ordered kind pairs → IsCaseConsistent kind pairs
ordered_consistent kind [] up i d below j c h = absurd (let g : i < 0 = below in omega arith)
ordered_consistent kind (e ∷ pairs) up zero d below zero c h = agree_itself kind e.0
ordered_consistent kind (e ∷ pairs) up zero d below (suc j) c h = agree_before kind e.0 (get_or pairs j c).0 (before_each kind e.0 pairs up.0 up.1 j c (let g : suc j < suc (length pairs) = h in omega arith))
ordered_consistent kind (e ∷ pairs) up (suc i) d below zero c h = agree_after kind (get_or pairs i d).0 e.0 (before_each kind e.0 pairs up.0 up.1 i d (let g : suc i < suc (length pairs) = below in omega arith))
ordered_consistent kind (e ∷ pairs) up (suc i) d below (suc j) c h =
    ordered_consistent kind pairs up.1 i d (let g : suc i < suc (length pairs) = below in omega arith) j c (let g : suc j < suc (length pairs) = h in omega arith)
