-- Texts and their pairs: what no text begins with, a target more, and edges that rise.
use Rattle.std.proofs.Common.{◌≡◌, ℕ, zero, suc, ◌<◌, ◌≤◌, List, [], ◌∷◌, ◌++◌, length, refl, sym, ap, subst, arith, get_or, inl, inr, append_assoc}
use Rattle.std.proofs.lemmas.Bool.{ne_eqb}
use Rattle.zerotrie_base.specs.Kind.{Kind}
use Rattle.zerotrie_base.specs.Maps.{Pairs, with_front, edges, residual, behind_all, Ascends, FirstAbove}
use Rattle.zerotrie_base.specs.Texts.{Lists, ListEach, NoValueFirst}
use Rattle.zerotrie_base.specs.Texts.Lists.{nothing, value, literal, span, branch}
use Rattle.zerotrie_base.specs.Texts.ListEach.{no_edge, edge}
use Rattle.zerotrie_base.specs.Fits.{targets_size}
use Rattle.zerotrie_base.proofs.MapLemmas.Edges.{Rise}
use Rattle.zerotrie_base.proofs.CanonicalLemmas.Canonical.{nil_end}
use Rattle.zerotrie_base.proofs.NumberLemmas.Numbers.{extender_one}
use Rattle.zerotrie_base.proofs.CanonicalLemmas.Encoded.{compare_first, branch_no_value}

-- the value of the empty key is in no branch
pub targets_value : (kind : Kind) (v : ℕ) (pairs : Pairs) → targets_size kind (([], v) ∷ pairs) ≡ targets_size kind pairs
unfolding targets_size edges
targets_value kind v pairs = refl

pub behind_all-nil : (front : List ℕ) → behind_all front [] ≡ []
behind_all-nil [] = refl
behind_all-nil (b ∷ front) = behind_all-nil front

-- bytes that list pairs without the empty key do not begin with a value node
pub no_value_first : {kind : Kind} {bytes : List ℕ} {pairs : Pairs} → Lists kind bytes pairs → FirstAbove [] pairs → NoValueFirst bytes
no_value_first nothing h = tt
no_value_first (value s n text) h = absurd (cc)
no_value_first (literal low n text) h = λ four. omega arith
no_value_first (span {spelling = spelling} {rest = rest} run spans some high s n f text) h =
    subst NoValueFirst (ap (λ x. x ++ (run ++ rest)) (sym s.bytes_are)) (λ four. let digit = s.digit_below in let one = extender_one s.trail in omega arith)
no_value_first (branch b each) h = branch_no_value b

-- a target more
pub each_push : {kind : Kind} {es : List ℕ} {targets : List (List ℕ)} {pairs : Pairs} → ListEach kind es targets pairs → (e : ℕ) (target : List ℕ) (p : Pairs) → (target ≡ [] → ⊥) → Lists kind target p
    → ListEach kind (es ++ e ∷ []) (targets ++ target ∷ []) (pairs ++ with_front e p)
each_push {kind = kind} no_edge e target p n text = subst (ListEach kind (e ∷ []) (target ∷ [])) (nil_end (with_front e p)) (edge n text no_edge)
each_push {kind = kind} (edge {e = f} {edges = es} {target = t} {targets = ts} {pairs = q} {more = m} n' text' each) e target p n text =
    subst (ListEach kind (f ∷ (es ++ e ∷ [])) (t ∷ (ts ++ target ∷ []))) (sym (append_assoc (with_front f q) m (with_front e p))) (edge n' text' (each_push each e target p n text))

pub each_count : {kind : Kind} {es : List ℕ} {targets : List (List ℕ)} {pairs : Pairs} → ListEach kind es targets pairs → length targets ≡ length es
each_count no_edge = refl
each_count (edge n text each) = ap suc (each_count each)

pub Rise-push : (from low b : ℕ) (es : List ℕ) → Rise from low es → from ≤ low → low ≤ b → Rise from (suc b) (es ++ b ∷ [])
Rise-push from low b [] rise l h = (omega arith, omega arith, tt)
Rise-push from low b (e ∷ es) rise l h = (rise.0, omega (arith, rise.1), Rise-push (suc e) low b es rise.2 (omega (arith, rise.1)) h)

pub Rise-below : (from low : ℕ) (es : List ℕ) → Rise from low es → (i d : ℕ) → i < length es → get_or es i d < low
Rise-below from low [] rise i d h = absurd (omega arith)
Rise-below from low (e ∷ es) rise zero d h = rise.1
Rise-below from low (e ∷ es) rise (suc i) d h = Rise-below (suc e) low es rise.2 i d (omega arith)

pub Rise-higher : (from low high : ℕ) (es : List ℕ) → low ≤ high → Rise from low es → Rise from high es
Rise-higher from low high [] h rise = tt
Rise-higher from low high (e ∷ es) h rise = (rise.0, omega (arith, rise.1), Rise-higher (suc e) low high es h rise.2)

-- the first key, if there is one, begins with low or more
abbrev pub FirstFrom : ℕ → Pairs → Type 0
FirstFrom low [] = Unit {0}
FirstFrom low (([], v) ∷ pairs) = ⊥
FirstFrom low ((b ∷ k, v) ∷ pairs) = low ≤ b

pub first_from : (low c : ℕ) (k : List ℕ) (pairs : Pairs) → low ≤ c → FirstAbove (c ∷ k) pairs → FirstFrom low pairs
first_from low c k [] h above = tt
first_from low c k (([], v) ∷ pairs) h above = absurd (cc)
first_from low c k ((b ∷ l, v) ∷ pairs) h above = elim (compare_first c b k l above) [ inl less ↦ omega arith | inr same ↦ omega (arith, same.0) ]

pub residual_above : (b low : ℕ) (pairs : Pairs) → b < low → FirstFrom low pairs → Ascends pairs → residual b pairs ≡ []
residual_above b low [] h from up = refl
residual_above b low (([], v) ∷ pairs) h from up = absurd from
residual_above b low ((c ∷ k, v) ∷ pairs) h from up =
    rw (ne_eqb c b (λ s. omega arith)) (residual_above b low pairs h (first_from low c k pairs from up.0) up.1)
