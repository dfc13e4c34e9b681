-- The first pairs, one after another.
use Rattle.std.proofs.Common.{◌≡◌, ℕ, zero, suc, ◌-◌, [], ◌∷◌, List, take, Option, Some, None, Bool, true, false, Result, Ok, Err, IfOk, length, not, ◌∙◌, ap, refl, sym, subst, arith}
use Rattle.std.specs.Prelude.{◌==◌}
use Rattle.std.proofs.lemmas.Bool.{eqb-true, ne_eqb}
use Rattle.std.specs.declared.alloc.AllocError.{AllocError}
use Rattle.zerotrie_core.specs.Listings.{Left, ListsOne, MemoryOnly, item_of, over, to_come}
use Rattle.zerotrie_core.specs.Maps.{Pairs}
use Rattle.zerotrie_queries.specs.Listed.{first_left, limited, is_spent, one_less}

-- a pair comes first if one may come
pub limited_next : (limit : Option ℕ) (before rest : Pairs) (e : List ℕ × ℕ) → is_spent limit ≡ false → before ≡ e ∷ rest → limited limit before ≡ e ∷ limited (one_less limit) rest
limited_next None before rest e may is = is
limited_next (Some zero) before rest e may is = absurd (cc)
limited_next (Some (suc n)) before rest e may is = ap (take (suc n)) is ∙ let same : n ≡ suc n - 1 = omega arith in ap (λ k. e ∷ take k rest) same

-- and none of none
limited_none : (limit : Option ℕ) → limited limit [] ≡ []
limited_none None = refl
limited_none (Some zero) = refl
limited_none (Some (suc n)) = refl

-- so one call of a listing is one of its first pairs
pub first_ok : (limit : Option ℕ) (more : Bool) (before after : Left) (now : List ℕ × ℕ) → is_spent limit ≡ false → ListsOne (λ key. key) MemoryOnly before (item_of (Ok more) now) after
    → ListsOne (λ key. key) MemoryOnly (first_left false limit before) (item_of (Ok more) now) (first_left false (one_less limit) after)
first_ok limit true before after now may is = (
  subst (λ b. first_left false limit b ≡ to_come (now ∷ limited (one_less limit) after.pairs)) (sym is.0) (ap to_come (limited_next limit (now ∷ after.pairs) after.pairs now may refl)),
  subst (λ a. first_left false (one_less limit) a ≡ to_come (limited (one_less limit) a.pairs)) (sym is.1) refl,
)
first_ok limit false before after now may is = (
  ap (limited limit) is.0 ∙ limited_none limit,
  subst (λ a. first_left false (one_less limit) a ≡ over) (sym is.1) (ap (λ l. record { pairs = l; ended = true }) (limited_none (one_less limit))),
)

pub first_err : (limit : Option ℕ) (e : AllocError) (before after : Left) (now : List ℕ × ℕ) → ListsOne (λ key. key) MemoryOnly before (item_of (Err e) now) after
    → ListsOne (λ key. key) MemoryOnly (first_left false limit before) (item_of (Err e) now) (first_left false limit after)
first_err limit e before after now is = (
  is.0,
  is.1,
  subst (λ a. first_left false limit a ≡ over) (sym is.2) (ap (λ l. record { pairs = l; ended = true }) (limited_none limit)),
)

-- none comes where none may
pub first_spent : (limit : Option ℕ) (left : Left) → is_spent limit ≡ true → (first_left false limit left).pairs ≡ []
first_spent None left spent = absurd (cc)
first_spent (Some zero) left spent = refl
first_spent (Some (suc n)) left spent = absurd (let is : suc n ≡ 0 = eqb-true (suc n) 0 spent in omega (arith, is))

-- the next pair is the first of those that were to come
pub next_pair : (before after : Left) (now : List ℕ × ℕ) (more : Bool) → more ≡ true → ListsOne (λ key. key) MemoryOnly before (item_of (Ok more) now) after → before.pairs ≡ now ∷ after.pairs
next_pair before after now true e is = ap (λ l. l.pairs) is.0
next_pair before after now false e is = absurd (cc)

-- and there is one if any were
pub any_left : (V : Type 0) (r : Result Bool AllocError) (before after : Left) (now : List ℕ × ℕ) → (V → ListsOne (λ key. key) MemoryOnly before (item_of r now) after) → IfOk r (λ more. V → (length before.pairs == 0) ≡ not more)
any_left V (Ok true) before after now law = λ valid. ap (λ l. length l.pairs == 0) (law valid).0 ∙ ne_eqb (suc (length after.pairs)) 0 (λ e. omega (arith, e))
any_left V (Ok false) before after now law = λ valid. ap (λ l. length l == 0) (law valid).0
any_left V (Err e) before after now law = tt
