-- The values of pairs that are put together.
use Rattle.std.proofs.Common.{◌≡◌, ℕ, List, [], ◌∷◌, ◌++◌, refl, ◌∙◌, Option, Some, None, cond, Bool, true, false}
use Rattle.zerotrie_base.specs.Kind.{Kind, same_byte}
use Rattle.zerotrie_base.specs.Maps.{Pairs, value_at, same_key, with_front}
use Rattle.zerotrie_base.specs.Texts.{ListEach}
use Rattle.zerotrie_base.specs.Texts.ListEach.{no_edge, edge}

-- a byte in front, and the same byte asked for
pub value_at-front : (kind : Kind) (b c : ℕ) (key : List ℕ) (pairs : Pairs) → same_byte kind b c ≡ true → value_at kind (with_front b pairs) (c ∷ key) ≡ value_at kind pairs key
value_at-front kind b c key [] h = refl
value_at-front kind b c key (e ∷ pairs) h = rw (h, value_at-front kind b c key pairs h) refl

pub value_at-other : (kind : Kind) (b c : ℕ) (key : List ℕ) (pairs : Pairs) → same_byte kind b c ≡ false → value_at kind (with_front b pairs) (c ∷ key) ≡ None
value_at-other kind b c key [] h = refl
value_at-other kind b c key (e ∷ pairs) h = rw (h, value_at-other kind b c key pairs h) refl

pub value_at-no_key : (kind : Kind) (b : ℕ) (pairs : Pairs) → value_at kind (with_front b pairs) [] ≡ None
value_at-no_key kind b [] = refl
value_at-no_key kind b (e ∷ pairs) = value_at-no_key kind b pairs

pub chosen_none : (b : Bool) (v : ℕ) (x : Option ℕ) → cond b (Some v) x ≡ None → (b ≡ false) × (x ≡ None)
chosen_none true v x e = absurd (cc)
chosen_none false v x e = (refl, e)

pub value_at-append : (kind : Kind) (key : List ℕ) (xs ys : Pairs) → value_at kind xs key ≡ None → value_at kind (xs ++ ys) key ≡ value_at kind ys key
value_at-append kind key [] ys h = refl
value_at-append kind key (e ∷ xs) ys h =
    let parts = chosen_none (same_key kind e.0 key) e.1 (value_at kind xs key) h in
    rw parts.0 (value_at-append kind key xs ys parts.1)

pub value_at-some : (kind : Kind) (key : List ℕ) (xs ys : Pairs) → value_at kind ys key ≡ None → value_at kind (xs ++ ys) key ≡ value_at kind xs key
value_at-some kind key [] ys h = h
value_at-some kind key (e ∷ xs) ys h = rw (value_at-some kind key xs ys h) refl

-- no key after an edge is empty
pub behind_none : {kind : Kind} {edges : List ℕ} {targets : List (List ℕ)} {pairs : Pairs} (each : ListEach kind edges targets pairs) → value_at kind pairs [] ≡ None
behind_none no_edge = refl
behind_none {kind = kind} (edge {e = e} {pairs = pairs} {more = more} n text each) = value_at-append kind [] (with_front e pairs) more (value_at-no_key kind e pairs) ∙ behind_none each
