-- Bytes that are high, or that lack one.
use Rattle.std.proofs.Common.{get_or, ◌≡◌, ℕ, ◌+◌, ◌<◌, ◌≤◌, inl, inr, List, [], ◌∷◌, ◌++◌, length, drop, refl, ◌∙◌, ap, arith, false, suc}
use Rattle.std.specs.Prelude.{◌≢◌, ◌==◌}
use Rattle.std.specs.List.{position_or_len}
use Rattle.std.proofs.lemmas.Bool.Decides.{eqb_tells}
use Rattle.zerotrie_lines.specs.Numbers.{AreDigits}

-- bytes from 32 on, which are no line feeds and no tabs
unfoldable pub High : List ℕ → Type 0
High [] = Unit {0}
High (b ∷ bytes) = (32 ≤ b) × High bytes

pub high_append : (front bytes : List ℕ) → High front → High bytes → High (front ++ bytes)
unfolding High
high_append [] bytes h k = k
high_append (b ∷ front) bytes h k = (h.0, high_append front bytes h.1 k)

pub digits_high : (digits : List ℕ) → AreDigits digits → High digits
unfolding High
digits_high [] h = tt
digits_high (d ∷ digits) h = (omega (arith, h.0), digits_high digits h.2)

-- bytes none of which is a
unfoldable pub Lacks : ℕ → List ℕ → Type 0
Lacks a [] = Unit {0}
Lacks a (b ∷ bytes) = ((b == a) ≡ false) × Lacks a bytes

pub lacks_low : (a : ℕ) (bytes : List ℕ) → a < 32 → High bytes → Lacks a bytes
unfolding High Lacks
lacks_low a [] low h = tt
lacks_low a (b ∷ bytes) low h = (elim (eqb_tells b a) [ inl t ↦ absurd (omega (arith, t.1, h.0)) | inr f ↦ f.0 ], lacks_low a bytes low h.1)

pub lacks_append : (a : ℕ) (front bytes : List ℕ) → Lacks a front → Lacks a bytes → Lacks a (front ++ bytes)
unfolding Lacks
lacks_append a [] bytes h k = k
lacks_append a (b ∷ front) bytes h k = (h.0, lacks_append a front bytes h.1 k)

add_one : (n : ℕ) → 1 + n ≡ suc n
add_one n = omega arith

-- bytes that are not a
pub lacks_by : (a : ℕ) (xs : List ℕ) → ((k : ℕ) → k < length xs → get_or xs k 0 ≢ a) → Lacks a xs
unfolding Lacks
lacks_by a [] none = tt
lacks_by a (x ∷ xs) none = (elim (eqb_tells x a) [ inl t ↦ absurd (none 0 (omega arith) t.1) | inr f ↦ f.0 ], lacks_by a xs (λ k l. none (suc k) (omega arith)))

-- which has no place among them
pub no_place_of : (a : ℕ) (xs : List ℕ) → Lacks a xs → position_or_len (λ b. b == a) xs ≡ length xs
unfolding Lacks
no_place_of a [] lacks = refl
no_place_of a (x ∷ xs) lacks = rw lacks.0 (ap (λ n. 1 + n) (no_place_of a xs lacks.1) ∙ add_one (length xs))

pub lacks_next : (a b : ℕ) (bytes : List ℕ) → (b == a) ≡ false → Lacks a bytes → Lacks a (b ∷ bytes)
unfolding Lacks
lacks_next a b bytes other h = (other, h)

-- the first place of a byte
pub place_behind : (a : ℕ) (front rest : List ℕ) → Lacks a front → position_or_len (λ b. b == a) (front ++ a ∷ rest) ≡ length front
unfolding Lacks
place_behind a [] rest lacks = elim (eqb_tells a a) [ inl t ↦ rw t.0 refl | inr f ↦ absurd (f.1 refl) ]
place_behind a (b ∷ front) rest lacks = rw lacks.0 (ap (λ n. 1 + n) (place_behind a front rest lacks.1) ∙ add_one (length front))

-- and the first place behind bytes that are not it
pub place_on : (a : ℕ) (front rest : List ℕ) → Lacks a front → position_or_len (λ b. b == a) (front ++ rest) ≡ length front + position_or_len (λ b. b == a) rest
unfolding Lacks
place_on a [] rest lacks = omega arith
place_on a (b ∷ front) rest lacks =
    let more : 1 + (length front + position_or_len (λ b. b == a) rest) ≡ suc (length front) + position_or_len (λ b. b == a) rest = omega arith in
    rw lacks.0 (ap (λ n. 1 + n) (place_on a front rest lacks.1) ∙ more)

pub drop_behind : (a : ℕ) (front rest : List ℕ) → drop (length front + 1) (front ++ a ∷ rest) ≡ rest
drop_behind a [] rest = refl
drop_behind a (b ∷ front) rest = let e : suc (length front) + 1 ≡ suc (length front + 1) = omega arith in rw e (drop_behind a front rest)
