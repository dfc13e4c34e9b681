-- The line and the column after one byte more.
use Rattle.std.proofs.Common.{◌≡◌, ◌∙◌, ◌+◌, ◌<◌, ◌≤◌, ℕ, suc, true, false, cond, List, [], ◌∷◌, ◌++◌, length, take, drop, get_or, reverse, arith, refl, sym, ap, subst, take-append-drop, ◌==◌, not}
use Rattle.std.specs.Prelude.{count_by, IsUtf8}
use Rattle.csv.specs.Reading.{strip_bom}
use Rattle.std.specs.List.{take_while, prefix_len}
use Rattle.std.proofs.Math.Seq.{take-suc}
use Rattle.std.proofs.lemmas.List.{reverse-append, length-reverse, length-take, length-take-le, take_all}
use Rattle.std.proofs.lemmas.List.Sums.{sum_by-append, count_by-le-length}
use Rattle.zerotrie_making.specs.Sources.{NoJson}
use Rattle.zerotrie_making.specs.declared.error.MakeError.{MakeError}
use Rattle.zerotrie_making.specs.declared.error.MakeError.TheVariants.{NotJson}
use Rattle.zerotrie_making.specs.Places.{IsPlaceIn, begins_character, line_after, column_after}

-- the characters back to the last line feed
abbrev chars : List ℕ → ℕ
chars back = count_by begins_character (take_while (λ b. not (b == 10)) back)

more : (front : List ℕ) (i : ℕ) → i < length front → take (i + 1) front ≡ take i front ++ get_or front i 0 ∷ []
more front i l = let next : i + 1 ≡ suc i = omega arith in rw next (take-suc front i 0 l)

back_of : (front : List ℕ) (i : ℕ) → i < length front → reverse (take (i + 1) front) ≡ get_or front i 0 ∷ reverse (take i front)
back_of front i l = ap reverse (more front i l) ∙ reverse-append (take i front) (get_or front i 0 ∷ [])

line_more : (front : List ℕ) (i : ℕ) → i < length front → line_after (take (i + 1) front) ≡ line_after (take i front) + cond (get_or front i 0 == 10) 1 0
line_more front i l = ap line_after (more front i l) ∙ omega (arith, sum_by-append (λ x. cond (x == 10) 1 0) (take i front) (get_or front i 0 ∷ []))

-- a line feed is one line more, and any other byte is none
pub line_feed : (front : List ℕ) (i : ℕ) → i < length front → (get_or front i 0 == 10) ≡ true → line_after (take (i + 1) front) ≡ line_after (take i front) + 1
line_feed front i l feed = rw feed at (line_more front i l)

pub line_on : (front : List ℕ) (i : ℕ) → i < length front → (get_or front i 0 == 10) ≡ false → line_after (take (i + 1) front) ≡ line_after (take i front) + 0
line_on front i l feed = rw feed at (line_more front i l)

chars_feed : (b : ℕ) (back : List ℕ) → (b == 10) ≡ true → chars (b ∷ back) ≡ 0
chars_feed b back feed = rw feed refl

chars_on : (b : ℕ) (back : List ℕ) → (b == 10) ≡ false → chars (b ∷ back) ≡ cond (begins_character b) 1 0 + chars back
chars_on b back feed =
    let n = prefix_len (λ b. not (b == 10)) back in
    let next : 1 + n ≡ suc n = omega arith in rw (feed, next) (omega (arith, sum_by-append (λ x. cond (begins_character x) 1 0) (b ∷ []) (take n back)))

-- a line feed begins a line
pub column_feed : (front : List ℕ) (i : ℕ) → i < length front → (get_or front i 0 == 10) ≡ true → column_after (take (i + 1) front) ≡ 1
column_feed front i l feed = ap (λ back. chars back + 1) (back_of front i l) ∙ ap (λ n. n + 1) (chars_feed (get_or front i 0) (reverse (take i front)) feed)

column_on : (front : List ℕ) (i : ℕ) → i < length front → (get_or front i 0 == 10) ≡ false
    → column_after (take (i + 1) front) ≡ cond (begins_character (get_or front i 0)) 1 0 + column_after (take i front)
column_on front i l feed = ap (λ back. chars back + 1) (back_of front i l) ∙ omega (arith, chars_on (get_or front i 0) (reverse (take i front)) feed)

-- and a character goes on with one
pub column_more : (front : List ℕ) (i : ℕ) → i < length front → (get_or front i 0 == 10) ≡ false → begins_character (get_or front i 0) ≡ true
    → column_after (take (i + 1) front) ≡ 1 + column_after (take i front)
column_more front i l feed begins = rw begins at (column_on front i l feed)

pub column_same : (front : List ℕ) (i : ℕ) → i < length front → (get_or front i 0 == 10) ≡ false → begins_character (get_or front i 0) ≡ false
    → column_after (take (i + 1) front) ≡ 0 + column_after (take i front)
column_same front i l feed begins = rw begins at (column_on front i l feed)

pub line_low : (front : List ℕ) (i : ℕ) → i < length front → line_after (take i front) ≤ i + 1
line_low front i l = omega (arith, count_by-le-length (λ b. b == 10) (take i front), length-take-le i front (omega arith))

pub column_low : (front : List ℕ) (i : ℕ) → i < length front → column_after (take i front) ≤ i + 1
column_low front i l =
    let back = reverse (take i front) in
    let n = prefix_len (λ b. not (b == 10)) back in
    omega (arith, count_by-le-length begins_character (take n back), length-take n back, length-reverse (take i front), length-take-le i front (omega arith))

pub all_of : (place : ℕ) (text : List ℕ) → length text ≤ place → text ≡ take place text
all_of place text l = sym (take_all place text l)

-- the place after a front
pub place_at : (text : List ℕ) (n : ℕ) → IsPlaceIn text (line_after (take n text)) (column_after (take n text))
place_at text n = (take n text, drop n text, sym (take-append-drop n text), refl, refl)

-- bytes that are no text are no JSON value
pub no_utf8 : (input bytes : List ℕ) (n : ℕ) (e : MakeError) → bytes ≡ strip_bom input → (IsUtf8 bytes → ⊥) → e ≡ NotJson (line_after (take n bytes)) (column_after (take n bytes)) → NoJson input e
no_utf8 input bytes n e same none is = subst (NoJson input) (sym is) (
  λ text. absurd (none (subst IsUtf8 (sym same) text)),
  subst (λ t. IsPlaceIn t (line_after (take n bytes)) (column_after (take n bytes))) same (place_at bytes n),
)
