-- How a key is written, character by character.
use Rattle.std.proofs.Common.{◌≡◌, ℕ, zero, suc, ◌+◌, ◌-◌, ◌<◌, ◌≤◌, ◌⊎◌, inl, inr, List, [], ◌∷◌, ◌++◌, length, take, drop, refl, sym, ◌∙◌, ap, arith, append_assoc, Bool, true, false}
use Rattle.std.specs.Prelude.{◌≢◌, ◌==◌, ◌&&◌, ◌||◌, not, nat_le, nat_lt, if◌then◌else◌}
use Rattle.std.specs.List.{list_all}
use Rattle.std.proofs.Math.Seq.{take-add, drop-drop}
use Rattle.std.proofs.lemmas.Bool.{ne_eqb}
use Rattle.std.proofs.lemmas.Bool.Decides.{leb_tells}
use Rattle.csv.specs.Reading.{is_bom}
use Rattle.zerotrie_lines.specs.Escapes.{is_plain, is_trail, are_two, are_unseen, are_three, are_four, len_of_two, len_of_three, len_of_four, shown_len, escaped_behind, escaped}

both : (p q : Bool) → (p && q) ≡ true → (p ≡ true) × (q ≡ true)
both true true h = (refl, refl)
both true false h = absurd (cc)
both false q h = absurd (cc)

either : (p q : Bool) → (p || q) ≡ true → (p ≡ true) ⊎ (q ≡ true)
either true q h = inl refl
either false q h = inr h

no_not : (p : Bool) → not p ≡ true → p ≡ false
no_not true h = absurd (cc)
no_not false h = refl

at_least : (a b : ℕ) → nat_le a b ≡ true → a ≤ b
at_least a b h = elim (leb_tells a b) [ inl t ↦ t.1 | inr f ↦ absurd (cc (f.0, h)) ]

-- bytes at the front of others that are no ASCII
unfoldable pub Wide : ℕ → List ℕ → Type 0
Wide zero key = Unit {0}
Wide (suc n) [] = ⊥
Wide (suc n) (b ∷ key) = (128 ≤ b) × Wide n key

-- What the first byte of a key is if it is itself: no control character and no backslash, and behind it is the rest of a character.
pub record IsShown (b : ℕ) (key : List ℕ) (len : ℕ) : Type 0 where
  pub high : 32 ≤ b
  pub other : b ≢ 92
  pub wide : Wide (len - 1) key
  pub within : len ≤ suc (length key)
  pub some : (len == 0) ≡ false

trail_high : (b : ℕ) → is_trail b ≡ true → 128 ≤ b
trail_high b h = at_least 128 b (both (nat_le 128 b) (nat_lt b 192) h).0

-- a fact of both arms of a test
pub by_test : {X : Type 0} (Fact : X → Type 0) (b : Bool) (x y : X) → (b ≡ true → Fact x) → (b ≡ false → Fact y) → Fact (if b then x else y)
by_test Fact true x y h k = h refl
by_test Fact false x y h k = k refl

-- the first byte of a key is no part of a character that is itself, or it is
unfoldable Told : ℕ → List ℕ → ℕ → Type 0
Told b key len = ((len ≡ 0) × (b < 256)) ⊎ IsShown b key len

four_by : (a b c : ℕ) (key : List ℕ) → a < 256 → Told a (b ∷ c ∷ key) (len_of_four a b c key)
unfolding Told Wide
four_by a b c [] few = inl (refl, few)
four_by a b c (d ∷ key) few =
    by_test (Told a (b ∷ c ∷ d ∷ key)) (are_four a b c d) 4 0 (λ is.
    let p = both (nat_le 240 a && nat_lt a 245) _ is in
    let q = both (is_trail b) _ p.1 in
    let r = both (is_trail c) _ q.1 in
    let s = both (is_trail d) _ r.1 in
    let from = at_least 240 a (both (nat_le 240 a) (nat_lt a 245) p.0).0 in
    inr (record {
      high = omega arith;
      other = λ e. omega (arith, e, from);
      wide = (trail_high b q.0, (trail_high c r.0, (trail_high d s.0, tt)));
      within = omega arith;
      some = refl;
    })) (λ _. inl (refl, few))

three_by : (a b : ℕ) (key : List ℕ) → a < 256 → Told a (b ∷ key) (len_of_three a b key)
unfolding Told Wide
three_by a b [] few = inl (refl, few)
three_by a b (c ∷ key) few =
    by_test (Told a (b ∷ c ∷ key)) (are_three a b c) 3 (len_of_four a b c key) (λ is.
    let p = both (nat_le 224 a && nat_lt a 240) _ is in
    let q = both (is_trail b) _ p.1 in
    let r = both (is_trail c) _ q.1 in
    let from = at_least 224 a (both (nat_le 224 a) (nat_lt a 240) p.0).0 in
    inr (record {
      high = omega arith;
      other = λ e. omega (arith, e, from);
      wide = (trail_high b q.0, (trail_high c r.0, tt));
      within = omega arith;
      some = refl;
    })) (λ _. four_by a b c key few)

two_by : (a : ℕ) (key : List ℕ) → a < 256 → Told a key (len_of_two a key)
unfolding Told Wide
two_by a [] few = inl (refl, few)
two_by a (b ∷ key) few =
    by_test (Told a (b ∷ key)) (are_two a b) 2 (len_of_three a b key) (λ is.
    let p = both (nat_le 194 a && nat_lt a 224) _ is in
    let q = both (is_trail b) _ p.1 in
    let from = at_least 194 a (both (nat_le 194 a) (nat_lt a 224) p.0).0 in
    inr (record {
      high = omega arith;
      other = λ e. omega (arith, e, from);
      wide = (trail_high b q.0, tt);
      within = omega arith;
      some = refl;
    })) (λ _. three_by a b key few)

-- what a byte of ASCII that is itself is not
plain_high : (b : ℕ) → is_plain b ≡ true → (32 ≤ b) × (b ≢ 92)
plain_high b is =
    let p = both (nat_le 32 b) _ is in
    let q = both (nat_lt b 127) (not (b == 92)) p.1 in
    (at_least 32 b p.0, λ e. absurd (cc (rw e at (no_not (b == 92) q.1))))

below : (b : ℕ) → (is_plain b || nat_le 256 b) ≡ false → b < 256
below b h = elim (leb_tells 256 b) [ inl t ↦ absurd (last (is_plain b) (rw t.0 at h)) | inr f ↦ omega (arith, f.1) ]
  where
    last : (p : Bool) → (p || true) ≡ false → ⊥
    last true e = absurd (cc e)
    last false e = absurd (cc e)

pub shown_by : (b : ℕ) (key : List ℕ) → ((shown_len (b ∷ key) ≡ 0) × (b < 256)) ⊎ IsShown b key (shown_len (b ∷ key))
unfolding Told Wide
shown_by b key =
    by_test (Told b key) (is_plain b || nat_le 256 b) 1 (len_of_two b key) (λ itself. inr (elim (either (is_plain b) (nat_le 256 b) itself) [
      | inl plain ↦ let p = plain_high b plain in record { high = p.0; other = p.1; wide = tt; within = omega arith; some = refl }
      | inr large ↦ let l = at_least 256 b large in record { high = omega arith; other = λ e. omega (arith, e, l); wide = tt; within = omega arith; some = refl }
    ])) (λ none. two_by b key (below b none))

-- bytes of ASCII that are themselves
pub all_plain : (key : List ℕ) → list_all is_plain key ≡ true → escaped key ≡ key
unfolding escaped
all_plain [] all = refl
all_plain (b ∷ key) all =
    let parts = both (is_plain b) (list_all is_plain key) all in
    rw parts.0 (ap (λ t. b ∷ t) (all_plain key parts.1))

behind_is : (n : ℕ) (key : List ℕ) → escaped_behind n key ≡ take n key ++ escaped (drop n key)
unfolding escaped
behind_is zero key = refl
behind_is (suc n) [] = refl
behind_is (suc n) (b ∷ key) = ap (λ t. b ∷ t) (behind_is n key)

kept_first : (b n : ℕ) (key : List ℕ) → shown_len (b ∷ key) ≡ suc n → escaped (b ∷ key) ≡ b ∷ escaped_behind n key
unfolding escaped
kept_first b n key is =
    let some : (shown_len (b ∷ key) == 0) ≡ false = ne_eqb (shown_len (b ∷ key)) 0 (λ none. omega (arith, is, none)) in
    let less : shown_len (b ∷ key) - 1 ≡ n = omega (arith, is) in
    rw (some, less) refl

-- and one whose first character is itself
pub shown_first : (key front back : List ℕ) (n : ℕ) → n ≡ shown_len key → n ≢ 0 → front ≡ take n key → back ≡ drop n key → front ++ escaped back ≡ escaped key
shown_first [] front back n is some first rest = absurd (some is)
shown_first (b ∷ key) front back zero is some first rest = absurd (some refl)
shown_first (b ∷ key) front back (suc n) is some first rest = rw (first, rest) (ap (λ t. b ∷ t) (sym (behind_is n key)) ∙ sym (kept_first b n key (sym is)))

-- three bytes that are a character that is itself are no byte order mark
pub no_bom : (c d : ℕ) → are_three 239 c d ≡ true → is_bom 239 c d ≡ false
no_bom c d is =
    let p = both (nat_le 224 239 && nat_lt 239 240) _ is in
    let q = both (is_trail c) _ p.1 in
    let r = both (is_trail d) _ q.1 in
    let s = both (not ((239 == 224) && nat_lt c 160)) _ r.1 in
    let t = both (not ((239 == 237) && nat_le 160 c)) _ s.1 in
    neither (is_bom 239 c d) _ (no_not (are_unseen 239 c d) t.1)
  where
    neither : (p q : Bool) → (p || q) ≡ false → p ≡ false
    neither true q h = absurd (cc h)
    neither false q h = refl

-- a run of characters that are themselves, with one more
pub shown_more : (key : List ℕ) (len n : ℕ) → take len key ++ escaped (drop len key) ≡ escaped key → n ≡ shown_len (drop len key) → n ≢ 0 → take (len + n) key ++ escaped (drop (len + n) key) ≡ escaped key
shown_more key len n before is some =
    let rest = drop len key in
    ap (λ t. t ++ escaped (drop (len + n) key)) (take-add len n key)
    ∙ append_assoc (take len key) (take n rest) (escaped (drop (len + n) key))
    ∙ ap (λ t. take len key ++ t) (shown_first rest (take n rest) (drop (len + n) key) n is some refl (sym (drop-drop n len key)))
    ∙ before
