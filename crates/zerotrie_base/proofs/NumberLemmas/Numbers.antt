-- Lemmas on numbers of variable length.
use Rattle.std.proofs.Common.{◌≡◌, ℕ, suc, ◌+◌, ◌*◌, ◌/◌, ◌%◌, ◌^◌, ◌<◌, ◌≤◌, List, [], ◌∷◌, ◌++◌, length, refl, sym, ◌∙◌, ap, arith, Option, Some, None, cond, ltb, eqb, Bool, true, false, get_or, drop, ◌⊎◌, inl, inr, length-append}
use Rattle.std.proofs.Math.Nat.{pow-suc, mod-lt}
use Rattle.std.proofs.lemmas.Nat.{div-add-mod'}
use Rattle.std.proofs.Math.Seq.{drop-cons}
use Rattle.std.proofs.Math.Arith.{mod-mul, digits_mod, digits_div}
use Rattle.std.proofs.lemmas.List.{drop_all}
use Rattle.std.proofs.lemmas.Bool.{ltb-true, ltb-false, lt-ltb, le-ltb, eqb-true, eqb-false, ne_eqb}
use Rattle.zerotrie_base.specs.Numbers.{IsTrail, base_128, latent, extender, BeginsWith}

-- what a reader finds after the digit a
abbrev pub read_from : ℕ → ℕ → List ℕ → Option (ℕ × List ℕ)
read_from L a [] = None
read_from L a (t ∷ ts) = cond (ltb t 128) (Some (128 * a + t % 128 + L, ts)) (read_from L (128 * a + t % 128 + L) ts)

scaled : (x y p q : ℕ) → p ≡ q * 128 → y + 128 * x * q ≡ y + x * p
scaled x y p q e = rw e (omega arith)

pub base_128-shift : (x a : ℕ) (ts : List ℕ) → base_128 (a + x) ts ≡ base_128 a ts + x * 128 ^ length ts
base_128-shift x a [] = omega arith
base_128-shift x a (t ∷ ts) =
    let step : 128 * (a + x) + t % 128 ≡ (128 * a + t % 128) + 128 * x = omega arith in
    rw step (base_128-shift (128 * x) (128 * a + t % 128) ts ∙ scaled x _ (128 ^ suc (length ts)) (128 ^ length ts) (pow-suc 128 (length ts)))

-- a digit more, with the latent value added at once
pub step_value : (L a t : ℕ) (ts : List ℕ) → base_128 (128 * a + t % 128 + L) ts + latent L (length ts) ≡ base_128 a (t ∷ ts) + latent L (suc (length ts))
step_value L a t ts = rw (base_128-shift L (128 * a + t % 128) ts) (omega arith)

pub read_trail : (L a t : ℕ) (ts after : List ℕ) → IsTrail (t ∷ ts) → read_from L a ((t ∷ ts) ++ after) ≡ Some (base_128 a (t ∷ ts) + latent L (suc (length ts)), after)
read_trail L a t [] after h = rw (lt-ltb t 128 h) (ap (λ x. Some (x, after)) (omega arith))
read_trail L a t (u ∷ us) after h =
    rw (le-ltb t 128 h.0) (read_trail L (128 * a + t % 128 + L) u us after h.2 ∙ ap (λ x. Some (x, after)) (step_value L a t (u ∷ us)))

-- the trail that a reader found
pub record Found (L a v : ℕ) (bytes after : List ℕ) : Type 0 where
  pub first : ℕ
  pub more : List ℕ
  pub is_trail : IsTrail (first ∷ more)
  pub bytes_are : bytes ≡ (first ∷ more) ++ after
  pub value : v ≡ base_128 a (first ∷ more) + latent L (suc (length more))

abbrev pub IsBytes : List ℕ → Type 0
IsBytes bs = (i : ℕ) → get_or bs i 0 < 256

pub chosen : {X : Type 0} (b : Bool) (x y z : X) → cond b x y ≡ z → ((b ≡ true) × (x ≡ z)) ⊎ ((b ≡ false) × (y ≡ z))
chosen true x y z e = inl (refl, e)
chosen false x y z e = inr (refl, e)

pub pair_of : {A : Type 0} (x y : A) → Some x ≡ Some y → x ≡ y
pair_of x y e = cc

pub found : (L a v : ℕ) (bytes after : List ℕ) → IsBytes bytes → read_from L a bytes ≡ Some (v, after) → Found L a v bytes after
found L a v [] after b e = absurd (cc)
found L a v (t ∷ ts) after b e =
    elim (chosen (ltb t 128) _ _ _ e) [
      | inl h ↦
          let same = pair_of (128 * a + t % 128 + L, ts) (v, after) h.1 in
          let is : 128 * a + t % 128 + L ≡ v = ap (λ p. p.0) same in
          record {
            first = t;
            more = [];
            is_trail = ltb-true t 128 h.0;
            bytes_are = ap (λ p. t ∷ p.1) same;
            value = omega arith;
          }
      | inr h ↦
          let f = found L (128 * a + t % 128 + L) v ts after (λ i. b (suc i)) h.1 in
          record {
            first = t;
            more = f.first ∷ f.more;
            is_trail = (ltb-false t 128 h.0, b 0, f.is_trail);
            bytes_are = ap (λ r. t ∷ r) f.bytes_are;
            value = f.value ∙ step_value L a t (f.first ∷ f.more);
          }
    ]

pub read_grows : (L a v : ℕ) (bytes after : List ℕ) → read_from L a bytes ≡ Some (v, after) → 128 * a + L ≤ v
read_grows L a v [] after e = absurd (cc)
read_grows L a v (t ∷ ts) after e =
    elim (chosen (ltb t 128) _ _ _ e) [
      | inl h ↦ let is : 128 * a + t % 128 + L ≡ v = ap (λ p. p.0) (pair_of (128 * a + t % 128 + L, ts) (v, after) h.1) in omega arith
      | inr h ↦ let more = read_grows L (128 * a + t % 128 + L) v ts after h.1 in omega arith
    ]

pub lead_parts : (L s : ℕ) → 0 < L → s ≡ s / (2 * L) * (2 * L) + (s / L % 2) * L + s % L
lead_parts L s h =
    let low : s % (2 * L) ≡ (s / L % 2) * L + s % L = mod-mul s (omega arith) h in
    omega (arith, div-add-mod' s (2 * L))

-- a lead that has these parts
pub digit_of : (L m e d : ℕ) → d < L → (m * (2 * L) + e * L + d) % L ≡ d
digit_of L m e d h = let same : m * (2 * L) + e * L + d ≡ (m * 2 + e) * L + d = omega arith in rw same (digits_mod (m * 2 + e) h)

pub extender_of : (L m e d : ℕ) → d < L → e < 2 → (m * (2 * L) + e * L + d) / L % 2 ≡ e
extender_of L m e d h two = let same : m * (2 * L) + e * L + d ≡ (m * 2 + e) * L + d = omega arith in rw (same, digits_div (m * 2 + e) h) (digits_mod m two)

-- the number at the front, read
pub read : ℕ → ℕ → List ℕ → Option (ℕ × List ℕ)
read L start rest = cond (eqb (start / L % 2) 0) (Some (start % L, rest)) (read_from L (start % L) rest)

read_of : (L m d : ℕ) (trail after : List ℕ) → d < L → IsTrail trail → read L (m * (2 * L) + extender trail * L + d) (trail ++ after) ≡ Some (base_128 d trail + latent L (length trail), after)
unfolding read
read_of L m d [] after h is = rw (extender_of L m 0 d h (omega arith), digit_of L m 0 d h) (ap (λ x. Some (x, after)) (omega arith))
read_of L m d (t ∷ ts) after h is = rw (extender_of L m 1 d h (omega arith), digit_of L m 1 d h) (read_trail L d t ts after is)

pub cons_parts : (a b : ℕ) (xs ys : List ℕ) → a ∷ xs ≡ b ∷ ys → (a ≡ b) × (xs ≡ ys)
cons_parts a b xs ys e = (cc, cc)

pub read_is : (L metadata v start : ℕ) (rest after : List ℕ) → BeginsWith L metadata v (start ∷ rest) after → read L start rest ≡ Some (v, after)
read_is L metadata v start rest after b =
    let s = b.spells in
    let parts = cons_parts start (metadata * (2 * L) + extender s.trail * L + s.digit) rest (s.trail ++ after) (b.bytes_are ∙ ap (λ x. x ++ after) s.bytes_are) in
    rw (parts.0, parts.1, s.value) (read_of L metadata s.digit s.trail after s.digit_below s.is_trail)

not_zero : (n : ℕ) → eqb (n % 2) 0 ≡ false → n % 2 ≡ 1
not_zero n e = let apart = eqb-false (n % 2) 0 e in omega arith

zero_more : (n : ℕ) → n ≡ n + 0
zero_more n = omega arith

pub is_read : (L v start : ℕ) (rest after : List ℕ) → 0 < L → IsBytes rest → v < 2 ^ 64 → read L start rest ≡ Some (v, after) → BeginsWith L (start / (2 * L)) v (start ∷ rest) after
unfolding read
is_read L v start rest after h bytes below e =
    elim (chosen (eqb (start / L % 2) 0) _ _ _ e) [
      | inl c ↦
          let none : start / L % 2 ≡ 0 = eqb-true (start / L % 2) 0 c.0 in
          let same = pair_of (start % L, rest) (v, after) c.1 in
          record {
            spelling = start ∷ [];
            spells = record { digit = start % L; trail = []; below = below; digit_below = mod-lt start h; is_trail = tt; bytes_are = ap (λ x. x ∷ []) (rw none at (lead_parts L start h)); value = sym (ap (λ p. p.0) same) ∙ zero_more (start % L) };
            bytes_are = ap (λ p. start ∷ p.1) same;
          }
      | inr c ↦
          let one = not_zero (start / L) c.0 in
          let f = found L (start % L) v rest after bytes c.1 in
          record {
            spelling = start ∷ f.first ∷ f.more;
            spells = record { digit = start % L; trail = f.first ∷ f.more; below = below; digit_below = mod-lt start h; is_trail = f.is_trail; bytes_are = ap (λ x. x ∷ f.first ∷ f.more) (rw one at (lead_parts L start h)); value = f.value };
            bytes_are = ap (λ x. start ∷ x) f.bytes_are;
          }
    ]

pub read_alone : (L start : ℕ) (rest : List ℕ) → start / L % 2 ≡ 0 → read L start rest ≡ Some (start % L, rest)
unfolding read
read_alone L start rest e = rw e refl

pub read_on : (L start : ℕ) (rest : List ℕ) → (start / L % 2 ≡ 0 → ⊥) → read L start rest ≡ read_from L (start % L) rest
unfolding read
read_on L start rest e = rw (ne_eqb (start / L % 2) 0 e) refl

pub read_grows_more : (L a v t : ℕ) (ts after : List ℕ) → read_from L a (t ∷ ts) ≡ Some (v, after) → 128 * a + t % 128 + L ≤ v
read_grows_more L a v t ts after e =
    elim (chosen (ltb t 128) _ _ _ e) [
      | inl h ↦ let is : 128 * a + t % 128 + L ≡ v = ap (λ p. p.0) (pair_of (128 * a + t % 128 + L, ts) (v, after) h.1) in omega arith
      | inr h ↦ let more = read_grows L (128 * a + t % 128 + L) v ts after h.1 in omega arith
    ]

-- no number below 2 ^ 64 is spelled if the bytes so far give too much
pub too_large : (L start a i : ℕ) (rest : List ℕ) → (start / L % 2 ≡ 0 → ⊥) → read_from L a (drop i rest) ≡ read_from L (start % L) rest → 2 ^ 64 ≤ 128 * a
    → (metadata v : ℕ) (after : List ℕ) → BeginsWith L metadata v (start ∷ rest) after → ⊥
too_large L start a i rest on same large metadata v after b =
    let grows = read_grows L a v (drop i rest) after (same ∙ sym (read_on L start rest on) ∙ read_is L metadata v start rest after b) in
    let below = b.spells.below in
    omega arith

pub too_large_next : (L start a i : ℕ) (rest : List ℕ) → i < length rest → (start / L % 2 ≡ 0 → ⊥) → read_from L a (drop i rest) ≡ read_from L (start % L) rest → 2 ^ 64 ≤ 128 * a + get_or rest i 0 % 128 + L
    → (metadata v : ℕ) (after : List ℕ) → BeginsWith L metadata v (start ∷ rest) after → ⊥
too_large_next L start a i rest inside on same large metadata v after b =
    let at_i : drop i rest ≡ get_or rest i 0 ∷ drop (suc i) rest = drop-cons rest i 0 inside in
    let grows = read_grows_more L a v (get_or rest i 0) (drop (suc i) rest) after (ap (read_from L a) (sym at_i) ∙ same ∙ sym (read_on L start rest on) ∙ read_is L metadata v start rest after b) in
    let below = b.spells.below in
    omega arith

pub cut : (L start a i : ℕ) (rest : List ℕ) → length rest ≤ i → (start / L % 2 ≡ 0 → ⊥) → read_from L a (drop i rest) ≡ read_from L (start % L) rest
    → (metadata v : ℕ) (after : List ℕ) → BeginsWith L metadata v (start ∷ rest) after → ⊥
cut L start a i rest past on same metadata v after b =
    let e : read_from L a (drop i rest) ≡ Some (v, after) = same ∙ sym (read_on L start rest on) ∙ read_is L metadata v start rest after b in
    let none : drop i rest ≡ [] = drop_all i rest past in
    let f : read_from L a [] ≡ Some (v, after) = rw none at e in
    absurd (cc)

pub ended : (L start a i : ℕ) (rest : List ℕ) → i < length rest → get_or rest i 0 < 128 → (start / L % 2 ≡ 0 → ⊥) → read_from L a (drop i rest) ≡ read_from L (start % L) rest
    → read L start rest ≡ Some (128 * a + get_or rest i 0 % 128 + L, drop (suc i) rest)
ended L start a i rest inside last on same =
    let at_i : drop i rest ≡ get_or rest i 0 ∷ drop (suc i) rest = drop-cons rest i 0 inside in
    let step : read_from L a (get_or rest i 0 ∷ drop (suc i) rest) ≡ Some (128 * a + get_or rest i 0 % 128 + L, drop (suc i) rest) = rw (lt-ltb (get_or rest i 0) 128 last) refl in
    read_on L start rest on ∙ sym same ∙ ap (read_from L a) at_i ∙ step

pub extender_one : (ts : List ℕ) → extender ts ≤ 1
extender_one [] = omega arith
extender_one (t ∷ ts) = omega arith

-- no bytes begin with no spelling
pub some_bytes : (L m v : ℕ) (after : List ℕ) → BeginsWith L m v [] after → ⊥
some_bytes L m v after b = let is = b.bytes_are ∙ ap (λ x. x ++ after) b.spells.bytes_are in cc

-- a number is read in one way
pub one_reading : (L m n v w : ℕ) (bytes a b : List ℕ) → BeginsWith L m v bytes a → BeginsWith L n w bytes b → (v ≡ w) × (a ≡ b)
one_reading L m n v w [] a b x y = absurd (some_bytes L m v a x)
one_reading L m n v w (start ∷ rest) a b x y =
    let same = pair_of (v, a) (w, b) (sym (read_is L m v start rest a x) ∙ read_is L n w start rest b y) in
    (ap (λ p. p.0) same, ap (λ p. p.1) same)

-- what follows a spelling is shorter than the bytes
pub after_shorter : (L m v : ℕ) (bytes after : List ℕ) → BeginsWith L m v bytes after → length after < length bytes
after_shorter L m v bytes after b =
    let is = b.bytes_are ∙ ap (λ x. x ++ after) b.spells.bytes_are in
    omega (arith, simp length-append at (ap length is))
