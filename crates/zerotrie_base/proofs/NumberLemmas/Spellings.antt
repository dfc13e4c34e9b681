-- Laws of the spellings alone.
use Rattle.std.proofs.Common.{◌≡◌, ℕ, zero, suc, ◌+◌, ◌-◌, ◌*◌, ◌/◌, ◌%◌, ◌^◌, ◌<◌, ◌≤◌, List, [], ◌∷◌, ◌++◌, length, refl, sym, ◌∙◌, ap, subst, arith, inl, inr, ◌⊎◌, zero-add, get_or, take, drop}
use Rattle.std.proofs.lemmas.Bool.{cases_lt, lt-ltb, le-ltb}
use Rattle.std.proofs.Common.{lit≤, lit<}
use Rattle.std.proofs.Math.Nat.{pow-suc, mul-le-mul_right, div-one, div-div-eq-div-mul, div-lt_iff_lt-mul, one-le-pow}
use Rattle.zerotrie_base.specs.Numbers.{IsTrail, base_128, latent, extender, Spells, BeginsWith, trails_from, trail_bytes, spelled, Form, SpellsAs, spelled_as}
use Rattle.std.proofs.lemmas.List.{length-take-le, get_or-take, take-append-drop}
use Rattle.zerotrie_base.proofs.NumberLemmas.Numbers.{IsBytes, base_128-shift, extender_one, one_reading}

split_first_digit : (a : ℕ) (ts : List ℕ) → base_128 a ts ≡ base_128 0 ts + a * 128 ^ length ts
split_first_digit a ts = ap (λ x. base_128 x ts) (sym (zero-add a)) ∙ base_128-shift a 0 ts

low_below : (ts : List ℕ) → base_128 0 ts < 128 ^ length ts
low_below [] = omega arith
low_below (t ∷ ts) =
    let more = split_first_digit (t % 128) ts in
    let low = low_below ts in
    let le : t % 128 * 128 ^ length ts ≤ 127 * 128 ^ length ts = mul-le-mul_right (128 ^ length ts) (let h : t % 128 ≤ 127 = omega arith in h) in
    let e : 128 * 0 + t % 128 ≡ t % 128 = omega arith in
    rw (e, pow-suc 128 (length ts)) (omega arith)

-- a number with k trail bytes lies between two latent sums
range_of : (L m v : ℕ) (bytes : List ℕ) → (s : Spells L m v bytes) → (latent L (length s.trail) ≤ v) × (v < latent L (suc (length s.trail)))
range_of L m v bytes s =
    let e = s.value in
    let split = split_first_digit s.digit s.trail in
    let low = low_below s.trail in
    let le : suc s.digit * 128 ^ length s.trail ≤ L * 128 ^ length s.trail = mul-le-mul_right (128 ^ length s.trail) s.digit_below in
    (omega arith, omega arith)

latent_up : (L k d : ℕ) → latent L k ≤ latent L (k + d)
latent_up L k zero = let e : k + 0 ≡ k = omega arith in rw e (omega arith)
latent_up L k (suc d) = let e : k + suc d ≡ suc (k + d) = omega arith in let h = latent_up L k d in rw e (omega arith)

latent_mono : (L k j : ℕ) → k ≤ j → latent L k ≤ latent L j
latent_mono L k j h = let e : k + (j - k) ≡ j = omega arith in rw e at (latent_up L k (j - k))

-- trail bytes that end with the first one below 128
trail_of : (r : ℕ) (bytes : List ℕ) → IsBytes bytes → suc r ≤ length bytes → ((k : ℕ) → k < r → 128 ≤ get_or bytes k 0) → get_or bytes r 0 < 128 → IsTrail (take (suc r) bytes)
trail_of r [] byte long highs low = absurd (omega arith)
trail_of zero (t ∷ ts) byte long highs low = low
trail_of (suc r) (t ∷ []) byte long highs low = absurd (omega arith)
trail_of (suc r) (t ∷ u ∷ ts) byte long highs low = (highs 0 (omega arith), byte 0, trail_of r (u ∷ ts) (λ i. byte (suc i)) (omega arith) (λ k h. highs (suc k) (omega arith)) low)

-- a value of one byte
pub value_alone : (lead : ℕ) (rest : List ℕ) → 128 ≤ lead → lead < 144 → (v : ℕ) × BeginsWith 16 4 v (lead ∷ rest) rest
value_alone lead rest low high = (
  lead - 128,
  record {
    spelling = lead ∷ [];
    spells = record { digit = lead - 128; trail = []; below = (let most : 144 ≤ 2 ^ 64 = lit≤ tt in omega arith); digit_below = omega arith; is_trail = tt; bytes_are = ap (λ x. x ∷ []) (omega arith); value = omega arith };
    bytes_are = refl;
  },
)

-- a value of up to nine bytes, the last of which is the first below 128
pub value_trailed : (lead : ℕ) (rest : List ℕ) (r : ℕ) → 144 ≤ lead → lead < 160 → suc r ≤ 8 → IsBytes rest → suc r ≤ length rest → ((k : ℕ) → k < r → 128 ≤ get_or rest k 0) → get_or rest r 0 < 128
    → (v : ℕ) × BeginsWith 16 4 v (lead ∷ rest) (drop (suc r) rest)
value_trailed lead [] r low high few byte long highs stops = absurd (omega arith)
value_trailed lead (t ∷ ts) r low high few byte long highs stops =
    let trail = take (suc r) (t ∷ ts) in
    let digit = lead - 144 in
    let v = base_128 digit trail + latent 16 (length trail) in
    let len : length trail ≡ suc r = length-take-le (suc r) (t ∷ ts) long in
    let spells : v < 2 ^ 64 = (
    let split = split_first_digit digit trail in
    let under = low_below trail in
    let le : suc digit * 128 ^ length trail ≤ 16 * 128 ^ length trail = mul-le-mul_right (128 ^ length trail) (let h : suc digit ≤ 16 = omega arith in h) in
    let up = latent_mono 16 (suc (length trail)) 9 (omega arith) in
    let most : latent 16 9 < 2 ^ 64 = lit< tt in
    omega arith
    ) in (
      v,
      record {
        spelling = lead ∷ trail;
        spells = record { digit = digit; trail = trail; below = spells; digit_below = omega arith; is_trail = trail_of r (t ∷ ts) byte long highs stops; bytes_are = ap (λ x. x ∷ trail) (omega arith); value = refl };
        bytes_are = ap (λ x. lead ∷ x) (sym (take-append-drop (suc r) (t ∷ ts)));
      },
    )

past_end : (xs : List ℕ) (i : ℕ) → length xs ≤ i → get_or xs i 0 ≡ 0
past_end [] i h = refl
past_end (x ∷ xs) zero h = absurd (omega arith)
past_end (x ∷ xs) (suc i) h = past_end xs i (omega arith)

-- the value that the bytes at the front tell of, of which the first byte below 128 stands at a place
pub value_told : (bytes tail : List ℕ) (r n : ℕ) → bytes ≡ take (length bytes) tail → IsBytes tail → 128 ≤ get_or tail 0 0 → get_or tail 0 0 < 160 → n ≤ 9 → 1 ≤ n → n ≤ length bytes
    → (get_or tail 0 0 < 144 → n ≡ 1) → (144 ≤ get_or tail 0 0 → n ≡ r + 1) → ((k : ℕ) → k < 16 → k < r → 128 ≤ get_or tail k 0) → (r < 16 → get_or tail r 0 < 128)
    → (v : ℕ) × BeginsWith 16 4 v bytes (drop n bytes)
value_told [] tail r n lies byte low high few some within alone trailed highs stops = absurd (omega arith)
value_told (lead ∷ rest) tail r n lies byte low high few some within alone trailed highs stops =
    let same : (k : ℕ) → k < length (lead ∷ rest) → get_or tail k 0 ≡ get_or (lead ∷ rest) k 0 = λ k h. (sym (get_or-take (length (lead ∷ rest)) tail k 0 h) ∙ ap (λ x. get_or x k 0) (sym lies)) in
    let first = same 0 (omega arith) in
    elim (cases_lt lead 144) [
      | inl short ↦ (let one : n ≡ 1 = alone (omega arith) in subst (λ k. (v : ℕ) × BeginsWith 16 4 v (lead ∷ rest) (drop k (lead ∷ rest))) (sym one) (value_alone lead rest (omega arith) short))
      | inr long ↦
          let is = trailed (omega arith) in
          let more : r ≡ suc (r - 1) = (elim (cases_lt 0 r) [
            | inl there ↦ omega arith
            | inr none ↦ (let zero_r : r ≡ 0 = omega arith in absurd (let stop = subst (λ k. get_or tail k 0 < 128) zero_r (stops (omega arith)) in omega arith))
          ]) in
          let count : n ≡ suc (suc (r - 1)) = omega arith in
          let m = r - 1 in
          subst (λ k. (v : ℕ) × BeginsWith 16 4 v (lead ∷ rest) (drop k (lead ∷ rest))) (sym count)
          (value_trailed lead rest m long (omega arith) (omega arith) (rest_bytes same byte) (omega arith)
          (λ k h. (let is = highs (suc k) (omega arith) (omega arith) in let e = same (suc k) (omega arith) in omega arith))
          (let stop : get_or tail (suc m) 0 < 128 = subst (λ k. get_or tail k 0 < 128) more (stops (omega arith)) in let e = same (suc m) (omega arith) in omega arith))
    ]
  where
    rest_bytes : ((k : ℕ) → k < length (lead ∷ rest) → get_or tail k 0 ≡ get_or (lead ∷ rest) k 0) → IsBytes tail → IsBytes rest
    rest_bytes same byte i = elim (cases_lt i (length rest)) [
      | inl inside ↦ (let e = same (suc i) (omega arith) in let b = byte (suc i) in omega arith)
      | inr past ↦ (let none = past_end rest i past in omega arith)
    ]

same_count : (L v k j : ℕ) → latent L k ≤ v → v < latent L (suc k) → latent L j ≤ v → v < latent L (suc j) → k ≡ j
same_count L v k j a b c d =
    elim (cases_lt k j) [
      | inl less ↦ let up = latent_mono L (suc k) j less in absurd (omega arith)
      | inr more ↦ elim (cases_lt j k) [
        | inl less ↦ let up = latent_mono L (suc j) k less in absurd (omega arith)
        | inr equal ↦ omega arith
      ]
    ]

cons_same : (t u : ℕ) (ts us : List ℕ) → t ≡ u → ts ≡ us → t ∷ ts ≡ u ∷ us
cons_same t u ts us e f = cc

same_byte_of : (t u : ℕ) (ts us : List ℕ) → IsTrail (t ∷ ts) → IsTrail (u ∷ us) → ts ≡ us → t % 128 ≡ u % 128 → t ≡ u
same_byte_of t u [] [] a b e f = omega arith
same_byte_of t u [] (y ∷ us) a b e f = absurd (cc)
same_byte_of t u (x ∷ ts) [] a b e f = absurd (cc)
same_byte_of t u (x ∷ ts) (y ∷ us) a b e f = omega arith

trail_rest : (t : ℕ) (ts : List ℕ) → IsTrail (t ∷ ts) → IsTrail ts
trail_rest t [] h = tt
trail_rest t (u ∷ us) h = h.2

same_digits : (a b : ℕ) (ts us : List ℕ) → IsTrail ts → IsTrail us → length ts ≡ length us → base_128 a ts ≡ base_128 b us → (a ≡ b) × (ts ≡ us)
same_digits a b [] [] x y n e = (e, refl)
same_digits a b [] (u ∷ us) x y n e = absurd (omega arith)
same_digits a b (t ∷ ts) [] x y n e = absurd (omega arith)
same_digits a b (t ∷ ts) (u ∷ us) x y n e =
    let rest = same_digits (128 * a + t % 128) (128 * b + u % 128) ts us (trail_rest t ts x) (trail_rest u us y) (omega arith) e in
    let digits = rest.0 in
    (omega arith, cons_same t u ts us (same_byte_of t u ts us x y rest.1 (omega arith)) rest.1)

-- A number has one spelling with each metadata.
pub one_spelling : (L m v : ℕ) (a b : List ℕ) → Spells L m v a → Spells L m v b → a ≡ b
one_spelling L m v a b s t =
    let x = range_of L m v a s in
    let y = range_of L m v b t in
    let count = same_count L v (length s.trail) (length t.trail) x.0 x.1 y.0 y.1 in
    let value : base_128 s.digit s.trail ≡ base_128 t.digit t.trail = (let e = s.value in let f = t.value in let g = ap (latent L) count in omega arith) in
    let same = same_digits s.digit t.digit s.trail t.trail s.is_trail t.is_trail count value in
    s.bytes_are ∙ ap (λ ts. (m * (2 * L) + extender ts * L + s.digit) ∷ ts) same.1 ∙ ap (λ d. (m * (2 * L) + extender t.trail * L + d) ∷ t.trail) same.0 ∙ sym t.bytes_are

-- No spelling begins another.
pub no_front : (L m n v w : ℕ) (a b x y : List ℕ) → Spells L m v a → Spells L n w b → a ++ x ≡ b ++ y → (v ≡ w) × (x ≡ y)
no_front L m n v w a b x y s t e =
    one_reading L m n v w (a ++ x) x y (record { spelling = a; spells = s; bytes_are = refl }) (record { spelling = b; spells = t; bytes_are = e })

-- The metadata bits alone differ.
pub with_metadata : (L m n v : ℕ) (a : List ℕ) → (s : Spells L m v a) → Spells L n v ((n * (2 * L) + extender s.trail * L + s.digit) ∷ s.trail)
with_metadata L m n v a s = record { digit = s.digit; trail = s.trail; below = s.below; digit_below = s.digit_below; is_trail = s.is_trail; bytes_are = refl; value = s.value }

-- the count of trail bytes is right
record RightCount (L v k : ℕ) : Type 0 where
  low : latent L k ≤ v
  high : v < latent L (suc k)

count_found : (more L v k : ℕ) → latent L k ≤ v → v < latent L (suc (k + more)) → RightCount L v (trails_from more L v k)
count_found zero L v k low high = let e : k + 0 ≡ k = omega arith in record { low = low; high = subst (λ x. v < latent L (suc x)) e high }
count_found (suc more) L v k low high =
    elim (cases_lt v (latent L (suc k))) [
      | inl here ↦ rw (lt-ltb v (latent L (suc k)) here) (record { low = low; high = here })
      | inr above ↦
          let e : k + suc more ≡ suc k + more = omega arith in
          rw (le-ltb v (latent L (suc k)) above) (count_found more L v (suc k) above (subst (λ x. v < latent L (suc x)) e high))
    ]

right_count : (L v : ℕ) → v < 2 ^ 64 → (L ≡ 16) ⊎ (L ≡ 32) → RightCount L v (trails_from 9 L v 0)
right_count L v below form =
    elim form [
      | inl e ↦ rw e (let all : 2 ^ 64 ≤ latent 16 10 = lit≤ tt in count_found 9 16 v 0 (omega arith) (omega arith))
      | inr e ↦ rw e (let all : 2 ^ 64 ≤ latent 32 10 = lit≤ tt in count_found 9 32 v 0 (omega arith) (omega arith))
    ]

trail_byte : (e q : ℕ) → (e * 128 + q % 128) % 128 ≡ q % 128
trail_byte e q = omega arith

two_digits : (q : ℕ) → 128 * (q / 128) + q % 128 ≡ q
two_digits q = omega arith

base_128-trail : (k u : ℕ) → base_128 (u / 128 ^ k) (trail_bytes k u) ≡ u
base_128-trail zero u = div-one u
base_128-trail (suc k) u =
    let quotient : u / 128 ^ suc k ≡ u / 128 ^ k / 128 = rw (pow-suc 128 k) (sym (div-div-eq-div-mul u (128 ^ k) 128)) in
    let first : 128 * (u / 128 ^ suc k) + (extender (trail_bytes k u) * 128 + u / 128 ^ k % 128) % 128 ≡ u / 128 ^ k =
    rw (trail_byte (extender (trail_bytes k u)) (u / 128 ^ k), quotient) (two_digits (u / 128 ^ k)) in
    ap (λ a. base_128 a (trail_bytes k u)) first ∙ base_128-trail k u

length-trail_bytes : (k u : ℕ) → length (trail_bytes k u) ≡ k
length-trail_bytes zero u = refl
length-trail_bytes (suc k) u = ap suc (length-trail_bytes k u)

IsTrail-more : (e low : ℕ) (ts : List ℕ) → e ≡ extender ts → low < 128 → IsTrail ts → IsTrail ((e * 128 + low) ∷ ts)
IsTrail-more e low [] is h t = omega arith
IsTrail-more e low (u ∷ us) is h t = (omega arith, omega arith, t)

trail_is_trail : (k u : ℕ) → IsTrail (trail_bytes k u)
trail_is_trail zero u = tt
trail_is_trail (suc k) u = IsTrail-more (extender (trail_bytes k u)) (u / 128 ^ k % 128) (trail_bytes k u) refl (omega arith) (trail_is_trail k u)

-- The spelling spells its number.
pub spells_spelled : (L m v : ℕ) → v < 2 ^ 64 → (L ≡ 16) ⊎ (L ≡ 32) → Spells L m v (spelled L m v)
unfolding spelled
spells_spelled L m v below form =
    let k = trails_from 9 L v 0 in
    let right = right_count L v below form in
    let low = right.low in
    let high = right.high in
    let u = v - latent L k in
    let small : u < L * 128 ^ k = omega arith in
    let whole = base_128-trail k u in
    let count = length-trail_bytes k u in
    record {
      digit = u / 128 ^ k;
      trail = trail_bytes k u;
      below = below;
      digit_below = (div-lt_iff_lt-mul (one-le-pow k 128 (lit< tt))).1 small;
      is_trail = trail_is_trail k u;
      bytes_are = refl;
      value = rw (whole, count) (omega arith);
    }

-- bytes that spell a number in a form are its spelling
pub spelling_is : (form : Form) (v : ℕ) (bytes : List ℕ) → (form.latent_value ≡ 16) ⊎ (form.latent_value ≡ 32) → SpellsAs form v bytes → bytes ≡ spelled_as form v
spelling_is form v bytes known s = one_spelling form.latent_value form.metadata v bytes _ s (spells_spelled form.latent_value form.metadata v s.below known)

lead_below : (L e d : ℕ) → e ≤ 1 → d < L → e * L + d < 2 * L
lead_below L zero d h l = omega arith
lead_below L (suc zero) d h l = omega arith
lead_below L (suc (suc e)) d h l = absurd (omega arith)

lead_again : (a e d L : ℕ) → a * (2 * L) + e * L + d ≡ a * (2 * L) + (e * L + d)
lead_again a e d L = omega arith

-- Below the metadata, the spellings of one number are alike.
pub below_metadata : (L m v : ℕ) (bytes : List ℕ) → Spells L m v bytes
    → (lead : ℕ) × (trail : List ℕ) × (lead < 2 * L) × (bytes ≡ (m * (2 * L) + lead) ∷ trail) × ((n : ℕ) → Spells L n v ((n * (2 * L) + lead) ∷ trail))
below_metadata L m v bytes s = (
  extender s.trail * L + s.digit,
  s.trail,
  lead_below L (extender s.trail) s.digit (extender_one s.trail) s.digit_below,
  s.bytes_are ∙ ap (λ x. x ∷ s.trail) (lead_again m (extender s.trail) s.digit L),
  λ n. subst (λ x. Spells L n v (x ∷ s.trail)) (lead_again n (extender s.trail) s.digit L) (with_metadata L m n v bytes s),
)
