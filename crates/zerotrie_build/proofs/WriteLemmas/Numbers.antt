-- The spellings of numbers.
use Rattle.std.proofs.Common.{◌≡◌, ℕ, ◌+◌, ◌-◌, ◌*◌, ◌/◌, ◌%◌, ◌^◌, ◌<◌, ◌≤◌, ◌⊎◌, inl, inr, List, [], ◌∷◌, ◌++◌, length, take, drop, refl, ap, ◌∙◌, arith}
use Rattle.std.specs.Prelude.{slice_set, slice_index}
use Rattle.std.specs.List.{refill}
use Rattle.std.proofs.Math.Seq.{take-length, drop-length}
use Rattle.std.proofs.lemmas.List.{append-nil}
use Rattle.zerotrie_base.specs.Numbers.{Spells}
use Rattle.zerotrie_base.proofs.CallerLemmas.{spelling_is}
use Rattle.zerotrie_build.proofs.WriteLemmas.Puts.{number_is}
use Rattle.zerotrie_base.specs.plain.Encoding.{with_bits}
use Rattle.zerotrie_build.specs.passes.Writing.{IsLead, spelled_with_bits}

pub known : (bits L : ℕ) → IsLead bits L → (L ≡ 16) ⊎ (L ≡ 32)
known bits L (inl is) = inl is.0
known bits L (inr is) = inr is.0

-- the bits are those of the metadata
bits_are : (bits L : ℕ) → IsLead bits L → bits ≡ bits / (2 * L) * (2 * L)
bits_are bits L (inl (is, inl of)) = rw (is, of) refl
bits_are bits L (inl (is, inr of)) = rw (is, of) refl
bits_are bits L (inr (is, of)) = rw (is, of) refl

pub one_byte : (bits L v : ℕ) → IsLead bits L → v < 2 ^ 64 → v < L → (bits + v) ∷ [] ≡ spelled_with_bits bits L v
one_byte bits L v is below short =
    let b = bits_are bits L is in
    spelling_is (record { latent_value = L; metadata = bits / (2 * L) }) v ((bits + v) ∷ []) (known bits L is)
    (record { digit = v; trail = []; below = below; digit_below = short; is_trail = tt; bytes_are = ap (λ x. x ∷ []) (omega arith); value = omega arith })

pub two_bytes : (bits L v : ℕ) → IsLead bits L → v < 2 ^ 64 → L ≤ v → v - L < 128 * L
    → (bits + L + (v - L) / 128) ∷ (v - L) % 128 ∷ [] ≡ spelled_with_bits bits L v
two_bytes bits L v is below long short =
    let b = bits_are bits L is in
    let low = v - L in
    spelling_is (record { latent_value = L; metadata = bits / (2 * L) }) v ((bits + L + low / 128) ∷ low % 128 ∷ []) (known bits L is)
    (record { digit = low / 128; trail = low % 128 ∷ []; below = below; digit_below = omega arith; is_trail = omega arith; bytes_are = ap (λ x. x ∷ low % 128 ∷ []) (omega arith); value = omega arith })

pub three_bytes : (bits L v : ℕ) → IsLead bits L → v < 2 ^ 64 → L ≤ v → L ≤ (v - L) / 128 → (v - L) / 128 - L < 128 * L
    → (bits + L + ((v - L) / 128 - L) / 128) ∷ (128 + ((v - L) / 128 - L) % 128) ∷ (v - L) % 128 ∷ [] ≡ spelled_with_bits bits L v
three_bytes bits L v is below long longer short =
    let b = bits_are bits L is in
    let low = v - L in
    let high = low / 128 - L in
    let trail = (128 + high % 128) ∷ low % 128 ∷ [] in
    spelling_is (record { latent_value = L; metadata = bits / (2 * L) }) v ((bits + L + high / 128) ∷ trail) (known bits L is)
    (record {
      digit = high / 128;
      trail = trail;
      below = below;
      digit_below = omega arith;
      is_trail = (omega arith, omega arith, omega arith);
      bytes_are = ap (λ x. x ∷ trail) (omega arith);
      value = omega arith;
    })

pub four_bytes : (bits L v : ℕ) → IsLead bits L → v < 2 ^ 64 → L + 128 * (L + 128 * L) ≤ v → ((v - L) / 128 - L) / 128 - L < 128 * L
    → (bits + L + (((v - L) / 128 - L) / 128 - L) / 128) ∷ (128 + (((v - L) / 128 - L) / 128 - L) % 128) ∷ (128 + ((v - L) / 128 - L) % 128) ∷ (v - L) % 128 ∷ [] ≡ spelled_with_bits bits L v
four_bytes bits L v is below long short =
    let b = bits_are bits L is in
    let low = v - L in
    let middle = low / 128 - L in
    let top = middle / 128 - L in
    let trail = (128 + top % 128) ∷ (128 + middle % 128) ∷ low % 128 ∷ [] in
    spelling_is (record { latent_value = L; metadata = bits / (2 * L) }) v ((bits + L + top / 128) ∷ trail) (known bits L is)
    (record {
      digit = top / 128;
      trail = trail;
      below = below;
      digit_below = omega arith;
      is_trail = (omega arith, omega arith, (omega arith, omega arith, omega arith));
      bytes_are = ap (λ x. x ∷ trail) (omega arith);
      value = omega arith;
    })

pub spelling_behind : (bits L v : ℕ) (bytes : List ℕ) → IsLead bits L → Spells L 0 v bytes → with_bits bits bytes ≡ spelled_with_bits bits L v
spelling_behind bits L v bytes is s = number_is (record { latent_value = L; metadata = bits / (2 * L) }) v bits bytes (known bits L is) (bits_are bits L is) s

pub other_form : (L : ℕ) → (L ≡ 16) ⊎ (L ≡ 32) → (L ≡ 16 → ⊥) → L ≡ 32
other_form L (inl is) not = absurd (not is)
other_form L (inr is) not = is

-- the bits come into the first byte
pub bits_added : (bits : ℕ) (bytes : List ℕ) → 0 < length bytes → refill (length bytes) bytes (slice_set bytes 0 (slice_index bytes 0 + bits)) ≡ with_bits bits bytes
bits_added bits [] some = absurd (omega arith)
bits_added bits (b ∷ bytes) some =
    ap (λ x. x ∷ take (length bytes) (bytes ++ drop (length bytes) bytes)) (let e : b + bits ≡ bits + b = omega arith in e)
    ∙ ap (λ x. (bits + b) ∷ x) (ap (λ d. take (length bytes) (bytes ++ d)) (drop-length bytes) ∙ ap (take (length bytes)) (append-nil bytes) ∙ take-length bytes)
