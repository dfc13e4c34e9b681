-- Heads of one byte and of two, and longer ones.
use Rattle.std.proofs.Common.{◌≡◌, ℕ, zero, suc, ◌+◌, ◌-◌, ◌*◌, ◌/◌, ◌%◌, ◌<◌, ◌≤◌, List, [], ◌∷◌, ◌++◌, length, refl, sym, ◌∙◌, ap, subst, arith}
use Rattle.zerotrie_base.specs.Numbers.{BeginsWith, extender, latent, base_128, IsTrail}
use Rattle.zerotrie_base.proofs.NumberLemmas.Numbers.{cons_parts}

pub head_of_one : (lead : ℕ) (rest : List ℕ) → 192 ≤ lead → lead < 224 → BeginsWith 32 3 (lead % 32) (lead ∷ rest) rest
head_of_one lead rest high low = record {
  spelling = lead ∷ [];
  spells = record {
    digit = lead % 32;
    trail = [];
    below = omega arith;
    digit_below = omega arith;
    is_trail = tt;
    bytes_are = ap (λ x. x ∷ []) (omega arith);
    value = omega arith;
  };
  bytes_are = refl;
}

pub head_of_two : (lead next : ℕ) (rest : List ℕ) → 224 ≤ lead → lead < 256 → next < 128 → BeginsWith 32 3 (lead % 32 * 128 + next + 32) (lead ∷ next ∷ rest) rest
head_of_two lead next rest high low small = record {
  spelling = lead ∷ next ∷ [];
  spells = record {
    digit = lead % 32;
    trail = next ∷ [];
    below = omega arith;
    digit_below = omega arith;
    is_trail = small;
    bytes_are = ap (λ x. x ∷ next ∷ []) (omega arith);
    value = omega arith;
  };
  bytes_are = refl;
}

latent_two : (n : ℕ) → 4128 ≤ latent 32 (suc (suc n))
latent_two zero = omega arith
latent_two (suc n) = let h = latent_two n in omega arith

long_trail : (digit v : ℕ) (trail : List ℕ) → v ≡ base_128 digit trail + latent 32 (length trail) → 2 ≤ length trail → 4128 ≤ v
long_trail digit v [] e h = absurd (omega arith)
long_trail digit v (t ∷ []) e h = absurd (omega arith)
long_trail digit v (t ∷ u ∷ ts) e h = let l = latent_two (length ts) in omega arith

-- a longer head is too large
pub head_long : (lead next v : ℕ) (rest all after : List ℕ) → 224 ≤ lead → 128 ≤ next → all ≡ next ∷ rest → BeginsWith 32 3 v (lead ∷ all) after → 4128 ≤ v
head_long lead next v rest all after high large e b = long b.spells.trail refl
  where
    long : (trail : List ℕ) → b.spells.trail ≡ trail → 4128 ≤ v
    long [] f =
        let is = (cons_parts lead _ all _ (b.bytes_are ∙ ap (λ x. x ++ after) b.spells.bytes_are)).0 in
        let one : extender b.spells.trail ≡ 0 = ap extender f in
        let small = b.spells.digit_below in
        absurd (omega arith)
    long (t ∷ []) f =
        let is = (cons_parts lead _ all _ (b.bytes_are ∙ ap (λ x. x ++ after) b.spells.bytes_are)).1 in
        let first = (cons_parts next t rest after (sym e ∙ is ∙ ap (λ x. x ++ after) f)).0 in
        let small : t < 128 = subst IsTrail f b.spells.is_trail in
        absurd (omega arith)
    long (t ∷ u ∷ ts) f = long_trail b.spells.digit v b.spells.trail b.spells.value (omega (arith, ap length f))

-- and those that tell the edges in their last byte
pub plain_of_one : (lead : ℕ) (rest : List ℕ) → 194 ≤ lead → lead < 224 → BeginsWith 32 3 ((lead - 192) % 256) (lead ∷ rest) rest
plain_of_one lead rest high low =
    let same : lead % 32 ≡ (lead - 192) % 256 = omega arith in
    subst (λ v. BeginsWith 32 3 v (lead ∷ rest) rest) same (head_of_one lead rest (omega arith) low)

pub plain_of_two : (lead next : ℕ) (rest : List ℕ) → 224 ≤ lead → lead < 256 → lead % 2 ≡ 1 → 98 ≤ next → next < 128
    → BeginsWith 32 3 (256 * (lead / 2 - 110 - 1) + (next - 96) % 256) (lead ∷ next ∷ rest) rest
plain_of_two lead next rest high low odd many small =
    let same : lead % 32 * 128 + next + 32 ≡ 256 * (lead / 2 - 110 - 1) + (next - 96) % 256 = omega arith in
    subst (λ v. BeginsWith 32 3 v (lead ∷ next ∷ rest) rest) same (head_of_two lead next rest high low small)
