-- The canonical text of a map that fits means it.
use Rattle.std.proofs.Common.{◌≡◌, ℕ, suc, ◌^◌, ◌<◌, List, [], ◌∷◌, length, refl, sym, ◌∙◌, ap, subst, arith, Bool, true, false, cond, get_or, Option, Some, inl, inr, ◌⊎◌}
use Rattle.std.specs.Prelude.{All, ◌==◌}
use Rattle.std.specs.FinMap.{entries, same_map, get-entries, get-from_entries, slice_cmp-IsAntisymmetric, nat_cmp-IsAntisymmetric}
use Rattle.std.specs.Cmp.Lexicographic.{nat_list_cmp_total}
use Rattle.zerotrie_base.specs.Kind.{Kind, simple_ascii, IsAscii, edge_limit, same_byte}
use Rattle.zerotrie_base.specs.Maps.{Pairs, Map, map_of, value_at, same_key, longest, common_front}
use Rattle.zerotrie_base.specs.Texts.{Means}
use Rattle.zerotrie_base.specs.Canonical.{enc, enc_of, size}
use Rattle.zerotrie_base.specs.Fits.{Fits}
use Rattle.zerotrie_base.specs.plain.Encoding.{AsciiKey}
use Rattle.zerotrie_base.proofs.MapLemmas.Alike.{Same, value_at-find, exact_same, longest_least, same-size_of}
use Rattle.zerotrie_base.proofs.CanonicalLemmas.Lengths.{listed_size}
use Rattle.zerotrie_base.proofs.CanonicalLemmas.Encoded.{Sound, listed_enc}
use Rattle.zerotrie_base.proofs.MapLemmas.Kinds.{edge_limit_is}

-- where a key with an answer stands
record Found (pairs : Pairs) (key : List ℕ) (v : ℕ) : Type 0 where
  place : ℕ
  inside : place < length pairs
  is : (d : List ℕ × ℕ) → get_or pairs place d ≡ (key, v)

here_or_later : (same : Bool) (u v : ℕ) (x : Option ℕ) → cond same (Some u) x ≡ Some v → ((same ≡ true) × (u ≡ v)) ⊎ (x ≡ Some v)
here_or_later true u v x h = inl (refl, cc)
here_or_later false u v x h = inr h

found : (pairs : Pairs) (key : List ℕ) (v : ℕ) → value_at simple_ascii pairs key ≡ Some v → Found pairs key v
found [] key v h = absurd (cc)
found ((k, u) ∷ pairs) key v h = elim (here_or_later (same_key simple_ascii k key) u v (value_at simple_ascii pairs key) h) [
  | inl here ↦ record { place = 0; inside = omega arith; is = λ d. ap (λ x. (x, u)) (exact_same k key here.0) ∙ ap (λ n. (key, n)) here.1 }
  | inr later ↦ let f = found pairs key v later in let inside = f.inside in record { place = suc f.place; inside = omega arith; is = f.is }
]

key_ascii : (key : List ℕ) → All (λ b. b < 128) key → AsciiKey key
key_ascii [] h = tt
key_ascii (b ∷ key) h = (h 0 0 (omega arith), key_ascii key (λ i d l. h (suc i) d (omega arith)))

-- what a map that fits answers
sound : (kind : Kind) → IsAscii kind → (m : Map) → Fits kind m → Sound kind (suc (longest (entries m))) (entries m)
sound kind is_ascii m fits =
    let pairs = entries m in
    let none : List ℕ × ℕ = ([], 0) in
    record {
      shorter = λ key v h. (let n = longest_least pairs key v h in omega arith);
      ascii = λ key v h. (let f = found pairs key v h in
          let low : All (λ b. b < edge_limit kind) key = subst (λ e. All (λ b. b < edge_limit kind) e.0) (f.is none) (fits.key_bytes f.place none f.inside) in
          key_ascii key (subst (λ n. All (λ b. b < n) key) (edge_limit_is kind is_ascii) low));
      small = λ key v h. (let f = found pairs key v h in subst (λ e. e.1 < 2 ^ 64) (f.is none) (fits.values f.place none f.inside));
      agree = λ k l v w h g. (let a = found pairs k v h in let b = found pairs l w g in
          subst (λ e. common_front (same_byte kind) e.0 l ≡ common_front (λ x y. x == y) e.0 l) (a.is none)
          (subst (λ e. common_front (same_byte kind) (get_or pairs a.place none).0 e.0 ≡ common_front (λ x y. x == y) (get_or pairs a.place none).0 e.0) (b.is none)
          (fits.case a.place none a.inside b.place none b.inside)));
    }

-- a map is the map of a list that answers as its entries
map_same : (m : Map) (listed : Pairs) → Same listed (entries m) → m ≡ map_of listed
map_same m listed same =
    same_map nat_list_cmp_total (slice_cmp-IsAntisymmetric nat_cmp-IsAntisymmetric) m (map_of listed) (λ key.
    get-entries m key ∙ sym (value_at-find (entries m) key) ∙ sym (same key) ∙ value_at-find listed key ∙ sym (get-from_entries nat_list_cmp_total listed key))

pub enc_means : (kind : Kind) → IsAscii kind → (m : Map) → Fits kind m → Means kind (enc kind m) m
unfolding enc enc_of size
enc_means kind is_ascii m fits =
    let pairs = entries m in
    let text = listed_enc (suc (longest pairs)) kind pairs is_ascii (sound kind is_ascii m fits) fits.narrow in
    record {
      short = subst (λ n. n < 2 ^ 64) (sym (same-size_of kind text.listed pairs text.same) ∙ listed_size text.lists) fits.short;
      pairs = text.listed;
      lists = text.lists;
      is = map_same m text.listed text.same;
    }
