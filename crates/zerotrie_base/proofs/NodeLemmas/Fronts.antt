-- The bytes of a branch in front of its targets: the width, the offsets and the length.
use Rattle.std.proofs.Common.{◌≡◌, ℕ, zero, suc, ◌+◌, ◌-◌, ◌*◌, ◌/◌, ◌%◌, ◌^◌, ◌<◌, ◌≤◌, List, [], ◌∷◌, ◌++◌, length, refl, sym, ◌∙◌, ap, subst, arith, inl, inr, map, take, append_assoc, length-append, lit<}
use Rattle.std.specs.List.{concat, range_with_len}
use Rattle.std.proofs.lemmas.Nat.{pow-add}
use Rattle.std.specs.Prelude.{max}
use Rattle.std.proofs.Math.Nat.{pow-suc, pow-le-pow_right, div-lt_iff_lt-mul}
use Rattle.std.proofs.lemmas.Bool.{cases_lt, lt-ltb, le-ltb}
use Rattle.std.proofs.lemmas.List.{length-map, take-map}
use Rattle.std.proofs.lemmas.List.FromFn.{length-map-range_with_len}
use Rattle.std.proofs.lemmas.List.Sums.{sum_by-cons}
use Rattle.zerotrie_base.specs.Kind.{Kind}
use Rattle.zerotrie_base.specs.Numbers.{branch_form, SpellsAs, spelled_as}
use Rattle.zerotrie_base.specs.Branches.{IsBranch, IsWidth, width, width_to, total, ends, offsets, blocks, branch_front}
use Rattle.zerotrie_base.specs.Canonical.{node, branch_node}
use Rattle.zerotrie_base.proofs.NodeLemmas.Offsets.{length-blocks}
use Rattle.zerotrie_base.proofs.NumberLemmas.Spellings.{spelling_is}
use Rattle.zerotrie_base.proofs.MapLemmas.Alike.{map_agree}

pub small_width : (n : ℕ) → n < 256 → IsWidth n 0
small_width n h = record { enough = (let one : 256 ^ (0 + 1) ≡ 256 = refl in omega arith); least = λ x g. omega arith }

-- 256 times as much is one wider
pub wider : (n w : ℕ) → 256 ≤ n → IsWidth (n / 256) w → IsWidth n (w + 1)
wider n w large is = record {
  enough = rw (power w) ((div-lt_iff_lt-mul (lit< tt)).0 is.enough);
  least = least_of;
}
  where
    power : (x : ℕ) → 256 ^ ((x + 1) + 1) ≡ 256 ^ (x + 1) * 256
    power x = let e : (x + 1) + 1 ≡ suc (x + 1) = omega arith in rw e (pow-suc 256 (x + 1))

    least_of : (x : ℕ) → n < 256 ^ (x + 1) → w + 1 ≤ x
    least_of zero g = absurd (let one : 256 ^ (0 + 1) ≡ 256 = refl in omega arith)
    least_of (suc y) g =
        let next : suc y ≡ y + 1 = omega arith in
        let more : n < 256 ^ (y + 1) * 256 = subst (λ p. n < p) (ap (λ x. 256 ^ (x + 1)) next ∙ power y) g in
        let h = is.least y ((div-lt_iff_lt-mul (lit< tt)).1 more) in
        omega arith

pub width_right : (more n : ℕ) → n ≤ more → IsWidth n (width_to more n)
width_right zero n h = small_width n (omega arith)
width_right (suc more) n h =
    elim (cases_lt n 256) [
      | inl small ↦ rw (lt-ltb n 256 small) (small_width n small)
      | inr large ↦
          let next : width_to more (n / 256) + 1 ≡ 1 + width_to more (n / 256) = omega arith in
          rw (le-ltb n 256 large) (subst (IsWidth n) next (wider n (width_to more (n / 256)) large (width_right more (n / 256) (omega arith))))
    ]

-- the width is the least
pub IsWidth-width : (n : ℕ) → IsWidth n (width n)
unfolding width
IsWidth-width n = width_right n n (omega arith)

pub width_is : (n w : ℕ) → IsWidth n w → w ≡ width n
width_is n w is =
    let r = IsWidth-width n in
    let a = is.least (width n) r.enough in
    let b = r.least w is.enough in
    omega arith

-- the width by the number of bits, less one
pub width_by_bits : (n r : ℕ) → 2 ^ r ≤ max n 1 → max n 1 < 2 * 2 ^ r → IsWidth n (r / 8)
width_by_bits n r low high = record {
  enough = (
      let more : 2 ^ suc r ≤ 2 ^ (8 * (r / 8 + 1)) = pow-le-pow_right (omega arith) (omega arith) in
      let step = pow-suc 2 r in
      let e = bytes_bits (r / 8 + 1) in
      omega arith
      );
  least = λ x h. elim (cases_lt x (r / 8)) [
    | inl less ↦
        let more : 2 ^ (8 * (x + 1)) ≤ 2 ^ r = pow-le-pow_right (omega arith) (omega arith) in
        let e = bytes_bits (x + 1) in
        let some : 1 ≤ x + 1 = omega arith in
        let large : 256 ^ 1 ≤ 256 ^ (x + 1) = pow-le-pow_right (lit< tt) some in
        let one : 256 ^ 1 ≡ 256 = refl in
        absurd (omega arith)
    | inr enough ↦ enough
  ];
}
  where
    bytes_bits : (k : ℕ) → 256 ^ k ≡ 2 ^ (8 * k)
    bytes_bits zero = refl
    bytes_bits (suc k) =
        let e : 8 * suc k ≡ 8 * k + 8 = omega arith in
        let eight : 2 ^ 8 ≡ 256 = refl in
        pow-suc 256 k ∙ rw (bytes_bits k, e, pow-add 2 (8 * k) 8) refl

-- what an offset of some width reaches, each wider one does
pub within_width : (most w n : ℕ) → w ≤ most → IsWidth n w → n < 256 ^ (most + 1)
within_width most w n h is = let up : 256 ^ (w + 1) ≤ 256 ^ (most + 1) = pow-le-pow_right (lit< tt) (let k : w + 1 ≤ most + 1 = omega arith in k) in omega (arith, is.enough)

pub total-lengths : (targets : List (List ℕ)) → total (map length targets) ≡ length (concat targets)
total-lengths [] = refl
total-lengths (t ∷ targets) = sum_by-cons (λ n. n) (length t) (map length targets) ∙ ap (λ n. length t + n) (total-lengths targets) ∙ sym (length-append t (concat targets))

ends-lengths : (targets : List (List ℕ)) → ends (map length targets) ≡ offsets targets
ends-lengths targets =
    ap (λ n. map (λ i. total (take i (map length targets))) (range_with_len 1 (n - 1))) (length-map targets length)
    ∙ map_agree _ _ (range_with_len 1 (length targets - 1)) (λ i. ap total (take-map length i targets) ∙ total-lengths (take i targets))

-- the front and the targets, by the targets alone
pub front_targets : (table : List ℕ) (targets : List (List ℕ)) (n : ℕ) → length targets ≡ n
    → branch_front table (map length targets) ++ concat targets
    ≡ spelled_as branch_form (256 * width (length (concat targets)) + n % 256) ++ (table ++ (blocks (width (length (concat targets)) + 1) (offsets targets) ++ concat targets))
front_targets table targets n is =
    let w = width (length (concat targets)) in
    let head = spelled_as branch_form (256 * w + n % 256) in
    let front : ℕ → ℕ → List ℕ → List ℕ = λ t k os. (spelled_as branch_form (256 * width t + k % 256) ++ (table ++ blocks (width t + 1) os)) ++ concat targets in
    ap (λ t. front t (length (map length targets)) (ends (map length targets))) (total-lengths targets)
    ∙ ap (λ k. front (length (concat targets)) k (ends (map length targets))) (length-map targets length ∙ is)
    ∙ ap (front (length (concat targets)) n) (ends-lengths targets)
    ∙ append_assoc head (table ++ blocks (w + 1) (offsets targets)) (concat targets)
    ∙ ap (λ x. head ++ x) (append_assoc table (blocks (w + 1) (offsets targets)) (concat targets))

-- the bytes of a branch are a front and its targets
pub front_written : (table head : List ℕ) (w n : ℕ) (targets : List (List ℕ)) → length targets ≡ n → IsWidth (length (concat targets)) w → SpellsAs branch_form (256 * w + n % 256) head
    → head ++ (table ++ (blocks (w + 1) (offsets targets) ++ concat targets)) ≡ branch_front table (map length targets) ++ concat targets
front_written table head w n targets count is spells =
    let behind : ℕ → List ℕ = λ x. table ++ (blocks (x + 1) (offsets targets) ++ concat targets) in
    ap (λ h. h ++ behind w) (spelling_is branch_form (256 * w + n % 256) head (inr refl) spells)
    ∙ ap (λ x. spelled_as branch_form (256 * x + n % 256) ++ behind x) (width_is (length (concat targets)) w is)
    ∙ sym (front_targets table targets n count)

pub branch_is_front : {kind : Kind} {edges : List ℕ} {targets : List (List ℕ)} {bytes : List ℕ} (b : IsBranch kind edges targets bytes) → bytes ≡ branch_front b.table (map length targets) ++ concat targets
branch_is_front {edges = edges} {targets = targets} b = b.bytes_are ∙ front_written b.table b.head b.width (length edges) targets b.a_target_each b.is_width b.is_head

-- how long a front without its table is, by how many targets there are and how many bytes they have
abbrev pub front_len : ℕ → ℕ → ℕ
front_len t n = length (spelled_as branch_form (256 * width t + n % 256)) + (width t + 1) * (n - 1)

pub length-branch_front : (table lengths : List ℕ) → length (branch_front table lengths) ≡ length table + front_len (total lengths) (length lengths)
length-branch_front table lengths =
    let w = width (total lengths) in
    let head = spelled_as branch_form (256 * w + length lengths % 256) in
    let a = length-append head (table ++ blocks (w + 1) (ends lengths)) in
    let b = length-append table (blocks (w + 1) (ends lengths)) in
    let c = length-blocks (w + 1) (ends lengths) ∙ ap (λ n. (w + 1) * n) (length-map-range_with_len (λ i. total (take i lengths)) 1 (length lengths - 1)) in
    omega arith

pub node_many : (edges : List ℕ) (targets : List (List ℕ)) → 2 ≤ length edges → node edges targets ≡ branch_node edges targets
node_many [] targets h = absurd (omega arith)
node_many (b ∷ []) targets h = absurd (omega arith)
node_many (b ∷ c ∷ more) targets h = refl
