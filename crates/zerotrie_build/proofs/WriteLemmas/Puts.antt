-- Bytes that are written at the end of a text.
use Rattle.std.proofs.Common.{◌≡◌, ℕ, zero, suc, ◌+◌, ◌<◌, ◌≤◌, List, [], ◌∷◌, ◌++◌, length, refl, sym, ◌∙◌, ap, subst, arith, append_assoc, length-append, take, get_or}
use Rattle.std.proofs.Common.{◌-◌, ◌*◌, ◌/◌, ◌%◌, ◌^◌, ◌⊎◌, map}
use Rattle.std.proofs.lemmas.List.{append-nil, get_or-map}
use Rattle.std.proofs.lemmas.List.Sums.{sum_by-cons}
use Rattle.std.proofs.lemmas.List.FromFn.{length-map-range_with_len}
use Rattle.std.specs.List.{range_with_len}
use Rattle.zerotrie_base.specs.Numbers.{Form, Spells, extender, spelled_as, branch_form}
use Rattle.zerotrie_base.specs.Branches.{IsWidth, blocks, total, ends, branch_front}
use Rattle.zerotrie_base.proofs.CallerLemmas.{below_metadata, spelling_is, Completes, length-blocks, width_is}
use Rattle.zerotrie_build.specs.passes.Written.{Written}
use Rattle.zerotrie_build.specs.passes.Writes.{Writes}
use Rattle.zerotrie_base.specs.plain.Encoding.{with_bits}
use Rattle.zerotrie_build.specs.passes.Writing.{target_lens}

pub puts_nothing : (start : Written) → Writes start start []
puts_nothing start = record { is = sym (append-nil start.bytes); same = refl }

pub puts_then : {old new newer : Written} {xs ys : List ℕ} → Writes old new xs → Writes new newer ys → Writes old newer (xs ++ ys)
puts_then {old = old} {xs = xs} {ys = ys} p q = record {
  is = q.is ∙ ap (λ t. t ++ ys) p.is ∙ append_assoc old.bytes xs ys;
  same = q.same ∙ p.same;
}

pub puts_same : {old new : Written} {xs ys : List ℕ} → xs ≡ ys → Writes old new xs → Writes old new ys
puts_same {old = old} {new = new} e = subst (Writes old new) e

pub grows : {old new : Written} {xs : List ℕ} → Writes old new xs → length new.bytes ≡ length old.bytes + length xs
grows {old = old} {xs = xs} p = ap length p.is ∙ length-append old.bytes xs

-- a number with bits of metadata is its spelling
pub number_is : (form : Form) (v bits : ℕ) (bytes : List ℕ) → (form.latent_value ≡ 16) ⊎ (form.latent_value ≡ 32) → bits ≡ form.metadata * (2 * form.latent_value)
    → Spells form.latent_value 0 v bytes → with_bits bits bytes ≡ spelled_as form v
number_is form v bits bytes known e s =
    let b = below_metadata form.latent_value 0 v bytes s in
    let is : bytes ≡ b.0 ∷ b.1 = b.3 ∙ ap (λ x. x ∷ b.1) (let z : 0 * (2 * form.latent_value) + b.0 ≡ b.0 = omega arith in z) in
    ap (with_bits bits) is ∙ ap (λ x. (x + b.0) ∷ b.1) e ∙ spelling_is form v ((form.metadata * (2 * form.latent_value) + b.0) ∷ b.1) known (b.4 form.metadata)

length-with_bits : (bits : ℕ) (bytes : List ℕ) → length (with_bits bits bytes) ≡ length bytes
length-with_bits bits [] = refl
length-with_bits bits (b ∷ bytes) = refl

pub number_len : (form : Form) (v bits : ℕ) (bytes : List ℕ) → (form.latent_value ≡ 16) ⊎ (form.latent_value ≡ 32) → bits ≡ form.metadata * (2 * form.latent_value)
    → Spells form.latent_value 0 v bytes → length bytes ≡ length (spelled_as form v)
number_len form v bits bytes known e s = sym (length-with_bits bits bytes) ∙ ap length (number_is form v bits bytes known e s)

-- A number has one byte more than its trail.
pub spelled_len : (form : Form) (L v rest : ℕ) (trail : List ℕ) → (L ≡ 16) ⊎ (L ≡ 32) → form.latent_value ≡ L → v < 2 ^ 64 → rest < L
    → Completes L v rest trail → length (spelled_as form v) ≡ suc (length trail)
spelled_len form L v rest trail known is below digit c =
    let c' : Completes form.latent_value v rest trail = subst (λ x. Completes x v rest trail) (sym is) c in
    sym (ap length (spelling_is form v ((form.metadata * (2 * form.latent_value) + extender trail * form.latent_value + rest) ∷ trail)
    (subst (λ x. (x ≡ 16) ⊎ (x ≡ 32)) (sym is) known)
    (record { digit = rest; trail = trail; below = below; digit_below = omega arith; is_trail = c'.is_trail; bytes_are = refl; value = c'.value })))

pub count_map : {A B : Type 0} (f : A → B) (xs : List A) → length (map f xs) ≡ length xs
count_map f [] = refl
count_map f (x ∷ xs) = ap suc (count_map f xs)

pub block_first : (place : ℕ) (os : List ℕ) → 0 < place → blocks place os ≡ map (λ o. o / 256 ^ (place - 1) % 256) os ++ blocks (place - 1) os
block_first zero os h = absurd (omega arith)
block_first (suc p) os h = let e : p ≡ suc p - 1 = omega arith in ap (λ q. map (λ o. o / 256 ^ q % 256) os ++ blocks q os) e

length-ends : (lens : List ℕ) → length (ends lens) ≡ length lens - 1
length-ends lens = length-map-range_with_len (λ i. total (take i lens)) 1 (length lens - 1)

pub blocks_len : (done : List ℕ) (place bytes : ℕ) (lens : List ℕ) → 0 < place → done ++ blocks place (ends lens) ≡ blocks bytes (ends lens) → length done + (length lens - 1) ≤ bytes * (length lens - 1)
blocks_len done place bytes lens h e =
    let os = ends lens in
    let a = ap length e in
    let b = length-append done (blocks place os) in
    let c = length-blocks bytes os ∙ ap (λ n. bytes * n) (length-ends lens) in
    let d = ap length (block_first place os h) ∙ length-append (map (λ o. o / 256 ^ (place - 1) % 256) os) (blocks (place - 1) os) in
    let f = count_map (λ o. o / 256 ^ (place - 1) % 256) os ∙ length-ends lens in
    omega arith

pub block_so_far : (place i : ℕ) (lens : List ℕ) → length (map (λ o. o / 256 ^ place % 256) (map (λ j. total (take j lens)) (range_with_len 1 (i - 1)))) ≡ i - 1
block_so_far place i lens = count_map _ (map (λ j. total (take j lens)) (range_with_len 1 (i - 1))) ∙ length-map-range_with_len (λ j. total (take j lens)) 1 (i - 1)

pub total_push : (xs : List ℕ) (x : ℕ) → total (xs ++ x ∷ []) ≡ total xs + x
total_push [] x = omega (arith, sum_by-cons (λ n. n) x [])
total_push (y ∷ xs) x = let a = sum_by-cons (λ n. n) y (xs ++ x ∷ []) in let b = sum_by-cons (λ n. n) y xs in let r = total_push xs x in omega arith

pub total_append : (xs ys : List ℕ) → total (xs ++ ys) ≡ total xs + total ys
total_append [] ys = omega arith
total_append (y ∷ xs) ys = let a = sum_by-cons (λ n. n) y (xs ++ ys) in let b = sum_by-cons (λ n. n) y xs in let r = total_append xs ys in omega arith

pub total_take : (xs : List ℕ) (n : ℕ) → total (take n xs) ≤ total xs
total_take xs zero = omega arith
total_take [] (suc n) = omega arith
total_take (x ∷ xs) (suc n) = let a = sum_by-cons (λ n. n) x (take n xs) in let b = sum_by-cons (λ n. n) x xs in let r = total_take xs n in omega arith

-- the length of one of the targets
pub lens_at : (ls ns : List ℕ) (i : ℕ) → i < length ns → get_or (target_lens ls ns) i 0 ≡ get_or ls (get_or ns i 0) 0
lens_at ls ns i h = get_or-map (λ j. get_or ls j 0) ns i 0 0 h

pub count_lens : (ls ns : List ℕ) → length (target_lens ls ns) ≡ length ns
count_lens ls ns = count_map (λ j. get_or ls j 0) ns

pub lens_take : (ls : List ℕ) (n : ℕ) (ns : List ℕ) → take n (target_lens ls ns) ≡ target_lens ls (take n ns)
lens_take ls zero ns = refl
lens_take ls (suc n) [] = refl
lens_take ls (suc n) (j ∷ ns) = ap (λ x. get_or ls j 0 ∷ x) (lens_take ls n ns)

-- the bytes of a branch in front of its targets, by the width and the number of these
pub front_is : (table lens : List ℕ) (w n : ℕ) → IsWidth (total lens) w → length lens ≡ n
    → spelled_as branch_form (256 * w + n % 256) ++ (table ++ blocks (w + 1) (ends lens)) ≡ branch_front table lens
front_is table lens w n is count =
    ap (λ k. spelled_as branch_form (256 * w + k % 256) ++ (table ++ blocks (w + 1) (ends lens))) (sym count)
    ∙ ap (λ x. spelled_as branch_form (256 * x + length lens % 256) ++ (table ++ blocks (x + 1) (ends lens))) (width_is (total lens) w is)

pub front_long : (table lens : List ℕ) (w n : ℕ) → IsWidth (total lens) w → length lens ≡ n
    → length (branch_front table lens) ≡ length (spelled_as branch_form (256 * w + n % 256)) + (length table + (w + 1) * (n - 1))
front_long table lens w n is count =
    let whole = ap length (sym (front_is table lens w n is count)) in
    let a = length-append (spelled_as branch_form (256 * w + n % 256)) (table ++ blocks (w + 1) (ends lens)) in
    let b = length-append table (blocks (w + 1) (ends lens)) in
    let c = length-blocks (w + 1) (ends lens) ∙ ap (λ k. (w + 1) * k) (length-ends lens ∙ ap (λ k. k - 1) count) in
    omega arith
