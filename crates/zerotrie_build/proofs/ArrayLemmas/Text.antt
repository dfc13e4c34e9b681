-- A text that is written from its end into a buffer.
use Rattle.std.proofs.Common.{◌≡◌, ℕ, zero, suc, ◌+◌, ◌-◌, ◌<◌, ◌≤◌, List, [], ◌∷◌, ◌++◌, length, refl, sym, ◌∙◌, ap, subst, arith, append_assoc, length-append, take, drop, get_or, map}
use Rattle.std.specs.List.{range_with_len}
use Rattle.std.proofs.lemmas.List.{drop_more, take_more, get_or-reverse, get_or-map, length-reverse, length-map, reverse-append}
use Rattle.std.proofs.lemmas.List.Sums.{sum_by-cons}
use Rattle.zerotrie_base.specs.Branches.{total}
use Rattle.zerotrie_build.specs.declared.array.text.Sibling.{Sibling}
use Rattle.zerotrie_build.specs.declared.array.text.Text.{Text}
use Rattle.zerotrie_build.specs.array.Texts.{Counts, Has, Keeps, Prepends, newest_first, bytes_of, lens_of}
use Rattle.zerotrie_build.proofs.Nodes.{total_more}

-- nothing but the count in front was changed
pub keeps_same : (old new : Text) → new.buffer.ghost_name ≡ old.buffer.ghost_name → new.buffer.now ≡ old.buffer.now → new.len ≡ old.len → Keeps old new
keeps_same old new same e f = record { same_reference = same; room = ap length e; more = omega (arith, f); before = λ n l. ap (take n) e }

pub keeps_then : (a b c : Text) → Keeps a b → Keeps b c → Keeps a c
keeps_then a b c p q = record {
  same_reference = q.same_reference ∙ p.same_reference;
  room = q.room ∙ p.room;
  more = let m = p.more in let k = q.more in omega arith;
  before = λ n l. let m = q.more in let r = p.room in q.before n (omega arith) ∙ p.before n (omega arith);
}

pub puts_nothing : (t : Text) → Prepends t t []
puts_nothing t = record { keeps = keeps_same t t refl refl refl; has = λ behind h. h; counts = λ front h. subst (Counts t.front) (let e : front ≡ 0 + front = omega arith in e) h }

-- bytes in front of others
pub puts_then : (a b c : Text) (xs ys : List ℕ) → Prepends a b ys → Prepends b c xs → Prepends a c (xs ++ ys)
puts_then a b c xs ys p q = record {
  keeps = keeps_then a b c p.keeps q.keeps;
  has = λ behind h. subst (Has c) (sym (append_assoc xs ys behind)) (q.has (ys ++ behind) (p.has behind h));
  counts = λ front h.
      subst (Counts c.front) (let e : length xs + (length ys + front) ≡ length (xs ++ ys) + front = (let k = length-append xs ys in omega arith) in e)
      (q.counts (length ys + front) (p.counts front h));
}

pub puts_same : (a b : Text) (xs ys : List ℕ) → xs ≡ ys → Prepends a b xs → Prepends a b ys
puts_same a b xs ys e = subst (Prepends a b) e

-- the byte in front of those from a place on
pub puts_more : (a b c : Text) (xs : List ℕ) (i d : ℕ) → 0 < i → i ≤ length xs → d ≡ get_or xs (i - 1) 0 → Prepends a b (drop i xs) → Prepends b c (d ∷ []) → Prepends a c (drop (i - 1) xs)
puts_more a b c xs i d some within is p q =
    let next : i ≡ (i - 1) + 1 = omega arith in
    puts_same a c (d ∷ drop i xs) (drop (i - 1) xs)
    (ap (λ x. x ∷ drop i xs) is ∙ ap (λ k. get_or xs (i - 1) 0 ∷ drop k xs) next ∙ sym (drop_more xs (i - 1) 0 (omega arith)))
    (puts_then a b c (d ∷ []) (drop i xs) p q)

pub length-lens : (ss : List Sibling) → length (lens_of (newest_first ss)) ≡ length ss
length-lens ss = length-map (newest_first ss) (λ s. s.len) ∙ length-reverse ss

-- the length of a sibling, counted from the other end
pub len_at : (ss : List Sibling) (i : ℕ) (d : Sibling) → 0 < i → i ≤ length ss → get_or (lens_of (newest_first ss)) (length ss - i) 0 ≡ (get_or ss (i - 1) d).len
len_at ss i d some within =
    let far : length ss - 1 - (length ss - i) ≡ i - 1 = omega arith in
    get_or-map (λ r. r.len) (newest_first ss) (length ss - i) d 0 (let k = length-reverse ss in omega arith)
    ∙ ap (λ r. r.len) (get_or-reverse ss (length ss - i) d (omega arith) ∙ ap (λ k. get_or ss k d) far)

-- where the target before ends
pub end_before : (ss : List Sibling) (i end len : ℕ) → 1 ≤ i → i < length ss → end ≡ total (take (length ss - (i - 1)) (lens_of (newest_first ss))) → get_or (lens_of (newest_first ss)) (length ss - i) 0 ≡ len
    → end ≡ total (take (length ss - i) (lens_of (newest_first ss))) + len
end_before ss i end len some within is at =
    let ls = lens_of (newest_first ss) in
    let k = length-lens ss in
    let next : suc (length ss - i) ≡ length ss - (i - 1) = omega arith in
    let more : total (take (length ss - i) ls) + get_or ls (length ss - i) 0 ≡ total (take (suc (length ss - i)) ls) = total_more ls (length ss - i) (omega arith) in
    is ∙ ap (λ j. total (take j ls)) (sym next) ∙ sym more ∙ ap (λ x. total (take (length ss - i) ls) + x) at

-- one offset more in front
pub block_more : (f g : ℕ → ℕ) (n i : ℕ) → 1 ≤ i → i < n → g (f (n - i)) ∷ map g (map f (range_with_len (n - (i - 1)) (i - 1))) ≡ map g (map f (range_with_len (n - i) i))
block_more f g n i some within =
    let first : n - (i - 1) ≡ (n - i) + 1 = omega arith in
    let count : suc (i - 1) ≡ i = omega arith in
    ap (λ a. g (f (n - i)) ∷ map g (map f (range_with_len a (i - 1)))) first ∙ ap (λ c. map g (map f (range_with_len (n - i) c))) count

pub all_blocks : (g f : ℕ → ℕ) (n i k : ℕ) → i ≡ k → (0 < i → n ≡ i + 1) → map g (map f (range_with_len (n - i) i)) ≡ map g (map f (range_with_len 1 k))
all_blocks g f n zero k e h = ap (λ c. map g (map f (range_with_len 1 c))) e
all_blocks g f n (suc i) k e h =
    let first : n - suc i ≡ 1 = (let c = h (omega arith) in omega arith) in
    ap (λ a. map g (map f (range_with_len a (suc i)))) first ∙ ap (λ c. map g (map f (range_with_len 1 c))) e

-- the edges of siblings in their order
pub bytes_more : (ss : List Sibling) (s : Sibling) → bytes_of (newest_first (ss ++ s ∷ [])) ≡ s.byte ∷ bytes_of (newest_first ss)
bytes_more ss s = ap bytes_of (reverse-append ss (s ∷ []))

pub total_first : (x : ℕ) (xs : List ℕ) → total (x ∷ xs) ≡ x + total xs
total_first x xs = sum_by-cons (λ n. n) x xs

pub lens_more : (ss : List Sibling) (s : Sibling) → total (lens_of (newest_first (ss ++ s ∷ []))) ≡ s.len + total (lens_of (newest_first ss))
lens_more ss s = ap (λ x. total (lens_of x)) (reverse-append ss (s ∷ [])) ∙ total_first s.len (lens_of (newest_first ss))

pub edges_take : (ss : List Sibling) (i : ℕ) (d : Sibling) → i < length ss → (get_or ss i d).byte ∷ bytes_of (newest_first (take i ss)) ≡ bytes_of (newest_first (take (i + 1) ss))
edges_take ss i d within = sym (ap (λ x. bytes_of (newest_first x)) (take_more ss i d within) ∙ bytes_more (take i ss) (get_or ss i d))

pub lens_take : (ss : List Sibling) (i : ℕ) (d : Sibling) → i < length ss → total (lens_of (newest_first (take (i + 1) ss))) ≡ (get_or ss i d).len + total (lens_of (newest_first (take i ss)))
lens_take ss i d within = ap (λ x. total (lens_of (newest_first x))) (take_more ss i d within) ∙ lens_more (take i ss) (get_or ss i d)
