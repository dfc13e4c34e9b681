-- Items from a place on, and their pairs from a depth on.
use Rattle.std.proofs.Common.{◌≡◌, ℕ, zero, suc, ◌+◌, ◌*◌, ◌<◌, ◌≤◌, List, [], ◌∷◌, ◌++◌, length, refl, sym, ◌∙◌, ap, subst, arith, get_or, take, drop, inl, inr, length-drop, append_assoc}
use Rattle.std.proofs.lemmas.Bool.{cases_lt, eqb-true, eq-eqb}
use Rattle.std.specs.Prelude.{◌==◌}
use Rattle.std.proofs.Common.{true, false}
use Rattle.std.proofs.lemmas.List.{drop_all, append-nil, nil_from_length}
use Rattle.std.proofs.Math.Seq.{drop-cons}
use Rattle.zerotrie_base.specs.Numbers.{Spells, extender}
use Rattle.zerotrie_base.specs.Maps.{Pairs, with_front, Ascends, FirstAbove}
use Rattle.zerotrie_base.specs.Items.{Items}
use Rattle.zerotrie_base.specs.plain.Encoding.{pairs_from, Deep, BeginsAll, BeginsNone, IsBranching, WritesFront, with_bits, weight}
use Rattle.zerotrie_base.proofs.CanonicalLemmas.Encoded.{above_nil}
use Rattle.zerotrie_base.proofs.PlainLemmas.Items.{no_item, key_at}
use Rattle.zerotrie_base.proofs.PlainLemmas.Groups.{Group, Grown, FirstOther, NoneEnds, weight-front, some_long}

pub drop_here : (items : Items) (at : ℕ) → at < length items → drop at items ≡ get_or items at no_item ∷ drop (at + 1) items
drop_here items at h = drop-cons items at no_item h ∙ ap (λ d. get_or items at no_item ∷ drop d items) (let e : suc at ≡ at + 1 = omega arith in e)

-- a key ends at the depth
pub ended : (depth at : ℕ) (items : Items) → at < length items → length (key_at items at) ≡ depth → pairs_from depth (drop at items) ≡ ([], (get_or items at no_item).1) ∷ pairs_from depth (drop (at + 1) items)
ended depth at items h len =
    ap (pairs_from depth) (drop_here items at h)
    ∙ ap (λ k. (k, (get_or items at no_item).1) ∷ pairs_from depth (drop (at + 1) items)) (drop_all depth (key_at items at) (omega arith))

pub deep_next : (depth at : ℕ) (items : Items) → at < length items → Deep depth (drop at items) → Deep depth (drop (at + 1) items)
deep_next depth at items h deep = (subst (Deep depth) (drop_here items at h) deep).1

pub deep_here : (depth at : ℕ) (items : Items) → at < length items → Deep depth (drop at items) → depth ≤ length (key_at items at)
deep_here depth at items h deep = (subst (Deep depth) (drop_here items at h) deep).0

key_cut : (key : List ℕ) (depth byte : ℕ) → depth < length key → get_or key depth 0 ≡ byte → drop depth key ≡ byte ∷ drop (depth + 1) key
key_cut key depth byte h e = drop-cons key depth 0 h ∙ ap (λ b. b ∷ drop (suc depth) key) e ∙ ap (λ d. byte ∷ drop d key) (let s : suc depth ≡ depth + 1 = omega arith in s)

some_key : (depth : ℕ) (key : List ℕ) (v : ℕ) (pairs : Pairs) → depth ≤ length key → FirstAbove [] ((drop depth key, v) ∷ pairs) → depth + 1 ≤ length key
some_key depth key v pairs d h =
    elim (cases_lt depth (length key)) [
      | inl less ↦ omega arith
      | inr past ↦ let none : FirstAbove [] (([], v) ∷ pairs) = subst (λ k. FirstAbove [] ((k, v) ∷ pairs)) (drop_all depth key past) h in absurd (cc)
    ]

deep_more : (depth : ℕ) (items : Items) → Deep depth items → FirstAbove [] (pairs_from depth items) → Ascends (pairs_from depth items) → Deep (depth + 1) items
deep_more depth [] d h up = tt
deep_more depth (x ∷ items) d h up = (some_key depth x.0.now x.1 (pairs_from depth items) d.0 h, deep_more depth items d.1 (above_nil (drop depth x.0.now) (pairs_from depth items) up.0) up.1)

-- the first key goes on, so the others do
pub deeper : (depth at : ℕ) (items : Items) → at < length items → (length (key_at items at) ≡ depth → ⊥) → Deep depth (drop at items) → Ascends (pairs_from depth (drop at items)) → Deep (depth + 1) (drop at items)
deeper depth at items h longer deep up =
    let is = drop_here items at h in
    let key = key_at items at in
    let least = deep_here depth at items h deep in
    let inside : depth < length key = above_or (length key) depth least longer in
    let cut = key_cut key depth (get_or key depth 0) inside refl in
    let first : FirstAbove [] (pairs_from depth (get_or items at no_item ∷ drop (at + 1) items)) = subst (λ k. FirstAbove [] ((k, (get_or items at no_item).1) ∷ pairs_from depth (drop (at + 1) items))) (sym cut) refl in
    deep_more depth (drop at items) deep (subst (λ x. FirstAbove [] (pairs_from depth x)) (sym is) first) up
  where
    above_or : (a b : ℕ) → b ≤ a → (a ≡ b → ⊥) → b < a
    above_or a b le ne = omega arith

cons_pair : (k l : List ℕ) (v : ℕ) (xs ys : Pairs) → k ≡ l → xs ≡ ys → (k, v) ∷ xs ≡ (l, v) ∷ ys
cons_pair k l v xs ys e f = ap (λ z. (z, v) ∷ xs) e ∙ ap (λ z. (l, v) ∷ z) f

group_pairs : (depth byte : ℕ) (group : Items) → BeginsAll depth byte group → pairs_from depth group ≡ with_front byte (pairs_from (depth + 1) group)
group_pairs depth byte [] h = refl
group_pairs depth byte (x ∷ group) h = cons_pair (drop depth x.0.now) (byte ∷ drop (depth + 1) x.0.now) x.1 _ _ (key_cut x.0.now depth byte h.0 h.1) (group_pairs depth byte group h.2)

some_pairs : (depth : ℕ) (items : Items) → 0 < length items → pairs_from depth items ≡ [] → ⊥
some_pairs depth [] h e = omega arith
some_pairs depth (x ∷ items) h e = absurd (cc)

pub some_rest : (depth at : ℕ) (items : Items) → at < length items → pairs_from depth (drop at items) ≡ [] → ⊥
some_rest depth at items h = some_pairs depth (drop at items) (let n = length-drop at items in omega arith)

abbrev first_key : Pairs → List ℕ
first_key [] = []
first_key (x ∷ pairs) = x.0

abbrev later : Pairs → Pairs
later [] = []
later (x ∷ pairs) = pairs

same_first : (k l : List ℕ) (v w : ℕ) (xs ys : Pairs) → (k, v) ∷ xs ≡ (l, w) ∷ ys → (k ≡ l) × (xs ≡ ys)
same_first k l v w xs ys e = (ap first_key e, ap later e)

same_head : (b c : ℕ) (k l : List ℕ) → b ∷ k ≡ c ∷ l → b ≡ c
same_head b c k l e = cc

all_begin : (depth b : ℕ) (rest : Items) (behind : Pairs) → Deep (depth + 1) rest → pairs_from depth rest ≡ with_front b behind → BeginsAll depth b rest
all_begin depth b [] behind deep e = tt
all_begin depth b (x ∷ rest) [] deep e = absurd (cc)
all_begin depth b (x ∷ rest) (f ∷ behind) deep e =
    let same = same_first (drop depth x.0.now) (b ∷ f.0) x.1 f.1 (pairs_from depth rest) (with_front b behind) e in
    let inside : depth < length x.0.now = omega (arith, deep.0) in
    (inside, same_head (get_or x.0.now depth 0) b (drop (depth + 1) x.0.now) f.0 (sym (key_cut x.0.now depth (get_or x.0.now depth 0) inside refl) ∙ same.0), all_begin depth b rest behind deep.1 same.1)

BeginsAll-parts : (depth b : ℕ) (xs ys : Items) → BeginsAll depth b (xs ++ ys) → BeginsAll depth b xs × BeginsAll depth b ys
BeginsAll-parts depth b [] ys h = (tt, h)
BeginsAll-parts depth b (x ∷ xs) ys h = let r = BeginsAll-parts depth b xs ys h.2 in ((h.0, h.1, r.0), r.1)

begins_first : (depth b : ℕ) (items : Items) → 0 < length items → BeginsAll depth b items → (get_or (key_at items 0) depth 0 ≡ b) × (depth < length (key_at items 0))
begins_first depth b [] h all = absurd (omega arith)
begins_first depth b (x ∷ items) h all = (all.1, all.0)

none_first : (depth b : ℕ) (items : Items) → 0 < length items → BeginsNone depth b items → depth < length (key_at items 0) → get_or (key_at items 0) depth 0 ≡ b → ⊥
none_first depth b [] h none = absurd (omega arith)
none_first depth b (x ∷ items) h none = none

Deep-parts : (depth : ℕ) (xs ys : Items) → Deep depth (xs ++ ys) → Deep depth xs × Deep depth ys
Deep-parts depth [] ys h = (tt, h)
Deep-parts depth (x ∷ xs) ys h = let r = Deep-parts depth xs ys h.1 in ((h.0, r.0), r.1)

pairs_from-append : (depth : ℕ) (xs ys : Items) → pairs_from depth (xs ++ ys) ≡ pairs_from depth xs ++ pairs_from depth ys
pairs_from-append depth [] ys = refl
pairs_from-append depth (x ∷ xs) ys = ap (λ p. (drop depth x.0.now, x.1) ∷ p) (pairs_from-append depth xs ys)

first_other : (depth byte : ℕ) (others : Items) → Deep (depth + 1) others → BeginsNone depth byte others → FirstOther byte (pairs_from depth others)
first_other depth byte [] deep other = tt
first_other depth byte (y ∷ others) deep other =
    let inside : depth < length y.0.now = omega (arith, deep.0) in
    subst (λ k. FirstOther byte ((k, y.1) ∷ pairs_from depth others)) (sym (key_cut y.0.now depth (get_or y.0.now depth 0) inside refl)) (other inside)

pub some_group : (depth byte n : ℕ) (rest : Items) → 0 < length rest → Deep (depth + 1) rest → get_or (key_at rest 0) depth 0 ≡ byte → BeginsNone depth byte (drop n rest) → 0 < length (take n rest)
some_group depth byte n [] h deep is other = absurd (omega arith)
some_group depth byte zero (x ∷ rest) h deep is other = absurd (other (omega (arith, deep.0)) is)
some_group depth byte (suc n) (x ∷ rest) h deep is other = omega arith

pub none_ends : (depth : ℕ) (items : Items) → Deep (depth + 1) items → NoneEnds (pairs_from depth items)
none_ends depth [] deep = tt
none_ends depth (x ∷ items) deep =
    let inside : depth < length x.0.now = omega (arith, deep.0) in
    subst (λ k. NoneEnds ((k, x.1) ∷ pairs_from depth items)) (sym (key_cut x.0.now depth (get_or x.0.now depth 0) inside refl)) (none_ends depth items deep.1)

-- a number with bits of metadata
pub marked : (L m v bits : ℕ) (bytes : List ℕ) → Spells L 0 v bytes → bits ≡ m * (2 * L) → Spells L m v (with_bits bits bytes)
marked L m v bits bytes s e = record {
  digit = s.digit;
  trail = s.trail;
  below = s.below;
  digit_below = s.digit_below;
  is_trail = s.is_trail;
  bytes_are = ap (with_bits bits) s.bytes_are ∙ ap (λ x. x ∷ s.trail) (let f : bits + (0 * (2 * L) + extender s.trail * L + s.digit) ≡ m * (2 * L) + extender s.trail * L + s.digit = omega arith in f);
  value = s.value;
}

-- four appends after one another
pub joined : (out a b c d head es table targets : List ℕ) → a ≡ out ++ head → b ≡ a ++ es → c ≡ b ++ table → d ≡ c ++ targets → d ≡ out ++ (head ++ (es ++ (table ++ targets)))
joined out a b c d head es table targets p q r s =
    s ∙ ap (λ x. x ++ targets) (r ∙ ap (λ x. x ++ table) (q ∙ ap (λ x. x ++ es) p))
    ∙ simp append_assoc

-- a byte in front of some pairs weighs
pub literal_lighter : (b depth at : ℕ) (items : Items) → at < length items → pairs_from depth (drop at items) ≡ with_front b (pairs_from (depth + 1) (drop at items)) → weight (pairs_from (depth + 1) (drop at items)) < weight (pairs_from depth (drop at items))
literal_lighter b depth at items h e =
    let a = ap weight e in
    let f = weight-front b (pairs_from (depth + 1) (drop at items)) in
    let n = some_long (pairs_from (depth + 1) (drop at items)) (some_rest (depth + 1) at items h) in
    omega arith

-- items of which the first have the byte, and the first of the others has not
module _ (depth byte : ℕ) (items group others : Items) (parts : items ≡ group ++ others) (deep : Deep (depth + 1) items) (some : 0 < length group) (same : BeginsAll depth byte group) (other : BeginsNone depth byte others) where
  deep_parts : Deep (depth + 1) group × Deep (depth + 1) others
  deep_parts = Deep-parts (depth + 1) group others (subst (Deep (depth + 1)) parts deep)

  pub deep_group : Deep (depth + 1) group
  deep_group = deep_parts.0

  pub deep_others : Deep (depth + 1) others
  deep_others = deep_parts.1

  -- they are a group
  pub is_group : Group byte (pairs_from (depth + 1) group) (pairs_from depth others) (pairs_from depth items)
  is_group = record {
    pairs = ap (pairs_from depth) parts ∙ pairs_from-append depth group others ∙ ap (λ p. p ++ pairs_from depth others) (group_pairs depth byte group same);
    some = some_pairs (depth + 1) group some;
    other = first_other depth byte others deep_others other;
  }

  -- all have the byte
  pub shared : length others ≡ 0 → pairs_from depth items ≡ with_front byte (pairs_from (depth + 1) items)
  shared none = group_pairs depth byte items (subst (BeginsAll depth byte) (sym (parts ∙ ap (λ o. group ++ o) (nil_from_length others none) ∙ append-nil group)) same)

  -- some key has another byte than the first
  pub branches : 0 < length others → IsBranching (pairs_from depth items)
  branches more b behind e =
      let all = BeginsAll-parts depth b group others (subst (BeginsAll depth b) parts (all_begin depth b items behind deep e)) in
      let first = begins_first depth b group some all.0 in
      let here = begins_first depth byte group some same in
      let there = begins_first depth b others more all.1 in
      none_first depth byte others more other there.1 (there.0 ∙ sym first.0 ∙ here.0)

pub no_pairs : (depth : ℕ) (items : Items) → length items ≡ 0 → pairs_from depth items ≡ []
no_pairs depth [] h = refl
no_pairs depth (x ∷ items) h = absurd (omega arith)

pub is_none : (n : ℕ) → true ≡ (n == 0) → n ≡ 0
is_none n e = eqb-true n 0 (sym e)

pub is_some : (n : ℕ) → false ≡ (n == 0) → 0 < n
is_some n e = elim (cases_lt 0 n) [ inl some ↦ some | inr none ↦ absurd (let f = eq-eqb n 0 (omega arith) in cc) ]

-- some items are left from the place on
pub begun : (at : ℕ) (items rest : Items) → rest ≡ drop at items → false ≡ (length rest == 0) → at < length items
begun at items rest e some = let n = ap length e ∙ length-drop at items in let h = is_some (length rest) some in omega arith

pub deep_rest : (depth at : ℕ) (items rest : Items) → rest ≡ drop at items → Deep depth (drop at items) → Deep depth rest
deep_rest depth at items rest e = subst (Deep depth) (sym e)

pub leads_rest : (before out : List ℕ) (all : Pairs) (depth at : ℕ) (items rest : Items) → rest ≡ drop at items → WritesFront before all out (pairs_from depth (drop at items)) → WritesFront before all out (pairs_from depth rest)
leads_rest before out all depth at items rest e = subst (λ x. WritesFront before all out (pairs_from depth x)) (sym e)

-- no group is left
pub grown_end : (all : Pairs) (edge_bytes starts target_bytes : List ℕ) (depth : ℕ) (rest : Items) → length rest ≡ 0 → Grown all edge_bytes starts target_bytes (pairs_from depth rest) → Grown all edge_bytes starts target_bytes []
grown_end all edge_bytes starts target_bytes depth rest h = subst (Grown all edge_bytes starts target_bytes) (no_pairs depth rest h)
