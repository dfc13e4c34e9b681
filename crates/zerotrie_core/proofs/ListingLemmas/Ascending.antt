-- The order in which a text over ASCII keys lists its pairs.
use Rattle.std.proofs.Common.{◌≡◌, ℕ, ◌<◌, List, [], ◌∷◌, ◌++◌, length, refl, sym, ◌∙◌, ap, subst, map, Less}
use Rattle.std.specs.Cmp.{nat_cmp_total, nat_cmp_is, tied_itself}
use Rattle.std.specs.Cmp.Lexicographic.{slice_cmp}
use Rattle.std.specs.Ordering.{nat_cmp, ordering_then}
use Rattle.std.specs.List.{AllByRecursion}
use Rattle.zerotrie_base.specs.Kind.{Kind, simple_ascii, IsAscii, fold_byte}
use Rattle.zerotrie_base.specs.Maps.{Pairs, Map, map_of, with_front, Ascends, folded, FirstAbove, RepeatsKey}
use Rattle.zerotrie_base.specs.Texts.{Lists, ListEach, Means, NoValueFirst}
use Rattle.zerotrie_base.specs.Texts.Lists.{nothing, value, literal, span, branch}
use Rattle.zerotrie_base.specs.Texts.ListEach.{no_edge, edge}
use Rattle.zerotrie_base.proofs.MapLemmas.Kinds.{ascii_spanless, ascii_sorted}
use Rattle.zerotrie_base.proofs.MapLemmas.Cases.{OtherKey, keys_some, lists_apart, apart_distinct}
use Rattle.zerotrie_base.proofs.CanonicalLemmas.Texts.{lists_once}
use Rattle.zerotrie_base.proofs.NodeLemmas.Tables.{Rises, AllAbove, table_rises}

-- the first key is longer than none
pub keys_above : {kind : Kind} {bytes : List ℕ} {pairs : Pairs} → Lists kind bytes pairs → NoValueFirst bytes → FirstAbove [] (folded kind pairs)
keys_above {kind = kind} {pairs = pairs} text none = first pairs (keys_some text none)
  where
    first : (pairs : Pairs) → AllByRecursion (OtherKey kind []) pairs → FirstAbove [] (folded kind pairs)
    first [] h = tt
    first (([], v) ∷ pairs) h = absurd (let e = h.0 in cc)
    first ((b ∷ key, v) ∷ pairs) h = refl

same_first : (b : ℕ) (k l : List ℕ) → slice_cmp nat_cmp (b ∷ k) (b ∷ l) ≡ slice_cmp nat_cmp k l
same_first b k l = ap (λ o. ordering_then o (slice_cmp nat_cmp k l)) (tied_itself nat_cmp_total b)

less_first : (b c : ℕ) (k l : List ℕ) → b < c → slice_cmp nat_cmp (b ∷ k) (c ∷ l) ≡ Less
less_first b c k l h = ap (λ o. ordering_then o (slice_cmp nat_cmp k l)) (sym (nat_cmp_is b c Less h))

-- a byte in front of all keys
front_above : (b : ℕ) (key : List ℕ) (pairs : Pairs) → FirstAbove key pairs → FirstAbove (b ∷ key) (with_front b pairs)
front_above b key [] h = tt
front_above b key (e ∷ pairs) h = same_first b key e.0 ∙ h

front_ascends : (b : ℕ) (pairs : Pairs) → Ascends pairs → Ascends (with_front b pairs)
front_ascends b [] up = tt
front_ascends b (e ∷ pairs) up = (front_above b e.0 pairs up.0, front_ascends b pairs up.1)

folded-front : (kind : Kind) (b : ℕ) (pairs : Pairs) → folded kind (with_front b pairs) ≡ with_front (fold_byte kind b) (folded kind pairs)
folded-front kind b [] = refl
folded-front kind b (e ∷ pairs) = ap (λ ps. (fold_byte kind b ∷ map (fold_byte kind) e.0, e.1) ∷ ps) (folded-front kind b pairs)

folded-append : (kind : Kind) (xs ys : Pairs) → folded kind (xs ++ ys) ≡ folded kind xs ++ folded kind ys
folded-append kind [] ys = refl
folded-append kind (e ∷ xs) ys = ap (λ ps. (map (fold_byte kind) e.0, e.1) ∷ ps) (folded-append kind xs ys)

-- the first key, if there is one, begins with more than b
abbrev FirstBeyond : ℕ → Pairs → Type 0
FirstBeyond b [] = Unit {0}
FirstBeyond b (([], v) ∷ pairs) = ⊥
FirstBeyond b ((c ∷ key, v) ∷ pairs) = b < c

beyond_above : (b : ℕ) (key : List ℕ) (pairs : Pairs) → FirstBeyond b pairs → FirstAbove (b ∷ key) pairs
beyond_above b key [] h = tt
beyond_above b key (([], v) ∷ pairs) h = absurd h
beyond_above b key ((c ∷ k, v) ∷ pairs) h = less_first b c key k h

-- pairs after one byte, and pairs after greater ones
joined_above : (b : ℕ) (key : List ℕ) (xs ys : Pairs) → FirstAbove key xs → FirstBeyond b ys → FirstAbove (b ∷ key) (with_front b xs ++ ys)
joined_above b key [] ys h g = beyond_above b key ys g
joined_above b key (e ∷ xs) ys h g = same_first b key e.0 ∙ h

joined_ascends : (b : ℕ) (xs ys : Pairs) → Ascends xs → Ascends ys → FirstBeyond b ys → Ascends (with_front b xs ++ ys)
joined_ascends b [] ys up later g = later
joined_ascends b (e ∷ xs) ys up later g = (joined_above b e.0 xs ys up.0 g, joined_ascends b xs ys up.1 later g)

front_beyond : (b c : ℕ) (xs ys : Pairs) → b < c → FirstBeyond b ys → FirstBeyond b (with_front c xs ++ ys)
front_beyond b c [] ys h g = g
front_beyond b c (e ∷ xs) ys h g = h

each_beyond : {kind : Kind} {es : List ℕ} {targets : List (List ℕ)} {pairs : Pairs} → ListEach kind es targets pairs → (x : ℕ) → AllAbove kind x es → FirstBeyond x (folded kind pairs)
each_beyond no_edge x above = tt
each_beyond {kind = kind} (edge {e = e} {pairs = p} {more = m} n text each) x above =
    subst (FirstBeyond x) (sym (folded-append kind (with_front e p) m ∙ ap (λ ps. ps ++ folded kind m) (folded-front kind e p)))
    (front_beyond x (fold_byte kind e) (folded kind p) (folded kind m) above.0 (each_beyond each x above.1))

mutual
  pub lists_ascend : {kind : Kind} {bytes : List ℕ} {pairs : Pairs} → IsAscii kind → Lists kind bytes pairs → Ascends (folded kind pairs)
  lists_ascend ascii nothing = tt
  lists_ascend ascii (value s n text) = (keys_above text n, lists_ascend ascii text)
  lists_ascend {kind = kind} ascii (literal {b = b} {pairs = p} low n text) = subst Ascends (sym (folded-front kind b p)) (front_ascends (fold_byte kind b) (folded kind p) (lists_ascend ascii text))
  lists_ascend {kind = kind} ascii (span run h some high s n f text) = absurd (let none = ascii_spanless kind ascii in cc)
  lists_ascend {kind = kind} ascii (branch {edges = es} b each) = each_ascend ascii each (table_rises (ascii_sorted kind ascii (length es)) b.is_table)

  each_ascend : {kind : Kind} {es : List ℕ} {targets : List (List ℕ)} {pairs : Pairs} → IsAscii kind → ListEach kind es targets pairs → Rises kind es → Ascends (folded kind pairs)
  each_ascend ascii no_edge up = tt
  each_ascend {kind = kind} ascii (edge {e = e} {pairs = p} {more = m} n text each) up =
      subst Ascends (sym (folded-append kind (with_front e p) m ∙ ap (λ ps. ps ++ folded kind m) (folded-front kind e p)))
      (joined_ascends (fold_byte kind e) (folded kind p) (folded kind m) (lists_ascend ascii text) (each_ascend ascii each up.1) (each_beyond each (fold_byte kind e) up.0))

same_key_bytes : (key : List ℕ) → map (fold_byte simple_ascii) key ≡ key
same_key_bytes [] = refl
same_key_bytes (b ∷ key) = ap (λ k. b ∷ k) (same_key_bytes key)

folded_same : (pairs : Pairs) → folded simple_ascii pairs ≡ pairs
folded_same [] = refl
folded_same (e ∷ pairs) = ap (λ k. (k, e.1) ∷ folded simple_ascii pairs) (same_key_bytes e.0) ∙ ap (λ ps. e ∷ ps) (folded_same pairs)

pub ascend_by_bytes : (bytes : List ℕ) (pairs : Pairs) → Lists simple_ascii bytes pairs → Ascends pairs
ascend_by_bytes bytes pairs text = subst Ascends (folded_same pairs) (lists_ascend tt text)

pub list_the_map : (kind : Kind) (bytes : List ℕ) (m : Map) (pairs : Pairs) → Means kind bytes m → Lists kind bytes pairs → (RepeatsKey pairs → ⊥) × (m ≡ map_of pairs)
list_the_map kind bytes m pairs means text = (apart_distinct kind pairs (lists_apart text), means.is ∙ ap map_of (lists_once means.lists refl text))
