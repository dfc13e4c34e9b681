-- What is printed of texts that are answered part by part.
use Rattle.std.proofs.Common.{◌≡◌, ℕ, ◌+◌, ◌<◌, inl, inr, List, [], ◌∷◌, ◌++◌, map, take, drop, length, get_or, Option, None, Bool, true, false, refl, sym, ◌∙◌, ap, subst, arith, append_assoc, append-nil}
use Rattle.std.specs.Prelude.{◌&&◌, nat_lt, is_some, codes}
use Rattle.std.specs.Borrow.{Bor}
use Rattle.std.specs.Io.KnownBytes.{Appends}
use Rattle.std.proofs.lemmas.List.{take_more, take-append-drop, get_or-map, length-map}
use Rattle.std.proofs.KnownBytes.{Appends-nil, Appends-trans}
use Rattle.zerotrie_core.specs.Kind.{simple_ascii}
use Rattle.zerotrie_core.specs.Maps.{Map, Pairs, look, value_at}
use Rattle.zerotrie_core.specs.Prefixes.{fronts}
use Rattle.zerotrie_core.specs.Borders.{at_borders}
use Rattle.zerotrie_core.specs.Texts.{Lists, Means}
use Rattle.zerotrie_core.specs.Kinds.{kind_of}
use Rattle.zerotrie_core.specs.declared.TrieKind.{TrieKind}
use Rattle.zerotrie_queries.specs.declared.question.Asked.{Asked}
use Rattle.zerotrie_queries.specs.declared.question.Asked.TheVariants.{Value, Pair, Longest, LongestAt, Prefixes, KeyOf}
use Rattle.zerotrie_queries.specs.declared.question.Spelling.{Spelling}
use Rattle.zerotrie_queries.specs.declared.question.Spelling.TheVariants.{Plain, Escaped}
use Rattle.zerotrie_queries.specs.declared.question.Query.{Query}
use Rattle.zerotrie_queries.specs.Printed.{value_line, value_lines, key_line, found_line, fronts_text, first_key_line, are_found}
use Rattle.zerotrie_queries.specs.Answers.{IsAnswer, IsAnswerAs, AddsAnswer, IsAdded, IsAddedAt, AreAddedAt, Belongs, AreAnswered, AreAnsweredInPart, as_is, with_escapes, fronts_at}
use Rattle.zerotrie_queries.specs.Finders.{Dictionary, TrieFinds, IndexFinds, asks_keys, dictionary_of}
use Rattle.zerotrie_index.specs.Layout.{IsIndex}
use Rattle.zerotrie_index.specs.Placed as placed
use Rattle.zerotrie_lines.specs.Escapes.{Spells}
use Rattle.zerotrie_lines.proofs.SpellingLemmas.{spells_or_not}
use Rattle.zerotrie_files.specs.Parts.{AppendsPart}
use Rattle.zerotrie_queries.proofs.FoundLemmas.{answers_of, answers_are, nows, no_key, and_true, and_assoc}
use Rattle.zerotrie_queries.proofs.PartLemmas.{part_all, part_front, part_behind}
use Rattle.zerotrie_queries.proofs.LongestLemmas.{found_in}
use Rattle.zerotrie_queries.proofs.NumberLemmas.{number_or_none}

-- one text
one_asked : (of : Query) (d : Dictionary) (text printed : List ℕ) (found : Bool) → IsAnswerAs of.spelling of.asked d text printed found → Belongs of d (text ∷ []) printed found
one_asked of d text printed found h = (printed, [], found, true, h, (refl, refl), sym (append-nil printed), sym (and_true found))

-- texts, and then more of them
more_asked : (of : Query) (d : Dictionary) (a b : List (List ℕ)) (p q : List ℕ) (all found : Bool) → Belongs of d a p all → Belongs of d b q found → Belongs of d (a ++ b) (p ++ q) (all && found)
more_asked of d [] b p q all found h k =
    subst (λ x. Belongs of d b (x ++ q) (all && found)) (sym h.0) (subst (λ t. Belongs of d b q (t && found)) (sym h.1) k)
more_asked of d (text ∷ a) b p q all found h k = (
  h.0,
  h.1 ++ q,
  h.2,
  h.3 && found,
  h.4,
  more_asked of d a b h.1 q h.3 found h.5 k,
  ap (λ l. l ++ q) h.6 ∙ append_assoc h.0 h.1 q,
  ap (λ t. t && found) h.7 ∙ and_assoc h.2 h.3 found,
)

-- values of keys
values_asked : (d : Dictionary) (keys : List (List ℕ)) → Belongs (as_is Value) d keys (value_lines (map d.value_of keys)) (are_found (map d.value_of keys))
values_asked d [] = (refl, refl)
values_asked d (key ∷ keys) =
    let rest = map d.value_of keys in
    let value = d.value_of key in
    (value_line value, value_lines rest, is_some value, are_found rest, (refl, refl), values_asked d keys, refl, refl)

-- no texts
pub none_answered : (of : Query) (Has : Dictionary → Type 0) (a : Option (List ℕ)) → AreAnswered of Has [] a a true
none_answered of Has a d has = ([], (refl, refl), Appends-nil a)

-- texts, and then more of them
pub more_answered : (of : Query) (Has : Dictionary → Type 0) (texts more : List (List ℕ)) (a b c : Option (List ℕ)) (all found : Bool) → AreAnswered of Has texts a b all
    → AreAnswered of Has more b c found → AreAnswered of Has (texts ++ more) a c (all && found)
more_answered of Has texts more a b c all found h k d has =
    let x = h d has in
    let y = k d has in (x.0 ++ y.0, more_asked of d texts more x.0 y.0 all found x.1 y.1, Appends-trans a b c x.0 y.0 x.2 y.2)

-- one text more
pub next_text : (texts : List (Bor (List ℕ))) (i : ℕ) → i < length texts → take (i + 1) (nows texts) ≡ take i (nows texts) ++ (get_or texts i no_key).now ∷ []
next_text texts i within =
    let long = length-map texts (λ t. t.now) in
    take_more (nows texts) i [] (omega arith) ∙ ap (λ t. take i (nows texts) ++ t ∷ []) (get_or-map (λ t. t.now) texts i no_key [] within)

-- one text, whose answer was added to an empty buffer
pub one_answered : (of : Query) (Has : Dictionary → Type 0) (text old line : List ℕ) (found : Bool) (b c : Option (List ℕ)) → old ≡ [] → IsAdded of Has text old line found → Appends b c line
    → AreAnswered of Has (text ∷ []) b c found
one_answered of Has text old line found b c none added appends d has =
    let x = added d has in
    let is : line ≡ x.0 = x.2 ∙ ap (λ l. l ++ x.0) none in
    (x.0, one_asked of d text x.0 found x.1, subst (Appends b c) is appends)

-- any text has an answer
abbrev HasAnswer : (List ℕ → Bool → Type 0) → Type 0
HasAnswer IsOf = (printed : List ℕ) × (found : Bool) × IsOf printed found

plain_has : (of : Asked) (d : Dictionary) (text : List ℕ) → HasAnswer (IsAnswer of d text)
plain_has Value d text = (value_line (d.value_of text), is_some (d.value_of text), (refl, refl))
plain_has Pair d text = (key_line text (d.value_of text), is_some (d.value_of text), (refl, refl))
plain_has Longest d text =
    let r = found_in d.value_of text (length text) in (found_line text r.0, is_some r.0, (r.0, r.1, refl, refl))
plain_has (LongestAt border) d text =
    let r = found_in (at_borders (border ∷ []) text d.value_of) text (length text) in (found_line text r.0, is_some r.0, (r.0, r.1, refl, refl))
plain_has (Prefixes border) d text =
    let keys = fronts_at border text (fronts d.value_of 0 text) in (fronts_text text keys, nat_lt 0 (length keys), (refl, refl))
plain_has KeyOf d text = elim (number_or_none text) [
  | inl number ↦ let key = d.key_of number.0 in (first_key_line key, is_some key, (key, inl (number.0, number.1, refl), refl, refl))
  | inr none ↦ (first_key_line None, false, (None, inr (none, refl), refl, refl))
]

one_has : (how : Spelling) (of : Asked) (d : Dictionary) (text : List ℕ) → HasAnswer (IsAnswerAs how of d text)
one_has Plain of d text = plain_has of d text
one_has Escaped of d text = elim (spells_or_not text) [
  | inl key ↦ let x = plain_has of d key.0 in (x.0, x.1, inl (key.0, key.1, x.2))
  | inr none ↦ (codes "none\n", false, inr (none, refl, refl))
]

-- so it is with each of some texts
answered : (of : Query) (d : Dictionary) (texts : List (List ℕ)) → (printed : List ℕ) × (all : Bool) × Belongs of d texts printed all
answered of d [] = ([], true, (refl, refl))
answered of d (text ∷ texts) =
    let one = one_has of.spelling of.asked d text in
    let rest = answered of d texts in
    (one.0 ++ rest.0, one.1 && rest.1, (one.0, rest.0, one.1, rest.1, one.2, rest.2, refl, refl))

-- all of them
pub begun_all : (of : Query) (Has : Dictionary → Type 0) (texts : List (List ℕ)) (a b : Option (List ℕ)) (all : Bool) → AreAnswered of Has texts a b all → AreAnsweredInPart of Has texts a b
begun_all of Has texts a b all h d has = let x = h d has in (x.0, all, x.1, part_all a b x.0 x.2)

-- a beginning of the answers to the first texts is one of the answers to all
pub begun_front : (of : Query) (Has : Dictionary → Type 0) (texts more : List (List ℕ)) (a b : Option (List ℕ)) → AreAnsweredInPart of Has texts a b → AreAnsweredInPart of Has (texts ++ more) a b
begun_front of Has texts more a b h d has =
    let x = h d has in
    let y = answered of d more in
    (x.0 ++ y.0, x.1 && y.1, more_asked of d texts more x.0 y.0 x.1 y.1 x.2 y.2, part_front a b x.0 y.0 (x.0 ++ y.0) x.3 refl)

-- nothing was printed
pub begun_none : (of : Query) (Has : Dictionary → Type 0) (texts : List (List ℕ)) (a : Option (List ℕ)) → AreAnsweredInPart of Has texts a a
begun_none of Has texts a = begun_front of Has [] texts a a (begun_all of Has [] a a true (none_answered of Has a))

-- all of the first texts, and a beginning of the answers to more of them
pub more_begun : (of : Query) (Has : Dictionary → Type 0) (texts more : List (List ℕ)) (a b c : Option (List ℕ)) (all : Bool) → AreAnswered of Has texts a b all
    → AreAnsweredInPart of Has more b c → AreAnsweredInPart of Has (texts ++ more) a c
more_begun of Has texts more a b c all h k d has =
    let x = h d has in
    let y = k d has in
    (x.0 ++ y.0, all && y.1, more_asked of d texts more x.0 y.0 all y.1 x.1 y.2, part_behind a b c x.0 y.0 (x.0 ++ y.0) x.2 y.3 refl)

-- all of the first texts, and nothing of the others
pub begun_done : (of : Query) (Has : Dictionary → Type 0) (texts : List (List ℕ)) (n : ℕ) (a b : Option (List ℕ)) (all : Bool) → AreAnswered of Has (take n texts) a b all
    → AreAnsweredInPart of Has texts a b
begun_done of Has texts n a b all h =
    subst (λ ts. AreAnsweredInPart of Has ts a b) (take-append-drop n texts) (begun_front of Has (take n texts) (drop n texts) a b (begun_all of Has (take n texts) a b all h))

-- all of the first texts, and a beginning of the answer to the next
pub begun_next : (of : Query) (Has : Dictionary → Type 0) (texts : List (List ℕ)) (n : ℕ) (text old line : List ℕ) (found : Bool) (a b c : Option (List ℕ)) (all : Bool)
    → take (n + 1) texts ≡ take n texts ++ text ∷ [] → old ≡ [] → IsAdded of Has text old line found → AppendsPart b c line → AreAnswered of Has (take n texts) a b all
    → AreAnsweredInPart of Has texts a c
begun_next of Has texts n text old line found a b c all more none added part h =
    let one : AreAnsweredInPart of Has (text ∷ []) b c =
    λ d has.
    let x = added d has in
    let is : line ≡ x.0 = x.2 ∙ ap (λ l. l ++ x.0) none in
    (x.0, found, one_asked of d text x.0 found x.1, subst (AppendsPart b c) is part) in
    let first : AreAnsweredInPart of Has (take (n + 1) texts) a c =
    subst (λ ts. AreAnsweredInPart of Has ts a c) (sym more) (more_begun of Has (take n texts) (text ∷ []) a b c all h one) in
    subst (λ ts. AreAnsweredInPart of Has ts a c) (take-append-drop (n + 1) texts) (begun_front of Has (take (n + 1) texts) (drop (n + 1) texts) a c first)

-- the values of all keys
pub values_are : (d : Dictionary) (keys : List (Bor (List ℕ))) (all : Bool) → all ≡ are_found (answers_of d.value_of keys) → Belongs (as_is Value) d (nows keys) (value_lines (answers_of d.value_of keys)) all
values_are d keys all is =
    subst (λ found. Belongs (as_is Value) d (nows keys) (value_lines found) all) (sym (answers_are d.value_of keys))
    (subst (λ t. Belongs (as_is Value) d (nows keys) (value_lines (map d.value_of (nows keys))) t) (sym (is ∙ ap are_found (answers_are d.value_of keys))) (values_asked d (nows keys)))

-- a beginning of the values of all keys
pub values_begun : (d : Dictionary) (keys : List (Bor (List ℕ))) (a b : Option (List ℕ)) → AppendsPart a b (value_lines (answers_of d.value_of keys))
    → (printed : List ℕ) × (all : Bool) × Belongs (as_is Value) d (nows keys) printed all × AppendsPart a b printed
values_begun d keys a b p =
    let found = answers_of d.value_of keys in (value_lines found, are_found found, values_are d keys (are_found found) refl, p)

-- the answer to a text is one to a text that spells it
pub added_spelled : (of : Asked) (Has : Dictionary → Type 0) (text key old new : List ℕ) (found : Bool) → Spells text key → IsAdded (as_is of) Has key old new found
    → IsAdded (with_escapes of) Has text old new found
added_spelled of Has text key old new found spells added d has = let x = added d has in (x.0, inl (key, spells, x.1), x.2)

-- what holds of the pairs that the bytes of a trie list, and of their map, holds of the dictionary of the trie
pub in_pairs : (kind : TrieKind) (bytes : List ℕ) (P : Dictionary → Type 0)
    → ((m : Map) (pairs : Pairs) → Means (kind_of kind) bytes m → Lists (kind_of kind) bytes pairs → P (dictionary_of (look (kind_of kind) m) pairs))
    → (d : Dictionary) → TrieFinds kind bytes d → P d
in_pairs kind bytes P h d has = subst P (sym has.4) (h has.0 has.1 has.2 has.3)

-- what is asked of texts, by how they are written
abbrev query_of : Asked → Spelling → Query
query_of asked how = record { asked = asked; spelling = how }

pub is_plain : (q : Query) → q.spelling ≡ Plain → as_is q.asked ≡ q
is_plain q is = ap (query_of q.asked) (sym is)

pub is_escaped : (q : Query) → q.spelling ≡ Escaped → with_escapes q.asked ≡ q
is_escaped q is = ap (query_of q.asked) (sym is)

-- ---- answers of an index

-- what is added for the value that an index has is its answer
pub by_index : (asked : Asked) (bytes key old new : List ℕ) (value : Option ℕ) (found : Bool) → ((pairs : Pairs) → IsIndex pairs bytes → value ≡ value_at simple_ascii pairs key)
    → ((pairs : Pairs) → asks_keys asked ≡ true → value ≡ value_at simple_ascii pairs key → AddsAnswer (as_is asked) (dictionary_of (value_at simple_ascii pairs) pairs) key old new found)
    → IsAdded (as_is asked) (IndexFinds asked bytes) key old new found
by_index asked bytes key old new value found is adds d has =
    subst (λ e. AddsAnswer (as_is asked) e key old new found) (sym has.3) (adds has.1 has.0 (is has.1 has.2))

pub by_index_at : (MayHold : List ℕ → Type 0) (asked : Asked) (key old new : List ℕ) (value : Option ℕ) (found : Bool) → placed.IsAnswer MayHold key value
    → ((pairs : Pairs) → asks_keys asked ≡ true → value ≡ value_at simple_ascii pairs key → AddsAnswer (as_is asked) (dictionary_of (value_at simple_ascii pairs) pairs) key old new found)
    → IsAddedAt MayHold (as_is asked) key old new found
by_index_at MayHold asked key old new value found is adds = λ bytes may. by_index asked bytes key old new value found (is bytes may) adds

-- the same by how a text is written
pub plain_at : (MayHold : List ℕ → Type 0) (q : Query) (text old new : List ℕ) (found : Bool) → q.spelling ≡ Plain → IsAddedAt MayHold (as_is q.asked) text old new found
    → IsAddedAt MayHold q text old new found
plain_at MayHold q text old new found is h = subst (λ x. IsAddedAt MayHold x text old new found) (is_plain q is) h

pub escaped_at : (MayHold : List ℕ → Type 0) (q : Query) (text key old new : List ℕ) (found : Bool) → q.spelling ≡ Escaped → Spells text key → IsAddedAt MayHold (as_is q.asked) key old new found
    → IsAddedAt MayHold q text old new found
escaped_at MayHold q text key old new found is spells h = λ bytes may.
    subst (λ x. IsAdded x (IndexFinds x.asked bytes) text old new found) (is_escaped q is) (added_spelled q.asked (IndexFinds q.asked bytes) text key old new found spells (h bytes may))

-- the answers to no texts, and to one more
pub none_at : (MayHold : List ℕ → Type 0) (q : Query) (a : List ℕ) → AreAddedAt MayHold q [] a a true
none_at MayHold q a = λ bytes may d has. ([], (refl, refl), sym (append-nil a))

pub more_at : (MayHold : List ℕ → Type 0) (q : Query) (texts : List (List ℕ)) (text a b c : List ℕ) (all found : Bool) → AreAddedAt MayHold q texts a b all → IsAddedAt MayHold q text b c found
    → AreAddedAt MayHold q (texts ++ text ∷ []) a c (all && found)
more_at MayHold q texts text a b c all found h k = λ bytes may d has.
    let x = h bytes may d has in
    let y = k bytes may d has in
    (x.0 ++ y.0, more_asked q d texts (text ∷ []) x.0 y.0 all found x.1 (one_asked q d text y.0 found y.1), y.2 ∙ ap (λ l. l ++ y.0) x.2 ∙ append_assoc a x.0 y.0)
