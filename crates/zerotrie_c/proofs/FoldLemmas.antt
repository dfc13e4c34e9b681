-- Texts, words and keys as a kind compares them.
use Rattle.std.proofs.Common.{◌≡◌, ◌≢◌, ◌≤◌, ◌<◌, ℕ, zero, suc, List, [], ◌∷◌, ◌++◌, Bool, true, false, map, length, get_or, inl, inr, refl, sym, ap, ◌∙◌, subst, arith, Option, Some, None}
use Rattle.std.specs.Prelude.{◌&&◌}
use Rattle.std.specs.Char.{to_ascii_lowercase}
use Rattle.std.specs.Str.{chars, chars_after, continuation_len, lead_bits, IsUtf8}
use Rattle.std.proofs.Math.Path.{fun_ext}
use Rattle.std.proofs.lemmas.Bool.{cases_lt}
use Rattle.std.proofs.lemmas.Bool.Decides.{nat_tests}
use Rattle.std.proofs.lemmas.List.{map-id, map-append, append-nil, length-map}
use Rattle.std.proofs.lemmas.Str.{encode_ascii, inside_one}
use Rattle.std.proofs.lemmas.Str.Ascii.{lowercase_ascii, lowercase_is}
use lib.Utf8.{encode, encodes, scalar, scalars, low_scalar}
use Rattle.zerotrie_core.specs.Kind.{Kind, ignore_case}
use Rattle.zerotrie_core.specs.Kinds.{kind_of}
use Rattle.zerotrie_core.specs.declared.TrieKind.{TrieKind}
use Rattle.zerotrie_core.specs.declared.TrieKind.TheVariants.{Simple, Ignore, Hash, Ext}
use Rattle.zerotrie_index.specs.Tries.{folded_key}
use Rattle.zerotrie_search.specs.Automata.{ignores_case, word_by, IsMalformedWord, IsLongWord}
use Rattle.zerotrie_search.specs.declared.any.SearchBy.{SearchBy}
use Rattle.zerotrie_search.specs.declared.any.SearchBy.TheVariants as by
use Rattle.zerotrie_c.specs.Searched.{bound_with, finds_given, finds_how, finds_whole, given_how, search_by, text_by, AreTextsOf, HasTexts, IsFaultHow, IsSearchFault, IsWordFault}
use Rattle.zerotrie_c.specs.declared.folding.FoldedTexts.{FoldedTexts}
use Rattle.zerotrie_c.specs.declared.searches.Search.{Search}

-- a text in lower case has as many characters
same_continuation : (b : ℕ) → continuation_len (to_ascii_lowercase b) ≡ continuation_len b
same_continuation b = grind (arith, nat_tests)

count_after : (n c d : ℕ) (bs : List ℕ) → length (chars_after n c (map to_ascii_lowercase bs)) ≡ length (chars_after n d bs)
count_after zero c d [] = refl
count_after zero c d (b ∷ bs) =
    ap suc (subst (λ n. length (chars_after n (lead_bits (to_ascii_lowercase b)) (map to_ascii_lowercase bs)) ≡ length (chars_after (continuation_len b) (lead_bits b) bs))
    (sym (same_continuation b)) (count_after (continuation_len b) (lead_bits (to_ascii_lowercase b)) (lead_bits b) bs))
count_after (suc n) c d [] = refl
count_after (suc n) c d (b ∷ bs) = count_after n _ _ bs

as_many_chars : (bs : List ℕ) → length (chars (map to_ascii_lowercase bs)) ≡ length (chars bs)
unfolding chars
as_many_chars [] = refl
as_many_chars (b ∷ bs) =
    subst (λ n. length (chars_after n (lead_bits (to_ascii_lowercase b)) (map to_ascii_lowercase bs)) ≡ length (chars_after (continuation_len b) (lead_bits b) bs))
    (sym (same_continuation b)) (count_after (continuation_len b) (lead_bits (to_ascii_lowercase b)) (lead_bits b) bs)

-- and stays UTF-8
high_stay : (xs : List ℕ) → ((k : ℕ) → k < length xs → 128 ≤ get_or xs k 0) → map to_ascii_lowercase xs ≡ xs
high_stay [] high = refl
high_stay (x ∷ xs) high =
    let here : 90 < x = omega (arith, high 0 (omega arith)) in
    let first : to_ascii_lowercase x ≡ x = (lowercase_is x).2 here in
    let rest : map to_ascii_lowercase xs ≡ xs = high_stay xs (λ k less. high (suc k) (omega (arith, less))) in
    ap (λ y. y ∷ map to_ascii_lowercase xs) first ∙ ap (λ l. x ∷ l) rest

high_bytes : (c : ℕ) → 128 ≤ c → (k : ℕ) → k < length (encode c) → 128 ≤ get_or (encode c) k 0
high_bytes c high k less = elim (cases_lt (get_or (encode c) k 0) 128) [
  | inl low ↦ absurd (omega (arith, inside_one c [] (encode c) k (sym (append-nil (encode c))) less low))
  | inr fine ↦ fine
]

encode_lower : (c : ℕ) → encode (to_ascii_lowercase c) ≡ map to_ascii_lowercase (encode c)
encode_lower c = elim (cases_lt c 128) [
  | inl low ↦ encode_ascii (to_ascii_lowercase c) (lowercase_ascii c low) ∙ sym (ap (map to_ascii_lowercase) (encode_ascii c low))
  | inr high ↦ ap encode ((lowercase_is c).2 (omega (arith, high))) ∙ sym (high_stay (encode c) (high_bytes c high))
]

encodes_lower : (cs : List ℕ) → encodes (map to_ascii_lowercase cs) ≡ map to_ascii_lowercase (encodes cs)
encodes_lower [] = refl
encodes_lower (c ∷ cs) =
    ap (λ l. l ++ encodes (map to_ascii_lowercase cs)) (encode_lower c) ∙ ap (λ l. map to_ascii_lowercase (encode c) ++ l) (encodes_lower cs)
    ∙ sym (map-append to_ascii_lowercase (encode c) (encodes cs))

scalar_lower : (c : ℕ) → scalar c ≡ true → scalar (to_ascii_lowercase c) ≡ true
scalar_lower c is = elim (cases_lt c 128) [
  | inl low ↦ low_scalar (to_ascii_lowercase c) (omega (arith, lowercase_ascii c low))
  | inr high ↦ ap scalar ((lowercase_is c).2 (omega (arith, high))) ∙ is
]

both_true : (a b : Bool) → a && b ≡ true → (a ≡ true) × (b ≡ true)
both_true true true is = (refl, refl)
both_true true false is = absurd (cc)
both_true false b is = absurd (cc)

scalars_lower : (cs : List ℕ) → scalars cs ≡ true → scalars (map to_ascii_lowercase cs) ≡ true
scalars_lower [] is = refl
scalars_lower (c ∷ cs) is =
    let both = both_true (scalar c) (scalars cs) is in
    ap (λ b. b && scalars (map to_ascii_lowercase cs)) (scalar_lower c both.0) ∙ scalars_lower cs both.1

utf8_lower : (bs : List ℕ) → IsUtf8 bs → IsUtf8 (map to_ascii_lowercase bs)
utf8_lower bs utf8 = (map to_ascii_lowercase utf8.0, (scalars_lower utf8.0 utf8.1.0, encodes_lower utf8.0 ∙ ap (map to_ascii_lowercase) utf8.1.1))

-- what is wrong with a word in lower case is wrong with the word
as_long : (bs : List ℕ) → length (map to_ascii_lowercase bs) ≡ length bs
as_long bs = length-map bs to_ascii_lowercase

malformed_given : (how : SearchBy) (word : List ℕ) → IsMalformedWord how (word_by ignore_case how word) → IsMalformedWord how word
malformed_given by.Prefix word h = h
malformed_given by.Glob word h = h
malformed_given by.GlobChars word h = h
malformed_given by.Subsequence word h = h
malformed_given (by.Fuzzy edits) word h = h
malformed_given (by.FuzzyChars edits) word h = λ utf8. h (utf8_lower word utf8)
malformed_given (by.Swaps edits) word h = h
malformed_given (by.SwapsChars edits) word h = λ utf8. h (utf8_lower word utf8)

long_given : (how : SearchBy) (word : List ℕ) → IsLongWord how (word_by ignore_case how word) → IsLongWord how word
long_given by.Prefix word h = h
long_given by.Glob word h = h
long_given by.GlobChars word h = h
long_given by.Subsequence word h = h
long_given (by.Fuzzy edits) word h = omega (arith, h, as_long word)
long_given (by.FuzzyChars edits) word h = omega (arith, h, as_many_chars word)
long_given (by.Swaps edits) word h = omega (arith, h, as_long word)
long_given (by.SwapsChars edits) word h = omega (arith, h, as_many_chars word)

word_fault_given : (how : SearchBy) (word : List ℕ) (status : ℕ) → IsWordFault how (word_by ignore_case how word) status → IsWordFault how word status
word_fault_given how word status h = elim h [
  | inl bad ↦ inl (bad.0, malformed_given how word bad.1)
  | inr (inl long) ↦ inr (inl (long.0, long_given how word long.1))
  | inr (inr many) ↦ inr (inr many)
]

-- a search with the texts of another one, as a kind compares them
module _ (kind : Kind) (s f : Search) (texts : FoldedTexts) (are : AreTextsOf kind s texts) (has : HasTexts texts s f) where
  text_is : f.text.now ≡ text_by (search_by s.by s.edits) kind s.text.now
  text_is = has.text ∙ are.text

  to_is : f.to.now ≡ folded_key kind s.to.now
  to_is = has.to ∙ are.to

  finds_same : (how : Option SearchBy) (key : List ℕ) → given_how how (ignores_case kind) (bound_with s.from_bound (text_by how kind s.text.now)) (bound_with s.to_bound (folded_key kind s.to.now)) (text_by how kind s.text.now) (folded_key kind key) ≡ finds_how how kind s key
  finds_same None key = refl
  finds_same (Some how) key = refl

  finds_folded_key : (key : List ℕ) → finds_given (ignores_case kind) f (folded_key kind key) ≡ finds_whole kind s key
  finds_folded_key key = rw (text_is, to_is, has.by, has.edits, has.from_bound, has.to_bound) (finds_same (search_by s.by s.edits) key)

  pub finds_folded : (λ key. finds_given (ignores_case kind) f (folded_key kind key)) ≡ finds_whole kind s
  finds_folded = fun_ext finds_folded_key

-- where case counts, texts and keys are compared as they are
exact_key : (kind : TrieKind) → kind ≢ Ignore → (key : List ℕ) → folded_key (kind_of kind) key ≡ key
exact_key Simple h key = map-id key
exact_key Ignore h key = absurd (h refl)
exact_key Hash h key = map-id key
exact_key Ext h key = map-id key

pub exact_word : (kind : TrieKind) → kind ≢ Ignore → (how : SearchBy) (word : List ℕ) → word_by (kind_of kind) how word ≡ word
exact_word kind h by.Prefix word = exact_key kind h word
exact_word kind h by.Glob word = refl
exact_word kind h by.GlobChars word = refl
exact_word kind h by.Subsequence word = exact_key kind h word
exact_word kind h (by.Fuzzy edits) word = exact_key kind h word
exact_word kind h (by.FuzzyChars edits) word = exact_key kind h word
exact_word kind h (by.Swaps edits) word = exact_key kind h word
exact_word kind h (by.SwapsChars edits) word = exact_key kind h word

-- what is wrong with a word as a kind compares it is wrong with the word
pub word_fault_by : (kind : TrieKind) (how : SearchBy) (word : List ℕ) (status : ℕ) → IsWordFault how (word_by (kind_of kind) how word) status → IsWordFault how word status
word_fault_by Simple how word status h = subst (λ w. IsWordFault how w status) (exact_word Simple (λ e. cc) how word) h
word_fault_by Ignore how word status h = word_fault_given how word status h
word_fault_by Hash how word status h = subst (λ w. IsWordFault how w status) (exact_word Hash (λ e. cc) how word) h
word_fault_by Ext how word status h = subst (λ w. IsWordFault how w status) (exact_word Ext (λ e. cc) how word) h

-- so what is wrong with a search of these texts is wrong with the search
module _ (kind : TrieKind) (s f : Search) (texts : FoldedTexts) (are : AreTextsOf (kind_of kind) s texts) (has : HasTexts texts s f) where
  fault_same : (how : Option SearchBy) → f.text.now ≡ text_by how (kind_of kind) s.text.now → (status : ℕ) → IsFaultHow how f status → IsFaultHow how s status
  fault_same None is status h = rw (has.by, has.from_bound, has.to_bound) at h
  fault_same (Some how) is status h = word_fault_by kind how s.text.now status (subst (λ t. IsWordFault how t status) is h)

  pub fault_given : (status : ℕ) → IsSearchFault f status → IsSearchFault s status
  fault_given status h =
      fault_same (search_by s.by s.edits) (has.text ∙ are.text) status
      (subst (λ n. IsFaultHow (search_by s.by n) f status) has.edits (subst (λ n. IsFaultHow (search_by n f.edits) f status) has.by h))

pub exact_keys : {A : Type 0} (kind : TrieKind) → kind ≢ Ignore → (f : List ℕ → A) → f ≡ (λ key. f (folded_key (kind_of kind) key))
exact_keys kind h f = fun_ext (λ key. ap f (sym (exact_key kind h key)))

-- where case counts, a search with the texts that are compared finds what the search does
exact_text : (kind : TrieKind) → kind ≢ Ignore → (how : Option SearchBy) (text : List ℕ) → text_by how (kind_of kind) text ≡ text
exact_text kind exact None text = exact_key kind exact text
exact_text kind exact (Some how) text = exact_word kind exact how text

pub exact_given : (kind : TrieKind) → kind ≢ Ignore → (any_case : Bool) (s folded : Search) (texts : FoldedTexts) → AreTextsOf (kind_of kind) s texts → HasTexts texts s folded
    → finds_given any_case s ≡ finds_given any_case folded
exact_given kind exact any_case s folded texts are has =
    rw (has.by, has.edits, has.from_bound, has.to_bound, has.text ∙ are.text ∙ exact_text kind exact (search_by s.by s.edits) s.text.now, has.to ∙ are.to ∙ exact_key kind exact s.to.now) refl
