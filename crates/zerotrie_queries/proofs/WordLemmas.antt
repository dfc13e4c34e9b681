-- Words by which keys are sought.
use Rattle.std.proofs.Common.{◌≡◌, ◌≢◌, ◌<◌, ℕ, List, [], ◌∷◌, Bool, true, false, length, refl, inl, inr, suc, arith}
use Rattle.std.specs.Prelude.{◌&&◌, ◌==◌, nat_le}
use Rattle.std.specs.Str.{chars, is_utf8, IsUtf8}
use Rattle.std.proofs.lemmas.Bool.{lt-leb, ne_eqb}
use Rattle.std.proofs.lemmas.Bool.Decides.{leb_tells}
use Rattle.std.proofs.lemmas.Str.{IsUtf8-from_is_utf8, is_utf8-from_IsUtf8}
use Rattle.zerotrie_search.specs.Automata.{IsWordError}
use Rattle.zerotrie_search.specs.Globs as globs
use Rattle.zerotrie_search.specs.declared.TheConstants.{WORD_LIMIT}
use Rattle.zerotrie_search.specs.declared.any.SearchBy.{SearchBy}
use Rattle.zerotrie_search.specs.declared.any.SearchBy.TheVariants as by
use Rattle.zerotrie_search.specs.declared.any.WordError.{WordError}
use Rattle.zerotrie_search.specs.declared.any.WordError.TheVariants.{Malformed, TooLong, TooManyEdits}
use Rattle.zerotrie_queries.specs.Chosen.{is_word, is_short}

both_true : (a b : Bool) → a ≡ true → b ≡ true → (a && b) ≡ true
both_true a b p q = rw (p, q) refl

first_false : (a b : Bool) → a ≡ false → (a && b) ≡ false
first_false a b p = rw p refl

second_false : (a b : Bool) → b ≡ false → (a && b) ≡ false
second_false true b p = p
second_false false b p = refl

-- a number is within a bound, or beyond it
within : (n most : ℕ) → (most < n → ⊥) → nat_le n most ≡ true
within n most h = elim (leb_tells n most) [
  | inl below ↦ below.0
  | inr above ↦ absurd (h above.1)
]

-- a word is short, or it is too long
short_is : (most edits : ℕ) (letters : List ℕ) → (WORD_LIMIT < length letters → ⊥) → (most < edits → ⊥) → is_short most edits letters ≡ true
short_is most edits letters short few = both_true _ _ (within (length letters) WORD_LIMIT short) (within edits most few)

long_is : (most edits : ℕ) (letters : List ℕ) → WORD_LIMIT < length letters → is_short most edits letters ≡ false
long_is most edits letters long = first_false _ _ (lt-leb (length letters) WORD_LIMIT long)

many_is : (most edits : ℕ) (letters : List ℕ) → most < edits → is_short most edits letters ≡ false
many_is most edits letters many = second_false _ _ (lt-leb edits most many)

-- a list has an item, or none
none_is : (l : List ℕ) → (l ≢ [] → ⊥) → (length l == 0) ≡ true
none_is [] h = refl
none_is (b ∷ l) h = absurd (h (λ is. cc))

some_is : (l : List ℕ) → l ≢ [] → (length l == 0) ≡ false
some_is [] h = absurd (h refl)
some_is (b ∷ l) h = ne_eqb (suc (length l)) 0 (λ e. omega (arith, e))

-- bytes are text, or not
text_is : (word : List ℕ) → ((IsUtf8 word → ⊥) → ⊥) → is_utf8 word ≡ true
text_is word h = by_case (is_utf8 word) refl
  where
    by_case : (p : Bool) → is_utf8 word ≡ p → p ≡ true
    by_case true is = refl
    by_case false is = absurd (h (λ text. let yes = is_utf8-from_IsUtf8 word text in cc))

no_text_is : (word : List ℕ) → (IsUtf8 word → ⊥) → is_utf8 word ≡ false
no_text_is word h = by_case (is_utf8 word) refl
  where
    by_case : (p : Bool) → is_utf8 word ≡ p → p ≡ false
    by_case true is = absurd (h (IsUtf8-from_is_utf8 word is))
    by_case false is = refl

-- a word without a fault is one of its sort
pub word_faultless : (b : SearchBy) (word : List ℕ) → ((e : WordError) → IsWordError b word e → ⊥) → is_word b word ≡ true
word_faultless by.Prefix word h = refl
word_faultless by.Glob word h = both_true _ _ (none_is (globs.no_item word) (h Malformed)) (within (length (globs.items word)) WORD_LIMIT (h TooLong))
word_faultless by.GlobChars word h = both_true _ _ (text_is word (λ none. h Malformed (inl none)))
    (both_true _ _ (none_is (globs.no_item (chars word)) (λ some. h Malformed (inr some))) (within (length (globs.items (chars word))) WORD_LIMIT (h TooLong)))
word_faultless by.Subsequence word h = refl
word_faultless (by.Fuzzy edits) word h = short_is 254 edits word (h TooLong) (h TooManyEdits)
word_faultless (by.FuzzyChars edits) word h = both_true _ _ (text_is word (h Malformed)) (short_is 254 edits (chars word) (h TooLong) (h TooManyEdits))
word_faultless (by.Swaps edits) word h = short_is 7 edits word (h TooLong) (h TooManyEdits)
word_faultless (by.SwapsChars edits) word h = both_true _ _ (text_is word (h Malformed)) (short_is 7 edits (chars word) (h TooLong) (h TooManyEdits))

-- and a word with one is not
pub word_error : (b : SearchBy) (word : List ℕ) (e : WordError) → IsWordError b word e → is_word b word ≡ false
word_error by.Prefix word Malformed h = absurd h
word_error by.Prefix word TooLong h = absurd h
word_error by.Prefix word TooManyEdits h = absurd h
word_error by.Glob word Malformed h = first_false _ _ (some_is (globs.no_item word) h)
word_error by.Glob word TooLong h = second_false _ _ (lt-leb (length (globs.items word)) WORD_LIMIT h)
word_error by.Glob word TooManyEdits h = absurd h
word_error by.GlobChars word Malformed (inl none) = first_false _ _ (no_text_is word none)
word_error by.GlobChars word Malformed (inr some) = second_false _ _ (first_false _ _ (some_is (globs.no_item (chars word)) some))
word_error by.GlobChars word TooLong h = second_false _ _ (second_false _ _ (lt-leb (length (globs.items (chars word))) WORD_LIMIT h))
word_error by.GlobChars word TooManyEdits h = absurd h
word_error by.Subsequence word Malformed h = absurd h
word_error by.Subsequence word TooLong h = absurd h
word_error by.Subsequence word TooManyEdits h = absurd h
word_error (by.Fuzzy edits) word Malformed h = absurd h
word_error (by.Fuzzy edits) word TooLong h = long_is 254 edits word h
word_error (by.Fuzzy edits) word TooManyEdits h = many_is 254 edits word h
word_error (by.FuzzyChars edits) word Malformed h = first_false _ _ (no_text_is word h)
word_error (by.FuzzyChars edits) word TooLong h = second_false _ _ (long_is 254 edits (chars word) h)
word_error (by.FuzzyChars edits) word TooManyEdits h = second_false _ _ (many_is 254 edits (chars word) h)
word_error (by.Swaps edits) word Malformed h = absurd h
word_error (by.Swaps edits) word TooLong h = long_is 7 edits word h
word_error (by.Swaps edits) word TooManyEdits h = many_is 7 edits word h
word_error (by.SwapsChars edits) word Malformed h = first_false _ _ (no_text_is word h)
word_error (by.SwapsChars edits) word TooLong h = second_false _ _ (long_is 7 edits (chars word) h)
word_error (by.SwapsChars edits) word TooManyEdits h = second_false _ _ (many_is 7 edits (chars word) h)
