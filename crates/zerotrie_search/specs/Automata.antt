-- The automata of a word or of two bounds.
use Rattle.std.specs.Prelude.{◌≢◌, ◌<◌, ◌⊎◌, ℕ, List, [], Bool, true, false, length, map, is_some, Option, Some, None, if◌then◌else◌}
use Rattle.std.specs.Str.{chars, IsUtf8}
use Rattle.std.specs.Range.Bound.{bound_map, bounds_contain}
use Rattle.zerotrie_base.specs.Kind.{Kind, simple_ascii, ignore_case, perfect_hash, extended_capacity, fold_byte}
use Rattle.zerotrie_base.specs.Maps.{after_run}
use Rattle.zerotrie_search.specs.Sets.{by_bytes, has_within}
use Rattle.zerotrie_search.specs.Globs as globs
use Rattle.zerotrie_search.specs.Edits.{distance, is_near}
use Rattle.zerotrie_search.specs.Pending.{is_near_text}
use Rattle.zerotrie_search.specs.Swaps.{osa_distance, is_osa_near}
use Rattle.zerotrie_search.specs.SwapTexts.{is_osa_near_text}
use Rattle.zerotrie_search.specs.Texts.{text_measure}
use Rattle.zerotrie_search.specs.Words.{letters_of}
use Rattle.zerotrie_search.specs.declared.TheConstants.{WORD_LIMIT}
use Rattle.zerotrie_search.specs.declared.any.AnyAutomaton.{AnyAutomaton}
use Rattle.zerotrie_search.specs.declared.any.AnyAutomaton.TheVariants as any
use Rattle.zerotrie_search.specs.declared.any.SearchBy.{SearchBy}
use Rattle.zerotrie_search.specs.declared.any.SearchBy.TheVariants as by
use Rattle.zerotrie_search.specs.declared.any.WordError.{WordError}
use Rattle.zerotrie_search.specs.declared.any.WordError.TheVariants.{Malformed, TooLong, TooManyEdits}

-- the keys that an automaton accepts
abbrev pub any_accepts : AnyAutomaton → List ℕ → Bool
any_accepts (any.Prefix s) = λ key. is_some (after_run s.0.now key)
any_accepts (any.Range r) = bounds_contain by_bytes (bound_map (λ b. b.now) r.from) (bound_map (λ b. b.now) r.to)
any_accepts (any.Glob g) = globs.matches (globs.cased g.any_case (globs.items g.pattern.now))
any_accepts (any.GlobChars g) = globs.matches_text (globs.cased g.any_case (globs.items (chars g.pattern.now)))
any_accepts (any.Subsequence s) = has_within s.0.now
any_accepts (any.Fuzzy l) = is_near l.edits (letters_of l.word)
any_accepts (any.FuzzyChars l) = is_near_text l.edits (letters_of l.word)
any_accepts (any.Swaps l) = is_osa_near l.edits (letters_of l.word)
any_accepts (any.SwapsChars l) = is_osa_near_text l.edits (letters_of l.word)

-- the keys that a word finds; the letters of a pattern may be taken in both cases
abbrev pub finds_in : (any_case : Bool) → SearchBy → List ℕ → List ℕ → Bool
finds_in any_case by.Prefix word = λ key. is_some (after_run word key)
finds_in any_case by.Glob word = globs.matches (globs.cased any_case (globs.items word))
finds_in any_case by.GlobChars word = globs.matches_text (globs.cased any_case (globs.items (chars word)))
finds_in any_case by.Subsequence word = has_within word
finds_in any_case (by.Fuzzy edits) word = is_near edits word
finds_in any_case (by.FuzzyChars edits) word = is_near_text edits (chars word)
finds_in any_case (by.Swaps edits) word = is_osa_near edits word
finds_in any_case (by.SwapsChars edits) word = is_osa_near_text edits (chars word)

-- the keys that a word finds
abbrev pub finds : SearchBy → List ℕ → List ℕ → Bool
finds by word = finds_in false by word

-- how many edits make a key of the word, if keys are sought by edits and some number does; or no edits, if
-- the word finds the key
abbrev pub free_if : Bool → Option ℕ
free_if found = if found then Some 0 else None

abbrev pub edits_to : (any_case : Bool) → SearchBy → List ℕ → List ℕ → Option ℕ
edits_to any_case by.Prefix word = λ key. free_if (finds_in any_case by.Prefix word key)
edits_to any_case by.Glob word = λ key. free_if (finds_in any_case by.Glob word key)
edits_to any_case by.GlobChars word = λ key. free_if (finds_in any_case by.GlobChars word key)
edits_to any_case by.Subsequence word = λ key. free_if (finds_in any_case by.Subsequence word key)
edits_to any_case (by.Fuzzy edits) word = λ key. Some (distance word key)
edits_to any_case (by.FuzzyChars edits) word = text_measure (distance (chars word))
edits_to any_case (by.Swaps edits) word = λ key. Some (osa_distance word key)
edits_to any_case (by.SwapsChars edits) word = text_measure (osa_distance (chars word))

-- the same of an automaton
abbrev pub any_edits_to : AnyAutomaton → List ℕ → Option ℕ
any_edits_to (any.Prefix s) = λ key. free_if (any_accepts (any.Prefix s) key)
any_edits_to (any.Range r) = λ key. free_if (any_accepts (any.Range r) key)
any_edits_to (any.Glob g) = λ key. free_if (any_accepts (any.Glob g) key)
any_edits_to (any.GlobChars g) = λ key. free_if (any_accepts (any.GlobChars g) key)
any_edits_to (any.Subsequence s) = λ key. free_if (any_accepts (any.Subsequence s) key)
any_edits_to (any.Fuzzy l) = λ key. Some (distance (letters_of l.word) key)
any_edits_to (any.FuzzyChars l) = text_measure (distance (letters_of l.word))
any_edits_to (any.Swaps l) = λ key. Some (osa_distance (letters_of l.word) key)
any_edits_to (any.SwapsChars l) = text_measure (osa_distance (letters_of l.word))

-- how many edits are allowed, none if keys are not sought by edits
abbrev pub most_by : SearchBy → ℕ
most_by by.Prefix = 0
most_by by.Glob = 0
most_by by.GlobChars = 0
most_by by.Subsequence = 0
most_by (by.Fuzzy edits) = edits
most_by (by.FuzzyChars edits) = edits
most_by (by.Swaps edits) = edits
most_by (by.SwapsChars edits) = edits

abbrev pub any_most : AnyAutomaton → ℕ
any_most (any.Prefix s) = 0
any_most (any.Range r) = 0
any_most (any.Glob g) = 0
any_most (any.GlobChars g) = 0
any_most (any.Subsequence s) = 0
any_most (any.Fuzzy l) = l.edits
any_most (any.FuzzyChars l) = l.edits
any_most (any.Swaps l) = l.edits
any_most (any.SwapsChars l) = l.edits

-- whether a kind ignores case
abbrev pub ignores_case : Kind → Bool
ignores_case simple_ascii = false
ignores_case ignore_case = true
ignores_case perfect_hash = false
ignores_case extended_capacity = false

-- a word as a kind compares keys; a pattern stays as it is
abbrev pub word_by : Kind → SearchBy → List ℕ → List ℕ
word_by kind by.Prefix word = map (fold_byte kind) word
word_by kind by.Glob word = word
word_by kind by.GlobChars word = word
word_by kind by.Subsequence word = map (fold_byte kind) word
word_by kind (by.Fuzzy edits) word = map (fold_byte kind) word
word_by kind (by.FuzzyChars edits) word = map (fold_byte kind) word
word_by kind (by.Swaps edits) word = map (fold_byte kind) word
word_by kind (by.SwapsChars edits) word = map (fold_byte kind) word

-- the keys that a word finds if letters are compared as a kind does
abbrev pub finds_by : Kind → SearchBy → List ℕ → List ℕ → Bool
finds_by kind by word key = finds_in (ignores_case kind) by (word_by kind by word) (map (fold_byte kind) key)

-- a part of a pattern is no item, or the word or pattern of characters is not UTF-8
abbrev pub IsMalformedWord : SearchBy → List ℕ → Type 0
IsMalformedWord by.Prefix word = ⊥
IsMalformedWord by.Glob word = globs.no_item word ≢ []
IsMalformedWord by.GlobChars word = (IsUtf8 word → ⊥) ⊎ (globs.no_item (chars word) ≢ [])
IsMalformedWord by.Subsequence word = ⊥
IsMalformedWord (by.Fuzzy edits) word = ⊥
IsMalformedWord (by.FuzzyChars edits) word = IsUtf8 word → ⊥
IsMalformedWord (by.Swaps edits) word = ⊥
IsMalformedWord (by.SwapsChars edits) word = IsUtf8 word → ⊥

-- a pattern has too many items, or a word too many letters
abbrev pub IsLongWord : SearchBy → List ℕ → Type 0
IsLongWord by.Prefix word = ⊥
IsLongWord by.Glob word = WORD_LIMIT < length (globs.items word)
IsLongWord by.GlobChars word = WORD_LIMIT < length (globs.items (chars word))
IsLongWord by.Subsequence word = ⊥
IsLongWord (by.Fuzzy edits) word = WORD_LIMIT < length word
IsLongWord (by.FuzzyChars edits) word = WORD_LIMIT < length (chars word)
IsLongWord (by.Swaps edits) word = WORD_LIMIT < length word
IsLongWord (by.SwapsChars edits) word = WORD_LIMIT < length (chars word)

-- more edits are asked for than a search takes: those in which neighbours may change places take fewer
abbrev pub HasManyEdits : SearchBy → Type 0
HasManyEdits by.Prefix = ⊥
HasManyEdits by.Glob = ⊥
HasManyEdits by.GlobChars = ⊥
HasManyEdits by.Subsequence = ⊥
HasManyEdits (by.Fuzzy edits) = 254 < edits
HasManyEdits (by.FuzzyChars edits) = 254 < edits
HasManyEdits (by.Swaps edits) = 7 < edits
HasManyEdits (by.SwapsChars edits) = 7 < edits

-- why a word is an error
abbrev pub IsWordError : SearchBy → List ℕ → WordError → Type 0
IsWordError by word Malformed = IsMalformedWord by word
IsWordError by word TooLong = IsLongWord by word
IsWordError by word TooManyEdits = HasManyEdits by
