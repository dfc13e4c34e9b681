-- The pairs that are chosen of a trie.
use Rattle.std.specs.Prelude.{◌≡◌, ℕ, List, Bool, true, false, ◌&&◌, ◌==◌, Option, Some, None, [], is_some, length, nat_le, not, unwrap_or, if◌then◌else◌}
use Rattle.std.proofs.Common.{zero, suc}
use Rattle.std.specs.Range.Bound.{bound_map, bounds_contain, is_up_to_end}
use Rattle.std.specs.Option.{option_map}
use Rattle.std.specs.Str.{chars, is_utf8}
use Rattle.std.specs.declared.ops.Bound.{Bound}
use Rattle.std.specs.declared.ops.Bound.TheVariants.{Excluded, Unbounded}
use Rattle.zerotrie_core.specs.Maps.{Pairs, after_run, begins_with}
use Rattle.zerotrie_core.specs.Kinds.{kind_of}
use Rattle.zerotrie_core.specs.declared.TrieKind.{TrieKind}
use Rattle.zerotrie_index.specs.Tries.{folded_key}
use Rattle.zerotrie_search.specs.Automata.{any_edits_to, any_most, edits_to, finds_by, ignores_case, most_by, word_by}
use Rattle.zerotrie_search.specs.Nearest.{measured_up_to}
use Rattle.zerotrie_search.specs.Searches.{accepted}
use Rattle.zerotrie_search.specs.Sets.{by_bytes}
use Rattle.zerotrie_search.specs.Globs as globs
use Rattle.zerotrie_search.specs.declared.TheConstants.{WORD_LIMIT}
use Rattle.zerotrie_search.specs.declared.any.AnyAutomaton.{AnyAutomaton}
use Rattle.zerotrie_search.specs.declared.any.SearchBy.{SearchBy}
use Rattle.zerotrie_search.specs.declared.any.SearchBy.TheVariants as by
use Rattle.zerotrie_search.specs.declared.range.KeyRange.{KeyRange}
use Rattle.zerotrie_queries.specs.Found.{found_from}
use Rattle.zerotrie_queries.specs.Near.{edits_from}
use Rattle.zerotrie_queries.specs.declared.folding.FoldedWords.{FoldedWords}
use Rattle.zerotrie_queries.specs.declared.question.Choice.{Choice}
use Rattle.zerotrie_queries.specs.declared.question.Pattern.{Pattern}
use Rattle.zerotrie_queries.specs.declared.question.Sought.{Sought}

-- whether a word is one of its sort: a pattern that is not malformed, text, and not too long
abbrev pub is_pattern : List ℕ → Bool
is_pattern letters = (length (globs.no_item letters) == 0) && nat_le (length (globs.items letters)) WORD_LIMIT

abbrev pub is_short : (most edits : ℕ) → List ℕ → Bool
is_short most edits letters = nat_le (length letters) WORD_LIMIT && nat_le edits most

abbrev pub is_word : SearchBy → List ℕ → Bool
is_word by.Prefix word = true
is_word by.Glob word = is_pattern word
is_word by.GlobChars word = is_utf8 word && is_pattern (chars word)
is_word by.Subsequence word = true
is_word (by.Fuzzy edits) word = is_short 254 edits word
is_word (by.FuzzyChars edits) word = is_utf8 word && is_short 254 edits (chars word)
is_word (by.Swaps edits) word = is_short 7 edits word
is_word (by.SwapsChars edits) word = is_utf8 word && is_short 7 edits (chars word)

-- a bound, as the kind compares bytes
abbrev pub folded_bound : TrieKind → Bound (List ℕ) → Bound (List ℕ)
folded_bound kind bound = bound_map (folded_key (kind_of kind)) bound

-- whether a key is between the bounds of a range
abbrev pub is_in : TrieKind → KeyRange → List ℕ → Bool
is_in kind r key = bounds_contain by_bytes (folded_bound kind (bound_map (λ b. b.now) r.from)) (folded_bound kind (bound_map (λ b. b.now) r.to)) (folded_key (kind_of kind) key)

-- whether keys need only begin with one that the word finds
abbrev pub begins_of : Option Sought → Bool
begins_of sought = unwrap_or (option_map (λ s. s.begins) sought) false

-- whether a word finds it, if there is one
abbrev pub is_matched : TrieKind → Option Sought → List ℕ → Bool
is_matched kind None key = true
is_matched kind (Some s) key = is_word s.by (word_by (kind_of kind) s.by s.word.now) && found_from s.begins (finds_by (kind_of kind) s.by s.word.now) key

-- the sort of a pattern, of characters or of bytes
abbrev pub pattern_by : (by_chars : Bool) → SearchBy
pattern_by true = by.GlobChars
pattern_by false = by.Glob

-- whether no pattern matches it; one that is malformed matches none
abbrev pub is_spared : TrieKind → Option Pattern → List ℕ → Bool
is_spared kind None key = true
is_spared kind (Some p) key = not (is_word (pattern_by p.by_chars) p.text.now && finds_by (kind_of kind) (pattern_by p.by_chars) p.text.now key)

-- whether the conditions of a choice hold but that of its word
abbrev pub is_kept : TrieKind → Choice → List ℕ → Bool
is_kept kind c key = (begins_with (kind_of kind) c.prefix.now key && is_in kind c.range key) && is_spared kind c.without key

-- whether it is chosen
abbrev pub is_chosen : TrieKind → Choice → List ℕ → Bool
is_chosen kind c key = is_kept kind c key && is_matched kind c.sought key

-- the word by which keys are sought, as the kind compares keys, or no bytes
abbrev pub word_of : TrieKind → Option Sought → List ℕ
word_of kind sought = unwrap_or (option_map (λ s. word_by (kind_of kind) s.by s.word.now) sought) []

-- A choice whose bounds and word are as the kind compares them.
pub record IsFolded (kind : TrieKind) (c : Choice) : Type 0 where
  pub from : folded_bound kind (bound_map (λ b. b.now) c.range.from) ≡ bound_map (λ b. b.now) c.range.from
  pub to : folded_bound kind (bound_map (λ b. b.now) c.range.to) ≡ bound_map (λ b. b.now) c.range.to
  pub word : option_map (λ s. word_by (kind_of kind) s.by s.word.now) c.sought ≡ option_map (λ s. s.word.now) c.sought

-- the upper bound of keys below some bytes, if there are such
abbrev pub below_some : Option (List ℕ) → Bound (List ℕ)
below_some None = Unbounded
below_some (Some bytes) = Excluded bytes

-- the keys that begin with a prefix are below a bound
abbrev pub AreBelow : (prefix : List ℕ) → Bound (List ℕ) → Type 0
AreBelow prefix above = (key : List ℕ) → is_some (after_run prefix key) ≡ true → is_up_to_end by_bytes above key ≡ true

-- The words of a choice, as the kind compares them, and bytes above all keys that begin with the prefix.
pub record AreWordsOf (kind : TrieKind) (c : Choice) (words : FoldedWords) : Type 0 where
  pub prefix : words.prefix.items ≡ folded_key (kind_of kind) c.prefix.now
  pub from : bound_map (λ v. v.items) words.from ≡ folded_bound kind (bound_map (λ b. b.now) c.range.from)
  pub to : bound_map (λ v. v.items) words.to ≡ folded_bound kind (bound_map (λ b. b.now) c.range.to)
  pub word : words.word.items ≡ word_of kind c.sought
  pub above : AreBelow words.prefix.items (below_some (option_map (λ v. v.items) words.above))

-- A choice has them in place of those of another one.
pub record HasWords (words : FoldedWords) (c with_words : Choice) : Type 0 where
  pub prefix : with_words.prefix.now ≡ words.prefix.items
  pub from : bound_map (λ b. b.now) with_words.range.from ≡ bound_map (λ v. v.items) words.from
  pub to : bound_map (λ b. b.now) with_words.range.to ≡ bound_map (λ v. v.items) words.to
  pub without : with_words.without ≡ c.without
  pub by : option_map (λ s. s.by) with_words.sought ≡ option_map (λ s. s.by) c.sought
  pub word : option_map (λ s. s.word.now) with_words.sought ≡ option_map (λ _. words.word.items) c.sought
  pub begins : option_map (λ s. s.begins) with_words.sought ≡ option_map (λ s. s.begins) c.sought

-- how many edits are allowed, if keys are sought by edits
abbrev pub edits_of : Choice → ℕ
edits_of c = unwrap_or (option_map (λ s. most_by s.by) c.sought) 0

-- the same with other edits
abbrev pub by_edits : ℕ → SearchBy → SearchBy
by_edits e by.Prefix = by.Prefix
by_edits e by.Glob = by.Glob
by_edits e by.GlobChars = by.GlobChars
by_edits e by.Subsequence = by.Subsequence
by_edits e (by.Swaps edits) = by.Swaps e
by_edits e (by.SwapsChars edits) = by.SwapsChars e
by_edits e (by.Fuzzy edits) = by.Fuzzy e
by_edits e (by.FuzzyChars edits) = by.FuzzyChars e

abbrev pub sought_at : ℕ → Sought → Sought
sought_at e s = record { by = by_edits e s.by; word = s.word; begins = s.begins }

abbrev pub at_edits : ℕ → Choice → Choice
at_edits e c = record { prefix = c.prefix; range = c.range; without = c.without; sought = option_map (sought_at e) c.sought }

-- the pairs whose keys are chosen, in their order
abbrev pub chosen : TrieKind → Choice → Pairs → Pairs
chosen kind c pairs = accepted (is_chosen kind c) pairs

-- the first that are any of the pairs that are chosen with this many edits, with one more, and so on
abbrev pub closest : TrieKind → Choice → Pairs → ℕ → ℕ → Pairs
closest kind c pairs e zero = chosen kind (at_edits e c) pairs
closest kind c pairs e (suc n) = if length (chosen kind (at_edits e c) pairs) == 0 then closest kind c pairs (suc e) n else chosen kind (at_edits e c) pairs

-- how many edits make a key of the word by which keys are sought, or if keys are sought that begin with one that it finds,
-- the nearest of its fronts, if some number does; none if the word finds keys by no edits, or if there is no word
abbrev pub edits_matched : TrieKind → Option Sought → List ℕ → Option ℕ
edits_matched kind None key = Some 0
edits_matched kind (Some s) key = if is_word s.by (word_by (kind_of kind) s.by s.word.now)
    then edits_from s.begins (edits_to (ignores_case (kind_of kind)) s.by (word_by (kind_of kind) s.by s.word.now)) (folded_key (kind_of kind) key) else None

-- the same number of a key of which the other conditions hold
abbrev pub measured : TrieKind → Choice → List ℕ → Option ℕ
measured kind c key = if is_kept kind c key then edits_matched kind c.sought key else None

-- how many edits make a key of the word of a choice, if at most as many do as it allows, and else 0
abbrev pub told_edits : TrieKind → Choice → List ℕ → ℕ
told_edits kind c key = unwrap_or (measured_up_to (edits_of c) (edits_matched kind c.sought key)) 0

-- how many edits an automaton says that make a key of its word, or the nearest of its fronts, and 0 without one, or if it
-- does not accept as many
abbrev pub told_by : (begins : Bool) → Option AnyAutomaton → List ℕ → ℕ
told_by begins None key = 0
told_by begins (Some a) key = unwrap_or (measured_up_to (any_most a) (edits_from begins (any_edits_to a) key)) 0
