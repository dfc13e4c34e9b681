-- The searches that C asks for.
use Rattle.std.specs.Prelude.{◌≡◌, ◌≢◌, ◌<◌, ◌⊎◌, ◌==◌, ◌&&◌, ℕ, List, Bool, Option, Some, None, if◌then◌else◌}
use Rattle.std.specs.declared.ops.Bound.{Bound}
use Rattle.std.specs.declared.ops.Bound.TheVariants.{Included, Excluded, Unbounded}
use Rattle.zerotrie_core.specs.Kind.{Kind}
use Rattle.zerotrie_core.specs.Kinds.{kind_of}
use Rattle.zerotrie_core.specs.Maps.{Pairs, begins_with}
use Rattle.zerotrie_index.specs.Tries.{folded_key}
use Rattle.zerotrie_search.specs.Searches.{accepted}
use Rattle.zerotrie_search.specs.Sets.{from_left, to_left, some_front}
use Rattle.zerotrie_search.specs.Automata.{finds_by, finds_in, word_by, HasManyEdits, IsMalformedWord, IsLongWord}
use Rattle.zerotrie_search.specs.declared.any.SearchBy.{SearchBy}
use Rattle.zerotrie_search.specs.declared.any.SearchBy.TheVariants as by
use Rattle.zerotrie_c.specs.Statuses.{done, unknown_search, malformed_search, search_too_long, too_many_edits, IsUnwritten}
use Rattle.zerotrie_c.specs.Listed.{Part, IsListedSome}
use Rattle.zerotrie_c.specs.declared.folding.FoldedTexts.{FoldedTexts}
use Rattle.zerotrie_c.specs.declared.searches.Asked.{Asked}
use Rattle.zerotrie_c.specs.declared.searches.Search.{Search}

-- the bound of this number at a key, if one has it
abbrev pub bound_with : ℕ → List ℕ → Option (Bound (List ℕ))
bound_with number key =
    if number == 0 then Some Unbounded
    else (if number == 1 then Some (Included key)
    else (if number == 2 then Some (Excluded key) else None))

-- how a word finds keys, by the number of the search; no word does in a search between two bounds
abbrev pub search_by : ℕ → ℕ → Option SearchBy
search_by number edits =
    if number == 1 then Some by.Glob
    else (if number == 2 then Some by.Subsequence
    else (if number == 3 then Some (by.Fuzzy edits)
    else (if number == 4 then Some (by.FuzzyChars edits)
    else (if number == 5 then Some (by.Swaps edits)
    else (if number == 6 then Some (by.SwapsChars edits)
    else (if number == 7 then Some by.GlobChars else None))))))

-- the keys between the bounds of a search if it has no word, or those that its word finds, as a kind compares them
abbrev pub finds_how : Option SearchBy → Kind → Search → List ℕ → Bool
finds_how None kind s key =
    from_left (bound_with s.from_bound (folded_key kind s.text.now)) (folded_key kind key)
    && to_left (bound_with s.to_bound (folded_key kind s.to.now)) (folded_key kind key)
finds_how (Some by) kind s key = finds_by kind by s.text.now key

-- the keys that a search finds as a whole
abbrev pub finds_whole : Kind → Search → List ℕ → Bool
finds_whole kind s = finds_how (search_by s.by s.edits) kind s

-- the keys that are found, or those that begin with one that is, if a search asks for that
abbrev pub or_beginnings : Bool → (List ℕ → Bool) → List ℕ → Bool
or_beginnings beginnings finds = if beginnings then some_front finds else finds

abbrev pub finds : Kind → Search → List ℕ → Bool
finds kind s = or_beginnings s.beginnings (finds_whole kind s)

-- a word that no search refuses, and why one is refused
abbrev pub IsRightWord : SearchBy → List ℕ → Type 0
IsRightWord by word = (IsMalformedWord by word → ⊥) × (IsLongWord by word → ⊥) × (HasManyEdits by → ⊥)

abbrev pub IsWordFault : SearchBy → List ℕ → ℕ → Type 0
IsWordFault by word status =
    ((status ≡ malformed_search) × IsMalformedWord by word) ⊎ ((status ≡ search_too_long) × IsLongWord by word) ⊎ ((status ≡ too_many_edits) × HasManyEdits by)

-- why a search is refused: no search, or no bound of a range, has the number; or its word is refused
abbrev pub IsFaultHow : Option SearchBy → Search → ℕ → Type 0
IsFaultHow None s status = (status ≡ unknown_search) × ((s.by ≢ 0) ⊎ (2 < s.from_bound) ⊎ (2 < s.to_bound))
IsFaultHow (Some by) s status = IsWordFault by s.text.now status

abbrev pub IsSearchFault : Search → ℕ → Type 0
IsSearchFault s = IsFaultHow (search_by s.by s.edits) s

-- the lower bound of what a listing has left: above the last key that it gave, if it continues
abbrev pub bound_after : Bool → List ℕ → Bound (List ℕ)
bound_after goes_on last = if goes_on then Excluded last else Unbounded

-- the keys that a search finds, of those with a prefix, as a kind compares them
abbrev pub finds_below : Kind → Search → (prefix : List ℕ) → List ℕ → Bool
finds_below kind s prefix key = finds kind s key && begins_with kind prefix key

-- What a part of a search of these pairs comes to: a search without a fault is a listing of the pairs with the prefix that
-- it finds, as the kind compares keys; one with a fault is refused by it, and nothing is written.
abbrev pub IsSearchedSome : Kind → Search → (prefix : List ℕ) → Pairs → ℕ → Part → Part → Type 0
IsSearchedSome kind s prefix pairs status before after =
    (((fault : ℕ) → IsSearchFault s fault → ⊥) × IsListedSome (accepted (finds_below kind s prefix) pairs) status before after)
    ⊎ (IsSearchFault s status × IsUnwritten before after)

-- what is told of a search alone: that it has no fault, or its fault
abbrev pub IsSearchChecked : Search → ℕ → Type 0
IsSearchChecked s status = ((status ≡ done) × ((fault : ℕ) → IsSearchFault s fault → ⊥)) ⊎ IsSearchFault s status

-- words of private functions: the keys that a search finds with its texts as they are; the letters of a pattern may be
-- taken in both cases
abbrev pub given_how : Option SearchBy → (any_case : Bool) → (from to : Option (Bound (List ℕ))) → List ℕ → List ℕ → Bool
given_how None any_case from to word = λ key. from_left from key && to_left to key
given_how (Some by) any_case from to word = finds_in any_case by word

abbrev pub finds_given : (any_case : Bool) → Search → List ℕ → Bool
finds_given any_case s = given_how (search_by s.by s.edits) any_case (bound_with s.from_bound s.text.now) (bound_with s.to_bound s.to.now) s.text.now

-- words of private functions: the keys with the prefix of what is asked, as its kind compares them, that an automaton accepts
abbrev pub asks : Asked → (accepts : List ℕ → Bool) → List ℕ → Bool
asks a accepts key =
    or_beginnings a.beginnings (λ k. accepts (folded_key (kind_of a.prefix.kind) k)) key && begins_with (kind_of a.prefix.kind) a.prefix.prefix.now key

-- words of private functions: the text of a search as a kind compares it; a pattern stays as it is
abbrev pub text_by : Option SearchBy → Kind → List ℕ → List ℕ
text_by None kind text = folded_key kind text
text_by (Some by) kind text = word_by kind by text

-- Words of private functions: the texts of a search, as a kind compares them.
pub record AreTextsOf (kind : Kind) (s : Search) (texts : FoldedTexts) : Type 0 where
  pub text : texts.folded_text.items ≡ text_by (search_by s.by s.edits) kind s.text.now
  pub to : texts.folded_to.items ≡ folded_key kind s.to.now

-- Words of private functions: a search has them in place of those of another one.
pub record HasTexts (texts : FoldedTexts) (s with_texts : Search) : Type 0 where
  pub by : with_texts.by ≡ s.by
  pub edits : with_texts.edits ≡ s.edits
  pub from_bound : with_texts.from_bound ≡ s.from_bound
  pub to_bound : with_texts.to_bound ≡ s.to_bound
  pub text : with_texts.text.now ≡ texts.folded_text.items
  pub to : with_texts.to.now ≡ texts.folded_to.items
  pub beginnings : with_texts.beginnings ≡ s.beginnings
