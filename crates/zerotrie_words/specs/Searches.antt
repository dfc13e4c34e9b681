-- Which pairs are listed, by the options of a listing or a search, and how these are misused.
use Rattle.std.specs.Prelude.{◌≡◌, ◌≢◌, ◌⊎◌, ◌≤◌, ◌+◌, ℕ, List, [], Option, Some, None, Bool, true, false, unwrap_or}
use Rattle.std.specs.Borrow.{Bor}
use Rattle.zerotrie_queries.specs.Chosen.{pattern_by}
use Rattle.zerotrie_queries.specs.declared.print.Form.{Form}
use Rattle.zerotrie_queries.specs.declared.print.Form.TheVariants as form_of
use Rattle.zerotrie_queries.specs.declared.question.Choice.{Choice}
use Rattle.zerotrie_queries.specs.declared.question.ListQuery.{ListQuery}
use Rattle.zerotrie_queries.specs.declared.question.Order.{Order}
use Rattle.zerotrie_queries.specs.declared.question.Pattern.{Pattern}
use Rattle.zerotrie_queries.specs.declared.question.Sought.{Sought}
use Rattle.zerotrie_run.specs.declared.command.Question.{Question}
use Rattle.zerotrie_run.specs.declared.command.Question.TheVariants as question
use Rattle.zerotrie_search.specs.Automata.{IsWordError}
use Rattle.zerotrie_search.specs.declared.any.SearchBy.{SearchBy}
use Rattle.zerotrie_search.specs.declared.any.SearchBy.TheVariants as by
use Rattle.zerotrie_search.specs.declared.any.WordError.{WordError}
use Rattle.zerotrie_search.specs.declared.range.KeyRange.{KeyRange}
use Rattle.zerotrie_words.specs.Options.{text_of}
use Rattle.zerotrie_words.specs.Refusals.{HasNoNumber, IsUnknown}
use Rattle.zerotrie_words.specs.Words.{IsEdits, IsFormOf, IsFrom, IsLimit, IsRangeEnd, IsTsv, form_shown, form_word, fuzzy_by, glob_by, most_of, order_by, search_order}
use Rattle.zerotrie_words.specs.declared.misuse.Misuse.{Misuse}
use Rattle.zerotrie_words.specs.declared.misuse.Misuse.TheVariants as misuse
use Rattle.zerotrie_words.specs.declared.options.ListOptions.{ListOptions}
use Rattle.zerotrie_words.specs.declared.options.SearchOptions.{SearchOptions}

-- how pairs are to be printed
abbrev pub IsNamedForm : ListOptions → Form → Type 0
IsNamedForm o form = IsFormOf o.count o.raw (text_of o.format) form

-- and how they are: if none is to be printed, as their number
abbrev pub IsListForm : ListOptions → Form → Type 0
IsListForm o form = (named : Form) × IsNamedForm o named × (form ≡ form_shown o.quiet named)

-- the options name no form: one is named, or `--raw`, of pairs that are only to be counted; `--raw` of another format than `tsv`; or the
-- word is no form
abbrev pub IsFormMisuse : ListOptions → Misuse → Type 0
IsFormMisuse o why = ((o.count ≡ true) × ((o.raw ≡ true) ⊎ (o.format ≢ None)) × (why ≡ misuse.CountWithForm))
    ⊎ (((o.raw ≡ true) × (IsTsv (text_of o.format) → ⊥) × (why ≡ misuse.RawIsTsv))
    ⊎ IsUnknown ((o.format ≢ None) × ((form : Form) → text_of o.format ≢ form_word form)) why)

-- how many pairs are listed at most
abbrev pub IsMost : ListOptions → Option ℕ → Type 0
IsMost o most = (limit : Option ℕ) × IsLimit (text_of o.limit) limit × (most ≡ most_of o.quiet limit)

abbrev pub IsLimitMisuse : Option (Bor (List ℕ)) → Misuse → Type 0
IsLimitMisuse limit why = IsUnknown (HasNoNumber 64 (text_of limit)) why

-- how many pairs of the greatest values are listed, if only these are; then there is no limit
abbrev pub IsTop : ListOptions → Option ℕ → Type 0
IsTop o top = IsLimit (text_of o.top) top × ((o.top ≡ None) ⊎ (o.limit ≡ None))

abbrev pub IsTopMisuse : ListOptions → Misuse → Type 0
IsTopMisuse o why = ((o.top ≢ None) × (o.limit ≢ None) × (why ≡ misuse.TopAndLimit)) ⊎ IsLimitMisuse o.top why

-- what keys begin with, and the range that they are in
abbrev pub IsFront : ListOptions → List ℕ → Type 0
IsFront o prefix = prefix ≡ unwrap_or (text_of o.prefix) []

abbrev pub IsRange : ListOptions → KeyRange → Type 0
IsRange o r = IsFrom (text_of o.from) r.from × IsRangeEnd (text_of o.below) (text_of o.to) r.to

-- a range ends twice
abbrev pub IsRangeMisuse : ListOptions → Misuse → Type 0
IsRangeMisuse o why = (o.below ≢ None) × (o.to ≢ None) × (why ≡ misuse.TwoEnds)

-- neither a prefix nor a range is there
abbrev pub HasNoPart : ListOptions → Type 0
HasNoPart o = (o.prefix ≡ None) × (o.from ≡ None) × (o.below ≡ None) × (o.to ≡ None)

-- The keys that are listed.
pub record IsListed (o : ListOptions) (c : Choice) : Type 0 where
  pub front : IsFront o c.prefix.now
  pub range : IsRange o c.range
  pub spared : c.without ≡ None
  pub all : c.sought ≡ None

-- The pairs that are listed: how, and in which order.
pub record IsListing (o : ListOptions) (IsForm : Form → Type 0) (IsChoice : Choice → Type 0) (order : Order) (form : Form) (s : ListQuery) : Type 0 where
  pub format : IsForm form
  pub chosen : IsChoice s.choice
  pub ordered : s.order ≡ order
  pub top : IsTop o s.top
  pub most : IsMost o s.limit

-- what `list` asks for
abbrev pub IsList : (sorted : Bool) → ListOptions → Question → Type 0
IsList sorted o q = (form : Form) × (s : ListQuery) × IsListing o (IsListForm o) (IsListed o) (order_by o.count sorted) form s × (q ≡ question.List form s)

abbrev pub IsListMisuse : ListOptions → Misuse → Type 0
IsListMisuse o why = IsFormMisuse o why ⊎ (IsRangeMisuse o why ⊎ (IsTopMisuse o why ⊎ IsLimitMisuse o.limit why))

-- ---- the word of a search

-- of the words these are there
abbrev pub AreGiven : SearchOptions → (glob fuzzy subsequence : Option (List ℕ)) → Type 0
AreGiven o glob fuzzy subsequence = (text_of o.glob ≡ glob) × (text_of o.fuzzy ≡ fuzzy) × (text_of o.subsequence ≡ subsequence)

-- Each option of a word is there only if the word is.
pub record AreUsed (o : SearchOptions) : Type 0 where
  pub edits : o.edits ≢ None → o.fuzzy ≢ None
  pub swaps : o.no_transpose ≡ true → o.fuzzy ≢ None
  pub begins : o.beginnings ≡ true → o.fuzzy ≢ None
  pub bytes : o.bytes ≡ true → o.glob ≡ None → o.not ≡ None → o.fuzzy ≢ None

-- an option of a word is there, and the word is not
abbrev pub IsIdle : SearchOptions → Misuse → Type 0
IsIdle o why = (o.fuzzy ≡ None) × (((o.edits ≢ None) × (why ≡ misuse.IdleEdits)) ⊎ (((o.no_transpose ≡ true) × (why ≡ misuse.IdleSwaps))
    ⊎ (((o.beginnings ≡ true) × (why ≡ misuse.IdleBeginnings)) ⊎ ((o.bytes ≡ true) × (o.glob ≡ None) × (o.not ≡ None) × (why ≡ misuse.IdleBytes)))))

-- a word finds keys by its option
abbrev pub IsFoundBy : SearchOptions → List ℕ → SearchBy → Type 0
IsFoundBy o word b = (AreGiven o (Some word) None None × (b ≡ glob_by o.bytes))
    ⊎ ((AreGiven o None (Some word) None × ((edits : ℕ) × IsEdits (text_of o.edits) edits × (b ≡ fuzzy_by o.bytes o.no_transpose edits)))
    ⊎ (AreGiven o None None (Some word) × (b ≡ by.Subsequence)))

-- a word is one of its sort, or not
abbrev pub IsOfSort : SearchBy → List ℕ → Type 0
IsOfSort b word = (e : WordError) → IsWordError b word e → ⊥

abbrev pub IsWordMisuse : SearchBy → List ℕ → Misuse → Type 0
IsWordMisuse b word why = (e : WordError) × IsWordError b word e × (why ≡ misuse.Word b e)

-- which word keys are sought by, if one is given: one of its sort, by its option, without useless ones; by a flag keys need only begin
-- with what it finds
abbrev pub IsSoughtBy : SearchOptions → Option Sought → Type 0
IsSoughtBy o None = AreGiven o None None None × AreUsed o
IsSoughtBy o (Some s) = IsFoundBy o s.word.now s.by × (s.begins ≡ o.beginnings) × IsOfSort s.by s.word.now × AreUsed o

-- how many of the words are there
abbrev pub given : Option (Bor (List ℕ)) → ℕ
given None = 0
given (Some word) = 1

-- the options are not one word by which keys are sought: there is more than one, a word is none of its sort, or an option is of no use
abbrev pub IsSoughtMisuse : SearchOptions → Misuse → Type 0
IsSoughtMisuse o why = IsIdle o why ⊎ (((2 ≤ given o.glob + given o.fuzzy + given o.subsequence) × (why ≡ misuse.TooMuchSought))
    ⊎ (IsUnknown (HasNoNumber 8 (text_of o.edits)) why ⊎ ((word : List ℕ) × (b : SearchBy) × IsFoundBy o word b × IsWordMisuse b word why)))

-- the pattern that no key matches, if one is given: a pattern, of characters, or of bytes with a flag
abbrev pub IsWithout : SearchOptions → Option Pattern → Type 0
IsWithout o None = o.not ≡ None
IsWithout o (Some p) = (text_of o.not ≡ Some p.text.now) × (pattern_by p.by_chars ≡ glob_by o.bytes) × IsOfSort (pattern_by p.by_chars) p.text.now

abbrev pub IsWithoutMisuse : SearchOptions → Misuse → Type 0
IsWithoutMisuse o why = (word : List ℕ) × (text_of o.not ≡ Some word) × IsWordMisuse (glob_by o.bytes) word why

-- ---- a search

-- no option says which keys are looked for
abbrev pub SeeksNothing : SearchOptions → Type 0
SeeksNothing o = (o.glob ≡ None) × (o.fuzzy ≡ None) × (o.subsequence ≡ None) × (o.not ≡ None) × HasNoPart o.list

-- The keys that are looked for.
pub record IsSought (o : SearchOptions) (c : Choice) : Type 0 where
  pub front : IsFront o.list c.prefix.now
  pub range : IsRange o.list c.range
  pub spared : IsWithout o c.without
  pub by : IsSoughtBy o c.sought
  pub some : SeeksNothing o → ⊥

abbrev pub IsChoiceMisuse : SearchOptions → Misuse → Type 0
IsChoiceMisuse o why = (SeeksNothing o × (why ≡ misuse.NothingSought)) ⊎ (IsSoughtMisuse o why ⊎ (IsWithoutMisuse o why ⊎ IsRangeMisuse o.list why))

-- Keys are near a word, and nothing says otherwise how they are listed than with how many edits make each.
pub record AreMeasured (o : SearchOptions) : Type 0 where
  pub near : o.fuzzy ≢ None
  pub format : o.list.format ≡ None
  pub spelled : o.list.raw ≡ false
  pub printed : o.list.count ≡ false

abbrev pub IsMeasuringMisuse : SearchOptions → Misuse → Type 0
IsMeasuringMisuse o why = ((o.fuzzy ≡ None) × (why ≡ misuse.IdleDistance))
    ⊎ (((o.list.format ≢ None) ⊎ ((o.list.raw ≡ true) ⊎ (o.list.count ≡ true))) × (why ≡ misuse.DistanceForm))

-- how the pairs of a search are printed, by whether distances are
abbrev pub IsSearchFormBy : (distances : Bool) → SearchOptions → Form → Type 0
IsSearchFormBy true o form = AreMeasured o × (form ≡ form_of.Distances)
IsSearchFormBy false o form = IsListForm o.list form

abbrev pub IsSearchFormMisuse : (distances : Bool) → SearchOptions → Misuse → Type 0
IsSearchFormMisuse true o why = IsMeasuringMisuse o why
IsSearchFormMisuse false o why = IsFormMisuse o.list why

-- what a search asks for
abbrev pub IsSearch : SearchOptions → Question → Type 0
IsSearch o q = (form : Form) × (s : ListQuery) × IsListing o.list (IsSearchFormBy o.distance o) (IsSought o) (search_order o.fuzzy o.edits o.list.count) form s × (q ≡ question.List form s)

abbrev pub IsSearchMisuse : SearchOptions → Misuse → Type 0
IsSearchMisuse o why = IsSearchFormMisuse o.distance o why ⊎ (IsChoiceMisuse o why ⊎ (IsTopMisuse o.list why ⊎ IsLimitMisuse o.list.limit why))
