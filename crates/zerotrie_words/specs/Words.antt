-- The words of a command line, and what they ask for.
use Rattle.std.specs.Prelude.{◌≡◌, ◌≢◌, ◌⊎◌, ℕ, ◌-◌, List, [], ◌∷◌, Option, Some, None, Bool, true, false, Vec, codes, drop, eqb, length, map, min, nat_lt, unwrap_or, if◌then◌else◌}
use Rattle.std.specs.Char.{to_ascii_lowercase}
use Rattle.std.specs.Global.{Global}
use Rattle.std.specs.Borrow.{Bor}
use Rattle.std.specs.declared.ops.Bound.{Bound}
use Rattle.std.specs.declared.ops.Bound.TheVariants.{Included, Excluded, Unbounded}
use Rattle.std.specs.List.{slice_get, starts_with}
use Rattle.std.specs.Option.{option_map}
use Rattle.std.specs.Str.Parse.{IsNumeral, digits_value, without_leading_plus}
use Rattle.clap.specs.Matches.{found_of, first_value, matched_of, one_text, raw_values}
use Rattle.clap.specs.declared.parser.matches.ArgMatches.{ArgMatches}
use Rattle.zerotrie_words.specs.declared.task.Topic.{Topic}
use Rattle.zerotrie_words.specs.declared.task.Topic.TheVariants as topic
use Rattle.zerotrie_words.specs.declared.input.Input.{Input}
use Rattle.zerotrie_words.specs.declared.input.Input.TheVariants as input
use Rattle.zerotrie_core.specs.Kinds.{kind_name}
use Rattle.zerotrie_core.specs.declared.TrieKind.{TrieKind}
use Rattle.zerotrie_lines.specs.declared.reading.Format.TheVariants.{Tsv, TsvRaw, Csv, Lines}
use Rattle.zerotrie_lines.specs.declared.reading.Header.{Header}
use Rattle.zerotrie_lines.specs.declared.reading.Header.TheVariants.{Absent, Present, Named}
use Rattle.zerotrie_lines.specs.declared.reading.LineEnd.{LineEnd}
use Rattle.zerotrie_lines.specs.declared.reading.Names.{Names}
use Rattle.zerotrie_lines.specs.declared.reading.LineEnd.TheVariants.{CrLf, Lf}
use Rattle.zerotrie_queries.specs.declared.code.Language.{Language}
use Rattle.zerotrie_queries.specs.declared.code.Language.TheVariants as lang
use Rattle.zerotrie_queries.specs.declared.question.Asked.{Asked}
use Rattle.zerotrie_queries.specs.declared.question.Asked.TheVariants as asked
use Rattle.zerotrie_queries.specs.declared.question.Spelling.{Spelling}
use Rattle.zerotrie_queries.specs.declared.question.Spelling.TheVariants as spelling
use Rattle.zerotrie_queries.specs.declared.reports.ReportForm.{ReportForm}
use Rattle.zerotrie_queries.specs.declared.reports.ReportForm.TheVariants as report
use Rattle.zerotrie_queries.specs.declared.question.Order.{Order}
use Rattle.zerotrie_queries.specs.declared.question.Order.TheVariants as order
use Rattle.zerotrie_search.specs.declared.any.SearchBy.{SearchBy}
use Rattle.zerotrie_search.specs.declared.any.SearchBy.TheVariants as by
use Rattle.zerotrie_queries.specs.declared.views.View.{View}
use Rattle.zerotrie_queries.specs.declared.print.Form.{Form}
use Rattle.zerotrie_queries.specs.declared.print.Form.TheVariants as form
use Rattle.zerotrie_queries.specs.declared.print.Style.TheVariants as style
use Rattle.zerotrie_queries.specs.declared.views.View.TheVariants as view
use Rattle.zerotrie_making.specs.declared.duplicates.Duplicates.{Duplicates}
use Rattle.zerotrie_making.specs.declared.duplicates.Duplicates.TheVariants as again
use Rattle.zerotrie_making.specs.declared.plan.FileForm.{FileForm}
use Rattle.zerotrie_making.specs.declared.plan.FileForm.TheVariants as made
use Rattle.zerotrie_making.specs.declared.plan.Source.{Source}
use Rattle.zerotrie_making.specs.declared.plan.Source.TheVariants.{Text, Json, JsonLines}
use Rattle.zerotrie_run.specs.declared.command.Check.{Check}
use Rattle.zerotrie_run.specs.declared.command.Check.TheVariants as check
use Rattle.zerotrie_run.specs.declared.command.Keys.{Keys}
use Rattle.zerotrie_run.specs.declared.command.Keys.TheVariants as keys
use Rattle.zerotrie_run.specs.declared.command.Summary.{Summary}
use Rattle.zerotrie_run.specs.declared.command.Summary.TheVariants as summary
use Rattle.zerotrie_run.specs.declared.command.TrieFile.{TrieFile}
use Rattle.zerotrie_run.specs.declared.command.Place.{Place}
use Rattle.zerotrie_run.specs.declared.command.Place.TheVariants.{File, Stream}

-- the word of an argument
abbrev pub word_of : ArgMatches → List ℕ → Option (List ℕ)
word_of matches name = first_value (found_of matches) name

-- the word that says whether a flag is there
abbrev pub flag_of : ArgMatches → List ℕ → Option (List ℕ)
flag_of matches name = one_text (found_of matches) name

-- whether a flag is there, by its word
abbrev pub IsFlag : Option (List ℕ) → Bool → Type 0
IsFlag word flag = (word ≡ Some (codes "true") → flag ≡ true) × (word ≡ Some (codes "false") → flag ≡ false) × (word ≡ None → flag ≡ false)

-- a text has a character
abbrev pub HasText : List ℕ → Type 0
HasText [] = ⊥
HasText (c ∷ text) = Unit {0}

-- a message says something
abbrev pub IsSaid : Bor (List ℕ) → Type 0
IsSaid why = HasText why.now

-- how a format of input is named
abbrev pub format_word : Input → List ℕ
format_word input.Tsv = codes "tsv"
format_word input.Csv = codes "csv"
format_word input.Lines = codes "lines"
format_word input.Json = codes "json"
format_word input.JsonLines = codes "jsonl"

-- a path ends so, in either case of ASCII letters: its last bytes, as many as the ending has
abbrev pub EndsIn : List ℕ → List ℕ → Type 0
EndsIn path ending = map to_ascii_lowercase (drop (length path - length ending) path) ≡ map to_ascii_lowercase ending

-- the format of a file by the ending of its path
abbrev pub IsOfPath : List ℕ → Input → Type 0
IsOfPath path input.Csv = EndsIn path (codes ".csv")
IsOfPath path input.Json = EndsIn path (codes ".json")
IsOfPath path input.JsonLines = EndsIn path (codes ".jsonl") ⊎ EndsIn path (codes ".ndjson")
IsOfPath path input.Lines = EndsIn path (codes ".txt")
IsOfPath path input.Tsv = (EndsIn path (codes ".csv") → ⊥) × (EndsIn path (codes ".json") → ⊥) × (EndsIn path (codes ".jsonl") → ⊥) × (EndsIn path (codes ".ndjson") → ⊥)
    × (EndsIn path (codes ".txt") → ⊥)

-- the format of an input: the one that is named, or by the ending of its path
abbrev pub IsFormat : Option (List ℕ) → Option (List ℕ) → Input → Type 0
IsFormat (Some word) path format = word ≡ format_word format
IsFormat None path format = IsOfPath (unwrap_or path []) format

-- what ends a line, by its word
abbrev pub end_word : LineEnd → List ℕ
end_word CrLf = codes "crlf"
end_word Lf = codes "lf"

-- what ends a line: a carriage return may be before the line feed, unless a word says otherwise
abbrev pub IsEnd : Option (List ℕ) → LineEnd → Type 0
IsEnd None end = end ≡ CrLf
IsEnd (Some word) end = word ≡ end_word end

-- a format may have a word for the end of its lines: JSON has no lines, and in a line of it a carriage return counts for nothing
abbrev pub MayNameEnd : Input → Option (List ℕ) → Type 0
MayNameEnd input.Tsv word = Unit {0}
MayNameEnd input.Csv word = Unit {0}
MayNameEnd input.Lines word = Unit {0}
MayNameEnd input.Json word = word ≡ None
MayNameEnd input.JsonLines word = word ≡ None

-- a format may have names: of columns, or of members
abbrev pub MayHaveNames : Input → Option Names → Type 0
MayHaveNames input.Tsv names = Unit {0}
MayHaveNames input.Csv names = Unit {0}
MayHaveNames input.Lines names = names ≡ None
MayHaveNames input.Json names = names ≡ None
MayHaveNames input.JsonLines names = Unit {0}

-- the names by two words, or none without them
abbrev pub AreNames : Input → Option (List ℕ) → Option (List ℕ) → Option Names → Type 0
AreNames format key value None = (key ≡ None) × (value ≡ None)
AreNames format key value (Some names) = (key ≡ Some names.key.now) × (value ≡ Some names.value.now) × MayHaveNames format (Some names)

-- the header of columns, by its flag and by their names
abbrev pub header_by : Bool → Option Names → Header
header_by flag (Some names) = Named names
header_by true None = Present
header_by false None = Absent

-- the header of an input: only `tsv` and `csv` have columns
abbrev pub IsHeader : Input → Bool → Option Names → Header → Type 0
IsHeader input.Tsv flag names header = header ≡ header_by flag names
IsHeader input.Csv flag names header = header ≡ header_by flag names
IsHeader input.Lines flag names header = (flag ≡ false) × (header ≡ Absent)
IsHeader input.Json flag names header = (flag ≡ false) × (header ≡ Absent)
IsHeader input.JsonLines flag names header = (flag ≡ false) × (header ≡ Absent)

-- the members of a pair in a line of JSON: those with these names, or else `key` and `value`
abbrev pub AreMembers : Option Names → Names → Type 0
AreMembers (Some names) members = members ≡ names
AreMembers None members = (members.key.now ≡ codes "key") × (members.value.now ≡ codes "value")

abbrev pub IsOfMembers : Option Names → Source → Type 0
IsOfMembers names source = (members : Names) × AreMembers names members × (source ≡ JsonLines members)

-- an input of a format is such pairs, by whether it is raw: only `tsv` is
abbrev pub IsSourceOf : Input → Bool → LineEnd → Header → Option Names → Source → Type 0
IsSourceOf input.Tsv true end header names source = source ≡ Text (record { format = TsvRaw; end = end; header = header })
IsSourceOf input.Tsv false end header names source = source ≡ Text (record { format = Tsv; end = end; header = header })
IsSourceOf input.Csv raw end header names source = (raw ≡ false) × (source ≡ Text (record { format = Csv; end = end; header = header }))
IsSourceOf input.Lines raw end header names source = (raw ≡ false) × (source ≡ Text (record { format = Lines; end = end; header = header }))
IsSourceOf input.Json raw end header names source = (raw ≡ false) × (source ≡ Json)
IsSourceOf input.JsonLines raw end header names source = (raw ≡ false) × IsOfMembers names source

-- what becomes of a key that comes again, by its word
abbrev pub duplicates_word : Duplicates → List ℕ
duplicates_word again.Refuse = codes "refuse"
duplicates_word again.First = codes "first"
duplicates_word again.Last = codes "last"
duplicates_word again.Sum = codes "sum"
duplicates_word again.Min = codes "min"
duplicates_word again.Max = codes "max"

-- what a file has, by whether it is to be tagged, bare or an index
abbrev pub form_by : Bool → Bool → Bool → Option FileForm
form_by false false false = Some made.Sealed
form_by true false false = Some made.Tagged
form_by false true false = Some made.Bare
form_by false false true = Some made.Index
form_by true true false = None
form_by true bare true = None
form_by false true true = None

-- a file that has this may have such a kind: an index has none
abbrev pub AreTogether : FileForm → Option TrieKind → Type 0
AreTogether made.Sealed kind = Unit {0}
AreTogether made.Tagged kind = Unit {0}
AreTogether made.Bare kind = Unit {0}
AreTogether made.Index kind = kind ≡ None

-- how a form of output is, if it is named by a word
abbrev pub form_word : Form → Option (List ℕ)
form_word (form.Lines style.Tsv) = Some (codes "tsv")
form_word (form.Lines style.TsvRaw) = None
form_word (form.Lines style.Csv) = Some (codes "csv")
form_word (form.Lines style.Keys) = Some (codes "keys")
form_word (form.Lines style.Values) = Some (codes "values")
form_word (form.Lines style.JsonLines) = Some (codes "jsonl")
form_word form.Distances = None
form_word form.Json = Some (codes "json")
form_word form.Count = None

-- lines with a tab, by their word or without one
abbrev pub IsTsv : Option (List ℕ) → Type 0
IsTsv word = (word ≡ None) ⊎ (word ≡ Some (codes "tsv"))

-- the form of a list: a number if it is only to be counted, and then there is no word; lines with a tab, if they are raw; else by
-- its word, or such lines with escapes
abbrev pub IsFormOf : (count raw : Bool) → Option (List ℕ) → Form → Type 0
IsFormOf true true word f = ⊥
IsFormOf true false word f = (word ≡ None) × (f ≡ form.Count)
IsFormOf false true word f = IsTsv word × (f ≡ form.Lines style.TsvRaw)
IsFormOf false false None f = f ≡ form.Lines style.Tsv
IsFormOf false false (Some word) f = Some word ≡ form_word f

-- how pairs are printed: if none is to be, as their number, which any key allows
abbrev pub form_shown : (quiet : Bool) → Form → Form
form_shown true named = form.Count
form_shown false named = named

-- the order of a list: that of the bytes by a flag, but not if it is only to be counted
abbrev pub order_by : Bool → Bool → Order
order_by true sorted = order.Stored
order_by false true = order.ByBytes
order_by false false = order.Stored

-- the order of keys that a number of edits make of a word: the nearest first, but that of the bytes if they are only to be counted
abbrev pub near_by : (count : Bool) → Order
near_by true = order.ByBytes
near_by false = order.Nearest

-- the order of a search: that of the bytes; of keys that are near a word the nearest first, and without a number of edits, only
-- those of the fewest edits
abbrev pub search_order : (fuzzy edits : Option (Bor (List ℕ))) → (count : Bool) → Order
search_order None edits = λ count. order.ByBytes
search_order (Some word) None = λ count. order.Closest
search_order (Some word) (Some edits) = near_by

-- the decimal number of a word, which may begin with a plus
abbrev pub IsNumberOf : List ℕ → ℕ → Type 0
IsNumberOf word n = IsNumeral 10 (without_leading_plus word) × (n ≡ digits_value 10 (without_leading_plus word))

-- a limit: none without a word, else its number
abbrev pub IsLimit : Option (List ℕ) → Option ℕ → Type 0
IsLimit None limit = limit ≡ None
IsLimit (Some word) None = ⊥
IsLimit (Some word) (Some limit) = IsNumberOf word limit

-- how many pairs are listed at most: as many as the limit says, but one if none is printed
abbrev pub most_of : (quiet : Bool) → Option ℕ → Option ℕ
most_of false limit = limit
most_of true (Some limit) = Some (min limit 1)
most_of true None = Some 1

-- the byte at which a key may end: the one byte of the word
abbrev pub IsBorder : Option (List ℕ) → Option ℕ → Type 0
IsBorder word None = word ≡ None
IsBorder word (Some byte) = word ≡ Some (byte ∷ [])

-- what is asked of texts: the longest key, at a byte or anywhere, or all of them
abbrev pub IsLongestOf : Bool → Option ℕ → Asked → Type 0
IsLongestOf true border a = a ≡ asked.Prefixes border
IsLongestOf false None a = a ≡ asked.Longest
IsLongestOf false (Some byte) a = a ≡ asked.LongestAt byte

abbrev pub IsLongest : ArgMatches → Asked → Type 0
IsLongest matches a = (all : Bool) × (border : Option ℕ) × IsFlag (flag_of matches (codes "all")) all × IsBorder (word_of matches (codes "at")) border × IsLongestOf all border a

-- what is asked of keys: their values, and the keys, too, by the flag
abbrev pub get_by : Bool → Asked
get_by true = asked.Pair
get_by false = asked.Value

abbrev pub IsGet : Option (List ℕ) → Asked → Type 0
IsGet word a = (flag : Bool) × IsFlag word flag × (a ≡ get_by flag)

-- how keys and texts are written: with escapes by the flag
abbrev pub spelling_by : Bool → Spelling
spelling_by true = spelling.Escaped
spelling_by false = spelling.Plain

abbrev pub IsSpelling : Option (List ℕ) → Spelling → Type 0
IsSpelling word s = (flag : Bool) × IsFlag word flag × (s ≡ spelling_by flag)

-- how a report is printed: as JSON by its word, and else as text
abbrev pub IsReportForm : Option (List ℕ) → ReportForm → Type 0
IsReportForm word report.Json = word ≡ Some (codes "json")
IsReportForm word report.Lines = word ≢ Some (codes "json")

-- how many nodes are drawn: the number of the word, or a hundred
abbrev pub IsDrawn : Option (List ℕ) → ℕ → Type 0
IsDrawn None most = most ≡ 100
IsDrawn (Some word) most = IsNumberOf word most

-- how nodes are shown, by the word, and by that of the limit, which only a drawing has
abbrev pub IsView : Option (List ℕ) → Option (List ℕ) → View → Type 0
IsView word limit view.Dump = (word ≡ Some (codes "dump")) × (limit ≡ None)
IsView word limit (view.Dot most) = (word ≡ Some (codes "dot")) × IsDrawn limit most

-- how a language is
abbrev pub language_word : Language → List ℕ
language_word lang.Rust = codes "rust"
language_word lang.C = codes "c"
language_word lang.CAlone = codes "c"
language_word lang.Rattle = codes "rattle"
language_word lang.JavaScript = codes "js"

-- whether its code needs no library
abbrev pub is_alone : Language → Bool
is_alone lang.CAlone = true
is_alone lang.C = false
is_alone lang.Rust = false
is_alone lang.Rattle = false
is_alone lang.JavaScript = false

-- the kind that a word names: none without a word, or if it is `auto`
abbrev pub IsKind : Option (List ℕ) → Option TrieKind → Type 0
IsKind word None = (word ≡ None) ⊎ (word ≡ Some (codes "auto"))
IsKind word (Some kind) = word ≡ Some (kind_name kind)

-- the place that a word names: a stream without a word, or if it is a hyphen
abbrev pub IsPlace : Option (List ℕ) → Place → Type 0
IsPlace word (File path) = (word ≡ Some path.now) × (path.now ≢ codes "-")
IsPlace word Stream = (word ≡ None) ⊎ (word ≡ Some (codes "-"))

-- the place to read: a path of standard input is that stream
abbrev pub IsSource : Option (List ℕ) → Place → Type 0
IsSource word (File path) = IsPlace word (File path) × (path.now ≢ codes "/dev/stdin") × (path.now ≢ codes "/dev/fd/0")
IsSource word Stream = IsPlace word Stream ⊎ (word ≡ Some (codes "/dev/stdin")) ⊎ (word ≡ Some (codes "/dev/fd/0"))

-- the place to write: a path of standard output is that stream
abbrev pub IsTarget : Option (List ℕ) → Place → Type 0
IsTarget word (File path) = IsPlace word (File path) × (path.now ≢ codes "/dev/stdout") × (path.now ≢ codes "/dev/fd/1")
IsTarget word Stream = IsPlace word Stream ⊎ (word ≡ Some (codes "/dev/stdout")) ⊎ (word ≡ Some (codes "/dev/fd/1"))

-- when a build reports what it made: always if messages go to a terminal, else if there are no keys; but one flag says always, the
-- other never
abbrev pub summary_by : (to_terminal progress quiet : Bool) → Option Summary
summary_by true false false = Some summary.Always
summary_by false false false = Some summary.IfEmpty
summary_by to_terminal true false = Some summary.Always
summary_by to_terminal false true = Some summary.Never
summary_by to_terminal true true = None

-- the words of an argument, of all its uses
abbrev pub words_of : ArgMatches → List ℕ → Option (List (List ℕ))
words_of matches name = option_map raw_values (matched_of (found_of matches) name)

-- the keys, texts or values that are words of the command line
abbrev pub given_words : ArgMatches → Topic → Option (List (List ℕ))
given_words matches topic.Get = words_of matches (codes "KEY")
given_words matches topic.Longest = words_of matches (codes "TEXT")
given_words matches topic.Reverse = words_of matches (codes "VALUE")
given_words matches topic.List = None
given_words matches topic.Search = None
given_words matches topic.Verify = None
given_words matches topic.Stats = None
given_words matches topic.Inspect = None
given_words matches topic.Code = None

-- words as bytes
abbrev pub texts_of : Option (Vec (Bor (List ℕ)) Global) → Option (List (List ℕ))
texts_of words = option_map (λ w. map (λ text. text.now) w.items) words

-- no word is a hyphen
abbrev pub HasNoHyphen : List (List ℕ) → Type 0
HasNoHyphen [] = Unit {0}
HasNoHyphen (word ∷ words) = (word ≢ codes "-") × HasNoHyphen words

-- the keys that are asked for: these words, or the lines of standard input if the only one is a hyphen
abbrev pub AreKeysOf : Option (List (List ℕ)) → Keys → Type 0
AreKeysOf None of = ⊥
AreKeysOf (Some texts) (keys.Words words) = (map (λ w. w.now) words.now ≡ texts) × HasNoHyphen texts
AreKeysOf (Some texts) keys.Lines = texts ≡ codes "-" ∷ []

-- a test as usual, or none but of the seal by the flag
abbrev pub by_flag : Bool → Check
by_flag true = check.Skip
by_flag false = check.Usual

abbrev pub IsChecked : Option (List ℕ) → Check → Type 0
IsChecked word by = (flag : Bool) × IsFlag word flag × (by ≡ by_flag flag)

-- how a file is tested: in full by `verify`, and by others as usual unless a flag leaves that out
abbrev pub IsCheck : Topic → Option (List ℕ) → Check → Type 0
IsCheck topic.Get word by = IsChecked word by
IsCheck topic.Longest word by = IsChecked word by
IsCheck topic.Reverse word by = IsChecked word by
IsCheck topic.List word by = IsChecked word by
IsCheck topic.Search word by = IsChecked word by
IsCheck topic.Verify word by = by ≡ check.Full
IsCheck topic.Stats word by = IsChecked word by
IsCheck topic.Inspect word by = IsChecked word by
IsCheck topic.Code word by = IsChecked word by

-- the words of files that are asked one after the other
abbrev pub files_of : ArgMatches → List (List ℕ)
files_of matches = unwrap_or (words_of matches (codes "FILE")) []

-- the name of the file with this number, if a report has to say it: of several files
abbrev pub name_told : List (List ℕ) → ℕ → Option (List ℕ)
name_told files n = if nat_lt 1 (length files) then slice_get files n else None

-- the word of the file with this number that a topic is asked of: `verify` and `stats` have several
abbrev pub file_word : ArgMatches → Topic → ℕ → Option (List ℕ)
file_word matches topic.Get n = word_of matches (codes "FILE")
file_word matches topic.Longest n = word_of matches (codes "FILE")
file_word matches topic.Reverse n = word_of matches (codes "FILE")
file_word matches topic.List n = word_of matches (codes "FILE")
file_word matches topic.Search n = word_of matches (codes "FILE")
file_word matches topic.Verify n = slice_get (files_of matches) n
file_word matches topic.Stats n = slice_get (files_of matches) n
file_word matches topic.Inspect n = word_of matches (codes "FILE")
file_word matches topic.Code n = word_of matches (codes "FILE")

-- The file with this number that is asked, by the words of a question.
pub record IsFile (matches : ArgMatches) (about : Topic) (n : ℕ) (file : TrieFile) : Type 0 where
  pub place : IsSource (file_word matches about n) file.place
  pub bare : IsKind (word_of matches (codes "bare-kind")) file.bare
  pub check : IsCheck about (flag_of matches (codes "no-check")) file.check

-- how many edits a word allows, or two
abbrev pub IsEdits : Option (List ℕ) → ℕ → Type 0
IsEdits None edits = edits ≡ 2
IsEdits (Some word) edits = IsNumberOf word edits

-- a range from a key on, if its word is there, and below another
abbrev pub IsFrom : Option (List ℕ) → Bound (Bor (List ℕ)) → Type 0
IsFrom word (Included key) = word ≡ Some key.now
IsFrom word (Excluded key) = ⊥
IsFrom word Unbounded = word ≡ None

abbrev pub IsRangeEnd : (below to : Option (List ℕ)) → Bound (Bor (List ℕ)) → Type 0
IsRangeEnd below to (Included key) = (below ≡ None) × (to ≡ Some key.now)
IsRangeEnd below to (Excluded key) = (below ≡ Some key.now) × (to ≡ None)
IsRangeEnd below to Unbounded = (below ≡ None) × (to ≡ None)

-- how the word of `glob` finds keys: by characters, or by bytes with a flag
abbrev pub glob_by : Bool → SearchBy
glob_by false = by.GlobChars
glob_by true = by.Glob

-- how the word of `fuzzy` does: by edits of characters, or of bytes with a flag; neighbours may change places but with another flag
abbrev pub fuzzy_by : (bytes plain : Bool) → ℕ → SearchBy
fuzzy_by false false edits = by.SwapsChars edits
fuzzy_by false true edits = by.FuzzyChars edits
fuzzy_by true false edits = by.Swaps edits
fuzzy_by true true edits = by.Fuzzy edits

-- a name is none of those in zerotrie.h, if the language is C; of keywords, tests show it
abbrev pub IsFree : Language → List ℕ → Type 0
IsFree lang.Rust name = Unit {0}
IsFree lang.C name = starts_with eqb name (codes "zerotrie") ≡ false
IsFree lang.CAlone name = starts_with eqb name (codes "zerotrie") ≡ false
IsFree lang.Rattle name = Unit {0}
IsFree lang.JavaScript name = Unit {0}
