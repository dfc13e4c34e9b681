-- What messages on standard error say.
use Rattle.std.specs.Prelude.{◌≡◌, ◌/◌, ◌%◌, ◌==◌, ◌&&◌, ℕ, List, [], ◌∷◌, ◌++◌, length, map, take, bytes_eq, codes, decimal, nat_le, nat_lt, Bool, true, false, Option, Some, None, if◌then◌else◌}
use Rattle.std.specs.Char.{to_ascii_lowercase}
use Rattle.zerotrie_core.specs.declared.ZeroTrieBuildError.{ZeroTrieBuildError}
use Rattle.zerotrie_core.specs.declared.ZeroTrieBuildError.TheVariants as cause
use Rattle.zerotrie_core.specs.declared.faults.Fault.{Fault}
use Rattle.zerotrie_core.specs.Faults.{rule_text}
use Rattle.zerotrie_any.specs.declared.bytes.TagError.{TagError}
use Rattle.zerotrie_any.specs.declared.bytes.TagError.TheVariants.{Empty, InvalidTag}
use Rattle.zerotrie_lines.specs.Escapes.{escaped}
use Rattle.zerotrie_lines.specs.declared.reading.Format.{Format}
use Rattle.zerotrie_lines.specs.declared.reading.Format.TheVariants.{Lines, Tsv, TsvRaw, Csv}
use Rattle.zerotrie_lines.specs.declared.fault.BadLine.{BadLine}
use Rattle.zerotrie_lines.specs.declared.fault.BadLine.TheVariants as bad
use Rattle.zerotrie_lines.specs.declared.fault.ValueFault.{ValueFault}
use Rattle.zerotrie_lines.specs.declared.fault.ValueFault.TheVariants as fault
use Rattle.zerotrie_index.specs.declared.error.ZeroIndexBuildError.{ZeroIndexBuildError}
use Rattle.zerotrie_index.specs.declared.error.ZeroIndexBuildError.TheVariants as index
use Rattle.zerotrie_queries.specs.declared.file.OpenError.{OpenError}
use Rattle.zerotrie_queries.specs.declared.file.OpenError.TheVariants as unopened
use Rattle.zerotrie_queries.specs.declared.print.Form.{Form}
use Rattle.zerotrie_queries.specs.declared.print.Form.TheVariants.{Lines, Distances, Json, Count}
use Rattle.zerotrie_making.specs.declared.plan.Source.{Source}
use Rattle.zerotrie_making.specs.declared.plan.Source.TheVariants as source
use Rattle.zerotrie_making.specs.declared.others.OtherFile.{OtherFile}
use Rattle.zerotrie_making.specs.declared.others.OtherFile.TheVariants.{Utf16, Gzip, Sealed}
use Rattle.zerotrie_making.specs.declared.error.NoPair.{NoPair}
use Rattle.zerotrie_making.specs.declared.error.NoPair.TheVariants.{Member, Item, Line}
use Rattle.zerotrie_making.specs.declared.error.NumberedKey.{NumberedKey}
use Rattle.zerotrie_making.specs.declared.error.MakeError.{MakeError}
use Rattle.zerotrie_making.specs.declared.error.MakeError.TheVariants as made
use Rattle.zerotrie_sets.specs.declared.selection.RuleError.{RuleError}
use Rattle.zerotrie_sets.specs.declared.selection.RuleError.TheVariants.{SeveralValues, DifferentValues, SumTooLarge}
use Rattle.zerotrie_core.specs.Kinds.{kind_name}
use Rattle.zerotrie_core.specs.declared.TrieKind.{TrieKind}
use Rattle.zerotrie_making.specs.declared.error.CombinationError.{CombinationError}
use Rattle.zerotrie_making.specs.declared.error.CombinationError.TheVariants as combination
use Rattle.zerotrie_run.specs.Combined.{file_of}
use Rattle.zerotrie_run.specs.declared.front.Hint.{Hint}
use Rattle.zerotrie_run.specs.declared.front.Hint.TheVariants.{Text, Other, Nothing}
use Rattle.zerotrie_run.specs.declared.command.TrieFile.{TrieFile}
use Rattle.zerotrie_run.specs.declared.command.Place.{Place}
use Rattle.zerotrie_run.specs.declared.command.Place.TheVariants.{File, Stream}
use Rattle.zerotrie_run.specs.declared.stdin_lines.AnswerError.TheVariants.{Input, NoLines, Output}
use Rattle.zerotrie_run.specs.declared.ask.AskError.{AskError}
use Rattle.zerotrie_run.specs.declared.ask.AskError.TheVariants as ask
use Rattle.zerotrie_run.specs.declared.making.MakingError.{MakingError}
use Rattle.zerotrie_run.specs.declared.making.MakingError.TheVariants as making
use Rattle.zerotrie_run.specs.declared.messages.pairs.PairUnit.{PairUnit}
use Rattle.zerotrie_run.specs.declared.messages.pairs.PairUnit.TheVariants as unit

-- a text is a line: it ends in a line feed
abbrev pub IsLine : List ℕ → Type 0
IsLine text = (words : List ℕ) × (text ≡ words ++ 10 ∷ [])

-- how messages name a place: by its path, and a stream by these words
abbrev pub place_name : Place → List ℕ → List ℕ
place_name (File path) stream = path.now
place_name Stream stream = stream

-- how they name one that is read, and one that is written
abbrev pub source_name : Place → List ℕ
source_name place = place_name place (codes "standard input")

abbrev pub target_name : Place → List ℕ
target_name place = place_name place (codes "standard output")

-- what a line on a place begins with: no byte of a name steers a terminal
abbrev pub line_front : List ℕ → List ℕ
line_front place = (codes "zerotrie: " ++ escaped place) ++ codes ": "

-- the line on the place of this name that has these words
abbrev pub line_on : (place words : List ℕ) → List ℕ
line_on place words = (line_front place ++ words) ++ 10 ∷ []

-- a text is a line on the place of this name
abbrev pub IsLineOn : List ℕ → List ℕ → Type 0
IsLineOn place text = (words : List ℕ) × (text ≡ line_on place words)

-- what holds one pair of a format, and of a source
abbrev pub unit_of_format : Format → PairUnit
unit_of_format Lines = unit.Line
unit_of_format Tsv = unit.Line
unit_of_format TsvRaw = unit.Line
unit_of_format Csv = unit.Record

abbrev pub unit_of : Source → PairUnit
unit_of (source.Text form) = unit_of_format form.format
unit_of source.Json = unit.Pair
unit_of (source.JsonLines names) = unit.Line

-- the word before its number
abbrev pub unit_word : PairUnit → List ℕ
unit_word unit.Line = codes "line"
unit_word unit.Record = codes "record"
unit_word unit.Pair = codes "pair"

-- how a key is told: as it is on a line, by its first 100 bytes and its length if it is longer, and by words if it is empty
abbrev pub told_key : List ℕ → List ℕ
told_key key =
    if length key == 0 then codes "the empty key" else (if nat_le (length key) 100 then escaped key
    else escaped (take 100 key) ++ (codes ".. (" ++ (decimal (length key) ++ codes " bytes)")))

-- two pairs have the same key
abbrev pub same_words : (unit : List ℕ) → NumberedKey → NumberedKey → List ℕ
same_words unit a b =
    (unit ++ (codes "s " ++ (decimal a.number ++ (codes " and " ++ (decimal b.number ++ codes " have the same key; --duplicates first, sum or another gives it one value: ")))))
    ++ told_key a.key.items

-- the keys do not ascend: the second is not above the first
abbrev pub above_words : (unit : List ℕ) → NumberedKey → NumberedKey → List ℕ
above_words unit a b =
    (unit ++ (codes " " ++ (decimal b.number ++ (codes ": its key is not above that of " ++ (unit ++ (codes " " ++ (decimal a.number
    ++ codes "; sort the input by the bytes of its keys, or leave out --sorted: ")))))))
    ++ told_key b.key.items

-- a key is not ASCII
abbrev pub ascii_words : (unit : List ℕ) → NumberedKey → List ℕ
ascii_words unit a = (unit ++ (codes " " ++ (decimal a.number ++ codes ": its key is not ASCII; take --kind hash or --kind ext: "))) ++ told_key a.key.items

-- what two keys have in common that a kind refuses, and what to do
abbrev pub case_hint : List ℕ → List ℕ → List ℕ
case_hint a b =
    if bytes_eq (map to_ascii_lowercase a) (map to_ascii_lowercase b) then codes "their keys differ only in case, so they are one key to the kind; leave one out"
    else codes "their keys begin alike but for the case of a letter; take --kind simple, or bring keys into lower case by build --lower-case"

-- two keys are refused for their case
abbrev pub case_words : (unit : List ℕ) → NumberedKey → NumberedKey → List ℕ
case_words unit a b =
    (((unit ++ (codes "s " ++ (decimal a.number ++ (codes " and " ++ (decimal b.number ++ (codes ": " ++ (case_hint a.key.items b.key.items ++ codes ": ")))))))
    ++ told_key a.key.items) ++ codes " and ") ++ told_key b.key.items

-- why keys are refused together, with the numbers of their pairs, and the keys that show it
abbrev pub keys_words : ZeroTrieBuildError → (unit : List ℕ) → NumberedKey → NumberedKey → List ℕ
keys_words cause.DuplicateKey unit a b = same_words unit a b
keys_words cause.Unsorted unit a b = if bytes_eq a.key.items b.key.items then same_words unit a b else above_words unit a b
keys_words cause.NonAsciiError unit a b = ascii_words unit a
keys_words cause.MixedCase unit a b = case_words unit a b
keys_words cause.CapacityExceeded unit a b = case_words unit a b
keys_words cause.CouldNotSolvePerfectHash unit a b = case_words unit a b
keys_words cause.IllegalDelimiter unit a b = case_words unit a b
keys_words cause.BufferTooSmall unit a b = case_words unit a b
keys_words (cause.BufferTooLarge len) unit a b = case_words unit a b
keys_words cause.StackExceeded unit a b = case_words unit a b
keys_words cause.OutOfMemory unit a b = case_words unit a b

-- which member or item of a JSON value, or which line, is no pair
abbrev pub no_pair_words : NoPair → List ℕ
no_pair_words (Member key) = codes "the value of this key is not written as a whole number below 2^64: " ++ told_key key.items
no_pair_words (Item number) =
    codes "pair " ++ (decimal number ++ codes ": no list of a key and of a value that is written as a whole number below 2^64")
no_pair_words (Line number) =
    codes "line "
    ++ (decimal number
    ++ codes ": no JSON list [key, value], and no object {\"key\": key, \"value\": value} or with the names of --key and --value, whose value is written as a whole number below 2^64")

-- a value is none for no other reason that is known
abbrev pub is_other : ValueFault → Bool
is_other fault.Empty = false
is_other fault.Sign = false
is_other fault.Blank = false
is_other fault.CarriageReturn = false
is_other fault.Hexadecimal = false
is_other fault.Fraction = false
is_other fault.TooLong = false
is_other fault.TooGreat = false
is_other fault.Other = true

-- what may help if the first line or record is no pair
abbrev pub header_hint : PairUnit → ValueFault → List ℕ
header_hint unit.Line value = if is_other value then codes "; if it is a header, say so by --header" else []
header_hint unit.Record value = if is_other value then codes "; if it is a header, say so by --header" else []
header_hint unit.Pair value = []

-- what may help if the line or record with this number is no pair
abbrev pub bad_hint : PairUnit → ℕ → BadLine → List ℕ
bad_hint unit number bad.Empty = []
bad_hint unit number bad.NoTab = codes "; if the input has another form, name it by --format"
bad_hint unit number bad.Escape = []
bad_hint unit number (bad.Value v) = if number == 1 then header_hint unit v.fault else []
bad_hint unit number (bad.Fields found wanted) = []
bad_hint unit number (bad.NoColumn name) = []
bad_hint unit number (bad.SameColumns name) = []

-- a field or a name in quotes
abbrev pub quoted_words : List ℕ → List ℕ
quoted_words field = (codes ": \"" ++ escaped field) ++ codes "\""

-- what a field begins with that is no value, the name of a column, or how many fields there are
abbrev pub field_words : BadLine → List ℕ
field_words bad.Empty = []
field_words bad.NoTab = []
field_words bad.Escape = []
field_words (bad.Value v) = quoted_words v.front.items
field_words (bad.Fields found wanted) = codes ": " ++ (decimal found ++ (codes ", not " ++ decimal wanted))
field_words (bad.NoColumn name) = quoted_words name.items
field_words (bad.SameColumns name) = quoted_words name.items

-- what is wrong with a field that is no value
abbrev pub value_fault_words : ValueFault → List ℕ
value_fault_words fault.Empty = codes "the value is missing"
value_fault_words fault.Sign = codes "the value has a sign"
value_fault_words fault.Blank = codes "a blank is in the value"
value_fault_words fault.CarriageReturn = codes "a carriage return is at the end of the value"
value_fault_words fault.Hexadecimal = codes "the value is hexadecimal, not decimal"
value_fault_words fault.Fraction = codes "the value is a fraction or has an exponent"
value_fault_words fault.TooLong = codes "the value has more than 20 digits"
value_fault_words fault.TooGreat = codes "the value is 2^64 or more"
value_fault_words fault.Other = codes "the value is no decimal number"

-- why a line or record is no pair
abbrev pub bad_line_words : BadLine → List ℕ
bad_line_words bad.Empty = codes "an empty line"
bad_line_words bad.NoTab = codes "no tab between a key and its value"
bad_line_words bad.Escape = codes "a backslash that begins no escape; the escapes are \\t \\n \\r \\\\ \\xHH"
bad_line_words (bad.Value v) = value_fault_words v.fault
bad_line_words (bad.Fields found wanted) = codes "wrong number of fields"
bad_line_words (bad.NoColumn name) = codes "no column has this name"
bad_line_words (bad.SameColumns name) = codes "more than one column has this name"

-- which line or record is no pair, and why
abbrev pub bad_words : PairUnit → ℕ → BadLine → List ℕ
bad_words unit number bad = ((unit_word unit ++ (codes " " ++ (decimal number ++ (codes ": " ++ bad_line_words bad)))) ++ field_words bad) ++ bad_hint unit number bad

-- what may help if a text is no JSON value from here on
abbrev pub json_hint : (line column : ℕ) → List ℕ
json_hint line column = if nat_lt 1 line && column == 1 then codes "; if each line is a value, name the format by --format jsonl" else []

-- where a text is no JSON value
abbrev pub json_words : (line column : ℕ) → List ℕ
json_words line column =
    codes "line "
    ++ (decimal line
    ++ (codes ", column "
    ++ (decimal column
    ++ (codes ": no JSON value" ++ json_hint line column))))

-- at which pair the sum of the values of its key gets too large, and the key
abbrev pub sum_words : (unit : List ℕ) → NumberedKey → List ℕ
sum_words unit a = (unit ++ (codes " " ++ (decimal a.number ++ codes ": the sum of the values of its key is 2^64 or more: "))) ++ told_key a.key.items

-- a build fails for a cause that none is known to have
abbrev pub unexplained : List ℕ
unexplained = codes "the build of the pairs is refused"

-- why the build of a trie fails though no key is at fault
abbrev pub refused_words : ZeroTrieBuildError → List ℕ
refused_words cause.CapacityExceeded = codes "the trie would be too long for its kind: take --kind ext, or fewer pairs"
refused_words cause.CouldNotSolvePerfectHash =
    codes "no hashed table was found for the bytes that keys go on with at some place, as happens if these are random: take --index for get and verify alone, --kind simple if all keys are ASCII, or other keys, as their hexadecimal digits"
refused_words cause.NonAsciiError = unexplained
refused_words cause.MixedCase = unexplained
refused_words cause.IllegalDelimiter = unexplained
refused_words cause.DuplicateKey = unexplained
refused_words cause.Unsorted = unexplained
refused_words cause.BufferTooSmall = unexplained
refused_words (cause.BufferTooLarge len) = unexplained
refused_words cause.StackExceeded = unexplained
refused_words cause.OutOfMemory = unexplained

-- why the build of an index does
abbrev pub index_refused_words : ZeroIndexBuildError → List ℕ
index_refused_words index.CapacityExceeded = codes "the pairs of the index would have 4 GiB or more: leave out --index, or take fewer pairs"
index_refused_words index.Crowded =
    codes "more than 16 keys share a bucket of the index, whichever of 8 seeds is taken, as happens if they are chosen for that: leave out --index, or take other keys"
index_refused_words index.Unsorted = unexplained
index_refused_words index.DuplicateKey = unexplained
index_refused_words index.OutOfMemory = unexplained

-- what is said of an input that is another file, and what to do
abbrev pub other_words : OtherFile → List ℕ
other_words Utf16 = codes "it looks like UTF-16: make it UTF-8 by iconv -f UTF-16 -t UTF-8"
other_words Gzip = codes "it looks like a file of gzip: gunzip it first"
other_words Sealed = codes "it is a trie or an index that zerotrie made: list prints the pairs of a trie"

-- why no file is made of pairs
abbrev pub AreMadeWords : PairUnit → MakeError → List ℕ → Type 0
AreMadeWords unit (made.NotText other) words = words ≡ other_words other
AreMadeWords unit (made.Line number bad) words = words ≡ bad_words unit number bad
AreMadeWords unit (made.NotJson line column) words = words ≡ json_words line column
AreMadeWords unit made.NotPairs words = words ≡ codes "neither an object nor a list"
AreMadeWords unit (made.NotPair bad) words = words ≡ no_pair_words bad
AreMadeWords unit (made.Keys s) words = words ≡ keys_words s.error (unit_word unit) s.first s.second
AreMadeWords unit (made.SumTooLarge k) words = words ≡ sum_words (unit_word unit) k
AreMadeWords unit (made.Refused e) words = words ≡ refused_words e
AreMadeWords unit (made.IndexRefused e) words = words ≡ index_refused_words e
AreMadeWords unit made.OutOfMemory words = words ≡ codes "out of memory"

-- a line tells why no file is made of the pairs of a place
abbrev pub TellsMade : (place : List ℕ) → PairUnit → MakeError → List ℕ → Type 0
TellsMade place unit e text = (words : List ℕ) × AreMadeWords unit e words × (text ≡ line_on place words)

-- what is said of a file that does not begin as a trie: which other file it is, that it looks like text if it does, or is empty, or begins
-- with another number
abbrev pub tag_words : Hint → TagError → List ℕ
tag_words Text why = codes "it looks like text: build it first"
tag_words (Other other) why = other_words other
tag_words Nothing Empty = codes "the file is empty"
tag_words Nothing InvalidTag =
    codes "not a file of zerotrie build: its first byte is the number of no kind; if it is bare bytes, name their kind by --bare-kind"

-- what the places in a file are counted from, which is bare bytes of a kind that was named or not
abbrev pub counted_from : Option TrieKind → List ℕ
counted_from (Some named) = codes " of the file"
counted_from None = codes " of the trie in it"

-- the rule and the place of the first fault in bytes of this kind
abbrev pub fault_words : Option TrieKind → TrieKind → Fault → List ℕ
fault_words bare kind first =
    codes "no trie of kind "
    ++ (kind_name kind ++ (codes ": " ++ (rule_text first.cause ++ (codes ", at byte " ++ (decimal first.place ++ counted_from bare)))))

-- a line tells why a file has no trie: what it is, or its first fault; what is damaged in a sealed file is said by the crate that opens it
abbrev pub TellsNoTrie : TrieFile → OpenError → Hint → List ℕ → Type 0
TellsNoTrie file (unopened.BadTag why) hint text = text ≡ line_on (source_name file.place) (tag_words hint why)
TellsNoTrie file (unopened.Damaged why) hint text = IsLineOn (source_name file.place) text
TellsNoTrie file (unopened.NotWellFormed kind first) hint text = text ≡ line_on (source_name file.place) (fault_words file.bare kind first)
TellsNoTrie file unopened.OutOfMemory hint text = text ≡ line_on (source_name file.place) (codes "out of memory")

-- what is told of pairs that can't be one JSON value: the key that shows it
abbrev pub unprintable_words : Form → List ℕ
unprintable_words (Lines style) = codes "a key has a tab or a line feed, so leave out --raw: "
unprintable_words Json = codes "a key is not UTF-8, so take --format jsonl: "
unprintable_words Distances = codes "a key is not UTF-8, so take --format jsonl: "
unprintable_words Count = codes "a key is not UTF-8, so take --format jsonl: "

abbrev pub unprintable_line : (place : List ℕ) → Form → (key : List ℕ) → List ℕ
unprintable_line place form key = line_on place (unprintable_words form ++ told_key key)

-- what is told of standard input that is another file, and not lines of keys
abbrev pub no_keys_line : OtherFile → List ℕ
no_keys_line other = line_on (codes "standard input") (other_words other)

-- a line tells why a question to a file has no answer, and which place it is about
abbrev pub TellsAsk : TrieFile → AskError → List ℕ → Type 0
TellsAsk file (ask.Unread e) text = IsLineOn (source_name file.place) text
TellsAsk file (ask.NoTrie why hint) text = TellsNoTrie file why hint text
TellsAsk file (ask.Unanswered (Input e)) text = IsLineOn (codes "standard input") text
TellsAsk file (ask.Unanswered (NoLines other)) text = text ≡ no_keys_line other
TellsAsk file (ask.Unanswered (Output e)) text = IsLineOn (codes "standard output") text
TellsAsk file (ask.Unprintable form key) text = text ≡ unprintable_line (source_name file.place) form key.items

-- a line warns that a file is read as bare bytes and begins with the number of this kind
abbrev pub IsNumberLine : (place : List ℕ) → List ℕ → Type 0
IsNumberLine place text = (kind : TrieKind)
    × (text ≡ line_on place (codes "read as bare bytes, though its first byte is the number of kind "
    ++ (kind_name kind ++ codes ": leave out --bare-kind unless every key begins with that byte")))

-- what is told of a file that is there already
abbrev pub taken_line : (place : List ℕ) → List ℕ
taken_line place = line_on place (codes "the file is there already, and --no-clobber leaves it")

-- why a key that is taken gets no value
abbrev pub value_words : RuleError → List ℕ
value_words SeveralValues = codes "more than one file has this key; --values first, sum or another gives it one value: "
value_words DifferentValues = codes "files have different values for this key: "
value_words SumTooLarge = codes "the sum of the values of this key is 2^64 or more: "

-- a line tells why no file is made of maps: which key gets no value, and why; or as of pairs that are in no input
abbrev pub TellsUnmade : (place : List ℕ) → CombinationError → List ℕ → Type 0
TellsUnmade place (combination.NoValue why key) text = text ≡ line_on place (value_words why ++ told_key key.items)
TellsUnmade place (combination.NotMade e) text = TellsMade place unit.Pair e text

-- a line tells why no file was made, or written, and which place it is about: one that is read, the one of the pairs, or the one that is
-- written
abbrev pub TellsMakingError : (pairs : List ℕ) → PairUnit → (to : List ℕ) → MakingError → List ℕ → Type 0
TellsMakingError pairs unit to making.Taken text = text ≡ taken_line to
TellsMakingError pairs unit to (making.Unfound e) text = IsLineOn to text
TellsMakingError pairs unit to (making.Unread place e) text = IsLineOn (source_name place) text
TellsMakingError pairs unit to (making.NoTrie place why hint) text = TellsNoTrie (file_of place) why hint text
TellsMakingError pairs unit to (making.NotMade (combination.NoValue why key)) text = TellsUnmade to (combination.NoValue why key) text
TellsMakingError pairs unit to (making.NotMade (combination.NotMade e)) text = TellsMade pairs unit e text
TellsMakingError pairs unit to (making.Unwritten e) text = IsLineOn to text

-- tenths of a unit
abbrev pub tenths_text : ℕ → List ℕ → List ℕ
tenths_text tenths unit = decimal (tenths / 10) ++ (codes "." ++ (decimal (tenths % 10) ++ unit))

-- a size: bytes, or a greater unit with one digit behind the point, which is not rounded up
abbrev pub size_text : ℕ → List ℕ
size_text len =
    if nat_lt len 1000 then decimal len ++ codes " bytes" else if nat_lt len 1000000 then tenths_text (len / 100) (codes " kB")
    else if nat_lt len 1000000000 then tenths_text (len / 100000) (codes " MB") else tenths_text (len / 100000000) (codes " GB")

-- the word after a number of keys
abbrev pub key_word : ℕ → List ℕ
key_word keys = if keys == 1 then codes "key" else codes "keys"

-- what is told of a file that was made: its place, how many keys it has, and its size
abbrev pub made_line : List ℕ → ℕ → ℕ → List ℕ
made_line place keys len = line_on place (decimal keys ++ (codes " " ++ (key_word keys ++ (codes ", " ++ size_text len))))

-- what is told of the kind of a file for which none was named, and that was made of tries of several
abbrev pub kind_line : List ℕ → TrieKind → List ℕ
kind_line place kind = line_on place (codes "the files have tries of several kinds, so it is of kind " ++ kind_name kind)

-- the word after a number of files
abbrev pub file_word : ℕ → List ℕ
file_word count = if count == 1 then codes "file" else codes "files"

-- what is told of files that killed builds left beside that of the place: how many were removed
abbrev pub removed_line : List ℕ → ℕ → List ℕ
removed_line place removed = line_on place (codes "removed " ++ (decimal removed ++ (codes " " ++ (file_word removed ++ codes " that killed builds left"))))
