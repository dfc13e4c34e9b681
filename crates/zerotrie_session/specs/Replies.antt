-- The lines that are printed.
use Rattle.std.specs.Prelude.{ℕ, ◌+◌, ◌/◌, ◌%◌, List, [], ◌∷◌, ◌++◌, length, codes, Option, Some, None, if◌then◌else◌, nat_lt}
use Rattle.std.specs.Fmt.{decimal}
use Rattle.zerotrie.specs.Maps.{Pairs}
use Rattle.zerotrie.specs.Machine.{Answer}
use Rattle.zerotrie.specs.Machine.Answer.{stepped, taken, probed}
use Rattle.zerotrie.specs.declared.ZeroTrieBuildError.{ZeroTrieBuildError}
use Rattle.zerotrie.specs.declared.ZeroTrieBuildError.TheVariants.{NonAsciiError, CapacityExceeded, CouldNotSolvePerfectHash, MixedCase, IllegalDelimiter, DuplicateKey, Unsorted, BufferTooSmall, BufferTooLarge, StackExceeded, OutOfMemory}

-- the text, as a line
abbrev pub line_of : List ℕ → List ℕ
line_of text = text ++ 10 ∷ []

-- a number below 16 as a hexadecimal digit, in lower case
abbrev pub hex_digit : ℕ → ℕ
hex_digit n = if nat_lt n 10 then 48 + n else 87 + n

-- two digits a byte
abbrev pub hex_digits : List ℕ → List ℕ
hex_digits [] = []
hex_digits (b ∷ bytes) = hex_digit (b / 16) ∷ hex_digit (b % 16) ∷ hex_digits bytes

-- bytes in hexadecimal, or a dash if there are none
abbrev pub hex : List ℕ → List ℕ
hex [] = codes "-"
hex (b ∷ bytes) = hex_digits (b ∷ bytes)

-- the name of an error
abbrev pub error_name : ZeroTrieBuildError → List ℕ
error_name NonAsciiError = codes "NonAsciiError"
error_name CapacityExceeded = codes "CapacityExceeded"
error_name CouldNotSolvePerfectHash = codes "CouldNotSolvePerfectHash"
error_name MixedCase = codes "MixedCase"
error_name IllegalDelimiter = codes "IllegalDelimiter"
error_name DuplicateKey = codes "DuplicateKey"
error_name Unsorted = codes "Unsorted"
error_name BufferTooSmall = codes "BufferTooSmall"
error_name (BufferTooLarge needed) = codes "BufferTooLarge"
error_name StackExceeded = codes "StackExceeded"
error_name OutOfMemory = codes "OutOfMemory"

-- the text of a trie that was built
abbrev pub ok_line : List ℕ → List ℕ
ok_line text = line_of (codes "ok " ++ decimal (length text) ++ codes " " ++ hex text)

abbrev pub refused_line : ZeroTrieBuildError → List ℕ
refused_line error = line_of (codes "refused " ++ error_name error)

-- the number of a key
abbrev pub number_line : Option ℕ → List ℕ
number_line None = line_of (codes "none")
number_line (Some value) = line_of (decimal value)

-- a pair: its value, and its key in hexadecimal
abbrev pub pair_line : List ℕ × ℕ → List ℕ
pair_line e = line_of (decimal e.1 ++ codes " " ++ hex e.0)

-- a line for each pair
abbrev pub list_lines : Pairs → List ℕ
list_lines [] = []
list_lines (e ∷ pairs) = pair_line e ++ list_lines pairs

-- an answer of a cursor, or a dash if there is none
abbrev pub answer_word : Answer → List ℕ
answer_word (stepped None) = codes "s-"
answer_word (stepped (Some b)) = codes "s" ++ hex (b ∷ [])
answer_word (taken None) = codes "t-"
answer_word (taken (Some value)) = codes "t" ++ decimal value
answer_word (probed None) = codes "p-"
answer_word (probed (Some e)) = codes "p" ++ hex (e.0 ∷ []) ++ codes "/" ++ decimal e.1

-- each answer after a space
abbrev pub spaced_answers : List Answer → List ℕ
spaced_answers [] = []
spaced_answers (answer ∷ answers) = codes " " ++ answer_word answer ++ spaced_answers answers

-- the answers of a walk, with one space between
abbrev pub walk_line : List Answer → List ℕ
walk_line [] = line_of []
walk_line (answer ∷ answers) = line_of (answer_word answer ++ spaced_answers answers)

-- line n is no command
abbrev pub bad_line : ℕ → List ℕ
bad_line n = line_of (codes "bad line " ++ decimal n)
