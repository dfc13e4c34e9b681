-- The commands of the program, with their arguments, as clap reads them.
use Rattle.std.specs.Prelude.{◌≡◌, ℕ, List, ◌∷◌, [], ◌++◌, Option, None, codes, false, map}
use Rattle.std.specs.Borrow.{Bor}
use Rattle.std.specs.List.{slice_get}
use Rattle.std.specs.Option.{option_map}
use Rattle.clap.specs.Simple.{App, Shape, new_shape}
use Rattle.clap.specs.Walk.{Rule}
use Rattle.clap.specs.declared.builder.value_parser.ValueParser.{ValueParser}
use Rattle.clap.specs.declared.builder.value_parser.ValueParser.TheVariants.{Names}
use Rattle.zerotrie_words.specs.Arguments.{app_by, as_default, as_required, bare_program, flag, from_list, numbers_to, option, place, words}
use Rattle.zerotrie_words.specs.declared.arguments.Subcommand.{Subcommand}

-- the letter of an option, as a text
abbrev pub letter : List ℕ → Option ℕ
letter text = slice_get text 0

-- a list of words that lies nowhere
abbrev pub listed : List (List ℕ) → Bor (List (Bor (List ℕ)))
listed texts = record { ref_ptr = (0, 0); now = map (λ text. record { ref_ptr = (0, 0); now = text }) texts }

-- a rule that takes only these words
abbrev pub one_of : List (List ℕ) → Rule → Rule
one_of texts = from_list (listed texts)

-- ---- what several commands have

abbrev pub kinds : List (List ℕ)
kinds = codes "simple" ∷ codes "ignore" ∷ codes "hash" ∷ codes "ext" ∷ []

abbrev pub outputs : List (List ℕ)
outputs = codes "tsv" ∷ codes "csv" ∷ codes "keys" ∷ codes "values" ∷ codes "json" ∷ codes "jsonl" ∷ []

abbrev pub inputs : List (List ℕ)
inputs = codes "tsv" ∷ codes "csv" ∷ codes "lines" ∷ codes "json" ∷ codes "jsonl" ∷ []

-- what may become of a key that several pairs have
abbrev pub choices : List (List ℕ)
choices = codes "refuse" ∷ codes "first" ∷ codes "last" ∷ codes "sum" ∷ codes "min" ∷ codes "max" ∷ []

abbrev pub file : Rule
file = place (codes "FILE")

abbrev pub files : Rule
files = words (codes "FILE")

abbrev pub bare_kind : Rule
bare_kind = one_of kinds (option (codes "bare-kind") None)

abbrev pub no_check : Rule
no_check = flag (codes "no-check") None

abbrev pub escaped : Rule
escaped = flag (codes "escaped") None

abbrev pub greatest_first : Rule
greatest_first = numbers_to 18446744073709551615 (option (codes "top") None)

abbrev pub limit : Rule
limit = numbers_to 18446744073709551615 (option (codes "limit") (letter (codes "n")))

abbrev pub quiet : Rule
quiet = flag (codes "quiet") (letter (codes "q"))

-- which pairs a listing prints, and how
abbrev pub listing : (more : List Rule) → List Rule
listing more = option (codes "prefix") (letter (codes "p"))
    ∷ option (codes "from") None
    ∷ option (codes "below") None
    ∷ option (codes "to") None
    ∷ one_of outputs (option (codes "format") (letter (codes "f")))
    ∷ flag (codes "raw") (letter (codes "r"))
    ∷ greatest_first
    ∷ limit
    ∷ flag (codes "count") (letter (codes "c"))
    ∷ (more ++ quiet ∷ bare_kind ∷ no_check ∷ [])

-- the file that is made
abbrev pub output : Rule
output = as_required (option (codes "output") (letter (codes "o")))

abbrev pub no_clobber : Rule
no_clobber = flag (codes "no-clobber") None

-- what is made, and what is reported of it
abbrev pub making : List Rule
making = as_default (codes "auto") (one_of (codes "auto" ∷ kinds) (option (codes "kind") (letter (codes "k"))))
    ∷ flag (codes "tagged") (letter (codes "t"))
    ∷ flag (codes "bare") (letter (codes "b"))
    ∷ flag (codes "index") (letter (codes "i"))
    ∷ flag (codes "summary") None
    ∷ quiet
    ∷ []

-- which value a key gets that several tries have
abbrev pub rule : Rule
rule = as_default (codes "first") (one_of (choices ++ codes "equal" ∷ []) (option (codes "values") None))

-- ---- the commands

abbrev pub command : List ℕ → List Rule → Shape
command name rules = record (new_shape name) { rules = rules }

abbrev pub build : Shape
build = command (codes "build") (place (codes "IN")
    ∷ output
    ∷ no_clobber
    ∷ one_of inputs (option (codes "format") (letter (codes "f")))
    ∷ flag (codes "raw") (letter (codes "r"))
    ∷ flag (codes "header") None
    ∷ option (codes "key") None
    ∷ option (codes "value") None
    ∷ one_of (codes "crlf" ∷ codes "lf" ∷ []) (option (codes "eol") None)
    ∷ as_default (codes "refuse") (one_of choices (option (codes "duplicates") (letter (codes "d"))))
    ∷ flag (codes "lower-case") (letter (codes "l"))
    ∷ flag (codes "sorted") (letter (codes "S"))
    ∷ making)

abbrev pub get : Shape
get = command (codes "get") (file ∷ words (codes "KEY") ∷ flag (codes "keys") (letter (codes "k")) ∷ escaped ∷ bare_kind ∷ no_check ∷ [])

abbrev pub longest : Shape
longest = command (codes "longest") (file
    ∷ words (codes "TEXT")
    ∷ flag (codes "all") (letter (codes "a"))
    ∷ option (codes "at") None
    ∷ escaped
    ∷ bare_kind
    ∷ no_check
    ∷ [])

abbrev pub reverse : Shape
reverse = command (codes "reverse") (file ∷ words (codes "VALUE") ∷ bare_kind ∷ no_check ∷ [])

abbrev pub list : Shape
list = command (codes "list") (file ∷ listing (flag (codes "sorted") (letter (codes "S")) ∷ []))

abbrev pub search : Shape
search = command (codes "search") (file
    ∷ option (codes "glob") (letter (codes "g"))
    ∷ option (codes "fuzzy") (letter (codes "z"))
    ∷ numbers_to 254 (option (codes "edits") (letter (codes "e")))
    ∷ flag (codes "no-transpose") None
    ∷ flag (codes "bytes") None
    ∷ flag (codes "beginnings") None
    ∷ flag (codes "distance") None
    ∷ option (codes "subsequence") None
    ∷ option (codes "not") None
    ∷ listing [])

abbrev pub diff : Shape
diff = command (codes "diff") (place (codes "OLD") ∷ place (codes "NEW") ∷ bare_kind ∷ quiet ∷ [])

abbrev pub verify : Shape
verify = command (codes "verify") (files ∷ bare_kind ∷ [])

abbrev pub stats : Shape
stats = command (codes "stats") (files ∷ one_of (codes "text" ∷ codes "json" ∷ []) (option (codes "format") (letter (codes "f"))) ∷ bare_kind ∷ no_check ∷ [])

abbrev pub inspect : Shape
inspect = command (codes "inspect") (one_of (codes "dump" ∷ codes "dot" ∷ []) (place (codes "VIEW")) ∷ file ∷ limit ∷ bare_kind ∷ no_check ∷ [])

abbrev pub code : Shape
code = command (codes "code") (file
    ∷ as_required (one_of (codes "rust" ∷ codes "c" ∷ codes "rattle" ∷ codes "js" ∷ []) (option (codes "lang") None))
    ∷ option (codes "name") None
    ∷ flag (codes "alone") None
    ∷ bare_kind
    ∷ no_check
    ∷ [])

abbrev pub union : Shape
union = command (codes "union") (files ∷ output ∷ no_clobber ∷ rule ∷ making)

abbrev pub intersect : Shape
intersect = command (codes "intersect") (files ∷ output ∷ no_clobber ∷ rule ∷ making)

abbrev pub minus : Shape
minus = command (codes "minus") (files ∷ output ∷ no_clobber ∷ making)

abbrev pub completions : Shape
completions = command (codes "completions") (one_of (codes "bash" ∷ codes "zsh" ∷ codes "fish" ∷ []) (place (codes "SHELL")) ∷ [])

abbrev pub man : Shape
man = command (codes "man") []

-- ---- the program

-- the commands in the order of the help, in parts
abbrev pub look_ups : List Shape
look_ups = build ∷ get ∷ longest ∷ reverse ∷ []

abbrev pub listings : List Shape
listings = list ∷ search ∷ diff ∷ []

abbrev pub reports : List Shape
reports = verify ∷ stats ∷ inspect ∷ code ∷ []

abbrev pub combinations : List Shape
combinations = union ∷ intersect ∷ minus ∷ []

abbrev pub services : List Shape
services = completions ∷ man ∷ []

abbrev pub program : App
program = record {
  top = record bare_program.top { is_leaf = false };
  subs = look_ups ++ listings ++ reports ++ combinations ++ services;
}

-- the same list of words, rule, command or program, wherever its lists of words lie
abbrev pub list_wherever : ValueParser → ValueParser
list_wherever (Names list) = Names (listed (map (λ word. word.now) list.now))
list_wherever parser = parser

abbrev pub rule_wherever : Rule → Rule
rule_wherever rule = record rule { parser = option_map list_wherever rule.parser }

abbrev pub shape_wherever : Shape → Shape
shape_wherever shape = record shape { rules = map rule_wherever shape.rules }

abbrev pub app_wherever : App → App
app_wherever app = record app { subs = map shape_wherever app.subs }

-- the command of a row
abbrev pub shape_by : Subcommand → Shape
shape_by row = shape_wherever (app_by row).top

-- an app is the program, wherever its lists of words lie
unfoldable pub IsProgram : App → Type 0
IsProgram app = app_wherever app ≡ program
