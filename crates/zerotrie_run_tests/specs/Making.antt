-- What the laws of zerotrie_making say of files that are made, and of errors of a making.
use Rattle.std.specs.Prelude.{◌≡◌, ℕ, List, Some, false}
use Rattle.zerotrie_core.specs.Kinds.{kind_of}
use Rattle.zerotrie_core.specs.Maps.{Map, Pairs, map_of}
use Rattle.zerotrie_core.specs.Texts.{Means}
use Rattle.zerotrie_core.specs.declared.TrieKind.{TrieKind}
use Rattle.zerotrie_lines.specs.Laws.{tsv_form}
use Rattle.zerotrie_lines.specs.Reads.{Reads}
use Rattle.zerotrie_lines.specs.declared.reading.LineEnd.TheVariants.{CrLf}
use Rattle.zerotrie_making.specs.Made.{IsFile}
use Rattle.zerotrie_making.specs.declared.duplicates.Duplicates.TheVariants.{Refuse}
use Rattle.zerotrie_making.specs.declared.error.MakeError.{MakeError}
use Rattle.zerotrie_making.specs.declared.error.MakeError.TheVariants.{NotText, Line, NotJson, NotPairs, NotPair, Keys, SumTooLarge, Refused, IndexRefused, OutOfMemory}
use Rattle.zerotrie_making.specs.declared.plan.FileForm.TheVariants.{Bare}
use Rattle.zerotrie_making.specs.declared.plan.Plan.{Plan}
use Rattle.zerotrie_making.specs.declared.plan.Source.{Source}
use Rattle.zerotrie_making.specs.declared.plan.Source.TheVariants.{Text}

-- a trie of this kind of the pairs of lines, as bytes alone
abbrev pub bare_plan : TrieKind → Plan
bare_plan kind = record { read = record { source = Text (tsv_form CrLf); lower_case = false; duplicates = Refuse }; file = record { kind = Some kind; sorted = false; form = Bare } }

-- the second bytes of the kind mean the map that the first mean, if these mean one
abbrev pub MeanSame : TrieKind → (first second : List ℕ) → Type 0
MeanSame kind first second = (m : Map) → Means (kind_of kind) first m → Means (kind_of kind) second m

-- the lines are pairs, and both bytes of the kind mean the map of these
abbrev pub MeanPairsOf : (lines : List ℕ) → TrieKind → (first second : List ℕ) → Type 0
MeanPairsOf lines kind first second = (pairs : Pairs) × Reads (tsv_form CrLf) lines pairs × Means (kind_of kind) first (map_of pairs) × Means (kind_of kind) second (map_of pairs)

-- the plan makes no file of the input
abbrev pub MakesNone : Plan → List ℕ → Type 0
MakesNone plan input = (file : List ℕ) → IsFile plan input file → ⊥

-- no plan that reads an input as this source does makes a file of it
abbrev pub NoPlanMakes : Source → List ℕ → Type 0
NoPlanMakes source input = (plan : Plan) → plan.read.source ≡ source → MakesNone plan input

-- the error says that the input is no pairs
abbrev pub SaysNoPairs : MakeError → Type 0
SaysNoPairs (NotText other) = Unit {0}
SaysNoPairs (Line number bad) = Unit {0}
SaysNoPairs (NotJson line column) = Unit {0}
SaysNoPairs NotPairs = Unit {0}
SaysNoPairs (NotPair bad) = Unit {0}
SaysNoPairs (Keys s) = ⊥
SaysNoPairs (SumTooLarge k) = ⊥
SaysNoPairs (Refused e) = ⊥
SaysNoPairs (IndexRefused e) = ⊥
SaysNoPairs OutOfMemory = ⊥
