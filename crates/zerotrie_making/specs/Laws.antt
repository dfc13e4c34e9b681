-- A trie is listed as lines, and made of them again.
use Rattle.std.specs.Prelude.{◌≡◌, ◌≢◌, ℕ, List, [], Some, false}
use Rattle.zerotrie_core.specs.Maps.{Map, beginning}
use Rattle.zerotrie_core.specs.Texts.{Means}
use Rattle.zerotrie_lines.specs.Laws.{tsv_form}
use Rattle.zerotrie_lines.specs.declared.reading.LineEnd.{LineEnd}
use Rattle.zerotrie_core.specs.Kinds.{kind_of}
use Rattle.zerotrie_queries.specs.Printed.{lines_of, pair_line}
use Rattle.zerotrie_queries.specs.declared.print.Style.TheVariants as style
use Rattle.zerotrie_core.specs.declared.TrieKind.{TrieKind}
use Rattle.zerotrie_core.specs.declared.ZeroTrieBuildError.TheVariants.{CouldNotSolvePerfectHash}
use Rattle.zerotrie_index.specs.declared.error.ZeroIndexBuildError.TheVariants.{Crowded}
use Rattle.zerotrie_making.specs.Plans.{IsFormOf}
use Rattle.zerotrie_making.specs.Made.{IsFile, Explains}
use Rattle.zerotrie_making.specs.Sources.{NoPairs}
use Rattle.zerotrie_making.specs.declared.error.MakeError.{MakeError}
use Rattle.zerotrie_making.specs.declared.error.MakeError.TheVariants.{Refused, IndexRefused, OutOfMemory}
use Rattle.zerotrie_making.specs.declared.plan.FileForm.TheVariants.{Index}
use Rattle.zerotrie_making.specs.declared.plan.Plan.{Plan}
use Rattle.zerotrie_making.specs.declared.duplicates.Duplicates.TheVariants.{Refuse}
use Rattle.zerotrie_making.specs.declared.plan.Source.TheVariants.{Text}

-- a trie file of this kind that is made of the lines in which all pairs of a trie are listed has bytes that mean the map of that trie
abbrev pub ListedIsMadeAgain : Type 0
ListedIsMadeAgain = (kind : TrieKind) (bytes file : List ℕ) (m : Map) (plan : Plan) (means : Means (kind_of kind) bytes m)
    → (end : LineEnd) → plan.read.source ≡ Text (tsv_form end) → plan.file.form ≢ Index → plan.file.kind ≡ Some kind → plan.read.lower_case ≡ false → plan.read.duplicates ≡ Refuse → IsFile plan (lines_of (pair_line style.Tsv) (beginning (kind_of kind) [] means.pairs)) file
    → (again : List ℕ) × IsFormOf plan.file.form (kind_of kind) again file × Means (kind_of kind) again m

-- an input that is no pairs makes no file
abbrev pub UnreadMakesNoFile : Type 0
UnreadMakesNoFile = (plan : Plan) (input file : List ℕ) (e : MakeError) → NoPairs plan.read.source input e → e ≢ OutOfMemory → IsFile plan input file → ⊥

-- An input for which an error has a reason makes no file. Three errors are left out: an allocation may fail at any time; that a
-- table has to be searched, which is all that is said of CouldNotSolvePerfectHash, does not exclude that the search finds one; and
-- pairs that crowd under the seeds of a build have an index under another.
abbrev pub RefusedMakesNoFile : Type 0
RefusedMakesNoFile = (plan : Plan) (input file : List ℕ) (e : MakeError) → Explains plan input e → e ≢ OutOfMemory → e ≢ Refused CouldNotSolvePerfectHash → e ≢ IndexRefused Crowded
    → IsFile plan input file → ⊥
