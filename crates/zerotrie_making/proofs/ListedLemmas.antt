-- Pairs that a trie lists, read again and built.
use Rattle.std.proofs.Common.{◌≡◌, ℕ, ◌++◌, List, [], ◌∷◌, Bool, Some, refl, ap, ◌∙◌, subst, sym}
use Rattle.std.specs.Prelude.{◌≢◌, Ok}
use Rattle.zerotrie_core.specs.Kind.{Kind}
use Rattle.zerotrie_core.specs.Maps.{Map, Pairs, beginning}
use Rattle.zerotrie_core.specs.Texts.{Means}
use Rattle.zerotrie_lines.specs.Lines.{tsv_line, tsv_lines}
use Rattle.zerotrie_lines.specs.Laws.{LinesReadBack, OneReading, tsv_form}
use Rattle.zerotrie_lines.specs.Tables.{lowered}
use Rattle.zerotrie_core.specs.Kinds.{kind_of}
use Rattle.zerotrie_queries.specs.Printed.{lines_of, pair_line}
use Rattle.zerotrie_queries.specs.declared.print.Style.TheVariants as style
use Rattle.zerotrie_core.specs.declared.TrieKind.{TrieKind}
use Rattle.zerotrie_core.specs.Routes.{IsBuild}
use Rattle.zerotrie_making.proofs.SmallLemmas.{values_below}
use Rattle.zerotrie_making.specs.Plans.{content_of, route_of, IsFormOf}
use Rattle.zerotrie_making.specs.Sources.{IsPairs}
use Rattle.zerotrie_making.specs.Kept.{kept}
use Rattle.zerotrie_making.specs.Made.{IsBuiltAs, IsFileOf}
use Rattle.zerotrie_making.specs.Laws.{ListedIsMadeAgain}
use Rattle.zerotrie_making.specs.declared.plan.FileForm.{FileForm}
use Rattle.zerotrie_making.specs.declared.plan.FileForm.TheVariants as form
use Rattle.zerotrie_making.specs.declared.plan.Plan.{Plan}
use Rattle.zerotrie_making.specs.declared.plan.Source.TheVariants.{Text}

-- what is built for a file that has no index is a trie
trie_built : (of : FileForm) (kind : Kind) (sorted : Bool) (pairs : Pairs) (bytes : List ℕ) → of ≢ form.Index → IsBuiltAs (content_of of kind) sorted pairs bytes
    → IsBuild (route_of sorted) kind (λ b. b) pairs (Ok bytes)
trie_built form.Sealed kind sorted pairs bytes of built = built
trie_built form.Tagged kind sorted pairs bytes of built = built
trie_built form.Bare kind sorted pairs bytes of built = built
trie_built form.Index kind sorted pairs bytes of built = absurd (of refl)

-- the file of pairs that a trie lists
of_listed : (kind : TrieKind) (bytes file : List ℕ) (m : Map) (plan : Plan) (means : Means (kind_of kind) bytes m)
    → plan.file.form ≢ form.Index → plan.file.kind ≡ Some kind → IsFileOf plan.file means.pairs file → (again : List ℕ) × IsFormOf plan.file.form (kind_of kind) again file × Means (kind_of kind) again m
of_listed kind bytes file m plan means trie named made =
    let f = rw named at made.is in
    let b = trie_built plan.file.form (kind_of kind) plan.file.sorted means.pairs made.bytes trie (rw named at made.build) in
    (made.bytes, f, subst (Means (kind_of kind) made.bytes) (sym means.is) b.1.means)

-- with the empty prefix all pairs are listed
all_begin : (kind : Kind) (pairs : Pairs) → beginning kind [] pairs ≡ pairs
all_begin kind [] = refl
all_begin kind (e ∷ pairs) = ap (λ ps. e ∷ ps) (all_begin kind pairs)

-- as lines that are read back
same_lines : (pairs : Pairs) → lines_of (pair_line style.Tsv) pairs ≡ tsv_lines pairs
same_lines [] = refl
same_lines (e ∷ pairs) = ap (λ t. tsv_line e ++ t) (same_lines pairs)

pub made_again : LinesReadBack → OneReading → ListedIsMadeAgain
made_again back one kind bytes file m plan means end tsv trie named cased all made =
    let lines : lines_of (pair_line style.Tsv) (beginning (kind_of kind) [] means.pairs) ≡ tsv_lines means.pairs = ap (lines_of (pair_line style.Tsv)) (all_begin (kind_of kind) means.pairs) ∙ same_lines means.pairs in
    let read : IsPairs (Text (tsv_form end)) (tsv_lines means.pairs) made.1 = subst (λ t. IsPairs (Text (tsv_form end)) t made.1) lines (subst (λ s. IsPairs s (lines_of (pair_line style.Tsv) (beginning (kind_of kind) [] means.pairs)) made.1) tsv made.2) in
    let same = one (tsv_form end) (tsv_lines means.pairs) means.pairs made.1 (back end means.pairs (values_below means.lists)) read in
    let plain : kept plan.read.duplicates (lowered plan.read.lower_case made.1) ≡ made.1 = rw (cased, all) refl in
    of_listed kind bytes file m plan means trie named (subst (λ pairs. IsFileOf plan.file pairs file) (plain ∙ same) made.3)
