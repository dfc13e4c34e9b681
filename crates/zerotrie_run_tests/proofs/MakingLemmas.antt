-- The laws of zerotrie_making, of what its calls return.
use Rattle.std.proofs.Common.{◌≡◌, ℕ, ◌^◌, ◌<◌, List, [], ◌∷◌, ◌++◌, Option, Some, None, Result, Ok, Err, refl, sym, ap, ◌∙◌, subst}
use Rattle.std.specs.Prelude.{◌≢◌, All, IfErr, IfNone, IfOk, IfSome}
use Rattle.zerotrie_core.specs.Kinds.{kind_of}
use Rattle.zerotrie_core.specs.Maps.{Pairs, beginning, map_of}
use Rattle.zerotrie_core.specs.Texts.{Lists, Means}
use Rattle.zerotrie_core.specs.WellFormed.{IsWellFormed}
use Rattle.zerotrie_core.specs.declared.TrieKind.{TrieKind}
use Rattle.zerotrie_core.specs.declared.ZeroTrieBuildError.TheVariants.{CouldNotSolvePerfectHash}
use Rattle.zerotrie_index.specs.declared.error.ZeroIndexBuildError.TheVariants.{Crowded}
use Rattle.zerotrie_lines.specs.Laws.{BadIsUnread, LinesReadBack, tsv_form}
use Rattle.zerotrie_lines.specs.Lines.{tsv_line, tsv_lines}
use Rattle.zerotrie_lines.specs.Numbers.{IsNumber}
use Rattle.zerotrie_lines.specs.declared.reading.LineEnd.TheVariants.{CrLf}
use Rattle.zerotrie_making.specs.Json.{WholeIsNumber, whole}
use Rattle.zerotrie_making.specs.Laws.{ListedIsMadeAgain, RefusedMakesNoFile, UnreadMakesNoFile}
use Rattle.zerotrie_making.specs.Made.{Explains, IsFile, IsMade}
use Rattle.zerotrie_making.specs.Sources.{NoPairs}
use Rattle.zerotrie_making.specs.declared.error.MakeError.{MakeError}
use Rattle.zerotrie_making.specs.declared.error.MakeError.TheVariants.{NotText, Line, NotJson, NotPairs, NotPair, Keys, SumTooLarge, Refused, IndexRefused, OutOfMemory}
use Rattle.zerotrie_making.specs.declared.plan.Made.{Made}
use Rattle.zerotrie_making.specs.declared.plan.Plan.{Plan}
use Rattle.zerotrie_queries.specs.Printed.{lines_of, pair_line}
use Rattle.zerotrie_queries.specs.declared.print.Style.TheVariants.{Tsv}
use Rattle.zerotrie_run_tests.specs.Making.{MakesNone, MeanPairsOf, MeanSame, NoPlanMakes, SaysNoPairs, bare_plan}
use Rattle.zerotrie_run_tests.proofs.ListingLemmas.{no_other, values_below}

-- the text is the lines of all pairs that bytes list
abbrev pub IsListing : TrieKind → (bytes text : List ℕ) → Type 0
IsListing kind bytes text = (pairs : Pairs) → Lists (kind_of kind) bytes pairs → text ≡ lines_of (pair_line Tsv) (beginning (kind_of kind) [] pairs)

pub listed_same : ListedIsMadeAgain → (kind : TrieKind) (bytes text : List ℕ) (r : Result Made MakeError) → IsListing kind bytes text → IfOk r (IsMade (bare_plan kind) text) → IfOk r (λ made. MeanSame kind bytes made.file.items)
listed_same law kind bytes text (Ok made) listed is = λ m means.
    let all = lines_of (pair_line Tsv) (beginning (kind_of kind) [] means.pairs) in
    let file : IsFile (bare_plan kind) all made.file.items = subst (λ t. IsFile (bare_plan kind) t made.file.items) (listed means.pairs means.lists) (is.0, is.1, is.2, is.3.is) in
    let again = law kind bytes made.file.items m (bare_plan kind) means CrLf refl (λ same. cc) refl refl refl file in
    subst (λ b. Means (kind_of kind) b m) (sym again.1) again.2
listed_same law kind bytes text (Err e) listed is = tt

-- the lines in which pairs are listed
same_lines : (kind : TrieKind) (pairs : Pairs) → lines_of (pair_line Tsv) (beginning (kind_of kind) [] pairs) ≡ tsv_lines pairs
same_lines kind [] = refl
same_lines kind (e ∷ pairs) = ap (λ t. tsv_line e ++ t) (same_lines kind pairs)

-- no error says that they are no pairs
lines_are_pairs : LinesReadBack → BadIsUnread → (kind : TrieKind) (pairs : Pairs) (e : MakeError) → All (λ p. p.1 < 2 ^ 64) pairs → Explains (bare_plan kind) (tsv_lines pairs) e → SaysNoPairs e → ⊥
lines_are_pairs back bad kind pairs (NotText other) small why says = no_other pairs other why
lines_are_pairs back bad kind pairs (Line number fault) small why says = bad (tsv_form CrLf) (tsv_lines pairs) number fault pairs why (back CrLf pairs small)
lines_are_pairs back bad kind pairs (NotJson line column) small why says = why
lines_are_pairs back bad kind pairs NotPairs small why says = why
lines_are_pairs back bad kind pairs (NotPair bad_pair) small why says = why
lines_are_pairs back bad kind pairs (Keys s) small why says = says
lines_are_pairs back bad kind pairs (SumTooLarge k) small why says = says
lines_are_pairs back bad kind pairs (Refused e) small why says = says
lines_are_pairs back bad kind pairs (IndexRefused e) small why says = says
lines_are_pairs back bad kind pairs OutOfMemory small why says = says

pub listed_pairs : LinesReadBack → BadIsUnread → (kind : TrieKind) (bytes text : List ℕ) (r : Result Made MakeError) → IsListing kind bytes text → IfErr r (λ e. Explains (bare_plan kind) text e)
    → IfErr r (λ e. IsWellFormed (kind_of kind) bytes → SaysNoPairs e → ⊥)
listed_pairs back bad kind bytes text (Ok made) listed why = tt
listed_pairs back bad kind bytes text (Err e) listed why = λ formed.
    let means = formed.1 in
    lines_are_pairs back bad kind means.pairs e (values_below means.lists) (subst (λ t. Explains (bare_plan kind) t e) (listed means.pairs means.lists ∙ same_lines kind means.pairs) why)

pub mean_pairs : (kind : TrieKind) (lines : List ℕ) (first second : Made) → IsMade (bare_plan kind) lines first → MeanSame kind first.file.items second.file.items → MeanPairsOf lines kind first.file.items second.file.items
mean_pairs kind lines first second made same =
    let means : Means (kind_of kind) first.file.items (map_of made.1) = subst (λ bytes. Means (kind_of kind) bytes (map_of made.1)) (sym made.3.is.is) made.3.is.build.1.means in
    (made.1, made.2, means, same (map_of made.1) means)

pub none_made : RefusedMakesNoFile → (plan : Plan) (input : List ℕ) (r : Result Made MakeError) → IfErr r (λ e. Explains plan input e)
    → IfErr r (λ e. e ≢ OutOfMemory → e ≢ Refused CouldNotSolvePerfectHash → e ≢ IndexRefused Crowded → MakesNone plan input)
none_made law plan input (Ok made) why = tt
none_made law plan input (Err e) why = λ some table crowd file made. law plan input file e why some table crowd made

-- such an error says why the input is no pairs
no_pairs : (plan : Plan) (input : List ℕ) (e : MakeError) → SaysNoPairs e → Explains plan input e → NoPairs plan.read.source input e
no_pairs plan input (NotText other) says why = why
no_pairs plan input (Line number bad) says why = why
no_pairs plan input (NotJson line column) says why = why
no_pairs plan input NotPairs says why = why
no_pairs plan input (NotPair bad) says why = why
no_pairs plan input (Keys s) says why = absurd says
no_pairs plan input (SumTooLarge k) says why = absurd says
no_pairs plan input (Refused e) says why = absurd says
no_pairs plan input (IndexRefused e) says why = absurd says
no_pairs plan input OutOfMemory says why = absurd says

pub none_reads : UnreadMakesNoFile → (plan : Plan) (input : List ℕ) (r : Result Made MakeError) → IfErr r (λ e. Explains plan input e) → IfErr r (λ e. SaysNoPairs e → NoPlanMakes plan.read.source input)
none_reads law plan input (Ok made) why = tt
none_reads law plan input (Err e) why = λ says other same file made.
    law other input file e (subst (λ source. NoPairs source input e) (sym same) (no_pairs plan input e says why)) (λ is. subst SaysNoPairs is says) made

pub some_whole : WholeIsNumber → (digits : List ℕ) (r : Option ℕ) → IfSome r (IsNumber digits) → IfSome r (λ value. whole digits ≡ Some value)
some_whole law digits (Some value) is = (law digits value).1 is
some_whole law digits None is = tt

pub none_whole : WholeIsNumber → (digits : List ℕ) (r : Option ℕ) → IfNone r ((value : ℕ) → IsNumber digits value → ⊥) → IfNone r (whole digits ≡ None)
none_whole law digits (Some value) none = tt
none_whole law digits None none = nothing (whole digits) (λ value is. none value ((law digits value).0 is))
  where
    nothing : (o : Option ℕ) → ((value : ℕ) → o ≡ Some value → ⊥) → o ≡ None
    nothing None never = refl
    nothing (Some value) never = absurd (never value refl)
