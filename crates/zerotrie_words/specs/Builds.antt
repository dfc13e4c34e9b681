-- What is made, by the options of a build or a combination, and how these are misused.
use Rattle.std.specs.Prelude.{◌≡◌, ◌≢◌, ◌⊎◌, ℕ, List, Option, Some, None, Bool, true, false, codes}
use Rattle.zerotrie_core.specs.Kinds.{kind_name}
use Rattle.zerotrie_core.specs.declared.TrieKind.{TrieKind}
use Rattle.zerotrie_lines.specs.declared.reading.Header.{Header}
use Rattle.zerotrie_lines.specs.declared.reading.LineEnd.{LineEnd}
use Rattle.zerotrie_lines.specs.declared.reading.Names.{Names}
use Rattle.zerotrie_making.specs.declared.plan.FileForm.{FileForm}
use Rattle.zerotrie_making.specs.declared.plan.FileForm.TheVariants as made
use Rattle.zerotrie_making.specs.declared.plan.Plan.{Plan}
use Rattle.zerotrie_making.specs.declared.plan.Source.{Source}
use Rattle.zerotrie_run.specs.declared.command.Build.{Build}
use Rattle.zerotrie_run.specs.declared.command.Combine.{Combine}
use Rattle.zerotrie_run.specs.declared.command.Place.{Place}
use Rattle.zerotrie_sets.specs.declared.selection.Rule.{Rule}
use Rattle.zerotrie_sets.specs.declared.selection.Rule.TheVariants.{First, Last, Sum, Min, Max, Equal, Refuse}
use Rattle.zerotrie_sets.specs.declared.selection.Selection.{Selection}
use Rattle.zerotrie_words.specs.Options.{text_of}
use Rattle.zerotrie_words.specs.Refusals.{IsNoKind, IsUnknown, NamesNone}
use Rattle.zerotrie_words.specs.Words.{AreNames, AreTogether, IsEnd, IsFormat, IsHeader, IsKind, IsSource, IsSourceOf, IsTarget, MayNameEnd, duplicates_word, end_word, form_by, format_word, summary_by}
use Rattle.zerotrie_words.specs.declared.input.Input.{Input}
use Rattle.zerotrie_words.specs.declared.input.Input.TheVariants as input
use Rattle.zerotrie_words.specs.declared.misuse.Misuse.{Misuse}
use Rattle.zerotrie_words.specs.declared.misuse.Misuse.TheVariants as misuse
use Rattle.zerotrie_words.specs.declared.options.BuildOptions.{BuildOptions}
use Rattle.zerotrie_words.specs.declared.options.MakeOptions.{MakeOptions}

-- What the input of a build is.
pub record IsInput (o : BuildOptions) (source : Source) : Type 0 where
  pub format : Input
  pub named : IsFormat (text_of o.format) (text_of o.input) format
  pub end : LineEnd
  pub ended : IsEnd (text_of o.eol) end
  pub lines : MayNameEnd format (text_of o.eol)
  pub names : Option Names
  pub named_so : AreNames format (text_of o.key) (text_of o.value) names
  pub header : Header
  pub headed : IsHeader format o.header names header
  pub of : IsSourceOf format o.raw end header names source

-- a word is no end of lines, or the format has no lines
abbrev pub IsEndMisuse : Input → Option (List ℕ) → Misuse → Type 0
IsEndMisuse input.Json word why = (word ≢ None) × (why ≡ misuse.EndOfJson)
IsEndMisuse input.JsonLines word why = (word ≢ None) × (why ≡ misuse.EndOfJson)
IsEndMisuse input.Tsv word why = IsUnknown (NamesNone end_word word) why
IsEndMisuse input.Csv word why = IsUnknown (NamesNone end_word word) why
IsEndMisuse input.Lines word why = IsUnknown (NamesNone end_word word) why

-- only one name is given, or the format has no columns and no members
abbrev pub HasNoNames : Input → Type 0
HasNoNames input.Tsv = ⊥
HasNoNames input.Csv = ⊥
HasNoNames input.Lines = Unit {0}
HasNoNames input.Json = Unit {0}
HasNoNames input.JsonLines = ⊥

abbrev pub IsNamesMisuse : Input → Option (List ℕ) → Option (List ℕ) → Misuse → Type 0
IsNamesMisuse format None None why = ⊥
IsNamesMisuse format (Some key) None why = why ≡ misuse.OneName
IsNamesMisuse format None (Some value) why = why ≡ misuse.OneName
IsNamesMisuse format (Some key) (Some value) why = HasNoNames format × (why ≡ misuse.NamesAreOfColumns)

-- a format has no header
abbrev pub HasNoHeader : Input → Type 0
HasNoHeader input.Tsv = ⊥
HasNoHeader input.Csv = ⊥
HasNoHeader input.Lines = Unit {0}
HasNoHeader input.Json = Unit {0}
HasNoHeader input.JsonLines = Unit {0}

abbrev pub IsHeaderMisuse : Input → Bool → Misuse → Type 0
IsHeaderMisuse format header why = HasNoHeader format × (header ≡ true) × (why ≡ misuse.HeaderIsOfColumns)

-- a format can't be raw
abbrev pub IsNeverRaw : Input → Type 0
IsNeverRaw input.Tsv = ⊥
IsNeverRaw input.Csv = Unit {0}
IsNeverRaw input.Lines = Unit {0}
IsNeverRaw input.Json = Unit {0}
IsNeverRaw input.JsonLines = Unit {0}

abbrev pub IsRawMisuse : Input → Bool → Misuse → Type 0
IsRawMisuse format raw why = IsNeverRaw format × (raw ≡ true) × (why ≡ misuse.RawIsTsv)

-- the options are no input
abbrev pub IsInputMisuse : BuildOptions → Misuse → Type 0
IsInputMisuse o why = IsUnknown (NamesNone format_word (text_of o.format)) why
    ⊎ ((format : Input) × IsFormat (text_of o.format) (text_of o.input) format
    × (IsEndMisuse format (text_of o.eol) why ⊎ (IsNamesMisuse format (text_of o.key) (text_of o.value) why ⊎ (IsHeaderMisuse format o.header why ⊎ IsRawMisuse format o.raw why))))

-- a word says nothing of keys that come again
abbrev pub IsNoChoice : Option (List ℕ) → Type 0
IsNoChoice word = (word ≡ None) ⊎ NamesNone duplicates_word word

-- what a file has
abbrev pub IsForm : MakeOptions → FileForm → Type 0
IsForm o form = form_by o.tagged o.bare o.index ≡ Some form

-- how flags of it that exclude each other are misused
abbrev pub exclusion : (index : Bool) → Misuse
exclusion true = misuse.IndexExcludes
exclusion false = misuse.TaggedAndBare

abbrev pub IsFileMisuse : MakeOptions → Misuse → Type 0
IsFileMisuse o why = (form_by o.tagged o.bare o.index ≡ None) × (why ≡ exclusion o.index)

-- the options are no file that is made: its kind is none, its flags exclude each other, or an index is to have a kind
abbrev pub IsContentMisuse : MakeOptions → Misuse → Type 0
IsContentMisuse o why = IsUnknown (IsNoKind (text_of o.kind)) why ⊎ (IsFileMisuse o why
    ⊎ ((kind : TrieKind) × (text_of o.kind ≡ Some (kind_name kind)) × IsForm o made.Index × (why ≡ misuse.IndexHasNoKind)))

-- flags say both that a build reports what it made and that it doesn't
abbrev pub IsSummaryMisuse : MakeOptions → Misuse → Type 0
IsSummaryMisuse o why = (o.summary ≡ true) × (o.quiet ≡ true) × (why ≡ misuse.SummaryAndQuiet)

-- How a file is to be made, by the options of a build.
pub record IsPlan (o : BuildOptions) (plan : Plan) : Type 0 where
  pub source : IsInput o plan.read.source
  pub duplicates : text_of o.duplicates ≡ Some (duplicates_word plan.read.duplicates)
  pub kind : IsKind (text_of o.make.kind) plan.file.kind
  pub sorted : plan.file.sorted ≡ o.sorted
  pub lower_case : plan.read.lower_case ≡ o.lower_case
  pub form : IsForm o.make plan.file.form
  pub together : AreTogether plan.file.form plan.file.kind

abbrev pub IsPlanMisuse : BuildOptions → Misuse → Type 0
IsPlanMisuse o why = IsContentMisuse o.make why ⊎ (IsInputMisuse o why ⊎ IsUnknown (IsNoChoice (text_of o.duplicates)) why)

-- The build that is asked for. What it made is told always if messages go to a terminal.
pub record IsBuild (o : BuildOptions) (to_terminal : Bool) (build : Build) : Type 0 where
  pub from : IsSource (text_of o.input) build.from
  pub to : IsTarget (text_of o.make.output) build.to
  pub plan : IsPlan o build.plan
  pub no_clobber : build.no_clobber ≡ o.make.no_clobber
  pub summary : summary_by to_terminal o.make.summary o.make.quiet ≡ Some build.summary

abbrev pub IsBuildMisuse : BuildOptions → Misuse → Type 0
IsBuildMisuse o why = IsPlanMisuse o why ⊎ IsSummaryMisuse o.make why

-- which value a key gets that several tries have, by its word
abbrev pub rule_word : Rule → List ℕ
rule_word First = codes "first"
rule_word Last = codes "last"
rule_word Sum = codes "sum"
rule_word Min = codes "min"
rule_word Max = codes "max"
rule_word Equal = codes "equal"
rule_word Refuse = codes "refuse"

-- the rule of a word; without one it is that of the first
abbrev pub IsRule : Option (List ℕ) → Rule → Type 0
IsRule None rule = rule ≡ First
IsRule (Some word) rule = word ≡ rule_word rule

-- The combination that is asked for, of the tries in these places, with the word of its rule. What it made is told as by a build.
pub record IsCombination (o : MakeOptions) (values : Option (List ℕ)) (which : Selection) (places : List Place) (to_terminal : Bool) (c : Combine) : Type 0 where
  pub from : c.from.now ≡ places
  pub selection : c.combination.selection ≡ which
  pub rule : IsRule values c.combination.rule
  pub to : IsTarget (text_of o.output) c.to
  pub kind : IsKind (text_of o.kind) c.combination.kind
  pub form : IsForm o c.combination.form
  pub together : AreTogether c.combination.form c.combination.kind
  pub no_clobber : c.no_clobber ≡ o.no_clobber
  pub summary : summary_by to_terminal o.summary o.quiet ≡ Some c.summary

abbrev pub IsCombinationMisuse : MakeOptions → Option (List ℕ) → Misuse → Type 0
IsCombinationMisuse o values why = IsContentMisuse o why ⊎ (IsUnknown (NamesNone rule_word values) why ⊎ IsSummaryMisuse o why)
