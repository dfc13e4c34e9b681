-- The command that the words of a command line ask for.
use Rattle.std.specs.Prelude.{◌≡◌, ◌≢◌, ℕ, List, [], Option, Some, None, Bool, false, codes, length}
use Rattle.std.specs.Borrow.{Bor}
use Rattle.std.specs.List.{AllZip}
use Rattle.clap.specs.declared.parser.matches.ArgMatches.{ArgMatches}
use Rattle.zerotrie_run.specs.declared.command.Build.{Build}
use Rattle.zerotrie_run.specs.declared.command.Combine.{Combine}
use Rattle.zerotrie_run.specs.declared.command.Command.{Command}
use Rattle.zerotrie_run.specs.declared.command.Command.TheVariants as command
use Rattle.zerotrie_run.specs.declared.command.Diff.{Diff}
use Rattle.zerotrie_run.specs.declared.command.Place.{Place}
use Rattle.zerotrie_run.specs.declared.command.Place.TheVariants.{File, Stream}
use Rattle.zerotrie_words.specs.Builds.{IsBuild, IsBuildMisuse, IsCombination, IsCombinationMisuse}
use Rattle.zerotrie_words.specs.Diffs.{IsDiff}
use Rattle.zerotrie_words.specs.Options.{AreBuildOptions, AreMakeOptions}
use Rattle.zerotrie_words.specs.Questions.{IsAsk, IsAskMisuse}
use Rattle.zerotrie_words.specs.Refusals.{IsNoKind, IsUnknown}
use Rattle.zerotrie_words.specs.Words.{IsFlag, IsSource, files_of, flag_of, given_words, word_of}
use Rattle.zerotrie_words.specs.declared.misuse.Misuse.{Misuse}
use Rattle.zerotrie_words.specs.declared.options.BuildOptions.{BuildOptions}
use Rattle.zerotrie_words.specs.declared.options.MakeOptions.{MakeOptions}
use Rattle.zerotrie_words.specs.declared.reply.Reply.{Reply}
use Rattle.zerotrie_words.specs.declared.reply.Reply.TheVariants as reply
use Rattle.zerotrie_words.specs.declared.task.Task.{Task}
use Rattle.zerotrie_words.specs.declared.task.Task.TheVariants as task
use Rattle.zerotrie_words.specs.declared.task.Topic.TheVariants as topic

-- two places are not the file of one path
abbrev pub AreApart : Place → Place → Type 0
AreApart (File from) (File to) = from.now ≢ to.now
AreApart (File from) Stream = Unit {0}
AreApart Stream to = Unit {0}

abbrev pub AreOneFile : Place → Place → Type 0
AreOneFile (File from) (File to) = from.now ≡ to.now
AreOneFile (File from) Stream = ⊥
AreOneFile Stream to = ⊥

-- the keys or texts among the words of a task
abbrev pub keys_by : ArgMatches → Task → Option (List (List ℕ))
keys_by matches task.Build = None
keys_by matches (task.Ask topic) = given_words matches topic
keys_by matches task.Diff = None
keys_by matches (task.Combine selection) = None

-- the places that words name, in their order
abbrev pub AreSources : List (List ℕ) → List Place → Type 0
AreSources words places = AllZip (λ word place. IsSource (Some word) place) words places

-- the places of the tries that a task combines
abbrev pub ArePlaces : ArgMatches → Task → List Place → Type 0
ArePlaces matches task.Build places = places ≡ []
ArePlaces matches (task.Ask topic) places = places ≡ []
ArePlaces matches task.Diff places = places ≡ []
ArePlaces matches (task.Combine selection) places = AreSources (files_of matches) places

-- how many files a task is done for, one after the other
abbrev pub file_count : ArgMatches → Task → ℕ
file_count matches task.Build = 1
file_count matches (task.Ask topic.Get) = 1
file_count matches (task.Ask topic.Longest) = 1
file_count matches (task.Ask topic.Reverse) = 1
file_count matches (task.Ask topic.List) = 1
file_count matches (task.Ask topic.Search) = 1
file_count matches (task.Ask topic.Verify) = length (files_of matches)
file_count matches (task.Ask topic.Stats) = length (files_of matches)
file_count matches (task.Ask topic.Inspect) = 1
file_count matches (task.Ask topic.Code) = 1
file_count matches task.Diff = 1
file_count matches (task.Combine selection) = 1

-- the command of a task for the file with this number: a build does not replace its own input
abbrev pub IsCommand : ArgMatches → Option (List (List ℕ)) → List Place → Bool → ℕ → Task → Command → Type 0
IsCommand matches texts places to_terminal n task.Build c = (o : BuildOptions) × AreBuildOptions matches o
    × ((build : Build) × IsBuild o to_terminal build × AreApart build.from build.to × (c ≡ command.Build build))
IsCommand matches texts places to_terminal n (task.Ask topic) c = IsAsk matches topic n texts c
IsCommand matches texts places to_terminal n task.Diff c = (diff : Diff) × IsDiff matches diff × (c ≡ command.Diff diff)
IsCommand matches texts places to_terminal n (task.Combine selection) c = (o : MakeOptions) × AreMakeOptions matches o
    × ((of : Combine) × IsCombination o (word_of matches (codes "values")) selection places to_terminal of × (c ≡ command.Combine of))

-- whether nothing is printed of what a task finds: by the flag of a listing, a search or a comparison
abbrev pub IsQuiet : Task → ArgMatches → Bool → Type 0
IsQuiet task.Build matches quiet = quiet ≡ false
IsQuiet (task.Ask topic.Get) matches quiet = quiet ≡ false
IsQuiet (task.Ask topic.Longest) matches quiet = quiet ≡ false
IsQuiet (task.Ask topic.Reverse) matches quiet = quiet ≡ false
IsQuiet (task.Ask topic.List) matches quiet = IsFlag (flag_of matches (codes "quiet")) quiet
IsQuiet (task.Ask topic.Search) matches quiet = IsFlag (flag_of matches (codes "quiet")) quiet
IsQuiet (task.Ask topic.Verify) matches quiet = quiet ≡ false
IsQuiet (task.Ask topic.Stats) matches quiet = quiet ≡ false
IsQuiet (task.Ask topic.Inspect) matches quiet = quiet ≡ false
IsQuiet (task.Ask topic.Code) matches quiet = quiet ≡ false
IsQuiet task.Diff matches quiet = IsFlag (flag_of matches (codes "quiet")) quiet
IsQuiet (task.Combine selection) matches quiet = quiet ≡ false

-- the words of a task are no command
abbrev pub IsCommandMisuse : ArgMatches → Option (List (List ℕ)) → Task → Misuse → Type 0
IsCommandMisuse matches texts task.Build why = (o : BuildOptions) × AreBuildOptions matches o × IsBuildMisuse o why
IsCommandMisuse matches texts (task.Ask topic) why = IsAskMisuse matches topic texts why
IsCommandMisuse matches texts task.Diff why = IsUnknown (IsNoKind (word_of matches (codes "bare-kind"))) why
IsCommandMisuse matches texts (task.Combine selection) why = (o : MakeOptions) × AreMakeOptions matches o × IsCombinationMisuse o (word_of matches (codes "values")) why

-- a reply names the path that two places have in common
abbrev pub NamesOneFile : Place → Place → Reply → Type 0
NamesOneFile from to said = (path : Bor (List ℕ)) × (other : Bor (List ℕ)) × (from ≡ File path) × (to ≡ File other) × (path.now ≡ other.now) × (said ≡ reply.OneFile path other)

-- the input of a build is its output, by this path
abbrev pub ReplacesInput : ArgMatches → Task → (from to : List ℕ) → Type 0
ReplacesInput matches t from to = (t ≡ task.Build) × (word_of matches (codes "IN") ≡ Some from) × (word_of matches (codes "output") ≡ Some to) × (from ≡ to)

-- what is said of words that are no command: how they are misused, or the path of a build's input and its output
abbrev pub IsRefusal : ArgMatches → Option (List (List ℕ)) → Task → Reply → Type 0
IsRefusal matches texts t (reply.Help text) = ⊥
IsRefusal matches texts t (reply.Misuse text) = ⊥
IsRefusal matches texts t (reply.Refusal why) = IsCommandMisuse matches texts t why
IsRefusal matches texts t (reply.OneFile path other) = ReplacesInput matches t path.now other.now
IsRefusal matches texts t reply.OutOfMemory = ⊥
