-- Which command does what.
use Rattle.std.specs.Prelude.{◌≡◌, ◌⊎◌, ℕ, List, Option, Some, None, codes}
use Rattle.std.specs.Option.{option_map}
use Rattle.clap.specs.Matches.{found_of, subcommand_name_of}
use Rattle.clap.specs.Simple.{subcommand_rows_of}
use Rattle.clap.specs.Walk.{rows_of}
use Rattle.clap.specs.declared.parser.matches.ArgMatches.{ArgMatches}
use Rattle.zerotrie_sets.specs.declared.selection.Selection.TheVariants.{Union, Intersection, Difference, SymmetricDifference}
use Rattle.zerotrie_words.specs.declared.task.Task.{Task}
use Rattle.zerotrie_words.specs.declared.task.Task.TheVariants as task
use Rattle.zerotrie_words.specs.declared.task.Topic.TheVariants as topic

-- the word of the command that does this, if one does
abbrev pub task_word : Task → Option (List ℕ)
task_word task.Build = Some (codes "build")
task_word (task.Ask topic.Get) = Some (codes "get")
task_word (task.Ask topic.Longest) = Some (codes "longest")
task_word (task.Ask topic.Reverse) = Some (codes "reverse")
task_word (task.Ask topic.List) = Some (codes "list")
task_word (task.Ask topic.Search) = Some (codes "search")
task_word task.Diff = Some (codes "diff")
task_word (task.Ask topic.Verify) = Some (codes "verify")
task_word (task.Ask topic.Stats) = Some (codes "stats")
task_word (task.Ask topic.Inspect) = Some (codes "inspect")
task_word (task.Ask topic.Code) = Some (codes "code")
task_word (task.Combine Union) = Some (codes "union")
task_word (task.Combine Intersection) = Some (codes "intersect")
task_word (task.Combine Difference) = Some (codes "minus")
task_word (task.Combine SymmetricDifference) = None

-- what clap found is no command of a task
abbrev pub NamesNoTask : ArgMatches → Type 0
NamesNoTask matches = (name : List ℕ) → subcommand_name_of matches ≡ Some name → (t : Task) → Some name ≡ task_word t → ⊥

-- what clap found is the command of a task, with these matches of its own
pub record IsTaskOf (matches : ArgMatches) (t : Task) (own : ArgMatches) : Type 0 where
  pub word : subcommand_name_of matches ≡ task_word t
  pub rows : option_map (λ p. p.1) (subcommand_rows_of matches) ≡ Some (rows_of (found_of own))

-- what clap found is a command that prints a page: the completions of a shell, or the man page
abbrev pub AsksForPage : ArgMatches → Type 0
AsksForPage matches = (subcommand_name_of matches ≡ Some (codes "completions")) ⊎ (subcommand_name_of matches ≡ Some (codes "man"))
