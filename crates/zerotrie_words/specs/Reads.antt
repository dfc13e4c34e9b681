-- What the words of a command line are to clap, and what is said of those that are no request.
use Rattle.std.specs.Prelude.{◌≡◌, ◌⊎◌, ℕ, List, [], true}
use Rattle.clap.specs.Faults.{fault_of}
use Rattle.clap.specs.Kinds.{IsAmong}
use Rattle.clap.specs.Matches.{found_of}
use Rattle.clap.specs.Simple.{App, matches_of, subcommand_of, subcommand_rows_of}
use Rattle.clap.specs.Takes.{takes}
use Rattle.clap.specs.Walk.{rows_of}
use Rattle.clap.specs.declared.error.kind.ErrorKind.{ErrorKind}
use Rattle.clap.specs.declared.error.kind.ErrorKind.TheVariants.{OutOfMemory}
use Rattle.clap.specs.declared.parser.matches.ArgMatches.{ArgMatches}
use Rattle.zerotrie_words.specs.Program.{IsProgram}
use Rattle.zerotrie_words.specs.Replies.{IsReply}
use Rattle.zerotrie_words.specs.Tasks.{AsksForPage, IsTaskOf, NamesNoTask}
use Rattle.zerotrie_words.specs.declared.misuse.Misuse.TheVariants as misuse
use Rattle.zerotrie_words.specs.declared.reply.Reply.{Reply}
use Rattle.zerotrie_words.specs.declared.reply.Reply.TheVariants as reply
use Rattle.zerotrie_words.specs.declared.task.Task.{Task}

-- a program finds this in the words: its matches of them and those of the command that they name, and no fault
abbrev pub HasFound : App → List (List ℕ) → ArgMatches → Type 0
HasFound app words matches = (rows_of (found_of matches) ≡ matches_of app words) × (subcommand_rows_of matches ≡ subcommand_of app words) × (fault_of app words ≡ [])

-- a program makes an error of this kind of the words: a fault of theirs, or it is out of memory
abbrev pub HasFault : App → List (List ℕ) → ErrorKind → Type 0
HasFault app words kind = ((kind ≡ OutOfMemory) ⊎ IsAmong kind (fault_of app words)) × (takes app words ≡ true → kind ≡ OutOfMemory)

-- the program finds this in the words
unfoldable pub IsFoundIn : List (List ℕ) → ArgMatches → Type 0
IsFoundIn words matches = (app : App) × IsProgram app × HasFound app words matches

-- what is said where the program makes an error of the words
unfoldable pub IsFaultSaid : List (List ℕ) → Reply → Type 0
IsFaultSaid words said = (app : App) × IsProgram app × ((kind : ErrorKind) × HasFault app words kind × IsReply kind said)

-- what is said of what clap found, if that is no task: the page that is asked for, or why
abbrev pub IsSaidOfFound : ArgMatches → Reply → Type 0
IsSaidOfFound matches (reply.Help text) = AsksForPage matches
IsSaidOfFound matches (reply.Misuse text) = ⊥
IsSaidOfFound matches (reply.Refusal why) = NamesNoTask matches × (why ≡ misuse.NoCommand)
IsSaidOfFound matches (reply.OneFile path other) = ⊥
IsSaidOfFound matches reply.OutOfMemory = Unit {0}

-- the words are no request, and this is said of them
unfoldable pub IsNoRequest : List (List ℕ) → Reply → Type 0
IsNoRequest words said = IsFaultSaid words said ⊎ ((matches : ArgMatches) × IsFoundIn words matches × IsSaidOfFound matches said)

-- the words are a task, with the matches of its command
unfoldable pub IsRequest : List (List ℕ) → Task → ArgMatches → Type 0
IsRequest words t own = (matches : ArgMatches) × IsFoundIn words matches × IsTaskOf matches t own
