-- What is said in place of a command, and how the program ends then.
use Rattle.std.specs.Prelude.{◌≡◌, ◌≢◌, ◌⊎◌, [], string_bytes}
use Rattle.clap.specs.declared.error.kind.ErrorKind.{ErrorKind}
use Rattle.clap.specs.declared.error.kind.ErrorKind.TheVariants.{DisplayHelp, DisplayVersion}
use Rattle.clap.specs.declared.error.kind.ErrorKind.TheVariants as error
use Rattle.zerotrie_run.specs.declared.status.Status.{Status}
use Rattle.zerotrie_run.specs.declared.status.Status.TheVariants.{Done, BadUsage, OutOfMemory}
use Rattle.zerotrie_words.specs.declared.misuse.Misuse.TheVariants as misuse
use Rattle.zerotrie_words.specs.declared.reply.Reply.{Reply}
use Rattle.zerotrie_words.specs.declared.reply.Reply.TheVariants as reply

-- help and the version are what was asked for; a word that is wrong is bad usage
abbrev pub status_of : Reply → Status
status_of (reply.Help text) = Done
status_of (reply.Misuse text) = BadUsage
status_of (reply.Refusal why) = BadUsage
status_of (reply.OneFile path other) = BadUsage
status_of reply.OutOfMemory = OutOfMemory

-- the words ask for help or the version
abbrev pub AsksForHelp : ErrorKind → Type 0
AsksForHelp kind = (kind ≡ DisplayHelp) ⊎ (kind ≡ DisplayVersion)

-- a reply to words of which clap makes an error of this kind: help only if they ask for it, and else a message, unless it is out of memory
abbrev pub IsReply : ErrorKind → Reply → Type 0
IsReply kind (reply.Help text) = AsksForHelp kind
IsReply kind (reply.Misuse text) = (kind ≢ DisplayHelp) × (kind ≢ DisplayVersion) × (kind ≢ error.OutOfMemory) × (string_bytes text ≢ [])
IsReply kind (reply.Refusal why) = (kind ≢ DisplayHelp) × (kind ≢ DisplayVersion) × (kind ≢ error.OutOfMemory) × (why ≡ misuse.NoCommand)
IsReply kind (reply.OneFile path other) = ⊥
IsReply kind reply.OutOfMemory = Unit {0}
