-- What is told last of a run.
use Rattle.std.proofs.Common.{◌≡◌, ◌++◌, subst, ℕ, List, Option, Bool, true, false, codes, refl, inl, inr}
use Rattle.std.specs.Prelude.{unwrap_or}
use Rattle.std.specs.Io.KnownBytes.{Appends}
use Rattle.std.proofs.KnownBytes.{Appends-trans}
use Rattle.zerotrie_files.specs.Disks.{Story}
use Rattle.zerotrie_queries.specs.declared.file.OpenError.TheVariants as unopened
use Rattle.zerotrie_run.specs.Statuses.{failure}
use Rattle.zerotrie_run.specs.Messages.{IsLineOn, TellsAsk, line_front, no_keys_line, source_name, unprintable_line}
use Rattle.zerotrie_run.specs.Runs.{ask_refusal, IsUnasked}
use Rattle.zerotrie_run.specs.Told.{TellsMore, ToldLast, LineTold, IsPlaceOf, HasReason, IsTold}
use Rattle.zerotrie_run.specs.declared.command.TrieFile.{TrieFile}
use Rattle.zerotrie_run.specs.declared.command.Question.{Question}
use Rattle.zerotrie_run.specs.declared.command.Command.{Command}
use Rattle.zerotrie_run.specs.declared.command.Command.TheVariants as commands
use Rattle.zerotrie_run.specs.declared.ask.AskError.{AskError}
use Rattle.zerotrie_run.specs.declared.ask.AskError.TheVariants as ask
use Rattle.zerotrie_run.specs.declared.stdin_lines.AnswerError.TheVariants as answer

-- a text that is told after some words is told last
pub told_last : (a b c : Option (List ℕ)) (text : List ℕ) → TellsMore a b → Appends b c text → ToldLast a c text
told_last a b c text more h = (more.0, Appends-trans a b c more.0 text more.1 h)

-- and so is a line that it is
pub told_exactly : (a b c : Option (List ℕ)) (text line : List ℕ) → text ≡ line → TellsMore a b → Appends b c text → ToldLast a c line
told_exactly a b c text line is more h = subst (λ t. ToldLast a c t) is (told_last a b c text more h)

pub no_memory : (a b c : Option (List ℕ)) → TellsMore a b → Appends b c (codes "zerotrie: out of memory\n") → LineTold a c
no_memory a b c more h = (codes "zerotrie: out of memory\n", (codes "zerotrie: out of memory", refl), told_last a b c (codes "zerotrie: out of memory\n") more h)

-- a line on one of its places is told of a run in which something failed
pub failure_told : (command : Command) (input : Option (List ℕ)) (files : Option Story) (a b c : Option (List ℕ)) (text name : List ℕ) (read write closed : Bool) → IsPlaceOf command name → IsLineOn name text
    → TellsMore a b → Appends b c text → IsTold command input files a c (failure read write closed)
failure_told command input files a b c text name true write closed place line more h = (name, place, (text, line, told_last a b c text more h))
failure_told command input files a b c text name false false closed place line more h = (text, (line_front name ++ line.0, line.1), told_last a b c text more h)
failure_told command input files a b c text name false true true place line more h = tt
failure_told command input files a b c text name false true false place line more h = (name, place, (text, line, told_last a b c text more h))

-- what is told last if a question has no answer
pub ask_text_told : (file : TrieFile) (q : Question) (input : Option (List ℕ)) (files : Option Story) (a b c : Option (List ℕ)) (text : List ℕ) (read write closed : Bool) (e : AskError) → HasReason (IsUnasked file q) file q input files e → TellsAsk file e text
    → TellsMore a b → Appends b c text → IsTold (commands.Ask file q) input files a c (unwrap_or (ask_refusal e) (failure read write closed))
ask_text_told file q input files a b c text read write closed (ask.Unread e) cause tells more h = failure_told (commands.Ask file q) input files a b c text (source_name file.place) read write closed (inl refl) tells more h
ask_text_told file q input files a b c text read write closed (ask.NoTrie (unopened.BadTag why) t) cause tells more h =
    (cause.0, cause.1, unopened.BadTag why, cause.2, t, cause.3, text, tells, told_last a b c text more h)
ask_text_told file q input files a b c text read write closed (ask.NoTrie (unopened.Damaged why) t) cause tells more h = (cause.0, cause.1, unopened.Damaged why, cause.2, t, cause.3, text, tells, told_last a b c text more h)
ask_text_told file q input files a b c text read write closed (ask.NoTrie (unopened.NotWellFormed k f) t) cause tells more h = (cause.0, cause.1, unopened.NotWellFormed k f, cause.2, t, cause.3, text, tells, told_last a b c text more h)
ask_text_told file q input files a b c text read write closed (ask.NoTrie unopened.OutOfMemory t) cause tells more h = failure_told (commands.Ask file q) input files a b c text (source_name file.place) read write closed (inl refl) (codes "out of memory", tells) more h
ask_text_told file q input files a b c text read write closed (ask.Unanswered (answer.Input e)) cause tells more h =
    failure_told (commands.Ask file q) input files a b c text (codes "standard input") read write closed (inr (inl refl)) tells more h
ask_text_told file q input files a b c text read write closed (ask.Unanswered (answer.Output e)) cause tells more h =
    failure_told (commands.Ask file q) input files a b c text (codes "standard output") read write closed (inr (inr refl)) tells more h
ask_text_told file q input files a b c text read write closed (ask.Unanswered (answer.NoLines o)) cause tells more h = (o, cause, told_exactly a b c text (no_keys_line o) tells more h)
ask_text_told file q input files a b c text read write closed (ask.Unprintable form key) cause tells more h = (form, key.items, cause, told_exactly a b c text (unprintable_line (source_name file.place) form key.items) tells more h)
