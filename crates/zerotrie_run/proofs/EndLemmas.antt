-- How a command ends that is not carried out to its end.
use Rattle.std.proofs.Common.{◌≡◌, ◌⊎◌, ℕ, List, Option, Some, None, Bool, true, false, Result, Ok, Err, IfOk, Vec, Global, refl, inl, inr}
use Rattle.std.specs.Prelude.{◌||◌, IsTrue, unwrap_or}
use Rattle.std.specs.Io.KnownBytes.{Appends}
use Rattle.std.specs.declared.alloc.AllocError.{AllocError}
use Rattle.zerotrie_files.specs.Disks.{Story}
use Rattle.zerotrie_queries.specs.declared.file.OpenError.TheVariants as unopened
use Rattle.zerotrie_making.specs.declared.error.MakeError.{MakeError}
use Rattle.zerotrie_making.specs.declared.error.MakeError.TheVariants as made
use Rattle.zerotrie_making.specs.declared.error.CombinationError.TheVariants as combination
use Rattle.zerotrie_run.specs.Makings.{making_refusal}
use Rattle.zerotrie_run.specs.Diffs.{EndsDiff}
use Rattle.zerotrie_run.specs.Commands.{Ends, LeavesInput, LeavesInputBy, ReadsTwice, Runs, command_refusal}
use Rattle.zerotrie_run.specs.Runs.{EndsAsk, World, ask_refusal}
use Rattle.zerotrie_run.specs.Statuses.{failure, made_refusal}
use Rattle.zerotrie_run.specs.Told.{HasCommandCause, IsTold, TellsCommand, TellsMore, ended, last_text}
use Rattle.zerotrie_run.specs.declared.ask.AskError.{AskError}
use Rattle.zerotrie_run.specs.declared.ask.AskError.TheVariants as ask
use Rattle.zerotrie_run.specs.declared.stdin_lines.AnswerError.TheVariants as answer
use Rattle.zerotrie_run.specs.declared.making.MakingError.{MakingError}
use Rattle.zerotrie_run.specs.declared.making.MakingError.TheVariants as making
use Rattle.zerotrie_run.specs.declared.command.Command.{Command}
use Rattle.zerotrie_run.specs.declared.command.Command.TheVariants as commands
use Rattle.zerotrie_run.specs.declared.command.Diff.{Diff}
use Rattle.zerotrie_run.specs.declared.command.Question.{Question}
use Rattle.zerotrie_run.specs.declared.command.TrieFile.{TrieFile}
use Rattle.zerotrie_run.specs.declared.error.CommandError.{CommandError}
use Rattle.zerotrie_run.specs.declared.error.CommandError.TheVariants as error
use Rattle.zerotrie_run.specs.declared.status.Status.{Status}
use Rattle.zerotrie_run.specs.declared.status.Status.TheVariants.{Done, Absent, Refused, Taken, BadUsage, BadInput, BadKeys, Unread, Unwritten, OutOfMemory, Closed}
use Rattle.zerotrie_run.proofs.DiffLemmas.{a_report, as_asked, told_of}
use Rattle.zerotrie_run.proofs.MakingTold.{build_told, combine_told}
use Rattle.zerotrie_run.proofs.ToldLemmas.{ask_text_told, no_memory}

-- what is known of the end, by whether the command is refused
data Refusal : Option Status → Type 0 where
  is_failed : Refusal None
  is_refused : Refusal (Some Refused)
  is_taken : Refusal (Some Taken)
  is_input : Refusal (Some BadInput)
  is_keys : Refusal (Some BadKeys)

of_make : (e : MakeError) → Refusal (made_refusal e)
of_make (made.NotText other) = is_input
of_make (made.Line number bad) = is_input
of_make (made.NotJson line column) = is_input
of_make made.NotPairs = is_input
of_make (made.NotPair bad) = is_input
of_make (made.Keys shown) = is_refused
of_make (made.SumTooLarge k) = is_refused
of_make (made.Refused why) = is_refused
of_make (made.IndexRefused why) = is_refused
of_make made.OutOfMemory = is_failed

of_ask : (e : AskError) → Refusal (ask_refusal e)
of_ask (ask.Unread e) = is_failed
of_ask (ask.NoTrie (unopened.BadTag why) t) = is_input
of_ask (ask.NoTrie (unopened.Damaged why) t) = is_input
of_ask (ask.NoTrie (unopened.NotWellFormed k f) t) = is_input
of_ask (ask.NoTrie unopened.OutOfMemory t) = is_failed
of_ask (ask.Unanswered (answer.Input e)) = is_failed
of_ask (ask.Unanswered (answer.NoLines o)) = is_keys
of_ask (ask.Unanswered (answer.Output e)) = is_failed
of_ask (ask.Unprintable form key) = is_refused

of_making : (e : MakingError) → Refusal (making_refusal e)
of_making making.Taken = is_taken
of_making (making.Unfound e) = is_failed
of_making (making.Unread place e) = is_failed
of_making (making.NoTrie place (unopened.BadTag why) t) = is_input
of_making (making.NoTrie place (unopened.Damaged why) t) = is_input
of_making (making.NoTrie place (unopened.NotWellFormed k f) t) = is_input
of_making (making.NoTrie place unopened.OutOfMemory t) = is_failed
of_making (making.NotMade (combination.NoValue why key)) = is_refused
of_making (making.NotMade (combination.NotMade e)) = of_make e
of_making (making.Unwritten e) = is_failed

of_command : (e : CommandError) → Refusal (command_refusal e)
of_command (error.Build b e) = of_making e
of_command (error.Ask file q e) = of_ask e
of_command (error.Diff d e) = of_ask e.error
of_command (error.Combine c e) = of_making e

-- no making is refused for bad usage
not_usage : (refusal : Option Status) → Refusal refusal → refusal ≡ Some BadUsage → ⊥
not_usage _ is_failed is = cc
not_usage _ is_refused is = cc
not_usage _ is_taken is = cc
not_usage _ is_input is = cc
not_usage _ is_keys is = cc

pub combine_leaves : {P : Type 0} (e : MakingError) → (making_refusal e ≡ Some BadUsage) ⊎ P → P
combine_leaves e (inl is) = absurd (not_usage (making_refusal e) (of_making e) is)
combine_leaves e (inr left) = left

pub combined_leaves : {P : Type 0} → (None ≡ Some BadUsage) ⊎ P → P
combined_leaves (inl is) = absurd (cc)
combined_leaves (inr left) = left

-- how each command ends, by its own definition
pub ask_ends : (file : TrieFile) (q : Question) (i : Option (List ℕ)) (before after : World) (refusal : Option Status) → after.files ≡ before.files → EndsAsk file q i before.files before.printed after.printed refusal
    → Ends (commands.Ask file q) i before after refusal
ask_ends file q i before after None same h = (same, h)
ask_ends file q i before after (Some s) same h = (same, h)

pub diff_ends : (d : Diff) (i : Option (List ℕ)) (before after : World) (refusal : Option Status) → after.files ≡ before.files → EndsDiff d i before.files before.printed after.printed refusal
    → Ends (commands.Diff d) i before after refusal
diff_ends d i before after None same h = (same, h)
diff_ends d i before after (Some s) same h = (same, h)

-- ---- what holds at its end

fails : (command : Command) (i : Option (List ℕ)) (before after : World) (read write closed : Bool) → Runs command i before after OutOfMemory → Runs command i before after (failure read write closed)
fails (commands.Build b) i before after true write closed h = h
fails (commands.Build b) i before after false false closed h = h
fails (commands.Build b) i before after false true true h = h
fails (commands.Build b) i before after false true false h = h
fails (commands.Ask f q) i before after true write closed h = h
fails (commands.Ask f q) i before after false false closed h = h
fails (commands.Ask f q) i before after false true true h = h
fails (commands.Ask f q) i before after false true false h = h
fails (commands.Diff d) i before after true write closed h = h
fails (commands.Diff d) i before after false false closed h = h
fails (commands.Diff d) i before after false true true h = h
fails (commands.Diff d) i before after false true false h = h
fails (commands.Combine c) i before after true write closed h = h
fails (commands.Combine c) i before after false false closed h = h
fails (commands.Combine c) i before after false true true h = h
fails (commands.Combine c) i before after false true false h = h

-- a command that is refused, of which that can't be said for want of memory
unsaid : (s : Status) → Refusal (Some s) → (command : Command) (i : Option (List ℕ)) (before after : World) → Runs command i before after s → Runs command i before after OutOfMemory
unsaid Refused is_refused (commands.Build b) i before after h = inl h.5
unsaid Refused is_refused (commands.Ask f q) i before after h = (h.0, inl h.1.3)
unsaid Refused is_refused (commands.Diff d) i before after h = absurd h.1
unsaid Refused is_refused (commands.Combine c) i before after h = inl h.3
unsaid Taken is_taken (commands.Build b) i before after h = inl h.2
unsaid Taken is_taken (commands.Ask f q) i before after h = absurd h.1
unsaid Taken is_taken (commands.Diff d) i before after h = absurd h.1
unsaid Taken is_taken (commands.Combine c) i before after h = inl h.2
unsaid BadInput is_input (commands.Build b) i before after h = inl h.5
unsaid BadInput is_input (commands.Ask f q) i before after h = (h.0, inl h.1.1)
unsaid BadInput is_input (commands.Diff d) i before after h = (h.0, inl h.1.1)
unsaid BadInput is_input (commands.Combine c) i before after h = inl h.1
unsaid BadKeys is_keys (commands.Build b) i before after h = absurd h
unsaid BadKeys is_keys (commands.Ask f q) i before after h = (h.0, inl h.1.2)
unsaid BadKeys is_keys (commands.Diff d) i before after h = absurd h.1
unsaid BadKeys is_keys (commands.Combine c) i before after h = absurd h
unsaid Done r command i before after h = elim r [ ]
unsaid Absent r command i before after h = elim r [ ]
unsaid BadUsage r command i before after h = elim r [ ]
unsaid Unread r command i before after h = elim r [ ]
unsaid Unwritten r command i before after h = elim r [ ]
unsaid OutOfMemory r command i before after h = elim r [ ]
unsaid Closed r command i before after h = elim r [ ]

ends : (refusal : Option Status) → Refusal refusal → (command : Command) (i : Option (List ℕ)) (before after : World) (read write closed : Bool) (r : Result (Vec ℕ Global) AllocError) → Ends command i before after refusal
    → Runs command i before after (ended (unwrap_or refusal (failure read write closed)) r)
ends None is command i before after read write closed (Ok text) h = fails command i before after read write closed h
ends None is command i before after read write closed (Err x) h = h
ends (Some s) is command i before after read write closed (Ok text) h = h
ends (Some s) is command i before after read write closed (Err x) h = unsaid s is command i before after h

pub command_ends : (command : Command) (i : Option (List ℕ)) (before after : World) (read write closed : Bool) (e : CommandError) (status result : Status) (r : Result (Vec ℕ Global) AllocError)
    → Ends command i before after (command_refusal e) → status ≡ unwrap_or (command_refusal e) (failure read write closed) → result ≡ ended status r → Runs command i before after result
command_ends command i before after read write closed e status result r h is at = rw (at, is) (ends (command_refusal e) (of_command e) command i before after read write closed r h)

-- what is false is not so
pub is_not : (b : Bool) → b ≡ false → IsTrue b → ⊥
is_not b is so = absurd (cc)

-- a command that would read standard input twice does nothing
pub misused : (command : Command) (i : Option (List ℕ)) (w : World) → ReadsTwice command → Runs command i w w BadUsage
misused (commands.Build b) i w h = absurd h
misused (commands.Ask f q) i w h = (refl, (h.0, h.1, refl))
misused (commands.Diff d) i w h = (refl, (h, refl))
misused (commands.Combine c) i w h = (h, (refl, refl))

-- ---- its status

-- one of two is so
pub or_true : (x y : Bool) → (x || y) ≡ true → (x ≡ true) ⊎ (y ≡ true)
or_true true y is = inl refl
or_true false y is = inr is

-- the status of a command that is not carried out: what failed, or that it is refused
pub record IsEnd (read write shut : Bool) (refusal : Option Status) (s : Status) : Type 0 where
  pub unread : s ≡ Unread → read ≡ true
  pub unwritten : s ≡ Unwritten → write ≡ true
  pub closed : s ≡ Closed → write ≡ true
  pub pipe_closed : s ≡ Closed → shut ≡ true
  pub not_closed : s ≡ Unwritten → shut ≡ false
  pub usage : s ≡ BadUsage → ⊥
  pub input : s ≡ BadInput → refusal ≡ Some BadInput
  pub open_end : (s ≡ Done) ⊎ (s ≡ Absent) → ⊥

pub end_none : (read write closed : Bool) → IsEnd read write closed None (failure read write closed)
end_none true write closed = record { unread = λ _. refl; unwritten = λ is. absurd (cc); closed = λ is. absurd (cc); pipe_closed = λ is. absurd (cc); not_closed = λ is. absurd (cc); usage = λ is. cc; input = λ is. absurd (cc); open_end = λ is. elim is [ inl e ↦ absurd (cc) | inr e ↦ absurd (cc) ] }
end_none false false closed = record { unread = λ is. absurd (cc); unwritten = λ is. absurd (cc); closed = λ is. absurd (cc); pipe_closed = λ is. absurd (cc); not_closed = λ is. absurd (cc); usage = λ is. cc; input = λ is. absurd (cc); open_end = λ is. elim is [ inl e ↦ absurd (cc) | inr e ↦ absurd (cc) ] }
end_none false true true = record { unread = λ is. absurd (cc); unwritten = λ is. absurd (cc); closed = λ _. refl; pipe_closed = λ _. refl; not_closed = λ is. absurd (cc); usage = λ is. cc; input = λ is. absurd (cc); open_end = λ is. elim is [ inl e ↦ absurd (cc) | inr e ↦ absurd (cc) ] }
end_none false true false = record { unread = λ is. absurd (cc); unwritten = λ _. refl; closed = λ is. absurd (cc); pipe_closed = λ is. absurd (cc); not_closed = λ _. refl; usage = λ is. cc; input = λ is. absurd (cc); open_end = λ is. elim is [ inl e ↦ absurd (cc) | inr e ↦ absurd (cc) ] }

pub end_memory : (read write closed : Bool) (refusal : Option Status) → IsEnd read write closed refusal OutOfMemory
end_memory read write closed refusal = record { unread = λ is. absurd (cc); unwritten = λ is. absurd (cc); closed = λ is. absurd (cc); pipe_closed = λ is. absurd (cc); not_closed = λ is. absurd (cc); usage = λ is. cc; input = λ is. absurd (cc); open_end = λ is. elim is [ inl e ↦ absurd (cc) | inr e ↦ absurd (cc) ] }

end_by : (read write closed : Bool) (refusal : Option Status) (r : Result (Vec ℕ Global) AllocError) → Refusal refusal → IsEnd read write closed refusal (ended (unwrap_or refusal (failure read write closed)) r)
end_by read write closed refusal (Err x) is = end_memory read write closed refusal
end_by read write closed None (Ok text) is = end_none read write closed
end_by read write closed (Some Refused) (Ok text) is_refused = record { unread = λ is. absurd (cc); unwritten = λ is. absurd (cc); closed = λ is. absurd (cc); pipe_closed = λ is. absurd (cc); not_closed = λ is. absurd (cc); usage = λ is. cc; input = λ is. absurd (cc); open_end = λ is. elim is [ inl e ↦ absurd (cc) | inr e ↦ absurd (cc) ] }
end_by read write closed (Some Taken) (Ok text) is_taken = record { unread = λ is. absurd (cc); unwritten = λ is. absurd (cc); closed = λ is. absurd (cc); pipe_closed = λ is. absurd (cc); not_closed = λ is. absurd (cc); usage = λ is. cc; input = λ is. absurd (cc); open_end = λ is. elim is [ inl e ↦ absurd (cc) | inr e ↦ absurd (cc) ] }
end_by read write closed (Some BadInput) (Ok text) is_input = record { unread = λ is. absurd (cc); unwritten = λ is. absurd (cc); closed = λ is. absurd (cc); pipe_closed = λ is. absurd (cc); not_closed = λ is. absurd (cc); usage = λ is. cc; input = λ _. refl; open_end = λ is. elim is [ inl e ↦ absurd (cc) | inr e ↦ absurd (cc) ] }
end_by read write closed (Some BadKeys) (Ok text) is_keys = record { unread = λ is. absurd (cc); unwritten = λ is. absurd (cc); closed = λ is. absurd (cc); pipe_closed = λ is. absurd (cc); not_closed = λ is. absurd (cc); usage = λ is. cc; input = λ is. absurd (cc); open_end = λ is. elim is [ inl e ↦ absurd (cc) | inr e ↦ absurd (cc) ] }
end_by read write closed (Some Done) (Ok text) is = elim is [ ]
end_by read write closed (Some Absent) (Ok text) is = elim is [ ]
end_by read write closed (Some BadUsage) (Ok text) is = elim is [ ]
end_by read write closed (Some Unread) (Ok text) is = elim is [ ]
end_by read write closed (Some Unwritten) (Ok text) is = elim is [ ]
end_by read write closed (Some OutOfMemory) (Ok text) is = elim is [ ]
end_by read write closed (Some Closed) (Ok text) is = elim is [ ]

pub command_end : (read write closed : Bool) (e : CommandError) (status result : Status) (r : Result (Vec ℕ Global) AllocError) → status ≡ unwrap_or (command_refusal e) (failure read write closed) → result ≡ ended status r
    → IsEnd read write closed (command_refusal e) result
command_end read write closed e status result r is at = rw (at, is) (end_by read write closed (command_refusal e) r (of_command e))

same_some : (s t : Status) → Some s ≡ Some t → s ≡ t
same_some s t is = cc

-- what it leaves alone
leaves_by : (command : Command) (refusal : Option Status) (s : Status) → (s ≡ BadUsage → ⊥) → (s ≡ BadInput → refusal ≡ Some BadInput) → LeavesInput command s → LeavesInputBy command refusal
leaves_by (commands.Build b) refusal s usage input left = left
leaves_by (commands.Ask f q) refusal s usage input (inl is) = absurd (usage (same_some s BadUsage is))
leaves_by (commands.Ask f q) refusal s usage input (inr both) = inr (both.0, elim both.1 [ inl is ↦ inl (input (same_some s BadInput is)) | inr none ↦ inr none ])
leaves_by (commands.Diff d) refusal s usage input (inl is) = absurd (usage (same_some s BadUsage is))
leaves_by (commands.Diff d) refusal s usage input (inr both) = inr both
leaves_by (commands.Combine c) refusal s usage input (inl is) = absurd (usage (same_some s BadUsage is))
leaves_by (commands.Combine c) refusal s usage input (inr all) = inr all

pub leaves : (command : Command) (read write closed : Bool) (refusal : Option Status) (s : Status) → IsEnd read write closed refusal s → LeavesInput command s → LeavesInputBy command refusal
leaves command read write closed refusal s end left = leaves_by command refusal s end.usage end.input left

pub found_leaves : (command : Command) → LeavesInput command Done → LeavesInputBy command None
found_leaves command left = leaves_by command None Done (λ is. cc) (λ is. absurd (cc)) left

pub absent_leaves : (command : Command) → LeavesInput command Absent → LeavesInputBy command None
absent_leaves command left = leaves_by command None Absent (λ is. cc) (λ is. absurd (cc)) left

pub not_open : {P : Type 0} (read write closed : Bool) (refusal : Option Status) (s : Status) → IsEnd read write closed refusal s → (s ≡ Done) ⊎ (s ≡ Absent) → P
not_open read write closed refusal s end is = absurd (end.open_end is)

pub end_unread : (read more write closed : Bool) (refusal : Option Status) (s : Status) → IsEnd (read || more) write closed refusal s → s ≡ Unread → (read ≡ true) ⊎ (more ≡ true)
end_unread read more write closed refusal s end is = or_true read more (end.unread is)

pub end_unwritten : (read write more closed : Bool) (refusal : Option Status) (s : Status) → IsEnd read (write || more) closed refusal s → s ≡ Unwritten → (write ≡ true) ⊎ (more ≡ true)
end_unwritten read write more closed refusal s end is = or_true write more (end.unwritten is)

pub end_closed : (read write more closed : Bool) (refusal : Option Status) (s : Status) → IsEnd read (write || more) closed refusal s → s ≡ Closed → (write ≡ true) ⊎ (more ≡ true)
end_closed read write more closed refusal s end is = or_true write more (end.closed is)

pub end_pipe_closed : (read write closed more : Bool) (refusal : Option Status) (s : Status) → IsEnd read write (closed || more) refusal s → s ≡ Closed → (closed ≡ true) ⊎ (more ≡ true)
end_pipe_closed read write closed more refusal s end is = or_true closed more (end.pipe_closed is)

pub end_not_closed : (read write closed more : Bool) (refusal : Option Status) (s : Status) → IsEnd read write (closed || more) refusal s → s ≡ Unwritten → (closed ≡ true) ⊎ (more ≡ true) → ⊥
end_not_closed read write closed more refusal s end is shut = or_false closed more (end.not_closed is) shut
  where
    or_false : (x y : Bool) → (x || y) ≡ false → (x ≡ true) ⊎ (y ≡ true) → ⊥
    or_false true y none some = absurd (cc)
    or_false false y none (inl is) = absurd (cc)
    or_false false y none (inr is) = absurd (cc)

-- ---- what is told last

text_told : (command : Command) (input : Option (List ℕ)) (files : Option Story) (a b c : Option (List ℕ)) (text : List ℕ) (read write closed : Bool) (e : CommandError) → HasCommandCause command input files e → TellsCommand e text
    → TellsMore a b → Appends b c text → IsTold command input files a c (unwrap_or (command_refusal e) (failure read write closed))
text_told command input files a b c text read write closed (error.Build build e) cause tells more h = rw cause.0 (build_told build cause.1.0 input files a b c text read write closed e cause.1.1 cause.1.2 tells more h)
text_told command input files a b c text read write closed (error.Ask file q e) cause tells more h = rw cause.0 (ask_text_told file q input files a b c text read write closed e cause.1 tells more h)
text_told command input files a b c text read write closed (error.Diff diff e) cause tells more h =
    rw cause.0 (told_of diff e.file input files a c (unwrap_or (ask_refusal e.error) (failure read write closed)) cause.1.0
    (ask_text_told e.file a_report input files a b c text read write closed e.error (as_asked e.file input files e.error cause.1.1) tells more h))
text_told command input files a b c text read write closed (error.Combine o e) cause tells more h = rw cause.0 (combine_told o input files a b c text read write closed e cause.1 tells more h)

told_by : (command : Command) (input : Option (List ℕ)) (files : Option Story) (a b c : Option (List ℕ)) (read write closed : Bool) (e : CommandError) (status : Status) (r : Result (Vec ℕ Global) AllocError)
    → HasCommandCause command input files e → status ≡ unwrap_or (command_refusal e) (failure read write closed) → IfOk r (λ text. TellsCommand e text.items) → TellsMore a b → Appends b c (last_text r)
    → IsTold command input files a c (ended status r)
told_by command input files a b c read write closed e status (Ok text) cause is tells more h = rw is (text_told command input files a b c text.items read write closed e cause tells more h)
told_by command input files a b c read write closed e status (Err x) cause is tells more h = no_memory a b c more h

pub command_told : (command : Command) (input : Option (List ℕ)) (files : Option Story) (a b c : Option (List ℕ)) (read write closed : Bool) (e : CommandError) (status result : Status) (r : Result (Vec ℕ Global) AllocError)
    → HasCommandCause command input files e → status ≡ unwrap_or (command_refusal e) (failure read write closed) → IfOk r (λ text. TellsCommand e text.items) → TellsMore a b
    → result ≡ ended status r → (result ≡ Closed) ⊎ Appends b c (last_text r)
    → IsTold command input files a c result
command_told command input files a b c read write closed e status result r cause is tells more at (inl silent) = rw silent tt
command_told command input files a b c read write closed e status result r cause is tells more at (inr h) = rw at (told_by command input files a b c read write closed e status r cause is tells more h)
