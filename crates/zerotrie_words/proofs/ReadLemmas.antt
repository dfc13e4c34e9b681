-- What is said of words, and of what clap finds in them.
use Rattle.std.proofs.Common.{◌≡◌, ◌∙◌, ℕ, List, [], Option, Some, None, true, inl, inr, refl, subst, sym}
use Rattle.std.specs.Prelude.{◌⊎◌, Result, Ok, Err, IfErr, IfNone, IsErrAnd}
use Rattle.clap.specs.Faults.{fault_of, is_simple_and_free}
use Rattle.clap.specs.Kinds.{IsAmong}
use Rattle.clap.specs.Matches.{subcommand_name_of}
use Rattle.clap.specs.Simple.{App, HasMatchesOf}
use Rattle.clap.specs.Takes.{takes}
use Rattle.clap.specs.Values.{kind_of}
use Rattle.clap.specs.declared.error.Error.{Error}
use Rattle.clap.specs.declared.error.kind.ErrorKind.TheVariants.{OutOfMemory}
use Rattle.clap.specs.declared.parser.matches.ArgMatches.{ArgMatches}
use Rattle.zerotrie_words.specs.Program.{IsProgram, program}
use Rattle.zerotrie_words.specs.Reads.{IsFaultSaid, IsFoundIn, IsNoRequest, IsRequest, IsSaidOfFound}
use Rattle.zerotrie_words.specs.Replies.{IsReply}
use Rattle.zerotrie_words.specs.Tasks.{IsTaskOf, NamesNoTask, task_word}
use Rattle.zerotrie_words.specs.declared.reply.Reply.{Reply}
use Rattle.zerotrie_words.specs.declared.reply.Reply.TheVariants as reply
use Rattle.zerotrie_words.specs.declared.task.Task.{Task}
use Rattle.zerotrie_words.proofs.ProgramLemmas.{is_program, simple_and_free, simple_program}

pub found_in : (app of : App) (words : List (List ℕ)) (matches : ArgMatches) → app ≡ of → IsProgram of → HasMatchesOf app words matches
    → (is_simple_and_free app ≡ true → fault_of app words ≡ []) → IsFoundIn words matches
unfolding IsFoundIn
found_in app of words matches same is has none =
    let is_app : IsProgram app = subst IsProgram (sym same) is in
    let own = has (simple_program app is_app) in
    (app, is_app, (own.0, own.1, none (simple_and_free app is_app)))

pub fault_said : (app of : App) (words : List (List ℕ)) (e : Error) (said : Reply) → app ≡ of → IsProgram of
    → (is_simple_and_free app ≡ true → (kind_of e ≡ OutOfMemory) ⊎ IsAmong (kind_of e) (fault_of app words)) → (takes app words ≡ true → kind_of e ≡ OutOfMemory)
    → IsReply (kind_of e) said → IsFaultSaid words said
unfolding IsFaultSaid
fault_said app of words e said same is kinds passes by_kind =
    let is_app : IsProgram app = subst IsProgram (sym same) is in
    (app, is_app, (kind_of e, (kinds (simple_and_free app is_app), passes), by_kind))

pub memory_said : (words : List (List ℕ)) (said : Reply) → said ≡ reply.OutOfMemory → IsFaultSaid words said
unfolding IsFaultSaid
memory_said words said is = subst (λ (r : Reply). IsFaultSaid words r) (sym is) (program, is_program, (OutOfMemory, (inl refl, λ _. refl), tt))

pub fault_no_request : (words : List (List ℕ)) (said : Reply) → IsFaultSaid words said → IsNoRequest words said
unfolding IsNoRequest
fault_no_request words said is = inl is

pub found_no_request : (words : List (List ℕ)) (said : Reply) (matches : ArgMatches) → IsFoundIn words matches → IsSaidOfFound matches said
    → IsNoRequest words said
unfolding IsNoRequest
found_no_request words said matches found is = inr (matches, found, is)

pub request_of : (words : List (List ℕ)) (t : Task) (own matches : ArgMatches) → IsFoundIn words matches → IsTaskOf matches t own → IsRequest words t own
unfolding IsRequest
request_of words t own matches found is = (matches, found, is)

-- what a `?` returns
pub if_none : {X : Type 0} (r : Option X) (P : Type 0) → P → IfNone r P
if_none None P p = p
if_none (Some x) P p = tt

pub memory_fault : {X : Type 0} (words : List (List ℕ)) (r : Result X Reply) → IsErrAnd r (λ said. said ≡ reply.OutOfMemory) → IfErr r (IsFaultSaid words)
memory_fault words (Ok x) h = absurd h
memory_fault words (Err said) h = memory_said words said h

pub memory_refused : {X : Type 0} (words : List (List ℕ)) (r : Result X Reply) → IsErrAnd r (λ said. said ≡ reply.OutOfMemory) → IfErr r (IsNoRequest words)
memory_refused words (Ok x) h = absurd h
memory_refused words (Err said) h = fault_no_request words said (memory_said words said h)

pub fault_refused : {X : Type 0} (words : List (List ℕ)) (fault : Reply) (r : Result X Reply) → IsErrAnd r (λ said. said ≡ fault)
    → IsFaultSaid words fault → IfErr r (IsNoRequest words)
fault_refused words fault (Ok x) h is = absurd h
fault_refused words fault (Err said) h is = fault_no_request words said (subst (λ (f : Reply). IsFaultSaid words f) (sym h) is)

pub no_command_found : (matches : ArgMatches) → subcommand_name_of matches ≡ None → NamesNoTask matches
no_command_found matches none = λ name is t word. absurd (cc)

pub no_task_found : (matches : ArgMatches) (text : List ℕ) → Some text ≡ subcommand_name_of matches → ((t : Task) → Some text ≡ task_word t → ⊥)
    → NamesNoTask matches
no_task_found matches text of none = λ name is t word. none t (of ∙ (is ∙ word))
