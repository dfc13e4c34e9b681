-- What a session holds.
use Rattle.std.proofs.Common.{◌≡◌, ◌≢◌, ℕ, List, [], ◌∷◌, ◌++◌, Option, Some, None, Result, Ok, Err, IfOk, inr, refl, sym, ◌∙◌, ap, subst, arith}
use Rattle.std.specs.Borrow.{Bor}
use Rattle.std.specs.Prelude.{MatchResult, IsOkAnd}
use Rattle.std.proofs.lemmas.List.{map-append, append-nil}
use Rattle.zerotrie.specs.Kind.{Kind}
use Rattle.zerotrie.specs.Items.{Items, pairs_of}
use Rattle.zerotrie.specs.Maps.{Pairs, map_of, look}
use Rattle.zerotrie.specs.Texts.{Lists, Means}
use Rattle.zerotrie.specs.Machine.{run}
use Rattle.zerotrie.specs.Walks.{ops_of, answers_of, IsWalk}
use Rattle.zerotrie.specs.declared.CursorOp.{CursorOp}
use Rattle.zerotrie.specs.declared.CursorAnswer.{CursorAnswer}
use Rattle.zerotrie_session.specs.declared.command.Choice.TheVariants.{Auto}
use Rattle.zerotrie.specs.Texts.Lists.{nothing}
use Rattle.zerotrie.specs.Built.{IsBuilt}
use Rattle.zerotrie.specs.Routes.{any_order, Takes, IsRefusal, IsBuild}
use Rattle.zerotrie.specs.declared.ZeroTrieBuildError.{ZeroTrieBuildError}
use Rattle.zerotrie_session.specs.Replies.{ok_line, refused_line, number_line, list_lines, walk_line}
use Rattle.zerotrie_session.specs.declared.command.Choice.{Choice}
use Rattle.zerotrie_session.specs.declared.answer.Session.{Session}
use Rattle.zerotrie_session.specs.declared.trie.ChosenTrie.{ChosenTrie}
use Rattle.zerotrie_session.specs.Commands.{kind_of, choose, add, build, query, list, walk, Command, IsCommand}
use Rattle.zerotrie_session.specs.Answers.{State, CanDo, in_order, without_trie, with_trie}
use Rattle.zerotrie_session.specs.Answers.Does.{chosen, added, ok, refused, asked, listed, walked}
use Rattle.zerotrie_session.specs.answer.Tries.{trie_kind, trie_choice, trie_bytes}
use Rattle.zerotrie_session.specs.answer.Sessions.{HasState, HasStateIfAny, Performed, AfterRequest, AfterCommand, AfterLine}
use Rattle.zerotrie_session.specs.declared.answer.Outcome.{Outcome}
use Rattle.zerotrie_session.specs.declared.answer.Outcome.TheVariants.{Done, Refused, Bad}
use Rattle.zerotrie_session.proofs.LineLemmas.{walk_alone}
use Rattle.std.specs.declared.alloc.AllocError.{AllocError}

-- no bytes mean the map of no pairs
pub no_trie_means : (kind : Kind) → Means kind [] (map_of [])
no_trie_means kind = record { short = omega arith; pairs = []; lists = nothing; is = refl }

-- one more pair
pub one_more : (items : Items) (pairs : Pairs) (key : Bor (List ℕ)) (value : ℕ) → pairs_of items ≡ pairs → pairs_of (items ++ (key, value) ∷ []) ≡ pairs ++ (key.now, value) ∷ []
one_more items pairs key value e =
    map-append {B = List ℕ × ℕ} (λ e. (e.0.now, e.1)) items ((key, value) ∷ []) ∙ ap (λ ps. ps ++ (key.now, value) ∷ []) e

-- A session with no trie holds its choice and its pairs.
pub holds_none : (session : Session) (choice : Choice) (pairs : Pairs) → session.choice ≡ choice → pairs_of session.pairs.items ≡ pairs → trie_choice session.trie ≡ session.choice → trie_kind session.trie ≡ kind_of session.choice [] → trie_bytes session.trie ≡ [] → HasState session (without_trie choice pairs)
holds_none session choice pairs c p of kind text = record {
  choice = c;
  of = of ∙ c;
  pairs = p;
  kind = kind ∙ ap (λ choice. kind_of choice []) c;
  text = text;
  means = no_trie_means (kind_of choice []);
}

-- A session whose trie was built of its pairs.
pub holds_built : (session : Session) (choice : Choice) (pairs : Pairs) → session.choice ≡ choice → pairs_of session.pairs.items ≡ pairs → trie_choice session.trie ≡ choice → trie_kind session.trie ≡ kind_of choice pairs → IsBuilt (kind_of choice pairs) pairs (trie_bytes session.trie) → HasState session (with_trie choice pairs (trie_bytes session.trie))
holds_built session choice pairs c p of kind built = record {
  choice = c;
  of = of;
  pairs = p;
  kind = kind;
  text = refl;
  means = built.means;
}

-- A build of a type of trie is one of the variant that holds such a trie.
pub build_within : {B : Type 0} (kind : Kind) (trie_of : B → ChosenTrie) (bytes : B → List ℕ) (pairs : Pairs) (r : Result B ZeroTrieBuildError) (within : Result ChosenTrie ZeroTrieBuildError)
    → ((b : B) → trie_bytes (trie_of b) ≡ bytes b) → MatchResult r (λ b. IsOkAnd within (λ t. t ≡ trie_of b)) (λ e. within ≡ Err e) → IsBuild any_order kind bytes pairs r → IsBuild any_order kind trie_bytes pairs within
build_within kind trie_of bytes pairs (Ok b) (Ok t) same cases h =
    (h.0, subst (IsBuilt kind pairs) (sym (ap trie_bytes cases ∙ same b)) h.1)
build_within kind trie_of bytes pairs (Ok b) (Err e) same cases h = absurd cases
build_within kind trie_of bytes pairs (Err e) within same cases h = subst (IsBuild any_order kind trie_bytes pairs) (sym cases) h

pub performed_ok : (after : Session) (s : State) (old new text : List ℕ) → Takes any_order s.pairs → IsBuilt (kind_of s.choice s.pairs) s.pairs (trie_bytes after.trie) → HasState after (with_trie s.choice s.pairs (trie_bytes after.trie)) → text ≡ trie_bytes after.trie → new ≡ old ++ ok_line text → Performed build (Some s) (Some after) old new 0
performed_ok after s old new text takes built h e output = record {
  printed = ok_line (trie_bytes after.trie);
  state = Some (with_trie s.choice s.pairs (trie_bytes after.trie));
  does = ok takes built;
  holds = h;
  output = output ∙ ap (λ t. old ++ ok_line t) e;
}

pub performed_refused : (after : Session) (s : State) (old new : List ℕ) (error : ZeroTrieBuildError) → IsRefusal any_order (kind_of s.choice s.pairs) s.pairs error → HasState after (without_trie s.choice s.pairs) → new ≡ old ++ refused_line error → Performed build (Some s) (Some after) old new 1
performed_refused after s old new error refuses h output = record {
  printed = refused_line error;
  state = Some (without_trie s.choice s.pairs);
  does = refused refuses;
  holds = h;
  output = output;
}

pub performed_chosen : (held : Option State) (after : Session) (choice : Choice) (old : List ℕ) → HasState after (without_trie choice []) → Performed (choose choice) held (Some after) old old 0
performed_chosen held after choice old h = record {
  printed = [];
  state = Some (without_trie choice []);
  does = chosen;
  holds = h;
  output = sym (append-nil old);
}

pub performed_added : (after : Session) (s : State) (value : ℕ) (key old : List ℕ) → HasState after (record s { pairs = s.pairs ++ (key, value) ∷ [] }) → Performed (add value key) (Some s) (Some after) old old 0
performed_added after s value key old h = record {
  printed = [];
  state = Some (record s { pairs = s.pairs ++ (key, value) ∷ [] });
  does = added;
  holds = h;
  output = sym (append-nil old);
}

pub performed_asked : (session : Session) (s : State) (key : List ℕ) (answer : Option ℕ) (old new : List ℕ) → HasState session s → answer ≡ look s.kind (map_of s.built) key → new ≡ old ++ number_line answer → Performed (query key) (Some s) (Some session) old new 0
performed_asked session s key answer old new h is output = record {
  printed = number_line (look s.kind (map_of s.built) key);
  state = Some s;
  does = asked h.means;
  holds = h;
  output = output ∙ ap (λ a. old ++ number_line a) is;
}

-- a look-up in the trie that is held
pub answer_is : (session : Session) (s : State) (key : List ℕ) (answer : Option ℕ) → HasState session s → (Means (trie_kind session.trie) (trie_bytes session.trie) (map_of s.built) → answer ≡ look (trie_kind session.trie) (map_of s.built) key) → answer ≡ look s.kind (map_of s.built) key
answer_is session s key answer h is =
    is (subst (λ kind. Means kind (trie_bytes session.trie) (map_of s.built)) (sym h.kind) (subst (λ text. Means s.kind text (map_of s.built)) (sym h.text) h.means)) ∙ ap (λ kind. look kind (map_of s.built) key) h.kind

-- what the text of the trie that is held lists
abbrev pub held_pairs : {session : Session} {s : State} → HasState session s → Pairs
held_pairs h = h.means.pairs

pub held_lists : (session : Session) (s : State) (h : HasState session s) → Lists (trie_kind session.trie) (trie_bytes session.trie) (held_pairs h)
held_lists session s h =
    subst (λ kind. Lists kind (trie_bytes session.trie) (held_pairs h)) (sym h.kind) (subst (λ text. Lists s.kind text (held_pairs h)) (sym h.text) h.means.lists)

pub performed_listed : (session : Session) (s : State) (old new : List ℕ) → HasState session s → ((pairs : Pairs) → Lists (trie_kind session.trie) (trie_bytes session.trie) pairs → new ≡ old ++ list_lines (in_order (trie_choice session.trie) pairs)) → Performed list (Some s) (Some session) old new 0
performed_listed session s old new h output = record {
  printed = list_lines (in_order s.choice (held_pairs h));
  state = Some s;
  does = listed h.means.lists;
  holds = h;
  output = output (held_pairs h) (held_lists session s h) ∙ ap (λ choice. old ++ list_lines (in_order choice (held_pairs h))) h.of;
}

pub performed_walked : (session : Session) (s : State) (ops : List CursorOp) (answers : List CursorAnswer) (old new : List ℕ) → HasState session s → trie_choice session.trie ≢ Auto → IsWalk (trie_kind session.trie) (trie_bytes session.trie) ops answers → new ≡ old ++ walk_line (answers_of answers) → Performed (walk (ops_of ops)) (Some s) (Some session) old new 0
performed_walked session s ops answers old new h named is output = record {
  printed = walk_line (run s.kind (ops_of ops) (held_pairs h));
  state = Some s;
  does = walked (λ auto. named (h.of ∙ auto)) h.means.lists;
  holds = h;
  output = output ∙ ap (λ a. old ++ walk_line a) (is (held_pairs h) (held_lists session s h) ∙ ap (λ kind. run kind (ops_of ops) (held_pairs h)) h.kind);
}

-- what can be done by one reading of a line can be done by each
can_do : (line : List ℕ) (command other : Command) → IsCommand line command → IsCommand line other → (s : State) → CanDo (Some s) other → CanDo (Some s) command
can_do line (choose choice) other is reads s can = tt
can_do line (add value key) other is reads s can = tt
can_do line build other is reads s can = tt
can_do line (query key) other is reads s can = tt
can_do line list other is reads s can = tt
can_do line (walk ops) other is reads s can =
    let same = walk_alone line is.0 is.1 other reads in subst (CanDo (Some s)) same.1 can

-- a line that a session acts on, by what it does
acted : (line : List ℕ) (command : Command) → IsCommand line command → (before after : Session) (old new : List ℕ) (least : ℕ) → ((s : State) → HasState before s → Performed command (Some s) (Some after) old new least) → AfterCommand line (Some before) (Some after) old new least
acted line command is before after old new least done None h = absurd h
acted line command is before after old new least done (Some s) h = (command, is, done s h)

not_done : (line : List ℕ) (command : Command) → IsCommand line command → (before : Session) → ((s : State) → HasState before s → CanDo (Some s) command → ⊥) → (held : Option State) → HasStateIfAny (Some before) held → (other : Command) → IsCommand line other → CanDo held other → ⊥
not_done line command is before none None h = absurd h
not_done line command is before none (Some s) h = λ other reads can. none s h (can_do line command other is reads s can)

after_line : (line : List ℕ) (command : Command) → IsCommand line command → (before after : Session) (old new : List ℕ) (outcome : Outcome) → AfterRequest command before after old new outcome → AfterLine line (Some before) (Some after) old new outcome
after_line line command is before after old new Done done = acted line command is before after old new 0 done
after_line line command is before after old new Refused done = acted line command is before after old new 1 done
after_line line command is before after old new (Bad bad) done = (done.0, not_done line command is before done.1, inr (inr (done.2, (done.3.0, subst (IsCommand line) done.3.1 is))))

pub after_request : (line : List ℕ) (command : Command) → IsCommand line command → (before after : Session) (old new : List ℕ) (result : Result Outcome AllocError) → IfOk result (AfterRequest command before after old new) → IfOk result (AfterLine line (Some before) (Some after) old new)
after_request line command is before after old new (Ok outcome) done = after_line line command is before after old new outcome done
after_request line command is before after old new (Err e) done = tt
