-- Which output and status belong to an input.
use Rattle.std.specs.Prelude.{◌≢◌, ℕ, ◌+◌, List, [], ◌∷◌, ◌++◌, max, Option, Some, None}
use Rattle.zerotrie.specs.Kind.{Kind}
use Rattle.zerotrie.specs.Maps.{Pairs, map_of, look}
use Rattle.zerotrie.specs.Machine.{Op, run}
use Rattle.zerotrie.specs.Texts.{Lists, Means}
use Rattle.zerotrie.specs.Built.{IsBuilt}
use Rattle.zerotrie.specs.Routes.{any_order, Takes, IsRefusal}
use Rattle.zerotrie.specs.declared.ZeroTrieBuildError.{ZeroTrieBuildError}
use Rattle.std.specs.FinMap.{entries}
use Rattle.zerotrie_session.specs.declared.command.Choice.{Choice}
use Rattle.zerotrie_session.specs.declared.command.Choice.TheVariants.{Named, Auto}
use Rattle.zerotrie_session.specs.Lines.{lines_of}
use Rattle.zerotrie_session.specs.Commands.{Command, choose, add, build, query, list, walk, IsCommand, kind_of}
use Rattle.zerotrie_session.specs.Replies.{ok_line, refused_line, number_line, list_lines, walk_line, bad_line}

-- What is held between two lines, from the first choice of a kind on.
pub record State : Type 0 where
  pub choice : Choice
  -- those that were added since the choice, in that order
  pub pairs : Pairs
  -- the trie: its kind, its bytes as they were printed, and the pairs that it was built from
  pub kind : Kind
  pub text : List ℕ
  pub built : Pairs

-- the pairs with the empty trie, as after the choice and after a build that failed
abbrev pub without_trie : Choice → Pairs → State
without_trie choice pairs = record { choice = choice; pairs = pairs; kind = kind_of choice []; text = []; built = [] }

-- the pairs with the trie that was built from them, of these bytes
abbrev pub with_trie : Choice → Pairs → List ℕ → State
with_trie choice pairs text = record { choice = choice; pairs = pairs; kind = kind_of choice pairs; text = text; built = pairs }

-- the pairs of a text in the order in which they are printed, which is that of the text, or of the bytes of their keys
abbrev pub in_order : Choice → Pairs → Pairs
in_order (Named kind) pairs = pairs
in_order Auto pairs = entries (map_of pairs)

-- Before the first choice only a choice can be made, and a walk only if the choice names a kind.
abbrev pub CanDo : Option State → Command → Type 0
CanDo None (choose choice) = Unit {0}
CanDo None (add value key) = ⊥
CanDo None build = ⊥
CanDo None (query key) = ⊥
CanDo None list = ⊥
CanDo None (walk ops) = ⊥
CanDo (Some s) (choose choice) = Unit {0}
CanDo (Some s) (add value key) = Unit {0}
CanDo (Some s) build = Unit {0}
CanDo (Some s) (query key) = Unit {0}
CanDo (Some s) list = Unit {0}
CanDo (Some s) (walk ops) = s.choice ≢ Auto

-- What a command does to what is held: what it prints, a status that the run's is not below, and what is held then.
pub data Does : Option State → Command → List ℕ → ℕ → Option State → Type 0 where
  -- a choice begins anew, without pairs
  chosen : {held : Option State} {choice : Choice} → Does held (choose choice) [] 0 (Some (without_trie choice []))
  added : {s : State} {value : ℕ} {key : List ℕ} → Does (Some s) (add value key) [] 0 (Some (record s { pairs = s.pairs ++ (key, value) ∷ [] }))
  -- a build takes all pairs, and its trie the place of the one before
  ok : {s : State} {text : List ℕ} → Takes any_order s.pairs → IsBuilt (kind_of s.choice s.pairs) s.pairs text → Does (Some s) build (ok_line text) 0 (Some (with_trie s.choice s.pairs text))
  -- after a build that failed the trie is empty
  refused : {s : State} {error : ZeroTrieBuildError} → IsRefusal any_order (kind_of s.choice s.pairs) s.pairs error → Does (Some s) build (refused_line error) 1 (Some (without_trie s.choice s.pairs))
  -- an answer is that of the map that the trie's text means, which is the map of the pairs it was built from
  asked : {s : State} {key : List ℕ} → Means s.kind s.text (map_of s.built) → Does (Some s) (query key) (number_line (look s.kind (map_of s.built) key)) 0 (Some s)
  -- a listing is of the pairs that the trie's text lists
  listed : {s : State} {pairs : Pairs} → Lists s.kind s.text pairs → Does (Some s) list (list_lines (in_order s.choice pairs)) 0 (Some s)
  -- a walk is one of a fresh cursor over the pairs that the trie's text lists
  walked : {s : State} {ops : List Op} {pairs : Pairs} → s.choice ≢ Auto → Lists s.kind s.text pairs → Does (Some s) (walk ops) (walk_line (run s.kind ops pairs)) 0 (Some s)

-- Lines, the first of them with number n, are answered by an output and a status. An empty line does nothing, and a
-- line that is no command, or none that can be done, ends the run.
pub data AnswersLines : ℕ → Option State → List (List ℕ) → List ℕ → ℕ → Type 0 where
  end : {n : ℕ} {held : Option State} → AnswersLines n held [] [] 0
  empty : {n status : ℕ} {held : Option State} {lines : List (List ℕ)} {output : List ℕ} → AnswersLines (n + 1) held lines output status → AnswersLines n held ([] ∷ lines) output status
  does : {n least status : ℕ} {held after : Option State} {line : List ℕ} {command : Command} {lines : List (List ℕ)} {printed output : List ℕ} → IsCommand line command → Does held command printed least after → AnswersLines (n + 1) after lines output status → AnswersLines n held (line ∷ lines) (printed ++ output) (max least status)
  bad : {n : ℕ} {held : Option State} {line : List ℕ} {lines : List (List ℕ)} → line ≢ [] → ((command : Command) → IsCommand line command → CanDo held command → ⊥) → AnswersLines n held (line ∷ lines) (bad_line n) 2

-- The output and the status belong to the input.
abbrev pub Answers : List ℕ → List ℕ → ℕ → Type 0
Answers input output status = AnswersLines 1 None (lines_of input) output status
