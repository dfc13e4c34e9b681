-- What a session holds, and what a line does to it.
use Rattle.std.specs.Prelude.{◌≡◌, ℕ, List, ◌++◌, Option, Some, None}
use Rattle.zerotrie.specs.Items.{pairs_of}
use Rattle.zerotrie.specs.Maps.{map_of}
use Rattle.zerotrie.specs.Texts.{Means}
use Rattle.zerotrie_session.specs.Commands.{Command, IsCommand}
use Rattle.zerotrie_session.specs.Answers.{State, Does, CanDo}
use Rattle.zerotrie_session.specs.BadLines.{IsBadLine}
use Rattle.zerotrie_session.specs.declared.command.BadLine.TheVariants.{WalkUnderAuto}
use Rattle.zerotrie_session.specs.answer.Parsing.{IsWalking}
use Rattle.zerotrie_session.specs.answer.Tries.{trie_kind, trie_choice, trie_bytes}
use Rattle.zerotrie_session.specs.declared.answer.Session.{Session}
use Rattle.zerotrie_session.specs.declared.answer.Outcome.{Outcome}
use Rattle.zerotrie_session.specs.declared.answer.Outcome.TheVariants.{Done, Refused, Bad}

-- The session has the state: its choice, its pairs, and a trie of that choice whose text means the pairs that were built.
pub record HasState (session : Session) (s : State) : Type 0 where
  pub choice : session.choice ≡ s.choice
  pub of : trie_choice session.trie ≡ s.choice
  pub pairs : pairs_of session.pairs.items ≡ s.pairs
  pub kind : trie_kind session.trie ≡ s.kind
  pub text : trie_bytes session.trie ≡ s.text
  pub means : Means s.kind s.text (map_of s.built)

-- the same, before the first choice too
abbrev pub HasStateIfAny : Option Session → Option State → Type 0
HasStateIfAny None None = Unit {0}
HasStateIfAny None (Some s) = ⊥
HasStateIfAny (Some session) None = ⊥
HasStateIfAny (Some session) (Some s) = HasState session s

-- A command was done, from what was held: it printed what the output has after the old one.
pub record Performed (command : Command) (held : Option State) (after : Option Session) (old new : List ℕ) (least : ℕ) : Type 0 where
  pub printed : List ℕ
  pub state : Option State
  pub does : Does held command printed least state
  pub holds : HasStateIfAny after state
  pub output : new ≡ old ++ printed

-- how a command ended; a bad one prints nothing, and is a walk
abbrev pub AfterRequest : Command → Session → Session → List ℕ → List ℕ → Outcome → Type 0
AfterRequest command before after old new Done = (s : State) → HasState before s → Performed command (Some s) (Some after) old new 0
AfterRequest command before after old new Refused = (s : State) → HasState before s → Performed command (Some s) (Some after) old new 1
AfterRequest command before after old new (Bad bad) = (new ≡ old) × ((s : State) → HasState before s → CanDo (Some s) command → ⊥) × (bad ≡ WalkUnderAuto) × IsWalking command

-- a line that is a command was done
abbrev pub AfterCommand : List ℕ → Option Session → Option Session → List ℕ → List ℕ → ℕ → Type 0
AfterCommand line before after old new least = (held : Option State) → HasStateIfAny before held
    → (command : Command) × IsCommand line command × Performed command held after old new least

-- how a line ended
abbrev pub AfterLine : List ℕ → Option Session → Option Session → List ℕ → List ℕ → Outcome → Type 0
AfterLine line before after old new Done = AfterCommand line before after old new 0
AfterLine line before after old new Refused = AfterCommand line before after old new 1
AfterLine line before after old new (Bad bad) = (new ≡ old)
    × ((held : Option State) → HasStateIfAny before held → (command : Command) → IsCommand line command → CanDo held command → ⊥) × IsBadLine line bad
