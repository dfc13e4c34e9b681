-- Which lines are commands.
use Rattle.std.specs.Prelude.{◌≡◌, ℕ, ◌⊎◌, List, [], ◌∷◌, ◌++◌, codes}
use Rattle.zerotrie.specs.Kind.{Kind}
use Rattle.zerotrie.specs.Kinds as kinds
use Rattle.zerotrie.specs.Kinds.{kind_name}
use Rattle.zerotrie.specs.Maps.{Pairs}
use Rattle.zerotrie.specs.Auto.{auto_kind}
use Rattle.zerotrie.specs.Machine.{Op}
use Rattle.zerotrie_session.specs.Numbers.{IsNumber}
use Rattle.zerotrie_session.specs.Calls.{AreOps, words_of}
use Rattle.zerotrie_session.specs.declared.command.Choice.{Choice}
use Rattle.zerotrie_session.specs.declared.command.Choice.TheVariants.{Named, Auto}

-- the name of a choice
abbrev pub name_of : Choice → List ℕ
name_of (Named kind) = kind_name kind
name_of Auto = codes "auto"

-- the kind of the trie that a choice takes for the pairs
abbrev pub kind_of : Choice → Pairs → Kind
kind_of (Named kind) pairs = kinds.kind_of kind
kind_of Auto pairs = auto_kind pairs

pub data Command : Type 0 where
  choose : Choice → Command
  add : (value : ℕ) (key : List ℕ) → Command
  build : Command
  query : (key : List ℕ) → Command
  list : Command
  walk : (ops : List Op) → Command

-- The line is the words, a space and the key. The words alone are the empty key too.
abbrev pub HasKey : List ℕ → List ℕ → List ℕ → Type 0
HasKey words key line = ((line ≡ words) × (key ≡ [])) ⊎ (line ≡ words ++ 32 ∷ key)

-- the line is the command
abbrev pub IsCommand : List ℕ → Command → Type 0
IsCommand line (choose choice) = line ≡ codes "kind " ++ name_of choice
IsCommand line (add value key) = (digits : List ℕ) × IsNumber digits value × HasKey (codes "+ " ++ digits) key line
IsCommand line build = line ≡ codes "build"
IsCommand line (query key) = HasKey (codes "?") key line
IsCommand line list = line ≡ codes "list"
IsCommand line (walk ops) = (text : List ℕ) × (line ≡ codes "walk " ++ text) × AreOps (words_of text) ops
