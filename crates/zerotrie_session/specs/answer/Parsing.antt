-- What a parsed line says.
use Rattle.std.specs.Prelude.{◌≡◌, ℕ}
use Rattle.std.specs.Prelude as prelude
use Rattle.zerotrie.specs.Machine.{Op}
use Rattle.zerotrie.specs.Walks.{ops_of}
use Rattle.zerotrie_session.specs.declared.command.Request.{Request}
use Rattle.zerotrie_session.specs.declared.command.Request.TheVariants.{Kind, Add, Build, Query, List, Walk}
use Rattle.zerotrie_session.specs.Commands.{Command, choose, add, build, query, list, walk}

-- the command of a request
abbrev pub meaning : Request → Command
meaning (Kind choice) = choose choice
meaning (Add value key) = add value key.now
meaning Build = build
meaning (Query key) = query key.now
meaning List = list
meaning (Walk ops) = walk (ops_of ops.items)

-- the command is a walk
abbrev pub IsWalking : Command → Type 0
IsWalking command = (ops : prelude.List Op) × (command ≡ walk ops)
