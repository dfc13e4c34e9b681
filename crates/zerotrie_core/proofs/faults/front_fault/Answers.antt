use Rattle.std.proofs.Common.{arith}
use Rattle.std.specs.Option.{option_map}
use Rattle.zerotrie_core.specs.Shapes.{shape}
use Rattle.zerotrie_base.proofs.NumberLemmas.Numbers.{IsBytes}
use Rattle.zerotrie_core.proofs.FaultLemmas.Rules.{node_begins, none_read, some_by}
use Rattle.zerotrie_core.proofs.faults.front_fault.Goals as goal

pub no_node_fault-requires : goal.no_node_fault-requires
no_node_fault-requires g c = λ s b. none_read g.K.ZeroTrieWithOptions.kind c.args.bytes.now s (rw c.in-None.is at c.requires) b

pub node_fault-requires : goal.node_fault-requires
node_fault-requires g c =
    let bytes : IsBytes c.args.bytes.now = λ i. omega (arith, c.type_inv.bytes i) in
    (c.args.bytes.now, rw c.in-Some.is at (node_begins g.K.ZeroTrieWithOptions.kind c.args.bytes.now (option_map shape c.args.node) bytes c.requires))

pub returns-in-Some-clause-some : goal.returns-in-Some-clause-some
returns-in-Some-clause-some g c =
    let bytes : IsBytes c.args.bytes.now = λ i. omega (arith, c.type_inv.bytes i) in
    let begins = rw c.in-Some.is at (node_begins g.K.ZeroTrieWithOptions.kind c.args.bytes.now (option_map shape c.args.node) bytes c.requires) in
    some_by c.node_fault.result (λ cause fails. fails c.args.bytes.now begins) c.node_fault.ensures.some
