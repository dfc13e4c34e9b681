use Rattle.std.proofs.Common.{◌∷◌, ◌++◌, length, arith}
use Rattle.zerotrie_base.specs.Nodes.Shape.{value, span}
use Rattle.zerotrie_core.specs.Shapes.{branch_shape}
use Rattle.zerotrie_base.proofs.NodeLemmas.Nodes.{value_begins, only_branch, only_number}
use Rattle.zerotrie_core.proofs.NodeLemmas.Read.{node_begun, none_begun}
use Rattle.zerotrie_core.proofs.node.first_node.Goals as goal

pub returns-in_err-branch_at-clause-node : goal.returns-in_err-branch_at-clause-node
returns-in_err-branch_at-clause-node g c =
    let kind = g.K.ZeroTrieWithOptions.kind in
    let lead = c.in_ok-lead in
    rw c.from_residual-in_err-branch_at.ensures
    (none_begun kind c.args.bytes.now (λ i. omega (arith, c.type_inv.bytes i)) (only_branch kind lead.lead.now lead.rest.now c.args.bytes.now lead.ensures.cases.0 c.if-lead-ge192.true c.in_err-branch_at.ensures.none))

pub returns-in_ok-branch_at-clause-node : goal.returns-in_ok-branch_at-clause-node
returns-in_ok-branch_at-clause-node g c =
    rw c.in_ok-lead.ensures.cases.0 (node_begun g.K.ZeroTrieWithOptions.kind (c.in_ok-lead.lead.now ∷ c.in_ok-lead.rest.now) (branch_shape c.in_ok-branch_at.field-0) c.in_ok-branch_at.ensures.some)

pub returns-in_err-value-clause-node : goal.returns-in_err-value-clause-node
returns-in_err-value-clause-node g c =
    let kind = g.K.ZeroTrieWithOptions.kind in
    let lead = c.in_ok-lead in
    let none = c.in_err-value.ensures.none in
    rw c.from_residual-in_err-value.ensures
    (none_begun kind c.args.bytes.now (λ i. omega (arith, c.type_inv.bytes i)) (only_number kind lead.lead.now lead.rest.now c.args.bytes.now lead.ensures.cases.0 (omega arith) (omega arith) (none 4) (λ run after _. none 5 (length run) (run ++ after))))

pub returns-in_ok-value-clause-node : goal.returns-in_ok-value-clause-node
returns-in_ok-value-clause-node g c =
    let v = c.in_ok-value in
    rw c.in_ok-lead.ensures.cases.0 (node_begun g.K.ZeroTrieWithOptions.kind (c.in_ok-lead.lead.now ∷ c.in_ok-lead.rest.now) (value v.value v.after.now) (grind (arith, v.ensures.found)))

pub returns-in_err-run-clause-node : goal.returns-in_err-run-clause-node
returns-in_err-run-clause-node g c =
    let kind = g.K.ZeroTrieWithOptions.kind in
    let lead = c.in_ok-lead in
    rw c.from_residual-in_err-run.ensures
    (none_begun kind c.args.bytes.now (λ i. omega (arith, c.type_inv.bytes i)) (only_number kind lead.lead.now lead.rest.now c.args.bytes.now lead.ensures.cases.0 (omega arith) (omega arith)
    (λ v after b. (let is = value_begins v lead.lead.now lead.rest.now after b in omega arith)) (λ run after _. c.in_err-run.ensures.none run after)))

pub returns-in_ok-run-clause-node : goal.returns-in_ok-run-clause-node
returns-in_ok-run-clause-node g c =
    let s = c.in_ok-run in
    rw c.in_ok-lead.ensures.cases.0 (node_begun g.K.ZeroTrieWithOptions.kind (c.in_ok-lead.lead.now ∷ c.in_ok-lead.rest.now) (span s.run'.now s.after.now) (grind (arith, s.ensures.some)))
