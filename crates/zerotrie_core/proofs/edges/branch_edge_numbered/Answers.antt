use Rattle.std.proofs.Common.{arith, Some, subst, sym}
use Rattle.zerotrie_base.specs.Texts.{Lists}
use Rattle.zerotrie_core.specs.Places.{IsProbe}
use Rattle.zerotrie_core.proofs.CursorLemmas.Calls.{branch_number, branch_past_number, branch_no_target}
use Rattle.zerotrie_core.proofs.CursorLemmas.Parts.{lies_target}
use Rattle.zerotrie_core.proofs.edges.branch_edge_numbered.Goals as goal

pub returns-then-index-branch-clause-probe : goal.returns-then-index-branch-clause-probe
returns-then-index-branch-clause-probe c kind bytes begins =
    let b = c.args.branch in
    branch_past_number kind bytes b.edges b.width b.table.now b.behind.now begins c.args.index (omega arith)

pub returns-in_err-trie-clause-probe : goal.returns-in_err-trie-clause-probe
returns-in_err-trie-clause-probe c kind =
    let b = c.args.branch in
    rw c.from_residual.ensures
    (λ bytes begins. branch_no_target kind bytes b.edges b.width b.table.now b.behind.now begins c.args.index (omega arith) c.in_err-trie.ensures.target)

pub returns-clause-probe : goal.returns-clause-probe
returns-clause-probe c kind bytes begins =
    let b = c.args.branch in
    let trie = c.in_ok-trie.trie in
    let a = c.plain-along.ensures in
    rw (a.edge, a.run, a.trie)
    (subst (λ e. IsProbe (Lists kind bytes) c.args.index (Some (e, b.edges)) (Lists kind trie.now)) (sym c.edge_at.ensures)
    (branch_number kind bytes b.edges b.width b.table.now b.behind.now begins c.args.index trie (omega arith) c.in_ok-trie.ensures.target))

pub returns-clause-lies : goal.returns-clause-lies
returns-clause-lies c =
    let b = c.args.branch in
    let a = c.plain-along.ensures in
    rw (a.run, a.trie, a.after) (lies_target b.edges b.width b.behind.now c.args.index c.in_ok-trie.after c.in_ok-trie.trie c.in_ok-trie.ensures.target c.in_ok-trie.ensures.after)
