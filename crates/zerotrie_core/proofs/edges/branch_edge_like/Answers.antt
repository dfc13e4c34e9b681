use Rattle.zerotrie_core.proofs.CursorLemmas.Calls.{branch_along, branch_past}
use Rattle.zerotrie_core.proofs.edges.branch_edge_like.Goals as goal

pub returns-in_err-edge-clause-step : goal.returns-in_err-edge-clause-step
returns-in_err-edge-clause-step g c =
    let b = c.args.branch in
    rw c.from_residual.ensures
    (λ bytes begins. branch_past g.K.ZeroTrieWithOptions.kind bytes b.edges b.width b.table.now b.behind.now begins c.args.byte c.in_err-edge.ensures.none)

pub returns-clause-step : goal.returns-clause-step
returns-clause-step g c bytes begins =
    let b = c.args.branch in
    let a = c.plain.ensures in
    rw (a.edge, a.run, a.trie)
    (branch_along g.K.ZeroTrieWithOptions.kind bytes b.edges b.width b.table.now b.behind.now begins c.args.byte c.in_ok-edge.edge c.in_ok-edge.trie.now c.in_ok-edge.ensures.some)

pub returns-clause-lies : goal.returns-clause-lies
returns-clause-lies g c = let a = c.plain.ensures in rw (a.run, a.trie, a.after) c.in_ok-edge.ensures.lies
