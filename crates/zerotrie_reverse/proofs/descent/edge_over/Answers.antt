use Rattle.std.proofs.Common.{◌≡◌, ◌-◌, ◌+◌, ◌<◌, ◌≤◌, arith, sym, ◌∙◌, subst}
use Rattle.zerotrie_base.specs.Nodes.{end_of}
use Rattle.zerotrie_reverse.proofs.DescentLemmas.{edge_here, edge_past}
use Rattle.zerotrie_reverse.proofs.descent.edge_over.Goals as goal

pub returns-then-to-end_at-clause-is : goal.returns-then-to-end_at-clause-is
returns-then-to-end_at-clause-is c =
    let ends = end_of c.args.branch.edges c.args.branch.width c.args.branch.behind.now in
    let below : c.args.to < ends c.loop-index.index = subst (λ e. c.args.to < e) c.end_at.ensures c.if-to-end_at.true in
    sym (edge_here ends c.args.to c.loop-index.index (c.args.branch.edges - 1 - c.loop-index.index) (omega arith) below) ∙ c.loop-index.invariant.0

pub loop-index-preserved : goal.loop-index-preserved
loop-index-preserved c =
    let ends = end_of c.args.branch.edges c.args.branch.width c.args.branch.behind.now in
    let past : ends c.loop-index.index ≤ c.args.to = subst (λ e. e ≤ c.args.to) c.end_at.ensures (omega (arith, c.if-to-end_at.false)) in
    let same : c.loop-index.index + 1 - 1 ≡ c.loop-index.index = omega arith in (
      sym (edge_past ends c.args.to c.loop-index.index (c.args.branch.edges - 1 - c.loop-index.index) (c.args.branch.edges - 1 - (c.loop-index.index + 1)) (omega arith) past)
          ∙ c.loop-index.invariant.0,
      λ some. subst (λ i. ends i ≤ c.args.to) (sym same) past,
    )
