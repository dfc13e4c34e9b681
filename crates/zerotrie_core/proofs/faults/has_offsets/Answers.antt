-- (named, as search would unfold where each target begins and ends in every goal)
use Rattle.std.proofs.Common.{◌<◌, ◌≤◌, ℕ, length, arith, ap}
use Rattle.std.proofs.lemmas.Grind.{common_steps}
use Rattle.zerotrie_base.specs.Nodes.{begin_of, end_of, targets_behind}
use borrow.Author.Count.{below_more}
use Rattle.zerotrie_core.proofs.faults.has_offsets.Goals as goal

pub returns-then-end-begin : goal.returns-then-end-begin
returns-then-end-begin c = (
  λ wrong. absurd (cc),
  λ order.
      (let f = order c.loop-index.index c.loop-index-test.true in
      let b = c.loop-index.invariant.begins c.loop-index-test.true in
      let t = ap length c.targets-len.ensures in
      absurd (omega (arith, f.0, f.1, b, t, c.end_at-end.ensures, c.then-end-begin.either))),
)

pub loop-index-preserved : goal.loop-index-preserved
loop-index-preserved c =
    let n = c.args.branch.now.edges in
    let w = c.args.branch.now.width in
    let s = c.args.branch.now.behind.now in
    let b = c.loop-index.invariant.begins c.loop-index-test.true in
    let t = ap length c.targets-len.ensures in
    record {
      order = below_more (λ (i : ℕ). (begin_of n w s i < end_of n w s i) × (end_of n w s i ≤ length (targets_behind n w s))) c.loop-index.index c.loop-index.invariant.order (omega (arith, b, c.end_at-end.ensures), omega (arith, t, c.end_at-end.ensures));
      begins = grind (arith, common_steps);
    }
