use Rattle.std.proofs.Common.{◌+◌, ◌<◌, ◌≤◌, arith, false, length, reverse}
use Rattle.zerotrie_search.specs.Walks.{is_to_come, rooms}
use Rattle.zerotrie_search.proofs.NextLemmas.{same_on, next_on}
use Rattle.zerotrie_search.proofs.sorted.walk.next_pair.Goals as goal

pub returns-in-Pair-clause-finds : goal.returns-in-Pair-clause-finds
returns-in-Pair-clause-finds g c pairs w =
    let kind = g.K.ZeroTrieWithOptions.kind in
    let l = c.loop-rest in
    let n = c.next_node.new in
    let i = l.invariant.walks pairs w in
    let walks = rw c.in-Pair.is at c.in_ok-next_node.ensures.walks in
    let m = walks pairs i.0 in
    (m.0, next_on pairs (is_to_come kind c.args.key.now.items c.args.rest.now.now (reverse c.args.forks.now.items)) (is_to_come kind l.key.items l.at.now (reverse l.forks.items)) (is_to_come kind n.key.items n.rest.now (reverse n.forks.items)) i.1 n.key.items n.value m.1)

pub returns-in-Pair-clause-less : goal.returns-in-Pair-clause-less
returns-in-Pair-clause-less g c =
    let steps = rw c.in-Pair.is at c.in_ok-next_node.ensures.steps in
    let so_far = c.loop-rest.invariant.less in
    let one = steps.1 in
    omega (arith, so_far, one)

pub returns-in-End-clause-finds : goal.returns-in-End-clause-finds
returns-in-End-clause-finds g c pairs w =
    let kind = g.K.ZeroTrieWithOptions.kind in
    let l = c.loop-rest in
    let i = l.invariant.walks pairs w in
    let walks = rw c.in-End.is at c.in_ok-next_node.ensures.walks in
    same_on pairs (is_to_come kind c.args.key.now.items c.args.rest.now.now (reverse c.args.forks.now.items)) (is_to_come kind l.key.items l.at.now (reverse l.forks.items)) (λ q. false) i.1 (walks pairs i.0)

pub loop-rest-preserved-in-Bytes : goal.loop-rest-preserved-in-Bytes
loop-rest-preserved-in-Bytes g c =
    let kind = g.K.ZeroTrieWithOptions.kind in
    let l = c.loop-rest in
    let n = c.next_node.new in
    let walks = rw c.in-Bytes.is at c.in_ok-next_node.ensures.walks in
    let steps = rw c.in-Bytes.is at c.in_ok-next_node.ensures.steps in
    record {
      walks = λ pairs w. (
          let i = l.invariant.walks pairs w in
          let m = walks pairs i.0 in
          (m.0, same_on pairs (is_to_come kind c.args.key.now.items c.args.rest.now.now (reverse c.args.forks.now.items)) (is_to_come kind l.key.items l.at.now (reverse l.forks.items)) (is_to_come kind n.key.items n.rest.now (reverse n.forks.items)) i.1 m.1)
          );
      less = (let so_far = l.invariant.less in let one = steps.2 in omega (arith, so_far, one));
    }

pub loop-rest-preserved : goal.loop-rest-preserved
loop-rest-preserved g c =
    let kind = g.K.ZeroTrieWithOptions.kind in
    let l = c.loop-rest in
    let n = c.next_node.new in
    let walks = rw c.in-Branch.is at c.in_ok-next_node.ensures.walks in
    let steps = rw c.in-Branch.is at c.in_ok-next_node.ensures.steps in
    record {
      walks = λ pairs w. (
          let i = l.invariant.walks pairs w in
          let m = walks pairs i.0 in
          (m.0, same_on pairs (is_to_come kind c.args.key.now.items c.args.rest.now.now (reverse c.args.forks.now.items)) (is_to_come kind l.key.items l.at.now (reverse l.forks.items)) (is_to_come kind n.key.items n.rest.now (reverse n.forks.items)) i.1 m.1)
          );
      less = (let so_far = l.invariant.less in let one = steps.2 in omega (arith, so_far, one));
    }
