use Rattle.std.proofs.Common.{◌≡◌, length, arith, subst}
use Rattle.zerotrie_base.specs.Cursors.{met}
use Rattle.zerotrie_search.specs.Lasts.{IsGreatest}
use Rattle.zerotrie_search.proofs.OrderLemmas.{nth_is}
use Rattle.zerotrie_search.proofs.sorted.edges.greatest_under.Goals as goal

pub loop-index-init : goal.loop-index-init
loop-index-init g c pairs lists =
    let m = c.in_ok-edge.ensures.meaning pairs lists in
    let n = nth_is 0 (met pairs) (c.in_ok-edge.edge.byte, c.in_ok-edge.edge.total_siblings) m.0 in
    (c.greater-found.ensures g.K.ZeroTrieWithOptions.kind c.args.bytes.now pairs 0 ((λ j l. absurd (omega arith)), tt) n.0 n.1 m.1, n.2)

pub loop-index-preserved : goal.loop-index-preserved
loop-index-preserved g c pairs lists =
    let i = c.loop-index.invariant pairs lists in
    let m = c.in-Some.ensures.meaning pairs lists in
    let n = nth_is c.loop-index.index (met pairs) (c.in-Some.edge.byte, c.in-Some.edge.total_siblings) m.0 in
    (c.greater-found-in-loop-index.ensures g.K.ZeroTrieWithOptions.kind c.args.bytes.now pairs c.loop-index.index i.0 n.0 n.1 m.1, i.1)

pub returns : goal.returns
returns g c pairs lists =
    let i = c.loop-index.invariant pairs lists in
    let m = c.in_ok-edge.ensures.meaning pairs lists in
    let n = nth_is 0 (met pairs) (c.in_ok-edge.edge.byte, c.in_ok-edge.edge.total_siblings) m.0 in
    let most = c.loop-index.auto.index-end (omega (arith, n.0, n.2)) in
    let all : c.loop-index.index ≡ length (met pairs) = omega (arith, most, c.loop-index-test.false, n.2) in
    subst (λ k. IsGreatest g.K.ZeroTrieWithOptions.kind c.args.bytes.now pairs k c.args.limit c.loop-index.found) all i.0
