use Rattle.std.proofs.Common.{◌≡◌, ◌-◌, ℕ, List, subst, arith, Some, slice_get}
use Rattle.zerotrie_build.proofs.WindowLemmas.Steps.{low_at}
use Rattle.zerotrie_build.proofs.windows.literals_end.Goals as goal

pub returns-then-window-eq1-clause-low : goal.returns-then-window-eq1-clause-low
returns-then-window-eq1-clause-low g c = λ i from below.
    let e = c.low_end.ensures in
    let key = e.key in
    let same = e.same i from below in
    let all = g.I.IndexedItems.pairs c.args.items in
    let item : List ℕ × ℕ = (c.get.result.0.now, c.get.result.1) in
    let one = c.if-window-eq1.true in
    let last : slice_get all (c.args.window.to - 1) ≡ Some item = subst (λ j. slice_get all j ≡ Some item) (omega arith) c.get.ensures in
    low_at all c.args.window i item item c.get.ensures last (omega arith) (omega arith) same.0 same.1

pub returns-clause-low : goal.returns-clause-low
returns-clause-low g c = λ i from below.
    let e = c.low_end-2.ensures in
    let key = e.key in
    let other = e.other in
    let same = e.same i from below in
    low_at (g.I.IndexedItems.pairs c.args.items) c.args.window i (c.get.result.0.now, c.get.result.1) (c.get-2.result.0.now, c.get-2.result.1) c.get.ensures c.get-2.ensures (omega arith) (omega arith) same.0 same.1
