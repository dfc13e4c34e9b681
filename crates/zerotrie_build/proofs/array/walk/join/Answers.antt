use Rattle.std.proofs.Common.{◌∙◌, ◌^◌, ◌≤◌, ap, refl, arith, drop}
use Rattle.zerotrie_build.proofs.ArrayLemmas.Steps.{to_end, joins_at, wide_at, sum_exact, sum_wide}
use Rattle.zerotrie_build.proofs.array.walk.join.Goals as goal
use Rattle.zerotrie_build.proofs.array.walk.join.Goals.{then-total-via-then-total, then-total-via-else-total+then-total-2}

pub returns-then-total-clause-refused : goal.returns-then-total-clause-refused
returns-then-total-clause-refused g c =
    let e = c.start_of-start.ensures in
    let t = c.total-total.ensures in
    let wide : 2 ^ 32 ≤ c.total-total.result = elim c.then-total.branch [ then-total-via-then-total w ↦ w.if-total.true | then-total-via-else-total+then-total-2 w ↦ let is = w.if-total-2.true in omega arith ] in
    (refl, wide_at c.args.depth c.args.siblings.now.items _ c.start_of-start.result (to_end c.as_slice.result.now c.start_of-start.result ∙ ap (drop c.start_of-start.result) c.as_slice.ensures.value) e.level e.no_more (sum_wide _ _ t.exact t.capped wide))

pub returns-clause-joins : goal.returns-clause-joins
returns-clause-joins g c =
    let e = c.start_of-start.ensures in
    let t = c.total-total.ensures in
    let exact = sum_exact _ _ t.exact t.capped (let f = c.if-total.false in omega arith) in
    joins_at c.args.depth c.args.text.now _ c.put_branch.new.self c.args.siblings.now.items _ c.truncate.new.self.items c.start_of-start.result (to_end c.as_slice.result.now c.start_of-start.result ∙ ap (drop c.start_of-start.result) c.as_slice.ensures.value) c.truncate.ensures.items e.level e.no_more
    refl refl exact (let f = c.if-total.false in omega (arith, exact)) c.put_branch.ensures
