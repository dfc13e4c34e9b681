use Rattle.std.proofs.Common.{◌≡◌, ◌∷◌, [], map, subst, sym, inr}
use Rattle.zerotrie.specs.dense.Layout.{laid}
use Rattle.zerotrie.specs.dense.RowFaults.{AllAscend, AreAsciiTexts, SomeWideWindow}
use Rattle.zerotrie.specs.dense.Views.{pairs_in, rows_in}
use Rattle.zerotrie.specs.dense.Rows.{keys, texts}
use Rattle.zerotrie.proofs.RowsLemmas.{in_order, plain_right, rows_step}
use Rattle.zerotrie.proofs.dense.rows.rows_of.Goals as goal

pub loop-prefix-preserved : goal.loop-prefix-preserved
loop-prefix-preserved c =
    let front : c.loop-prefix.prefix-iterator ≡ (c.in-Some.prefix.now, c.in-Some.row.now) ∷ c.next.new.self = rw c.in-Some.is at c.next.ensures.steps in (
      rows_step c.args.columns c.loop-prefix.rows.items c.push.new.self.items c.in_ok-row_of.field-0 c.loop-prefix.prefix-iterator c.next.new.self (c.in-Some.prefix.now, c.in-Some.row.now)
          _ front c.loop-prefix.invariant.0 c.in_ok-push.ensures.items c.in_ok-row_of.ensures.row,
      plain_right (keys (pairs_in c.in-Some.row.now.entries)) (texts (rows_in c.next.new.self)) (subst (λ es. AreAsciiTexts (texts (rows_in es))) front c.loop-prefix.invariant.1).1,
      λ wide. c.loop-prefix.invariant.2 (subst (λ es. SomeWideWindow (rows_in es)) (sym front) (inr wide)),
      λ ascend. c.loop-prefix.invariant.3 (subst (λ es. AllAscend (map (laid c.args.columns) (rows_in es))) (sym front) (c.in_ok-row_of.ensures.ascends, ascend)),
    )

pub returns-clause-order : goal.returns-clause-order
returns-clause-order c =
    let gone : c.loop-prefix.prefix-iterator ≡ [] = (rw c.in-None.is at c.next.ensures.steps).0 in
    in_order c.args.columns c.args.entries.now.entries c.into_iter-prefix-iterator.ensures.into_iter_gives.5
    (c.loop-prefix.invariant.3 (subst (λ es. AllAscend (map (laid c.args.columns) (rows_in es))) (sym gone) tt))
