use Rattle.std.proofs.Common.{◌+◌, subst, sym, arith}
use Rattle.zerotrie_sets.specs.Rows.{EachAscends}
use Rattle.zerotrie_making.proofs.CombineLemmas.{AreInCase, ascend_more, cases_next, cases_last}
use Rattle.zerotrie_making.proofs.combine.in_first_cases.Goals as goal

pub loop-at-preserved : goal.loop-at-preserved
loop-at-preserved c =
    let l = c.loop-at in
    let tries = c.args.tries.now in
    let table = c.in_ok-in_first_case.field-0 in
    record {
      ascend = subst EachAscends (sym c.in_ok-push.ensures.items) (ascend_more l.tables.items table l.invariant.ascend c.in_ok-in_first_case.ensures.ascends);
      are = subst (AreInCase tries (l.at + 1)) (sym c.in_ok-push.ensures.items) (cases_next tries l.at l.tables.items table c.loop-at-test.true c.in_ok-in_first_case.ensures.is l.invariant.are);
    }

pub returns-clause-are : goal.returns-clause-are
returns-clause-are c =
    let l = c.loop-at in
    cases_last c.args.tries.now l.at l.tables.items (omega (arith, c.loop-at-test.false)) l.invariant.are
