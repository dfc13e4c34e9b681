use Rattle.std.proofs.Common.{◌∙◌, ap, arith, sym, subst, ◌-◌}
use Rattle.zerotrie_core.specs.Maps.{Ascends}
use Rattle.zerotrie_making.proofs.CombineLemmas.{left_ascends, in_case_first, in_case_next}
use Rattle.zerotrie_making.proofs.combine.in_first_case.Goals as goal

pub loop-before-init : goal.loop-before-init
loop-before-init c =
    let at = c.args.at in
    let s = c.in_ok-sorted_pairs.field-0 in
    let is = c.in_ok-table.ensures in
    record {
      up = subst (λ pairs. Ascends pairs) (sym is) (left_ascends _ _ s.left (c.requires.tries at _ c.requires.within) c.in_ok-sorted_pairs.ensures);
      within = omega arith;
      is = in_case_first c.args.tries.now at _ c.in_ok-table.table c.requires.within (λ m means. is ∙ ap (λ left. left.pairs) (c.in_ok-sorted_pairs.ensures m means).0);
    }

pub loop-before-preserved : goal.loop-before-preserved
loop-before-preserved c =
    let l = c.loop-before in
    let next = c.in_ok-table-2 in
    record {
      up = next.ensures.ascends;
      within = omega (arith, l.invariant.within);
      is = in_case_next c.args.tries.now (l.before - 1) l.before c.args.at _ _ l.table _ c.requires.within (omega (arith, c.loop-before-test.true)) l.invariant.within next.ensures.is l.invariant.is;
    }

pub sorted_pairs-requires : goal.sorted_pairs-requires
sorted_pairs-requires c = c.requires.tries c.args.at _ c.requires.within

pub in_case_of-requires-clause-before : goal.in_case_of-requires-clause-before
in_case_of-requires-clause-before c = c.requires.tries (c.loop-before.before - 1) _ (omega (arith, c.requires.within, c.loop-before.invariant.within, c.loop-before-test.true))

pub in_case_of-requires-clause-trie : goal.in_case_of-requires-clause-trie
in_case_of-requires-clause-trie c = c.requires.tries c.args.at _ c.requires.within
