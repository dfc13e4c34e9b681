use Rattle.std.proofs.Common.{ℕ, List, arith, sym, ◌∙◌, inl, inr}
use Rattle.std.proofs.lemmas.List.Sorted.{IsNonDecreasingBy-from_sort}
use Rattle.std.specs.List.Sorted.{IsSorted}
use Rattle.std.specs.Ordering.{nat_cmp}
use Rattle.zerotrie.proofs.FullestLemmas.{Goes, Rising, going_on, going_ends}
use Rattle.zerotrie.proofs.dense.rows.fullest_in.Goals.{then-is_in_window, else-is_in_window}
use Rattle.zerotrie.proofs.dense.rows.fullest_in.Goals as goal

rising : (vs : List ℕ) → IsSorted nat_cmp vs → Rising vs
rising vs sorted i j h k = IsNonDecreasingBy-from_sort (λ x. x) vs sorted i j 0 h k

pub loop-last-preserved : goal.loop-last-preserved
loop-last-preserved c =
    let goes : Goes c.args.values.now c.loop-last.last c.loop-last.first c.loop-last.fullest c.if-is_in_window.first c.if-is_in_window.fullest = elim c.if-is_in_window.branch [
      | then-is_in_window w ↦ inl (sym c.is_in_window.ensures ∙ w.if-is_in_window.true, w.fullest-is, w.first-is)
      | else-is_in_window w ↦ inr (sym c.is_in_window.ensures ∙ w.if-is_in_window.false, w.fullest-is, w.first-is)
    ] in
    going_on c.args.values.now c.loop-last.last c.loop-last.first c.loop-last.fullest c.if-is_in_window.first c.if-is_in_window.fullest
    (rising c.args.values.now c.requires) c.loop-last-test.true c.loop-last.invariant goes

pub returns : goal.returns
returns c = going_ends c.args.values.now c.loop-last.last c.loop-last.first c.loop-last.fullest (rising c.args.values.now c.requires) (omega arith) c.loop-last.invariant
