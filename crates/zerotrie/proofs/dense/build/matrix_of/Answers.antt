use Rattle.std.proofs.Common.{◌∙◌, List, ℕ, map, sym, ap, subst}
use Rattle.zerotrie.specs.dense.RowFaults.{AllAscend}
use Rattle.zerotrie.specs.dense.Views.{row_shown}
use Rattle.zerotrie.proofs.RowsLemmas.{row_off, cells_taken, cells_passed}
use Rattle.zerotrie.proofs.dense.build.matrix_of.Goals.{then-row+in_ok-push_cells, else-row}
use Rattle.zerotrie.proofs.dense.build.matrix_of.Goals as goal

pub loop-row-preserved : goal.loop-row-preserved
loop-row-preserved c =
    let S : List (List ℕ) = map {B = List ℕ} (λ s. s.now) c.args.suffixes.now.keys in
    let at = row_off c.args.rows.now c.loop-row.row-index c.row-item.result c.loop-row-test.true (sym c.row-item.is) in
    let rest = (subst (λ rows. AllAscend (map row_shown rows)) at c.loop-row.invariant.1).1 in
    elim c.if-row.branch [
      | then-row+in_ok-push_cells w ↦ (
        cells_taken S c.args.rows.now c.loop-row.row-index c.row-item.result c.loop-row.matrix.items c.if-row.matrix.items _ at w.if-row.true c.loop-row.invariant.0
            (ap (λ m. m.items) w.matrix-is ∙ w.in_ok-push_cells.ensures),
        rest,
      )
      | else-row w ↦ (
        cells_passed S c.args.rows.now c.loop-row.row-index c.row-item.result c.loop-row.matrix.items c.if-row.matrix.items _ at w.if-row.false c.loop-row.invariant.0
            (ap (λ m. m.items) w.matrix-is),
        rest,
      )
    ]
