use Rattle.std.proofs.Common.{◌≡◌, ◌*◌, ◌+◌, ◌<◌, ◌^◌, SomeIff, arith, ◌∙◌, sym, ap, subst, None}
use Rattle.zerotrie.specs.dense.Views.{parts_of}
use Rattle.zerotrie.proofs.CellLemmas.{at_cell, at_least, cell_none, cell_read, value_full, value_sum}
use Rattle.zerotrie.proofs.dense.table.ZeroAsciiDenseSparse2dTrieBorrowed.in_matrix.Goals as goal

pub returns-in_err-checked_mul : goal.returns-in_err-checked_mul
returns-in_err-checked_mul c =
    let far = at_least (c.args.row * c.from.result) (2 ^ 64) c.in_err-checked_mul.ensures in
    let product : c.args.row * c.from.result ≡ c.args.row * c.args.self.now.suffix_count = ap (λ n. c.args.row * n) c.from.ensures in
    c.from_residual-in_err-checked_mul.ensures
    ∙ sym (at_cell (parts_of c.args.self.now) c.args.row _ _ _ _ None c.in_ok-offset.was c.in_ok-column.was (cell_none c.args.self.now.matrix.now _ (omega (arith, far, product))))

pub returns-in_err-index : goal.returns-in_err-index
returns-in_err-index c =
    let is = c.in_ok-checked_mul.ensures in
    let far = at_least (c.in_ok-checked_mul.field-0 + c.in_ok-column.column) (2 ^ 64) c.in_err-index.ensures in
    let product : c.args.row * c.from.result ≡ c.args.row * c.args.self.now.suffix_count = ap (λ n. c.args.row * n) c.from.ensures in
    c.from_residual-in_err-index.ensures
    ∙ sym (at_cell (parts_of c.args.self.now) c.args.row _ _ _ _ None c.in_ok-offset.was c.in_ok-column.was (cell_none c.args.self.now.matrix.now _ (omega (arith, far, product, is.1))))

pub returns-then-index-self : goal.returns-then-index-self
returns-then-index-self c =
    let is = c.in_ok-checked_mul.ensures in
    let sum = c.in_ok-index.ensures in
    let product : c.args.row * c.from.result ≡ c.args.row * c.args.self.now.suffix_count = ap (λ n. c.args.row * n) c.from.ensures in
    sym (at_cell (parts_of c.args.self.now) c.args.row _ _ _ _ None c.in_ok-offset.was c.in_ok-column.was (cell_none c.args.self.now.matrix.now _ (omega (arith, product, is.1, sum.1, c.if-index-self.true))))

pub returns-then-cell : goal.returns-then-cell
returns-then-cell c =
    let is = c.in_ok-checked_mul.ensures in
    let sum = c.in_ok-index.ensures in
    let product : c.args.row * c.from.result ≡ c.args.row * c.args.self.now.suffix_count = ap (λ n. c.args.row * n) c.from.ensures in
    value_full c.in_ok-offset.offset c.from_le_bytes-cell.result c.if-cell.true
    ∙ sym (at_cell (parts_of c.args.self.now) c.args.row _ _ _ _ _ c.in_ok-offset.was c.in_ok-column.was
    (cell_read c.args.self.now.matrix.now _ c.in_ok-index.index c.from_le_bytes-cell.result (omega (arith, product, is.1, sum.1)) c.if-index-self.false c.from_le_bytes-cell.ensures))

pub returns : goal.returns
returns c =
    let is = c.in_ok-checked_mul.ensures in
    let sum = c.in_ok-index.ensures in
    let product : c.args.row * c.from.result ≡ c.args.row * c.args.self.now.suffix_count = ap (λ n. c.args.row * n) c.from.ensures in
    let fits = subst (λ n. SomeIff c.checked_add-2.result (c.in_ok-offset.offset + n < 2 ^ 64) (c.in_ok-offset.offset + n)) c.from-2.ensures c.checked_add-2.ensures in
    value_sum c.in_ok-offset.offset c.from_le_bytes-cell.result c.checked_add-2.result c.if-cell.false fits
    ∙ sym (at_cell (parts_of c.args.self.now) c.args.row _ _ _ _ _ c.in_ok-offset.was c.in_ok-column.was
    (cell_read c.args.self.now.matrix.now _ c.in_ok-index.index c.from_le_bytes-cell.result (omega (arith, product, is.1, sum.1)) c.if-index-self.false c.from_le_bytes-cell.ensures))
