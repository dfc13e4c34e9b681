use Rattle.std.proofs.Common.{◌∙◌, ◌++◌, ◌∷◌, [], map, sym, arith, append_assoc, length-append}
use Rattle.csv.specs.Records.{fields_of}
use Rattle.zerotrie_lines.specs.Lines.{ended_lines}
use Rattle.zerotrie_lines.specs.Reads.{ExplainsColumns}
use Rattle.zerotrie_lines.specs.Records.{tab_fields}
use Rattle.zerotrie_lines.proofs.EndLemmas.{first_ended}
use Rattle.zerotrie_lines.proofs.LineLemmas.{not_nil}
use Rattle.zerotrie_lines.proofs.RecordLemmas.{bad_read, explains_columns, next_read, own_read, passed_on, rows_next}
use Rattle.zerotrie_lines.proofs.records.read_columns.Goals as goal

pub returns-in_err-add-clause-err : goal.returns-in_err-add-clause-err
returns-in_err-add-clause-err c =
    let (rows, all, read, count) = c.loop-index.invariant in
    let rest = c.loop-index.rest.now in
    let line = c.take_ended-line in
    let fields = fields_of c.split_at_tabs.new.row in
    let form = c.args.form in
    let first = first_ended form.end rest line.result.now line.new.rest.now (not_nil rest (sym c.if-is_empty.false ∙ c.is_empty.ensures)) line.ensures.line line.ensures.rest in
    passed_on c.from_residual-in_err-add.result c.in_err-add.field-0.0 (ExplainsColumns c.args.raw form.header form.end c.args.input.now) c.from_residual-in_err-add.ensures.1
    (explains_columns c.args.raw form.header form.end c.args.input.now rows fields (map tab_fields (ended_lines form.end line.new.rest.now)) c.in_err-add.field-0.0
    (sym all ∙ sym (rows_next rows fields (ended_lines form.end rest) line.result.now (ended_lines form.end line.new.rest.now) first c.in_ok-split_at_tabs.ensures))
    (bad_read c.args.raw form.header rows fields c.loop-index.records c.in_err-add.field-0.0 read (c.in_err-add.ensures.err rows count (own_read c.args.raw form.header rows c.loop-index.records read))))

pub loop-index-preserved : goal.loop-index-preserved
loop-index-preserved c =
    let (rows, all, read, count) = c.loop-index.invariant in
    let rest = c.loop-index.rest.now in
    let line = c.take_ended-line in
    let fields = fields_of c.split_at_tabs.new.row in
    let form = c.args.form in
    let first = first_ended form.end rest line.result.now line.new.rest.now (not_nil rest (sym c.if-is_empty.false ∙ c.is_empty.ensures)) line.ensures.line line.ensures.rest in (
      rows ++ fields ∷ [],
      append_assoc rows (fields ∷ []) (map tab_fields (ended_lines form.end line.new.rest.now))
          ∙ (rows_next rows fields (ended_lines form.end rest) line.result.now (ended_lines form.end line.new.rest.now) first c.in_ok-split_at_tabs.ensures ∙ all),
      next_read c.args.raw form.header rows fields c.loop-index.records c.add.new.self read (c.in_ok-add.ensures.ok rows count (own_read c.args.raw form.header rows c.loop-index.records read)),
      omega (arith, length-append rows (fields ∷ []), count),
    )
