use Rattle.std.proofs.Common.{Bor, List, ℕ, ◌∙◌, ◌++◌, ◌∷◌, [], Some, inl, inr, refl, sym, true, arith, length-append}
use Rattle.csv.specs.Reading.{Reached, strip_bom}
use Rattle.csv.specs.Records.{fields_of}
use Rattle.csv.specs.declared.parser.State.TheVariants as st
use Rattle.csv.proofs.ReadFacts.{rows-end, rows-more}
use Rattle.zerotrie_lines.specs.Reads.{ExplainsRecords}
use Rattle.zerotrie_lines.specs.Records.{config_of}
use Rattle.zerotrie_lines.proofs.RecordLemmas.{bad_read, explains_records, next_read, own_read, passed_on}
use Rattle.zerotrie_lines.proofs.records.read_records.Goals as goal

pub loop-index-init : goal.loop-index-init
unfolding Reached
loop-index-init c =
    let fr = c.from_reader-reader.ensures in
    let h = c.has_headers.ensures in
    let t = c.terminator.ensures in
    let f = c.flexible.ensures in (
      rw (f, h, t) at fr.trim ∙ c.new.ensures.trim,
      inr (inr (rw (f, h) at fr.has_headers, fr.headers)),
      rw (f, h, t) at fr.config ∙ rw (c.new.ensures.config, c.terminator_of.ensures) refl,
      strip_bom c.args.input.now,
      fr.source,
      [],
      (sym fr.state, refl),
      c.new-records.ensures,
      refl,
    )

pub returns-then-not-found-clause-ok : goal.returns-then-not-found-clause-ok
returns-then-not-found-clause-ok c =
    let (trim, ready, config, y, source, rows, reached, read, count) = c.loop-index.invariant in
    let r = rw c.if-not-found.true at (c.in-Ok.ensures.reads trim ready) in
    let none = rows-end (λ (s : Bor (List ℕ)). Some s.now) c.loop-index.reader c.read_byte_record.new.self (fields_of c.read_byte_record.new.row) (config_of c.args.form) y config source r in
    (rows, (c.loop-index.reader.state, y, reached, none), (c.loop-index.records.columns, read.columns, read.pairs))

pub returns-in_err-add-clause-err : goal.returns-in_err-add-clause-err
returns-in_err-add-clause-err c =
    let (trim, ready, config, y, source, rows, reached, read, count) = c.loop-index.invariant in
    let fields = fields_of c.read_byte_record.new.row in
    let form = c.args.form in
    let r = rw c.if-not-found.false at (c.in-Ok.ensures.reads trim ready) in
    let m = rows-more (λ (s : Bor (List ℕ)). Some s.now) c.loop-index.reader c.read_byte_record.new.self fields (config_of form) st.StartRecord (strip_bom c.args.input.now) y rows config source reached r in
    passed_on c.from_residual.result c.in_err-add.field-0.0 (ExplainsRecords form c.args.input.now) c.from_residual.ensures.1
    (explains_records form c.args.input.now rows fields c.in_err-add.field-0.0 (c.read_byte_record.new.self.state, m.0, m.2)
    (bad_read true form.header rows fields c.loop-index.records c.in_err-add.field-0.0 read (c.in_err-add.ensures.err rows count (own_read true form.header rows c.loop-index.records read))))

pub loop-index-preserved : goal.loop-index-preserved
loop-index-preserved c =
    let (trim, ready, config, y, source, rows, reached, read, count) = c.loop-index.invariant in
    let fields = fields_of c.read_byte_record.new.row in
    let form = c.args.form in
    let r = rw c.if-not-found.false at (c.in-Ok.ensures.reads trim ready) in
    let m = rows-more (λ (s : Bor (List ℕ)). Some s.now) c.loop-index.reader c.read_byte_record.new.self fields (config_of form) st.StartRecord (strip_bom c.args.input.now) y rows config source reached r in (
      r.3 ∙ trim,
      inl (c.in-Ok.ensures.ready trim),
      r.2 ∙ config,
      m.0,
      m.1,
      rows ++ fields ∷ [],
      m.2,
      next_read true form.header rows fields c.loop-index.records c.add.new.self read (c.in_ok-add.ensures.ok rows count (own_read true form.header rows c.loop-index.records read)),
      omega (arith, length-append rows (fields ∷ []), count),
    )
