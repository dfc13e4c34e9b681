use Rattle.std.proofs.Common.{◌≤◌, ◌++◌, ◌∷◌, [], length, sym, subst, arith}
use Rattle.csv.specs.Records.{fields_of}
use Rattle.zerotrie_lines.specs.Lines.{behind, header_rows}
use Rattle.zerotrie_lines.specs.Records.{ArePairRecords}
use Rattle.zerotrie_lines.proofs.RecordLemmas.{behind_more, columns_more, records_push}
use Rattle.zerotrie_lines.proofs.records.Records.add.Goals as goal

pub returns-in-None-clause-ok : goal.returns-in-None-clause-ok
returns-in-None-clause-ok c = λ rows count read.
    let own = c.args.self.now in
    let row = fields_of c.args.row.now in
    let headed : header_rows own.header ≤ length rows = omega (arith, count, c.if-index-rows.false, c.rows.ensures) in
    let pair = rw c.in-None.is at c.in_ok-bad.ensures.pair in record {
      same_raw = read.same_raw;
      same_header = read.same_header;
      columns = columns_more own.header rows row own.columns headed read.columns;
      pairs = subst (λ t. ArePairRecords own.raw own.columns (behind own.header (rows ++ row ∷ [])) t) (sym pair.2)
          (subst (λ rs. ArePairRecords own.raw own.columns rs (own.table ++ pair.0 ∷ [])) (sym (behind_more own.header rows (row ∷ []) headed))
          (records_push own.raw own.columns (behind own.header rows) own.table row pair.0 read.pairs pair.1));
    }
