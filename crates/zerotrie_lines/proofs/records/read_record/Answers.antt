use Rattle.std.proofs.Common.{◌∙◌, sym}
use Rattle.std.proofs.lemmas.Result.{IfOk-weaker}
use Rattle.csv.specs.Records.{fields_of}
use Rattle.zerotrie_lines.proofs.RecordLemmas.{record_faults}
use Rattle.zerotrie_lines.proofs.records.read_record.Goals as goal

pub returns-clause-none : goal.returns-clause-none
returns-clause-none c =
    IfOk-weaker c.add_pair.result _ _ (λ bad h. record_faults c.args.raw c.args.columns (fields_of c.args.row.now) _ _ bad
    (sym c.len.ensures ∙ c.if-len-columns.false) c.field-text.ensures c.field.ensures h) c.add_pair.ensures.none
