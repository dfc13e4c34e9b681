use Rattle.std.proofs.Common.{◌≤◌, arith, length}
use Rattle.csv.specs.Records.{fields_of}
use Rattle.zerotrie_lines.proofs.RecordLemmas.{lacks_all}
use Rattle.zerotrie_lines.proofs.columns.next_column.Goals as goal

pub returns-clause-none : goal.returns-clause-none
returns-clause-none c =
    let names = fields_of c.args.names.now in
    let all : length names ≤ c.loop-index.index = omega (arith, c.loop-index-test.false, c.len-index-end.ensures) in
    lacks_all names c.args.name.now c.args.from c.loop-index.index all c.loop-index.invariant
