use Rattle.csv.specs.Records.{fields_of}
use Rattle.zerotrie_lines.specs.Records.{LacksName}
use Rattle.zerotrie_lines.proofs.columns.next_column.Given as goal

abbrev pub invariant-loop-index : goal.invariant-loop-index
invariant-loop-index l = LacksName (fields_of l.names) l.name l.from l.index
