use Rattle.std.proofs.Common.{◌+◌, ◌≤◌, length}
use Rattle.zerotrie_lines.specs.Lines.{ended_lines}
use Rattle.zerotrie_lines.specs.declared.reading.Format.TheVariants.{Lines}
use Rattle.zerotrie_lines.proofs.ReadLemmas.{ReadTo}
use Rattle.zerotrie_lines.proofs.reading.read_keys.Given as goal

abbrev pub invariant-loop-rest : goal.invariant-loop-rest
invariant-loop-rest l = record {
  few : l.number + length l.rest ≤ l.before + length l.text;
  start : l.before ≤ 1;
  read : ReadTo (l.before + 1) Lines (ended_lines l.end l.text) l.table (l.number + 1) (ended_lines l.end l.rest);
}

abbrev pub decreases-loop-rest : goal.decreases-loop-rest
decreases-loop-rest l = length l.rest
