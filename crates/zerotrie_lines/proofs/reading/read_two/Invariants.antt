use Rattle.std.proofs.Common.{◌+◌, ◌≤◌, length}
use Rattle.zerotrie_lines.specs.Lines.{ended_lines}
use Rattle.zerotrie_lines.specs.Reads.{tabbed}
use Rattle.zerotrie_lines.proofs.ReadLemmas.{ReadTo, GoodTo}
use Rattle.zerotrie_lines.proofs.reading.read_two.Given as goal

abbrev pub invariant-loop-rest : goal.invariant-loop-rest
invariant-loop-rest l = record {
  few : l.number + length l.rest ≤ l.before + length l.text;
  start : l.before ≤ 1;
  read : ReadTo (l.before + 1) (tabbed l.raw) (ended_lines l.end l.text) l.table (l.number + 1) (ended_lines l.end l.rest);
  good : GoodTo (l.before + 1) l.raw (ended_lines l.end l.text) (l.number + 1) (ended_lines l.end l.rest);
}

abbrev pub decreases-loop-rest : goal.decreases-loop-rest
decreases-loop-rest l = length l.rest
