use Rattle.std.proofs.Common.{◌≡◌, ◌-◌, ◌≤◌, length}
use Rattle.zerotrie_c.proofs.ChangeLemmas.{Telling}
use Rattle.zerotrie_c.proofs.diffs.write_changes.Given as goal

abbrev pub invariant-loop-next_len : goal.invariant-loop-next_len
invariant-loop-next_len l = record {
  within : l.used ≤ length l.keys;
  few : l.count ≤ length l.changes;
  untold : l.next_len ≡ l.initial.next_len;
  told : Telling l.fn.diff.left.items l.diff.left.items l.initial.keys l.keys l.initial.changes l.changes l.count l.used;
}

abbrev pub decreases-loop-next_len : goal.decreases-loop-next_len
decreases-loop-next_len l = length l.changes - l.count
