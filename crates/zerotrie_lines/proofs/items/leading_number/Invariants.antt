use Rattle.std.proofs.Common.{length, ◌-◌, ◌^◌, ◌<◌, ◌≤◌}
use Rattle.zerotrie_lines.proofs.ItemLemmas.{DigitsTo}
use Rattle.zerotrie_lines.proofs.items.leading_number.Given as goal

abbrev pub invariant-loop-count : goal.invariant-loop-count
invariant-loop-count l = record {
  few : l.count ≤ 18;
  read : DigitsTo l.text l.count l.value;
  small : l.value < 10 ^ l.count;
}

abbrev pub decreases-loop-count : goal.decreases-loop-count
decreases-loop-count l = length l.text - l.count
