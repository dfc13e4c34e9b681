use Rattle.std.proofs.Common.{◌≡◌, ◌++◌, ◌<◌, ◌≤◌, [], length}
use Rattle.zerotrie_queries.specs.Diffs.{change_lines}
use Rattle.zerotrie_queries.proofs.diff.add_block.Given as goal

abbrev pub invariant-loop-diff : goal.invariant-loop-diff
invariant-loop-diff g l = record {
  lines : l.lines.items ++ change_lines l.diff.left.items ≡ change_lines l.initial.diff.left.items;
  most : length l.diff.left.items ≤ length l.initial.diff.left.items;
  fewer : 0 < length l.lines.items → length l.diff.left.items < length l.initial.diff.left.items;
  same : l.lines.items ≡ [] → l.diff.left.items ≡ l.initial.diff.left.items;
}

abbrev pub decreases-loop-diff : goal.decreases-loop-diff
decreases-loop-diff g l = length l.diff.left.items
