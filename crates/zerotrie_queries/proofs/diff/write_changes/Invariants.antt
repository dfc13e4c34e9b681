use Rattle.std.proofs.Common.{◌≡◌, [], length, true, false}
use Rattle.zerotrie_queries.specs.Diffs.{change_lines}
use Rattle.zerotrie_files.proofs.WroteLemmas.{Wrote}
use Rattle.zerotrie_queries.proofs.diff.write_changes.Given as goal

abbrev pub invariant-loop-lines : goal.invariant-loop-lines
invariant-loop-lines g l = record {
  wrote : Wrote (g.W.Write.contents l.initial.output.inner) (g.W.Write.contents l.output.inner)
      (change_lines l.diff.left.items) (change_lines l.initial.diff.left.items);
  empty : l.lines.items ≡ [];
  noted : l.output.failed ≡ l.initial.output.failed;
  same : l.same ≡ true → l.diff.left.items ≡ l.initial.diff.left.items;
  other : l.same ≡ false → l.initial.diff.left.items ≡ [] → ⊥;
}

abbrev pub decreases-loop-lines : goal.decreases-loop-lines
decreases-loop-lines g l = length l.diff.left.items
