use Rattle.std.proofs.Common.{◌≤◌, length}
use Rattle.zerotrie_build.specs.Items.{pairs}
use Rattle.zerotrie_build.specs.array.Texts.{Keeps}
use Rattle.zerotrie_build.specs.array.Growing.{BuiltFrom}
use Rattle.zerotrie_build.proofs.array.walk.build_text.Given as goal

abbrev pub invariant-loop-index : goal.invariant-loop-index
invariant-loop-index g l = record {
  built : BuiltFrom g.K.ZeroTrieWithOptions.kind g.row.STACK l.index (pairs l.items) l.text l.siblings.items;
  keeps : Keeps l.initial.text l.text;
  within : l.index ≤ length (pairs l.items);
}

abbrev pub decreases-loop-index : goal.decreases-loop-index
decreases-loop-index g l = l.index
