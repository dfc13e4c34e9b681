use Rattle.std.proofs.Common.{◌≤◌, length}
use Rattle.zerotrie_base.specs.Maps.{Pairs}
use Rattle.zerotrie_build.specs.array.Texts.{Keeps}
use Rattle.zerotrie_build.specs.array.Growing.{IsClosedTo}
use Rattle.zerotrie_build.proofs.array.walk.close_to.Given as goal

abbrev pub invariant-loop-depth : goal.invariant-loop-depth
invariant-loop-depth g l = record {
  closed : (listed : Pairs) → IsClosedTo g.K.ZeroTrieWithOptions.kind g.row.STACK l.key (length l.key) l.initial.text l.initial.siblings.items listed
      → IsClosedTo g.K.ZeroTrieWithOptions.kind g.row.STACK l.key l.depth l.text l.siblings.items listed;
  keeps : Keeps l.initial.text l.text;
  stop : l.stop ≤ l.depth;
  within : l.depth ≤ length l.key;
}

abbrev pub decreases-loop-depth : goal.decreases-loop-depth
decreases-loop-depth g l = l.depth
