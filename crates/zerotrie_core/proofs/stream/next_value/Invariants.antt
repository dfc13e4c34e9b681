use Rattle.std.proofs.Common.{◌≡◌, length, take}
use Rattle.zerotrie_core.specs.listing.Opened.{Stands, pairs_left, work_left}
use Rattle.zerotrie_core.specs.listing.Grouped.{AreGrouped, GoesGrouped}
use Rattle.zerotrie_core.proofs.stream.next_value.Given as goal

abbrev pub invariant-loop-branches : goal.invariant-loop-branches
invariant-loop-branches g l = record {
  lies : l.at.0.now ≡ take (length l.at.0.now) l.at.1.0.now;
  stands : Stands (length l.key.items) l.branches;
  grouped : AreGrouped g.K.ZeroTrieWithOptions.kind l.initial.key.items l.initial.here.rest.now l.initial.branches → GoesGrouped g.K.ZeroTrieWithOptions.kind l.key.items l.at.0.now l.branches;
  same : pairs_left g.K.ZeroTrieWithOptions.kind l.initial.key.items l.initial.here.rest.now l.initial.branches ≡ pairs_left g.K.ZeroTrieWithOptions.kind l.key.items l.at.0.now l.branches;
}

abbrev pub decreases-loop-branches : goal.decreases-loop-branches
decreases-loop-branches g l = work_left l.at.0.now l.branches
