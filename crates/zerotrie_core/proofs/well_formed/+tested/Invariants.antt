use Rattle.std.proofs.Common.{◌≡◌, ◌≤◌, ◌<◌, ◌+◌, ◌*◌, [], length, take}
use Rattle.std.specs.Prelude.{◌≢◌}
use Rattle.zerotrie_base.specs.Nodes.{begin_of}
use Rattle.zerotrie_core.specs.WellFormed.{IsShallow}
use Rattle.zerotrie_core.specs.well_formed.Testing.{IsText, IsAllowed, ReducesTo}
use Rattle.zerotrie_core.proofs.WellFormedLemmas.Targets.{Passed}
use Rattle.zerotrie_core.proofs.well_formed.+tested.Given as goal

abbrev pub decreases-is_text_counted : goal.decreases-is_text_counted
decreases-is_text_counted g l = 2 * l.len

abbrev pub decreases-is_target_counted : goal.decreases-is_target_counted
decreases-is_target_counted g l = 2 * length l.target.rest.now + 1

abbrev pub decreases-go_behind : goal.decreases-go_behind
decreases-go_behind g l = 2 * length l.branch.behind.now

abbrev pub invariant-is_text_counted-loop-node : goal.invariant-is_text_counted-loop-node
invariant-is_text_counted-loop-node g l = record {
  within : length l.at.rest.now ≤ l.len;
  shallow : IsShallow (take l.len l.tail) l.most;
  reduces : IsAllowed l.fn.expected (take l.len l.tail) → ReducesTo g.K.ZeroTrieWithOptions.kind (take l.len l.tail) l.at.rest.now l.next l.most;
  begins : IsAllowed l.next l.at.rest.now → IsText g.K.ZeroTrieWithOptions.kind l.at.rest.now → IsAllowed l.fn.expected (take l.len l.tail);
}

abbrev pub decreases-is_text_counted-loop-node : goal.decreases-is_text_counted-loop-node
decreases-is_text_counted-loop-node g l = length l.at.rest.now

abbrev pub invariant-go_behind-loop-index : goal.invariant-go_behind-loop-index
invariant-go_behind-loop-index g l = record {
  passed : Passed g.K.ZeroTrieWithOptions.kind l.branch.edges l.branch.width l.branch.behind.now l.index l.longest.rest.now l.most;
  some : l.longest.rest.now ≢ [];
  begins : l.index < l.branch.edges → l.begin ≡ begin_of l.branch.edges l.branch.width l.branch.behind.now l.index;
}
