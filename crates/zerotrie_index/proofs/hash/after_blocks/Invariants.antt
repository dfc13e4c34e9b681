use Rattle.std.proofs.Common.{◌≡◌, ◌-◌, ◌/◌, length}
use Rattle.zerotrie_index.specs.Hash.{after_blocks}
use Rattle.zerotrie_index.proofs.hash.after_blocks.Given as goal

abbrev pub invariant-loop-rest : goal.invariant-loop-rest
invariant-loop-rest l = after_blocks ((length l.rest - 1) / 16) l.factor l.state l.rest ≡ after_blocks ((length l.key - 1) / 16) l.factor l.start l.key

abbrev pub decreases-loop-rest : goal.decreases-loop-rest
decreases-loop-rest l = length l.rest
