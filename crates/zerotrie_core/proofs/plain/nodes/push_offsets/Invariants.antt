use Rattle.std.proofs.Common.{◌≡◌, ◌++◌}
use Rattle.zerotrie_base.specs.Branches.{blocks}
use Rattle.zerotrie_core.proofs.plain.nodes.push_offsets.Given as goal

abbrev pub invariant-loop-place : goal.invariant-loop-place
invariant-loop-place l = l.out.items ++ blocks l.place l.offsets ≡ l.initial.out.items ++ blocks l.bytes l.offsets
