use Rattle.std.proofs.Common.{◌≡◌, ℕ, ◌≤◌, List, ◌++◌}
use Rattle.zerotrie_base.specs.Branches.{blocks, ends}
use Rattle.zerotrie_build.specs.passes.Writes.{Writes}
use Rattle.zerotrie_build.specs.passes.Writing.{target_lens}
use Rattle.zerotrie_build.proofs.write.Writing.put_offsets.Given as goal

abbrev pub invariant-loop-place : goal.invariant-loop-place
invariant-loop-place g l = (done : List ℕ)
    × (done ++ blocks l.place (ends (target_lens l.lens l.numbers)) ≡ blocks l.fn.bytes (ends (target_lens l.lens l.numbers)))
    × (l.place ≤ l.fn.bytes) × Writes l.initial.self l.self done
