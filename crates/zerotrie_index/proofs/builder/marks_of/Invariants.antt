use Rattle.std.proofs.Common.{◌≡◌, take, All}
use Rattle.zerotrie_index.specs.Layout.{mark_of}
use Rattle.zerotrie_index.proofs.builder.marks_of.Given as goal

abbrev pub invariant-loop-pair : goal.invariant-loop-pair
invariant-loop-pair l = All (λ h. mark_of l.marks h.hash ≡ 1) (take l.pair-index l.bucket)
