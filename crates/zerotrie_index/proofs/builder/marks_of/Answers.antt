use Rattle.std.proofs.Common.{arith, ◌≡◌, subst, All}
use Rattle.std.specs.Int.{w32}
use Rattle.std.proofs.lemmas.List.{take_all}
use Rattle.std.proofs.lemmas.Nat.Bits.{bit_at_set_same}
use Rattle.zerotrie_index.specs.Layout.{mark_of}
use Rattle.zerotrie_index.proofs.WrittenLemmas.{marked_more}
use Rattle.zerotrie_index.proofs.builder.marks_of.Goals as goal

pub loop-pair-preserved : goal.loop-pair-preserved
loop-pair-preserved c = marked_more c.args.bucket.now c.loop-pair.marks _ c.loop-pair.pair-index _ (omega (arith, c.loop-pair-test.true)) c.loop-pair.invariant (bit_at_set_same w32 c.loop-pair.marks _ (omega arith))

pub returns : goal.returns
returns c = subst (All (λ h. mark_of c.loop-pair.marks h.hash ≡ 1)) (take_all c.loop-pair.pair-index c.args.bucket.now (omega (arith, c.loop-pair-test.false))) c.loop-pair.invariant
