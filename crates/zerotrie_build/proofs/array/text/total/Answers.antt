use Rattle.std.proofs.Common.{arith, inl, inr}
use Rattle.std.proofs.lemmas.Bool.{cases_lt}
use Rattle.zerotrie_build.proofs.ArrayLemmas.Text.{lens_take}
use Rattle.zerotrie_build.specs.array.Texts.{newest_first, lens_of}
use Rattle.zerotrie_base.specs.Branches.{total as total_of}
use Rattle.std.proofs.Common.{take, ◌^◌}
use Rattle.zerotrie_build.proofs.array.text.total.Goals as goal

pub loop-sibling-preserved : goal.loop-sibling-preserved
loop-sibling-preserved c =
    let e = lens_take c.args.siblings.now c.loop-sibling.sibling-index (record { depth = 0; byte = 0; len = 0 }) c.loop-sibling-test.true in
    let v = c.loop-sibling.invariant in
    let s = c.saturating_add-total.ensures in
    record {
      exact = λ h. let x = v.exact (omega arith) in omega arith;
      capped = λ h. elim (cases_lt (total_of (lens_of (newest_first (take c.loop-sibling.sibling-index c.args.siblings.now)))) (2 ^ 64)) [
        | inl small ↦ let x = v.exact small in omega arith
        | inr large ↦ let x = v.capped large in omega arith
      ];
    }
