use Rattle.std.proofs.Common.{arith, ◌≡◌, ◌+◌, ◌*◌, ◌%◌, ◌^◌, ◌∙◌, ap, get_or}
use Rattle.std.proofs.lemmas.Nat.Bits.{bit_at_cat_low}
use Rattle.zerotrie_index.specs.Layout.{mark_of}
use Rattle.zerotrie_index.proofs.builder.entry_of.Goals as goal

pub returns-clause-marks : goal.returns-clause-marks
returns-clause-marks c k d inside =
    let from : c.from.result * 4294967296 % 18446744073709551616 + c.from-2.result ≡ c.from.result * 2 ^ 32 + c.marks_of.result = omega (arith, c.from.ensures, c.from-2.ensures, c.ranges.start.fits) in
    ap (λ x. mark_of x (get_or c.args.bucket.now k d).hash) from ∙ bit_at_cat_low c.from.result 32 c.marks_of.result _ (omega arith) ∙ c.marks_of.ensures k d inside
