use Rattle.std.proofs.Common.{take, eqb, arith, w8}
use Rattle.std.proofs.lemmas.List.{length-take-le}
use Rattle.std.proofs.lemmas.Simd.{bitmask_splat}
use Rattle.zerotrie_lines.proofs.StopLemmas.{first_stop_is}
use Rattle.zerotrie_lines.proofs.items.first_stop.Goals as goal

pub returns-then-stops-ne0 : goal.returns-then-stops-ne0
returns-then-stops-ne0 c =
    let xs = take 16 c.args.text.now in
    let long = c.if-text-ge16.true in
    let len = length-take-le 16 c.args.text.now long in
    first_stop_is 16 c.args.text.now 9 92 10 (omega arith) long _ _ _
    (bitmask_splat w8 eqb xs 16 9 len (omega arith)) (bitmask_splat w8 eqb xs 16 92 len (omega arith)) (bitmask_splat w8 eqb xs 16 10 len (omega arith))
    c.if-stops-ne0.true
