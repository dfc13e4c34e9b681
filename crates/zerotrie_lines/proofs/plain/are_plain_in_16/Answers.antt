use Rattle.std.proofs.Common.{eqb, ltb, leb, take, arith, w8}
use Rattle.std.proofs.lemmas.List.{length-take-le}
use Rattle.std.proofs.lemmas.Simd.{bitmask_splat}
use Rattle.zerotrie_lines.proofs.PlainLemmas.{all_plain, splat_mask}
use Rattle.zerotrie_lines.proofs.plain.are_plain_in_16.Goals as goal

pub returns : goal.returns
returns c =
    let xs = take 16 c.args.bytes.now in
    let len = length-take-le 16 c.args.bytes.now c.requires in
    all_plain xs _ _ _ (bitmask_splat w8 ltb xs 16 32 len (omega arith)) (splat_mask leb xs 16 127 len (omega arith))
    (bitmask_splat w8 eqb xs 16 92 len (omega arith))
