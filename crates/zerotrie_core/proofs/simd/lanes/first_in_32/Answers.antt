use Rattle.std.proofs.Common.{take, eqb, arith, w8}
use Rattle.std.proofs.lemmas.List.{length-take-le}
use Rattle.std.proofs.lemmas.Simd.{bitmask_splat}
use Rattle.zerotrie_core.proofs.ReaderLemmas.Lanes.{lowest_hit, lowest_missed}
use Rattle.zerotrie_core.proofs.simd.lanes.first_in_32.Goals as goal

pub returns-clause-hit : goal.returns-clause-hit
returns-clause-hit c =
    let xs = take 32 c.args.bytes.now in
    let len = length-take-le 32 c.args.bytes.now c.requires in
    lowest_hit 32 c.args.bytes.now c.args.one c.args.other (omega arith) c.requires _ _
    (bitmask_splat w8 eqb xs 32 c.args.one len (omega arith)) (bitmask_splat w8 eqb xs 32 c.args.other len (omega arith))

pub returns-clause-missed : goal.returns-clause-missed
returns-clause-missed c =
    let xs = take 32 c.args.bytes.now in
    let len = length-take-le 32 c.args.bytes.now c.requires in
    lowest_missed 32 c.args.bytes.now c.args.one c.args.other (omega arith) c.requires _ _
    (bitmask_splat w8 eqb xs 32 c.args.one len (omega arith)) (bitmask_splat w8 eqb xs 32 c.args.other len (omega arith))
