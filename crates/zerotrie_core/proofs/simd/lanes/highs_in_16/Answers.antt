use Rattle.std.proofs.Common.{take, ltb, arith, w8}
use Rattle.std.proofs.lemmas.List.{length-take-le}
use Rattle.std.proofs.lemmas.Simd.{bitmask_splat}
use Rattle.zerotrie_core.proofs.ReaderLemmas.Lanes.{lowest_high, lowest_low}
use Rattle.zerotrie_core.proofs.simd.lanes.highs_in_16.Goals as goal

pub returns-clause-highs : goal.returns-clause-highs
returns-clause-highs c = lowest_high c.args.bytes.now c.requires _ (bitmask_splat w8 ltb (take 16 c.args.bytes.now) 16 128 (length-take-le 16 c.args.bytes.now c.requires) (omega arith))

pub returns-clause-stops : goal.returns-clause-stops
returns-clause-stops c = lowest_low c.args.bytes.now c.requires _ (bitmask_splat w8 ltb (take 16 c.args.bytes.now) 16 128 (length-take-le 16 c.args.bytes.now c.requires) (omega arith))
