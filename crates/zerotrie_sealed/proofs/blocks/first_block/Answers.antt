-- The first block, and what is behind it.
use Rattle.std.proofs.Common.{rules, ◌≡◌, take, drop}
use Rattle.std.proofs.lemmas.List.{take_min, drop_min}
use Rattle.zerotrie_sealed.specs.Sealed.{block_len}
use Rattle.zerotrie_sealed.proofs.Sums.{shorter, sums-parts}
use Rattle.zerotrie_sealed.proofs.blocks.first_block.Goals as goal

pub returns-clause-shorter : goal.returns-clause-shorter
returns-clause-shorter c =
    let behind : c.split_at.result.1.now ≡ drop block_len c.args.bytes.now = cc (drop_min block_len c.args.bytes.now) in
    shorter c.args.bytes.now c.split_at.result.1.now (search rules) behind

pub returns-clause-sums : goal.returns-clause-sums
returns-clause-sums c =
    let front : c.split_at.result.0.now ≡ take block_len c.args.bytes.now = cc (take_min block_len c.args.bytes.now) in
    let behind : c.split_at.result.1.now ≡ drop block_len c.args.bytes.now = cc (drop_min block_len c.args.bytes.now) in
    sums-parts c.args.bytes.now c.split_at.result.0.now c.split_at.result.1.now (search rules) front behind
