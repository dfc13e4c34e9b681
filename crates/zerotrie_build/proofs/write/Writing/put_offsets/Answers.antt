use Rattle.std.proofs.Common.{◌∙◌, ◌-◌, ◌*◌, ◌/◌, ◌%◌, ◌^◌, ◌++◌, map, arith, ap, sym, append_assoc}
use Rattle.zerotrie_base.specs.Branches.{blocks, ends}
use Rattle.zerotrie_build.specs.passes.Writing.{target_lens}
use Rattle.zerotrie_build.proofs.WriteLemmas.Puts.{grows, puts_then, blocks_len, block_first, count_lens}
use Rattle.zerotrie_build.proofs.write.Writing.put_offsets.Goals as goal

pub put_block-requires-clause-room : goal.put_block-requires-clause-room
put_block-requires-clause-room g c =
    let v = c.loop-place.invariant in
    let ls = target_lens c.args.lens.now c.args.numbers.now in
    let n = blocks_len v.0 c.loop-place.place c.args.bytes ls c.loop-place-test.true v.1 in
    let k = count_lens c.args.lens.now c.args.numbers.now in
    let m = ap (λ x. c.args.bytes * (x - 1)) k in
    let p = v.3 in let a = grows p in let s = p.same in let r = c.requires.room in omega arith

pub loop-place-preserved : goal.loop-place-preserved
loop-place-preserved g c =
    let v = c.loop-place.invariant in
    let os = ends (target_lens c.args.lens.now c.args.numbers.now) in (
      v.0 ++ map (λ o. o / 256 ^ (c.loop-place.place - 1) % 256) os,
      append_assoc v.0 (map (λ o. o / 256 ^ (c.loop-place.place - 1) % 256) os) (blocks (c.loop-place.place - 1) os) ∙ ap (λ x. v.0 ++ x) (sym (block_first c.loop-place.place os c.loop-place-test.true)) ∙ v.1,
      (let l = v.2 in omega arith),
      puts_then v.3 c.put_block.ensures,
    )
