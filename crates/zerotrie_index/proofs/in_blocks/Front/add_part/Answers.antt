use Rattle.std.proofs.Common.{rules, ◌≡◌, ◌+◌, ◌/◌, ◌%◌, ◌<◌, ◌≤◌, length, take, drop, refl, sym, subst, arith}
use Rattle.std.specs.Allocator.{alloc_error}
use Rattle.std.proofs.lemmas.Result.{err_from_is_err_and}
use Rattle.zerotrie_index.proofs.InBlocksLemmas.{block_cause, block_part, long_part}
use Rattle.zerotrie_index.proofs.in_blocks.Front.add_part.Goals as goal

pub returns-clause-part : goal.returns-clause-part
returns-clause-part g c =
    let front = c.args.self.now in
    let block = c.in_ok-block.block.items in
    let offset = c.args.place % 65536 in
    let count = c.min-count.result in
    let more = take count (drop offset block) in
    let left : offset < length block = let long = c.in_ok-block.ensures.length in let inside = c.requires.inside in let some = c.requires.some in omega (arith, long, inside, some) in
    let within : count + offset ≤ length block = search rules in
    let some : 0 < count = search rules in
    let few : count ≤ c.args.most = search rules in
    let long : length more ≡ count = long_part block offset count within in (
      more,
      block_part (g.S.ReadAt.MayHold c.args.source.now) block more front c.args.place offset count
          c.in_ok-block.ensures.part c.in_ok-block.ensures.length c.in_ok-block.ensures.right refl some within refl long,
      subst (λ n. 0 < n) (sym long) some,
      subst (λ n. n ≤ c.args.most) (sym long) few,
      search rules,
    )

pub returns-in_err-block-clause-err : goal.returns-in_err-block-clause-err
returns-in_err-block-clause-err g c =
    let p = err_from_is_err_and c.from_residual.result c.from_residual.ensures.1 in
    let inside = c.requires.inside in
    let some = c.requires.some in
    rw (p.1, p.2) (block_cause (g.S.ReadAt.MayHold c.args.source.now) (g.S.ReadAt.MayRefuse c.args.source.now) (g.S.Error.From-1.from_gives alloc_error) g.S.Error.From-2.from_gives c.args.self.now c.args.place c.args.most (c.args.place / 65536) _
    (inside, omega (arith, some), omega arith) c.in_err-block.ensures.err)
