use Rattle.std.proofs.Common.{rules, ◌≡◌, ◌+◌, ◌-◌, ◌*◌, ◌≤◌, ◌++◌, inl, inr, length, take, drop, sym, subst, arith}
use Rattle.std.specs.Prelude.{min}
use Rattle.std.proofs.lemmas.Result.{err_from_is_err_and}
use Rattle.zerotrie_index.specs.InBlocks.{IsRightBlock, IsBlockFault}
use Rattle.zerotrie_index.specs.Placed.{IsPart}
use Rattle.zerotrie_index.proofs.InBlocksLemmas.{filled_part, wrong_block}
use Rattle.zerotrie_index.proofs.in_blocks.Front.read_block.Goals as goal

pub returns-clause-part : goal.returns-clause-part
returns-clause-part g c =
    filled_part (g.S.ReadAt.MayHold c.args.source.now) c.in-Some.place c.args.self.now.start c.args.number c.resize.new.self.len c.fill.new.room c.resize.new.self.items c.in_ok-fill.ensures.part
    (search rules) (search rules)

pub returns-in_err-test_block-clause-err : goal.returns-in_err-test_block-clause-err
returns-in_err-test_block-clause-err g c =
    let p = err_from_is_err_and c.from_residual-in_err-test_block.result c.from_residual-in_err-test_block.ensures.1 in
    let front = c.args.self.now in
    let held = g.S.ReadAt.MayHold c.args.source.now in
    let told = c.in_err-test_block.ensures.err in
    let block = c.as_slice-2.result.now in
    let value : block ≡ take c.resize.new.self.len (c.fill.new.room ++ drop (length c.fill.new.room) c.resize.new.self.items) = c.as_slice-2.ensures.value in
    let read : IsPart held (front.start + 65536 * c.args.number) block = subst (IsPart held (front.start + 65536 * c.args.number)) (sym value)
    (filled_part held c.in-Some.place front.start c.args.number c.resize.new.self.len c.fill.new.room c.resize.new.self.items c.in_ok-fill.ensures.part (search rules) (search rules)) in
    let long : length block ≡ min 65536 (front.index_len - 65536 * c.args.number) = search rules in
    let within : 65536 * c.args.number ≤ front.index_len = let inside = c.requires.inside in omega (arith, inside) in
    rw p.1 (inr (inr (
      c.in_err-test_block.field-0.0,
      p.2,
      subst (IsBlockFault held front c.args.number) (sym told.0)
          (wrong_block held front c.args.number block read long within (λ right. told.1 (subst (λ s. IsRightBlock s c.args.number block) (sym c.as_slice.ensures.value) right))),
    )))
