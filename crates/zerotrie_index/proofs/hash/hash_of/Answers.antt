use Rattle.std.proofs.Common.{arith, ◌≡◌, ◌-◌, ◌/◌, length}
use Rattle.zerotrie_index.specs.Hash.{after_blocks, hash_of}
use Rattle.zerotrie_index.proofs.hash.hash_of.Goals as goal

pub returns-then-len-lt8 : goal.returns-then-len-lt8
unfolding hash_of after_blocks
returns-then-len-lt8 c =
    let none : (length c.args.key.now - 1) / 16 ≡ 0 = omega (arith, c.if-len-lt8.true) in
    let first : length c.args.key.now - 16 ≡ 0 = omega (arith, c.if-len-lt8.true) in
    let last : length c.args.key.now - 8 ≡ 0 = omega (arith, c.if-len-lt8.true) in
    rw (none, first, last, c.fold.ensures, c.whole-key.ensures, c.rotate_left.ensures)

pub returns : goal.returns
unfolding hash_of
returns c = rw (c.fold-2.ensures, c.eight_at-first.ensures, c.eight_at-last.ensures, c.saturating_sub.ensures, c.after_blocks-state.ensures, c.rotate_left.ensures)
