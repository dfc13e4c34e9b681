use Rattle.std.proofs.Common.{rules, arith}
use Rattle.zerotrie_index.proofs.HashLemmas.{few, several}
use Rattle.zerotrie_index.proofs.hash.whole.Goals as goal

pub returns-then-len-lt4 : goal.returns-then-len-lt4
returns-then-len-lt4 c = rw (c.byte_at.ensures, c.byte_at-then-len-lt4.ensures, c.byte_at-then-len-lt4-2.ensures)
    (few c.args.bytes.now c.if-len-lt4.true (search rules))

pub returns : goal.returns
returns c = rw (c.four_at.ensures, c.four_at-2.ensures)
    (several c.args.bytes.now (omega (arith, c.if-len-lt4.false)) c.requires (search rules))
