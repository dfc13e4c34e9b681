use Rattle.std.proofs.Common.{ap, arith, length}
use Rattle.zerotrie_build.proofs.WriteLemmas.Numbers.{one_byte, two_bytes}
use Rattle.zerotrie_build.proofs.WriteLemmas.Puts.{grows, puts_same, puts_then}
use Rattle.zerotrie_build.proofs.write.Writing.put_number.Goals as goal

pub put-requires : goal.put-requires
put-requires g c = let is = ap length (one_byte c.args.bits c.args.latent c.args.number c.requires.form (omega arith) c.if-number-least.true) in let room = c.requires.room in omega arith

pub returns-then-number-least : goal.returns-then-number-least
returns-then-number-least g c =
    puts_same (one_byte c.args.bits c.args.latent c.args.number c.requires.form (omega arith) c.if-number-least.true) c.put.ensures

pub put-requires-then-low-least : goal.put-requires-then-low-least
put-requires-then-low-least g c = let is = ap length (two_bytes c.args.bits c.args.latent c.args.number c.requires.form (omega arith) (omega arith) (omega arith)) in let room = c.requires.room in omega arith

pub put-requires-then-low-least-2 : goal.put-requires-then-low-least-2
put-requires-then-low-least-2 g c =
    let is = ap length (two_bytes c.args.bits c.args.latent c.args.number c.requires.form (omega arith) (omega arith) (omega arith)) in
    let room = c.requires.room in let a = grows c.put-then-low-least.ensures in let s = c.put-then-low-least.ensures.same in omega arith

pub returns-then-low-least : goal.returns-then-low-least
returns-then-low-least g c =
    puts_same (two_bytes c.args.bits c.args.latent c.args.number c.requires.form (omega arith) (omega arith) (omega arith))
    (puts_then c.put-then-low-least.ensures c.put-then-low-least-2.ensures)
