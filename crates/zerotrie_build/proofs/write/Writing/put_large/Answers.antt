use Rattle.std.proofs.Common.{ap, arith, length}
use Rattle.zerotrie_build.proofs.WriteLemmas.Numbers.{three_bytes}
use Rattle.zerotrie_build.proofs.WriteLemmas.Puts.{grows, puts_same, puts_then}
use Rattle.zerotrie_build.proofs.write.Writing.put_large.Goals as goal

pub put-requires : goal.put-requires
put-requires g c = let is = ap length (three_bytes c.args.bits c.args.latent c.args.number c.requires.form (omega arith) (omega arith) (omega arith) (omega arith)) in let room = c.requires.room in omega arith

pub put-requires-then-high-least : goal.put-requires-then-high-least
put-requires-then-high-least g c =
    let is = ap length (three_bytes c.args.bits c.args.latent c.args.number c.requires.form (omega arith) (omega arith) (omega arith) (omega arith)) in
    let room = c.requires.room in let a = grows c.put.ensures in let s = c.put.ensures.same in omega arith

pub put-requires-then-high-least-2 : goal.put-requires-then-high-least-2
put-requires-then-high-least-2 g c =
    let is = ap length (three_bytes c.args.bits c.args.latent c.args.number c.requires.form (omega arith) (omega arith) (omega arith) (omega arith)) in
    let room = c.requires.room in let a = grows c.put.ensures in let s = c.put.ensures.same in
    let b = grows c.put-then-high-least.ensures in let t = c.put-then-high-least.ensures.same in omega arith

pub returns-then-high-least : goal.returns-then-high-least
returns-then-high-least g c =
    puts_same (three_bytes c.args.bits c.args.latent c.args.number c.requires.form (omega arith) (omega arith) (omega arith) (omega arith))
    (puts_then (puts_then c.put.ensures c.put-then-high-least.ensures) c.put-then-high-least-2.ensures)
