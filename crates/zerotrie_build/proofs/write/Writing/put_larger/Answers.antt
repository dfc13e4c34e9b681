use Rattle.std.proofs.Common.{ap, arith, length, ◌∙◌}
use Rattle.zerotrie_build.proofs.WriteLemmas.Numbers.{four_bytes}
use Rattle.zerotrie_build.proofs.WriteLemmas.Puts.{grows, puts_same, puts_then}
use Rattle.zerotrie_build.proofs.write.Writing.put_larger.Goals as goal

pub put-requires : goal.put-requires
put-requires g c = let is = ap length (four_bytes c.args.bits c.args.latent c.args.number c.requires.form (omega arith) (omega arith) (omega arith)) in let room = c.requires.room in omega arith

pub put-requires-then-top-least : goal.put-requires-then-top-least
put-requires-then-top-least g c =
    let is = ap length (four_bytes c.args.bits c.args.latent c.args.number c.requires.form (omega arith) (omega arith) (omega arith)) in
    let room = c.requires.room in let a = grows c.put.ensures in let s = c.put.ensures.same in omega arith

pub put-requires-then-top-least-2 : goal.put-requires-then-top-least-2
put-requires-then-top-least-2 g c =
    let is = ap length (four_bytes c.args.bits c.args.latent c.args.number c.requires.form (omega arith) (omega arith) (omega arith)) in
    let room = c.requires.room in let a = grows c.put.ensures in let s = c.put.ensures.same in
    let b = grows c.put-then-top-least.ensures in let t = c.put-then-top-least.ensures.same in omega arith

pub put-requires-then-top-least-3 : goal.put-requires-then-top-least-3
put-requires-then-top-least-3 g c =
    let is = ap length (four_bytes c.args.bits c.args.latent c.args.number c.requires.form (omega arith) (omega arith) (omega arith)) in
    let room = c.requires.room in let a = grows c.put.ensures in let s = c.put.ensures.same in
    let b = grows c.put-then-top-least.ensures in let t = c.put-then-top-least.ensures.same in
    let d = grows c.put-then-top-least-2.ensures in let u = c.put-then-top-least-2.ensures.same in omega arith

pub returns-then-top-least : goal.returns-then-top-least
returns-then-top-least g c =
    puts_same (four_bytes c.args.bits c.args.latent c.args.number c.requires.form (omega arith) (omega arith) (omega arith))
    (puts_then (puts_then (puts_then c.put.ensures c.put-then-top-least.ensures) c.put-then-top-least-2.ensures) c.put-then-top-least-3.ensures)

pub put_all-requires : goal.put_all-requires
put_all-requires g c = let is = ap length (c.deref.ensures.0 ∙ c.number_bytes.ensures) in let room = c.requires.room in omega arith

pub returns : goal.returns
returns g c = puts_same (c.deref.ensures.0 ∙ c.number_bytes.ensures) c.put_all.ensures
