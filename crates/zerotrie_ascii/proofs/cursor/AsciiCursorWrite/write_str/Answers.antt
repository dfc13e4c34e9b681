use Rattle.std.proofs.Common.{◌≡◌, true, sym, ◌∙◌, ap, arith}
use Rattle.std.proofs.Math.ListN.{drop_of_length-le}
use Rattle.zerotrie_any.specs.Auto.{is_ascii}
use Rattle.zerotrie_ascii.proofs.WritingLemmas.{front_all}
use Rattle.zerotrie_ascii.proofs.cursor.AsciiCursorWrite.write_str.Goals as goal

pub returns-clause-ok : goal.returns-clause-ok
returns-clause-ok g c = λ _.
    let none = drop_of_length-le c.args.s.now (omega arith) in
    let ascii : is_ascii c.args.s.now ≡ true = sym c.loop-byte.invariant.ascii ∙ ap is_ascii none in
    rw (front_all c.args.s.now ascii) at (c.loop-byte.invariant.front c.loop-byte.self (rw none (λ pairs lists. lists)))
