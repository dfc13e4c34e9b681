use Rattle.std.proofs.Common.{arith}
use Rattle.std.proofs.lemmas.Bool.{eqb-true}
use Rattle.zerotrie_search.proofs.MarkLemmas.{over, without}
use Rattle.zerotrie_search.proofs.glob.masks.Masks.is_over.Goals as goal

pub returns : goal.returns
returns c is all are letter key =
    let s = c.args.self.now in
    over c.args.marks s.last letter all key are.last (omega (arith, s.few)) c.ranges.marks.fits (eqb-true (without c.args.marks s.last) 0 is)
