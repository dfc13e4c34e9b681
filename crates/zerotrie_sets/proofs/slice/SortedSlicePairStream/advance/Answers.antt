use Rattle.std.proofs.Common.{ap, ◌∙◌, refl, arith, sym}
use Rattle.zerotrie_core.specs.Listings.{to_come}
use Rattle.zerotrie_sets.proofs.SliceLemmas.{pairs_from}
use Rattle.zerotrie_sets.proofs.slice.SortedSlicePairStream.advance.Goals as goal

pub returns-clause-lists : goal.returns-clause-lists
returns-clause-lists c =
    let s = c.self.inside in
    rw c.if-self.false
    (sym (ap (λ v. v.left) c.self.view_is) ∙ rw c.if-self.false (ap to_come (pairs_from s.pairs.now s.next (omega (arith, c.if-self-2.false)))), refl)
