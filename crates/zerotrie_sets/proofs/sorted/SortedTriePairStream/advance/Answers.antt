use Rattle.std.proofs.Common.{subst, sym}
use Rattle.zerotrie_core.specs.WellFormed.{IsWellFormed}
use Rattle.zerotrie_sets.proofs.sorted.SortedTriePairStream.advance.Goals as goal

pub invariant_of-self : goal.invariant_of-self
invariant_of-self g c =
    let before = c.self.inside.pairs in
    let after = c.advance.new.self in
    subst (λ kind. IsWellFormed kind after.bytes) (sym c.advance.ensures.kind) (subst (λ bytes. IsWellFormed before.kind bytes) (sym c.advance.ensures.bytes) c.self.invariant)
