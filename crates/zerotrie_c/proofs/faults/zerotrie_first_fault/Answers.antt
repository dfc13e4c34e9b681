use Rattle.std.proofs.Common.{inl, inr, refl, subst}
use Rattle.zerotrie_core.specs.Kinds.{kind_of}
use Rattle.zerotrie_core.specs.WellFormed.{IsWellFormed}
use Rattle.zerotrie_c.proofs.faults.zerotrie_first_fault.Goals as goal

pub returns-in-Ok-None-clause-known : goal.returns-in-Ok-None-clause-known
returns-in-Ok-None-clause-known c =
    rw c.in-Some.ensures.kind
    (inr (inl (refl, subst (IsWellFormed (kind_of c.in-Some.trie.kind)) c.in-Some.ensures.bytes (c.in-Ok-None.ensures.none.0 c.in-Ok-None.field-0-is), refl)))
