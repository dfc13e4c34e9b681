use Rattle.std.specs.Prelude.{◌↔◌, IsTrue}
use Rattle.std.proofs.Common.{subst}
use Rattle.zerotrie_core.specs.Kinds.{kind_of}
use Rattle.zerotrie_core.specs.WellFormed.{IsWellFormed}
use Rattle.zerotrie_c.proofs.tags.zerotrie_is_well_formed.Goals as goal

pub returns-in-Some-clause-known : goal.returns-in-Some-clause-known
returns-in-Some-clause-known c =
    rw c.in-Some.ensures.kind
    (subst (λ b. IsTrue c.is_well_formed.result ↔ IsWellFormed (kind_of c.in-Some.trie.kind) b) c.in-Some.ensures.bytes c.is_well_formed.ensures)
