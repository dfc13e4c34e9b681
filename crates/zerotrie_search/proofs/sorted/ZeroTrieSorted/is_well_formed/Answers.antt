use Rattle.std.proofs.Common.{subst}
use Rattle.std.specs.Prelude.{◌↔◌, IsTrue}
use Rattle.zerotrie_core.specs.WellFormed.{IsWellFormed}
use Rattle.zerotrie_search.proofs.sorted.ZeroTrieSorted.is_well_formed.Goals as goal

pub returns : goal.returns
returns g c = rw (← c.self.view_is) (subst (λ kind. IsTrue c.is_valid.result ↔ IsWellFormed kind c.self.inside.bytes.now) c.kind.ensures c.is_valid.ensures)
