use Rattle.std.specs.Prelude.{Ok, Err}
use Rattle.std.proofs.Common.{subst, refl}
use Rattle.zerotrie_core.specs.Routes.{IsBuild}
use Rattle.zerotrie_c.proofs.builds.hand_out_trie.Goals as goal

pub returns-in-Ok : goal.returns-in-Ok
returns-in-Ok c route kind pairs build = (
  Ok c.in-Ok.bytes.items,
  subst (IsBuild route kind (λ b. b.items) pairs) c.in-Ok.is build,
  rw c.as_slice.ensures.value at c.hand_out.ensures,
)

pub returns-in-Err : goal.returns-in-Err
returns-in-Err c route kind pairs build = (
  Err c.in-Err.error,
  subst (IsBuild route kind (λ b. b.items) pairs) c.in-Err.is build,
  (c.status_of.ensures, refl, refl),
)
