use Rattle.std.specs.Prelude.{Ok, Err}
use Rattle.std.proofs.Common.{subst, refl}
use Rattle.zerotrie_index.specs.Built.{IsIndexBuild}
use Rattle.zerotrie_c.proofs.indexes.hand_out_index.Goals as goal

pub returns-in-Ok : goal.returns-in-Ok
returns-in-Ok c seed pairs build = (
  Ok c.in-Ok.bytes.items,
  subst (IsIndexBuild seed (λ b. b.items) pairs) c.in-Ok.is build,
  rw c.as_slice.ensures.value at c.hand_out.ensures,
)

pub returns-in-Err : goal.returns-in-Err
returns-in-Err c seed pairs build = (
  Err c.in-Err.error,
  subst (IsIndexBuild seed (λ b. b.items) pairs) c.in-Err.is build,
  (c.index_status_of.ensures, refl, refl),
)
