use Rattle.std.proofs.Common.{◌∙◌, inl, inr, refl}
use Rattle.zerotrie_c.proofs.dense.zerotrie_dense_build.Goals as goal

pub returns-in-Ok : goal.returns-in-Ok
returns-in-Ok c =
    let built = c.in-Ok.ensures.built in
    inl (built.0, built.1, rw (c.as_slice.ensures.value ∙ built.2) at c.hand_out.ensures)

pub returns-in-Err : goal.returns-in-Err
returns-in-Err c = inr (c.in-Err.error, c.in-Err.ensures.refused, c.status_of.ensures, refl, refl)
