use Rattle.std.specs.Prelude.{Err}
use Rattle.std.proofs.Common.{◌≡◌, ◌∙◌, ap, subst, refl, ℕ, Vec, Global}
use Rattle.zerotrie_core.specs.Items.{pairs_of}
use Rattle.zerotrie_index.specs.Built.{IsIndexBuild}
use Rattle.zerotrie_index.specs.declared.error.ZeroIndexBuildError.TheVariants.{OutOfMemory}
use Rattle.zerotrie_c.specs.Builds.{given}
use Rattle.zerotrie_c.proofs.indexes.zerotrie_index_build.Goals as goal

pub returns-in-Ok : goal.returns-in-Ok
returns-in-Ok c =
    let pairs = given c.args.pairs.now in
    let e : pairs_of c.as_slice.result.now ≡ pairs = ap pairs_of c.as_slice.ensures.value ∙ c.in-Ok.ensures in
    c.hand_out_index.ensures c.args.seed pairs (subst (λ p. IsIndexBuild {B = Vec ℕ Global} c.args.seed (λ bytes. bytes.items) p c.build.result) e c.build.ensures)

pub returns-in-Err : goal.returns-in-Err
returns-in-Err c = (Err OutOfMemory, tt, (refl, refl, refl))
