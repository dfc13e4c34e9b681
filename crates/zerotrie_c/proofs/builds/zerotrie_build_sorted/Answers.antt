use Rattle.std.specs.Prelude.{Err}
use Rattle.std.proofs.Common.{inl, refl}
use Rattle.zerotrie_core.specs.declared.ZeroTrieBuildError.TheVariants.{OutOfMemory}
use Rattle.zerotrie_c.proofs.builds.zerotrie_build_sorted.Goals as goal

pub returns-in-Err-clause-known : goal.returns-in-Err-clause-known
returns-in-Err-clause-known c = rw c.in-Some.ensures (Err OutOfMemory, inl refl, (refl, refl, refl))
