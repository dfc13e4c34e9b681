use Rattle.std.proofs.Common.{◌≡◌, refl, subst, sym}
use Rattle.zerotrie_base.specs.declared.error.ZeroTrieBuildError.TheVariants.{NonAsciiError}
use Rattle.zerotrie_base.specs.Items.{keyed}
use Rattle.zerotrie_build.specs.Refused.{AreShown}
use Rattle.zerotrie_build.proofs.refusal.foreign.Goals as goal

pub returns-clause-some : goal.returns-clause-some
returns-clause-some g c =
    let all = keyed g.Key.TrieKey.key c.args.items.now in
    let at = c.in_ok-first.ensures.some in
    subst (λ r. (r.error ≡ NonAsciiError) × AreShown g.K.ZeroTrieWithOptions.kind all r.error r.first r.second) (sym c.new.ensures) (refl, (refl, at.0, at.1))
