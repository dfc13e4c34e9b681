use Rattle.std.proofs.Common.{◌≡◌, refl, subst, sym}
use Rattle.zerotrie_base.specs.declared.error.ZeroTrieBuildError.TheVariants.{Unsorted}
use Rattle.zerotrie_base.specs.Kind.{simple_ascii}
use Rattle.zerotrie_base.specs.Items.{keyed}
use Rattle.zerotrie_build.specs.Refused.{AreShown}
use Rattle.zerotrie_build.proofs.OrderLemmas.Below.{below_before, ordered_ascends}
use Rattle.zerotrie_build.proofs.refusal.unsorted.Goals as goal

pub returns-in_err-first-clause-none : goal.returns-in_err-first-clause-none
returns-in_err-first-clause-none g c = rw c.from_residual.ensures (ordered_ascends _ c.in_err-first.ensures.none)

pub returns-clause-some : goal.returns-clause-some
returns-clause-some g c =
    let all = keyed g.Key.TrieKey.key c.args.items.now in
    let at = c.in_ok-first.ensures.some in
    subst (λ r. (r.error ≡ Unsorted) × AreShown simple_ascii all r.error r.first r.second) (sym c.new.ensures) (refl, (refl, at.0, λ less. at.1 (below_before _ _ less)))
