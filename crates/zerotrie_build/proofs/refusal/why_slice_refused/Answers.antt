use Rattle.std.proofs.Common.{◌≡◌, ◌∙◌, subst, sym}
use Rattle.zerotrie_base.specs.Items.{keyed}
use Rattle.zerotrie_base.specs.Routes.{ascending}
use Rattle.zerotrie_base.specs.declared.error.ZeroTrieBuildError.TheVariants.{Unsorted, DuplicateKey}
use Rattle.zerotrie_build.specs.Refused.{AreFaultlessBefore}
use Rattle.zerotrie_build.proofs.RefusalLemmas.Shown.{why_shown, unsorted_any}
use Rattle.zerotrie_build.proofs.refusal.why_slice_refused.Goals as goal

pub returns-in-Some : goal.returns-in-Some
returns-in-Some g c =
    let kind = g.K.ZeroTrieWithOptions.kind in
    let all = keyed g.Key.TrieKey.key c.args.items.now in
    let own = c.in-Some.ensures.some in
    why_shown ascending kind all c.in-Some.refusal (λ foreign. let e : Unsorted ≡ DuplicateKey = sym own.0 ∙ foreign in cc) (unsorted_any kind all c.in-Some.refusal own.0 own.1) (subst (AreFaultlessBefore ascending kind all) (sym own.0) tt)
