use Rattle.std.proofs.Common.{inl, ap, subst, ◌∙◌}
use Rattle.zerotrie_build.specs.Refused.{IsWhyRefused}
use Rattle.zerotrie_core.specs.Items.{pairs_of}
use Rattle.zerotrie_core.specs.Kinds.{kind_of}
use Rattle.zerotrie_core.specs.Routes.{any_order}
use Rattle.zerotrie_c.proofs.refusals.zerotrie_why_refused.Goals as goal

pub returns-in-Ok-why_refused-clause-known : goal.returns-in-Ok-why_refused-clause-known
returns-in-Ok-why_refused-clause-known c =
    let answer = c.in-Ok-why_refused.answer in
    let given = ap pairs_of c.as_slice.ensures.value ∙ c.in-Ok.ensures in
    rw c.in-Some.ensures
    (inl (answer, subst (λ pairs. IsWhyRefused any_order (kind_of c.in-Some.kind) pairs answer) given c.in-Ok-why_refused.ensures, c.tell.ensures))
