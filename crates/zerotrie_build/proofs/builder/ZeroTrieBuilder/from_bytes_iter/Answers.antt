use Rattle.std.proofs.Common.{◌≡◌, ◌∙◌, ap, subst, inl, inr, Ok}
use Rattle.std.proofs.lemmas.Result.{err_from_is_err_and}
use Rattle.zerotrie_base.specs.Items.{keyed}
use Rattle.zerotrie_base.specs.Kind.{kind_with}
use Rattle.zerotrie_base.specs.Routes.{any_order, HasCause, IsBuild}
use Rattle.zerotrie_build.proofs.builder.ZeroTrieBuilder.from_bytes_iter.Goals as goal

pub returns-in_err-data : goal.returns-in_err-data
returns-in_err-data g c =
    let key = g.K.TrieKey.key in
    let run = c.in_ok-given.ensures.runs tt in
    let given : keyed key c.as_slice.result.now ≡ keyed key run.0.items =
    ap (keyed key) (c.as_slice.ensures.value ∙ c.shrink_to_fit.ensures.items ∙ run.3.0) in
    let p = err_from_is_err_and c.from_residual-in_err-data.result c.from_residual-in_err-data.ensures.1 in
    rw (p.1, p.2) (elim c.in_err-data.ensures [
      | inl memory ↦ inl memory
      | inr cause ↦ inr (
        c.into_iter.result,
        c.into_iter.ensures.into_iter_gives,
        (run.0, run.1, run.2, subst (λ pairs. HasCause any_order (kind_with c.args.options) pairs c.in_err-data.field-0.0) given cause),
      )
    ])

pub returns : goal.returns
returns g c =
    let key = g.K.TrieKey.key in
    let run = c.in_ok-given.ensures.runs tt in
    let given : keyed key c.as_slice.result.now ≡ keyed key run.0.items =
    ap (keyed key) (c.as_slice.ensures.value ∙ c.shrink_to_fit.ensures.items ∙ run.3.0) in (
      c.into_iter.result,
      c.into_iter.ensures.into_iter_gives,
      (run.0, run.1, run.2, subst (λ pairs. IsBuild any_order (kind_with c.args.options) g.S.TrieBuilderStore.list pairs (Ok c.in_ok-data.data)) given c.in_ok-data.ensures),
    )
