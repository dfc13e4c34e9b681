use Rattle.std.proofs.Common.{◌-◌, length, drop, subst, sym, ◌∙◌}
use Rattle.std.proofs.lemmas.Bool.{eq-eqb, eqb-true}
use Rattle.zerotrie_base.specs.Branches.{IsWidth}
use Rattle.zerotrie_base.proofs.NodeLemmas.Fronts.{width_is}
use Rattle.zerotrie_core.proofs.well_formed.branches.has_width.Goals as goal

pub returns-clause-width : goal.returns-clause-width
returns-clause-width c =
    let total = length (drop c.args.offsets c.args.body.now) in
    let least : IsWidth total c.least_width.result = subst (λ x. IsWidth (length x) c.least_width.result) c.split_at.ensures.back c.least_width.ensures.width in (
      λ e. subst (IsWidth total) (sym (eqb-true (c.args.width - 1) c.least_width.result e)) least,
      λ is. eq-eqb (c.args.width - 1) c.least_width.result (width_is total (c.args.width - 1) is ∙ sym (width_is total c.least_width.result least)),
    )
