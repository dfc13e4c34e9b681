use Rattle.std.proofs.Common.{◌≡◌, ◌∷◌, [], subst}
use Rattle.zerotrie_sets.specs.Selections.{IsRuleError}
use Rattle.zerotrie_making.proofs.FewLemmas.{alone_valued}
use Rattle.zerotrie_making.proofs.combine.operation_of.Goals as goal

pub returns-in-Difference-default-clause-valued : goal.returns-in-Difference-default-clause-valued
returns-in-Difference-default-clause-valued c = λ one other why small error.
    alone_valued c.args.rule one other why small (subst (λ selection. IsRuleError selection c.args.rule (one ∷ other ∷ []) why) c.in-Difference-default.is-0 error)
