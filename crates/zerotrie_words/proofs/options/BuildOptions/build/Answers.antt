use Rattle.std.proofs.Common.{inl}
use Rattle.zerotrie_words.specs.Builds.{IsBuildMisuse}
use Rattle.zerotrie_words.proofs.SearchLemmas.{passed_on}
use Rattle.zerotrie_words.proofs.options.BuildOptions.build.Goals as goal

pub returns-in_err-plan-clause-refused : goal.returns-in_err-plan-clause-refused
returns-in_err-plan-clause-refused c =
    passed_on c.from_residual.result _ (IsBuildMisuse c.args.self.now)
    c.from_residual.ensures.1 (inl c.in_err-plan.ensures.refused)
