use Rattle.std.proofs.Common.{[], ap, ◌∙◌}
use Rattle.zerotrie_core.specs.Kind.{simple_ascii}
use Rattle.zerotrie_core.specs.Maps.{value_at}
use Rattle.zerotrie.proofs.StepLemmas.{value_at-steps}
use Rattle.zerotrie.proofs.LookLemmas.{nothing_behind}
use Rattle.zerotrie.proofs.dense.get.value_after.Goals as goal

pub returns : goal.returns
returns c pairs lists = (c.take_value.ensures.meaning simple_ascii _ (c.follow.ensures pairs lists)).0 ∙ value_at-steps c.args.key.now pairs [] ∙ ap (λ k. value_at simple_ascii pairs k) (nothing_behind c.args.key.now)
