use Rattle.zerotrie_base.specs.Kind.{kind_with}
use Rattle.zerotrie_search.proofs.StartLemmas.{all_left, all_starts}
use Rattle.zerotrie_search.proofs.sorted.ZeroTrieSorted.all.Goals as goal

pub invariant_of-result : goal.invariant_of-result
invariant_of-result g c = λ _ pairs lists. all_starts (kind_with c.args.options) c.args.bytes.now pairs lists c.new.result.items c.new-2.result.items c.new.ensures.items c.new-2.ensures.items

pub returns-clause-left : goal.returns-clause-left
returns-clause-left g c m means = all_left (kind_with c.args.options) c.args.bytes.now m means c.new.result.items c.new-2.result.items c.new.ensures.items c.new-2.ensures.items
