use Rattle.std.proofs.Common.{rules}
use Rattle.std.proofs.lemmas.List.Sorted.{IsNonDecreasingBy-from_sort_by_key}
use Rattle.zerotrie_reverse.specs.Descent.{value_at}
use Rattle.zerotrie_reverse.proofs.TableLemmas.{find_sorted}
use Rattle.zerotrie_reverse.proofs.places.sort_by_value.Goals as goal

pub returns-clause-ascends : goal.returns-clause-ascends
returns-clause-ascends c = IsNonDecreasingBy-from_sort_by_key (value_at c.args.bytes.now) _ c.in_ok-sort_by_key.ensures.sorted (λ a r q k. search rules)

pub returns-clause-firsts : goal.returns-clause-firsts
returns-clause-firsts c = λ v. find_sorted (value_at c.args.bytes.now) _ _ c.in_ok-sort_by_key.ensures.stable (λ a r q k. search rules) v
