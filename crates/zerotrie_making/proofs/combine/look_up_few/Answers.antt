use Rattle.std.proofs.Common.{arith, map}
use Rattle.std.specs.FinMap.{entries}
use Rattle.zerotrie_queries.proofs.ChoiceLemmas.{if_some_weaker}
use Rattle.zerotrie_making.specs.Combinations.{AreTaken}
use Rattle.zerotrie_making.proofs.CombineLemmas.{of_these}
use Rattle.zerotrie_making.proofs.combine.look_up_few.Goals as goal

pub look_up_few_of_two-requires-clause-first : goal.look_up_few_of_two-requires-clause-first
look_up_few_of_two-requires-clause-first c = c.requires 0 _ (omega (arith, c.in-len2.len_at_least))

pub look_up_few_of_two-requires-clause-second : goal.look_up_few_of_two-requires-clause-second
look_up_few_of_two-requires-clause-second c = c.requires 1 _ (omega (arith, c.in-len2.len_at_least))

pub returns-in-len2 : goal.returns-in-len2
returns-in-len2 c = if_some_weaker c.look_up_few_of_two.result
    (λ table taken. of_these c.args.tries.now _ _ (λ maps. AreTaken c.args.combination (map (λ m. entries m.1) maps) table)
    (omega (arith, c.in-len2.len_at_least, c.in-len2.len_below)) (λ m n one two. taken m.1 n.1 one two)) c.look_up_few_of_two.ensures
