use Rattle.zerotrie_index.proofs.PermutedLemmas.{distinct_given, same_permuted}
use Rattle.zerotrie_index.proofs.laws.built_answers_as_given.Goals as goal

pub returns : goal.returns
returns c = λ given pairs distinct permuted key. same_permuted given pairs (distinct_given given pairs distinct permuted) permuted key
