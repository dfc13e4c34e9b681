use Rattle.zerotrie_search.specs.declared.any.WordError.TheVariants.{Malformed, TooLong, TooManyEdits}
use Rattle.zerotrie_c.proofs.searches.word_of.Goals as goal

pub returns-in-Ok-clause-right : goal.returns-in-Ok-clause-right
returns-in-Ok-clause-right c = (λ malformed. c.in-Ok.ensures.faultless Malformed malformed, λ long. c.in-Ok.ensures.faultless TooLong long, λ many. c.in-Ok.ensures.faultless TooManyEdits many)
