use Rattle.zerotrie_core.specs.Kinds.{kind_of}
use Rattle.zerotrie_queries.proofs.file.of_sealed.Goals as goal

pub returns-in-Err-clause-err : goal.returns-in-Err-clause-err
returns-in-Err-clause-err c = (c.requires, c.in-Err.ensures.fault, λ kind bytes is. c.in-Err.ensures.none (kind_of kind) bytes is)
