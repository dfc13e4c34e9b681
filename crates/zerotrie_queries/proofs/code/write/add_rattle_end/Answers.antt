use Rattle.std.proofs.Common.{rules}
use Rattle.zerotrie_queries.proofs.code.write.add_rattle_end.Goals as goal

pub returns : goal.returns
returns c = rw (← c.rattle_type-kind.ensures) (search rules)
