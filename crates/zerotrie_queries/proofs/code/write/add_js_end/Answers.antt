use Rattle.std.proofs.Common.{rules}
use Rattle.zerotrie_queries.proofs.code.write.add_js_end.Goals as goal

pub returns : goal.returns
returns c = rw (← c.kind_number-number.ensures) (search rules)
