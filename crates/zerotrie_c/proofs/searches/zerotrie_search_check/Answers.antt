use Rattle.std.proofs.Common.{inr}
use Rattle.zerotrie_c.proofs.searches.zerotrie_search_check.Goals as goal

pub returns-in-Err : goal.returns-in-Err
returns-in-Err c = inr c.in-Err.ensures.fault
