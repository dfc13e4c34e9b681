use Rattle.std.proofs.Common.{◌∙◌, sym, ap}
use Rattle.std.specs.Prelude.{not}
use Rattle.zerotrie_search.proofs.EndLemmas.{none_to}
use Rattle.zerotrie_search.proofs.range.may_end_to.Goals as goal

pub returns-in-Excluded-clause-none : goal.returns-in-Excluded-clause-none
returns-in-Excluded-clause-none c dead key =
    rw c.in-Excluded.is (none_to c.in-Excluded.bytes.now (sym (ap not c.is_empty.ensures) ∙ dead) key)
