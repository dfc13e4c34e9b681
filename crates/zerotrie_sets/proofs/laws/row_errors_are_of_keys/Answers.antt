use Rattle.zerotrie_sets.proofs.SelectionLemmas.{row_errors}
use Rattle.zerotrie_sets.proofs.laws.row_errors_are_of_keys.Goals as goal

pub returns : goal.returns
returns c = row_errors
