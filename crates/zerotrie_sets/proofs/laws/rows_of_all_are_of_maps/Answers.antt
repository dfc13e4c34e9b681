use Rattle.zerotrie_sets.proofs.RowLemmas.{rows_of_all}
use Rattle.zerotrie_sets.proofs.laws.rows_of_all_are_of_maps.Goals as goal

pub returns : goal.returns
returns c lists up = rows_of_all lists up
