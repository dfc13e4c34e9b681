use Rattle.zerotrie_sets.proofs.SelectionLemmas.{selection_of_maps}
use Rattle.zerotrie_sets.proofs.laws.selections_are_of_maps.Goals as goal

pub returns : goal.returns
returns c = selection_of_maps
