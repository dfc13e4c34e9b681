use Rattle.zerotrie_core.proofs.ListingLemmas.Ascending.{list_the_map, lists_ascend, ascend_by_bytes}
use Rattle.zerotrie_core.proofs.laws.listing_is_the_map.Goals as goal

pub returns-clause-map : goal.returns-clause-map
returns-clause-map c = list_the_map

pub returns-clause-in_order : goal.returns-clause-in_order
returns-clause-in_order c = λ kind ascii bytes pairs text. lists_ascend ascii text

pub returns-clause-by_bytes : goal.returns-clause-by_bytes
returns-clause-by_bytes c = ascend_by_bytes
