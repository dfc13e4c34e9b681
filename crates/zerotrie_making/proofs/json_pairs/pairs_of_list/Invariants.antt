use Rattle.std.proofs.Common.{◌≡◌, ◌++◌, drop}
use Rattle.std.specs.Prelude.{option_map}
use Rattle.json.specs.Value.{items_view}
use Rattle.zerotrie_making.specs.Json.{each, pair_in}
use Rattle.zerotrie_making.proofs.json_pairs.pairs_of_list.Given as goal

abbrev pub invariant-loop-item : goal.invariant-loop-item
invariant-loop-item l = option_map (λ more. l.table ++ more) (each pair_in (items_view (drop l.item-index l.items))) ≡ each pair_in (items_view l.items)
