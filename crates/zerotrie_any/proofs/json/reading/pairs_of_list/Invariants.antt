use Rattle.std.proofs.Common.{◌≡◌, ◌++◌, drop}
use Rattle.std.specs.Prelude.{option_map}
use Rattle.serde_json.specs.View.{items_view}
use Rattle.zerotrie_core.specs.Items.{keyed}
use Rattle.zerotrie_any.specs.Json.{each, pair_in}
use Rattle.zerotrie_any.proofs.json.reading.pairs_of_list.Given as goal

abbrev pub invariant-loop-item : goal.invariant-loop-item
invariant-loop-item l = option_map (λ more. keyed (λ key. key.items) l.pairs.items ++ more) (each pair_in (items_view (drop l.item-index l.items))) ≡ each pair_in (items_view l.items)
