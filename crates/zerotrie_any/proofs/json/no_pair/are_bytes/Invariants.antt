use Rattle.std.proofs.Common.{◌≡◌, drop}
use Rattle.std.specs.Option.{is_some}
use Rattle.serde_json.specs.View.{items_view}
use Rattle.zerotrie_any.specs.Json.{each, byte_in}
use Rattle.zerotrie_any.proofs.json.no_pair.are_bytes.Given as goal

abbrev pub invariant-loop-item : goal.invariant-loop-item
invariant-loop-item l = is_some (each byte_in (items_view (drop l.item-index l.items))) ≡ is_some (each byte_in (items_view l.items))
