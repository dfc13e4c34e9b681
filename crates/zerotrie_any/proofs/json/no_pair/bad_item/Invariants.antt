use Rattle.std.proofs.Common.{◌≡◌, ◌+◌, drop}
use Rattle.std.specs.Prelude.{option_map}
use Rattle.serde_json.specs.View.{items_view}
use Rattle.zerotrie_any.specs.Json.{pair_in}
use Rattle.zerotrie_any.specs.JsonCalls.{first_unread}
use Rattle.zerotrie_any.proofs.json.no_pair.bad_item.Given as goal

abbrev pub invariant-loop-index : goal.invariant-loop-index
invariant-loop-index l = option_map (λ n. l.index + n) (first_unread pair_in (items_view (drop l.index l.items))) ≡ first_unread pair_in (items_view l.items)
