use Rattle.std.proofs.Common.{◌≡◌, ◌++◌}
use Rattle.std.specs.Prelude.{map}
use Rattle.serde_json.specs.View.{view}
use Rattle.zerotrie_core.specs.Items.{keyed}
use Rattle.zerotrie_any.specs.Json.{pair_list}
use Rattle.zerotrie_any.proofs.json.writing.pairs_list.Given as goal

abbrev pub invariant-loop-key : goal.invariant-loop-key
invariant-loop-key l = map view l.items.items ++ map pair_list (keyed (λ key. key.items) l.key-iterator) ≡ map pair_list (keyed (λ key. key.items) l.entries.entries)
