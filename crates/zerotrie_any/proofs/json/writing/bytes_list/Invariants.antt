use Rattle.std.proofs.Common.{◌≡◌, drop, ◌++◌}
use Rattle.std.specs.Prelude.{map}
use Rattle.serde_json.specs.View.{view}
use Rattle.zerotrie_any.specs.Json.{whole}
use Rattle.zerotrie_any.proofs.json.writing.bytes_list.Given as goal

abbrev pub invariant-loop-byte : goal.invariant-loop-byte
invariant-loop-byte l = map view l.items.items ++ map whole (drop l.byte-index l.bytes) ≡ map whole l.bytes
