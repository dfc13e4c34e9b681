use Rattle.std.proofs.Common.{◌≡◌, ◌++◌, drop, map}
use Rattle.serde_json.specs.View.{items_of}
use Rattle.serde_json.specs.Written.{compact_text, items_text}
use Rattle.zerotrie_any.specs.Json.{list_of, whole}
use Rattle.zerotrie_queries.proofs.json_text.add_bytes.Given as goal

abbrev pub invariant-loop-byte : goal.invariant-loop-byte
invariant-loop-byte l = l.text.items ++ items_text l.later (items_of (map whole (drop l.byte-index l.bytes))) ≡ l.fn.text.items ++ compact_text (list_of (map whole l.bytes))
