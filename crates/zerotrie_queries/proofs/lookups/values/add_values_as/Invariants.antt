use Rattle.std.proofs.Common.{◌≡◌, ◌++◌, drop}
use Rattle.std.specs.Prelude.{◌&&◌}
use Rattle.zerotrie_core.specs.Maps.{Map}
use Rattle.zerotrie_core.specs.Texts.{Means}
use Rattle.zerotrie_queries.specs.Answers.{answers}
use Rattle.zerotrie_queries.specs.Printed.{value_lines, are_found}
use Rattle.zerotrie_queries.proofs.lookups.values.add_values_as.Given as goal

abbrev pub invariant-loop-key : goal.invariant-loop-key
invariant-loop-key g l = (l.trie ≡ l.bytes) × ((m : Map) → Means g.K.ZeroTrieWithOptions.kind l.bytes m
    → let left = answers g.K.ZeroTrieWithOptions.kind m (drop l.key-index l.keys) in
    let whole = answers g.K.ZeroTrieWithOptions.kind m l.keys in
    (l.lines.items ++ value_lines left ≡ l.initial.lines.items ++ value_lines whole) × ((l.all && are_found left) ≡ are_found whole))
