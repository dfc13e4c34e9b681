use Rattle.std.specs.Prelude.{◌≡◌, ◌≤◌, ◌-◌}
use Rattle.std.specs.FinMap.{entries}
use Rattle.zerotrie_core.specs.Kinds.{kind_of}
use Rattle.zerotrie_core.specs.Maps.{Map}
use Rattle.zerotrie_core.specs.Texts.{Means}
use Rattle.zerotrie_queries.specs.Chosen.{closest, edits_of}
use Rattle.zerotrie_queries.proofs.listing.listed.fewest_edits.Given as goal

abbrev pub invariant-loop-edits : goal.invariant-loop-edits
invariant-loop-edits l = (l.edits-end ≡ edits_of l.choice) × (l.edits ≤ l.edits-end) × ((m : Map) → Means (kind_of l.trie.kind) l.trie.bytes.now m
    → closest l.trie.kind l.choice (entries m) 0 (edits_of l.choice) ≡ closest l.trie.kind l.choice (entries m) l.edits (l.edits-end - l.edits))
