use Rattle.std.proofs.Common.{◌≡◌, ◌-◌, drop, length}
use Rattle.std.specs.Prelude.{◌&&◌}
use Rattle.zerotrie_core.specs.Maps.{Map, look}
use Rattle.zerotrie_core.specs.Texts.{Means}
use Rattle.zerotrie_core.specs.Kinds.{kind_of}
use Rattle.zerotrie_queries.specs.Printed.{value_lines, are_found}
use Rattle.zerotrie_files.proofs.WroteLemmas.{Wrote}
use Rattle.zerotrie_queries.proofs.FoundLemmas.{answers_of}
use Rattle.zerotrie_queries.proofs.lookups.values.write_values.Given as goal

abbrev pub invariant-loop-begin : goal.invariant-loop-begin
invariant-loop-begin g l = ((m : Map) → Means (kind_of l.trie.kind) l.trie.bytes.now m
    → let f = look (kind_of l.trie.kind) m in
    let left = answers_of f (drop l.begin l.keys) in
    Wrote (g.W.Write.contents l.initial.output.inner) (g.W.Write.contents l.output.inner) (value_lines left) (value_lines (answers_of f l.keys))
    × ((l.all && are_found left) ≡ are_found (answers_of f l.keys)))
    × (l.output.failed ≡ l.initial.output.failed)

abbrev pub decreases-loop-begin : goal.decreases-loop-begin
decreases-loop-begin g l = length l.keys - l.begin
