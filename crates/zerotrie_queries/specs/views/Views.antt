-- What is seen of a trie.
use Rattle.std.specs.Prelude.{ℕ, List}
use Rattle.zerotrie_core.specs.walk.Visits.{nodes_of}
use Rattle.zerotrie_core.specs.Kinds.{kind_of}
use Rattle.zerotrie_core.specs.declared.TrieKind.{TrieKind}
use Rattle.zerotrie_queries.specs.views.Dumps.{dump_lines}
use Rattle.zerotrie_queries.specs.views.Dots.{drawing}
use Rattle.zerotrie_queries.specs.declared.views.View.{View}
use Rattle.zerotrie_queries.specs.declared.views.View.TheVariants as views

-- what a view of bytes of a kind shows: a line for each node, or a drawing
abbrev pub shown : View → TrieKind → List ℕ → List ℕ
shown views.Dump kind bytes = dump_lines (nodes_of (kind_of kind) bytes)
shown (views.Dot most) kind bytes = drawing most (nodes_of (kind_of kind) bytes)
