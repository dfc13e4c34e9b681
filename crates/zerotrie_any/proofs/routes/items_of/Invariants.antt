use Rattle.std.proofs.Common.{◌≡◌, ◌++◌}
use Rattle.zerotrie_core.specs.Items.{pairs_of}
use Rattle.zerotrie_core.specs.Items.{keyed}
use Rattle.zerotrie_any.proofs.routes.items_of.Given as goal

abbrev pub invariant-loop-key : goal.invariant-loop-key
invariant-loop-key g l = pairs_of l.items.items ++ keyed g.Key.TrieKey.key l.key-iterator ≡ keyed g.Key.TrieKey.key l.entries.entries
