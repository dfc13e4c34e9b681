use Rattle.std.proofs.Common.{◌≡◌, ◌++◌, string_bytes}
use Rattle.zerotrie.specs.Listings.{turns_left}
use Rattle.zerotrie.specs.Maps.{Pairs}
use Rattle.zerotrie.specs.Texts.{Lists}
use Rattle.zerotrie_session.specs.Replies.{list_lines}
use Rattle.zerotrie_session.proofs.reply.write_pairs.Given as goal

abbrev pub invariant-loop-pairs : goal.invariant-loop-pairs
invariant-loop-pairs g l = (pairs : Pairs) → Lists (g.T.Trie.kind l.trie) (g.T.Trie.bytes l.trie) pairs
    → string_bytes l.output ++ list_lines l.pairs.left.pairs ≡ string_bytes l.fn.output ++ list_lines pairs

abbrev pub decreases-loop-pairs : goal.decreases-loop-pairs
decreases-loop-pairs g l = turns_left l.pairs.left
