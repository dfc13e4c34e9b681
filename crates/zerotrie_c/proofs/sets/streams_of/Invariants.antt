use Rattle.std.proofs.Common.{take, map}
use Rattle.std.specs.List.{AllZip}
use Rattle.zerotrie_core.specs.Maps.{Pairs}
use Rattle.zerotrie_sets.specs.Rows.{EachAscends}
use Rattle.zerotrie_c.specs.Sets.{AreOfTrie}
use Rattle.zerotrie_c.proofs.sets.streams_of.Given as goal

abbrev pub invariant-loop-trie : goal.invariant-loop-trie
invariant-loop-trie l = record {
  lists : AllZip AreOfTrie (take l.trie-index l.tries) (map {B = Pairs} (λ s. s.left.pairs) l.streams.items);
  ascend : EachAscends (map {B = Pairs} (λ s. s.left.pairs) l.streams.items);
}
