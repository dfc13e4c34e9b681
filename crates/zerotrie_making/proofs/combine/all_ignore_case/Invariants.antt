use Rattle.std.proofs.Common.{◌≡◌, drop}
use Rattle.std.specs.List.{list_all}
use Rattle.zerotrie_core.specs.Kind.{flags}
use Rattle.zerotrie_core.specs.Kinds.{kind_of}
use Rattle.zerotrie_making.proofs.combine.all_ignore_case.Given as goal

abbrev pub invariant-loop-trie : goal.invariant-loop-trie
invariant-loop-trie l = list_all (λ trie. (flags (kind_of trie.kind)).ignore_case) (drop l.trie-index l.tries) ≡ list_all (λ trie. (flags (kind_of trie.kind)).ignore_case) l.tries
