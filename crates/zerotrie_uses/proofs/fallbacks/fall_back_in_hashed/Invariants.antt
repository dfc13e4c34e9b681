use Rattle.std.proofs.Common.{None}
use Rattle.std.specs.Prelude.{codes}
use Rattle.zerotrie.specs.Kind.{perfect_hash}
use Rattle.zerotrie.specs.Maps.{Map}
use Rattle.zerotrie.specs.Prefixes.{common_prefixes}
use Rattle.zerotrie.specs.Texts.{Means}
use Rattle.zerotrie.proofs.Fallbacks.{Finds, last_of}
use Rattle.zerotrie.specs.Borders.{is_border}
use Rattle.zerotrie_uses.proofs.fallbacks.fall_back_in_hashed.Given as goal

abbrev pub invariant-loop-len : goal.invariant-loop-len
invariant-loop-len g l = (m : Map) → Means perfect_hash (g.S.TrieStore.stored l.trie.store) m
    → Finds (is_border (codes "-") l.name) l.found l.len-iterator (last_of (is_border (codes "-") l.name) None (common_prefixes perfect_hash m l.name))
