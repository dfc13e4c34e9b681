-- The kinds that a `ZeroTrie` may have.
use Rattle.zerotrie_core.specs.Kind.{Kind, simple_ascii, perfect_hash, extended_capacity}
use Rattle.zerotrie_any.specs.declared.trie.ZeroTrieFlavor.{ZeroTrieFlavor}
use Rattle.zerotrie_any.specs.declared.trie.ZeroTrieFlavor.TheVariants.{SimpleAscii, PerfectHash, ExtendedCapacity}

-- the kind of a flavor
abbrev pub flavor_kind : ZeroTrieFlavor → Kind
flavor_kind SimpleAscii = simple_ascii
flavor_kind PerfectHash = perfect_hash
flavor_kind ExtendedCapacity = extended_capacity
