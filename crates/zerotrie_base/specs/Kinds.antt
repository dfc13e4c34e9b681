-- The kinds of trie as values of the program.
use Rattle.std.specs.Prelude.{◌≡◌, ℕ, List, codes}
use Rattle.zerotrie_base.specs.Kind.{Kind, simple_ascii, ignore_case, perfect_hash, extended_capacity, tag}
use Rattle.zerotrie_base.specs.declared.kind.TrieKind.{TrieKind}
use Rattle.zerotrie_base.specs.declared.kind.TrieKind.TheVariants.{Simple, Ignore, Hash, Ext}

-- the kind of a value
abbrev pub kind_of : TrieKind → Kind
kind_of Simple = simple_ascii
kind_of Ignore = ignore_case
kind_of Hash = perfect_hash
kind_of Ext = extended_capacity

-- the name of a kind on a command line
abbrev pub kind_name : TrieKind → List ℕ
kind_name Simple = codes "simple"
kind_name Ignore = codes "ignore"
kind_name Hash = codes "hash"
kind_name Ext = codes "ext"

-- the number of some kind
abbrev pub IsTag : ℕ → Type 0
IsTag number = (kind : TrieKind) × (tag (kind_of kind) ≡ number)
