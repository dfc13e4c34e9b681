-- What a trie of the kind that was chosen is.
use Rattle.std.specs.Prelude.{ℕ, List}
use Rattle.zerotrie.specs.Kind.{Kind, simple_ascii, ignore_case, perfect_hash, extended_capacity}
use Rattle.zerotrie.specs.Flavors.{flavor_kind}
use Rattle.zerotrie.specs.declared.TrieKind.TheVariants as kind
use Rattle.zerotrie_session.specs.declared.command.Choice.{Choice}
use Rattle.zerotrie_session.specs.declared.command.Choice.TheVariants as choice
use Rattle.zerotrie_session.specs.declared.trie.ChosenTrie.{ChosenTrie}
use Rattle.zerotrie_session.specs.declared.trie.ChosenTrie.TheVariants.{Simple, Ignore, Hash, Ext, Auto}

-- the kind that a trie is of
abbrev pub trie_kind : ChosenTrie → Kind
trie_kind (Simple trie) = simple_ascii
trie_kind (Ignore trie) = ignore_case
trie_kind (Hash trie) = perfect_hash
trie_kind (Ext trie) = extended_capacity
trie_kind (Auto trie) = flavor_kind trie.flavor

-- the choice that a trie was made for
abbrev pub trie_choice : ChosenTrie → Choice
trie_choice (Simple trie) = choice.Named kind.Simple
trie_choice (Ignore trie) = choice.Named kind.Ignore
trie_choice (Hash trie) = choice.Named kind.Hash
trie_choice (Ext trie) = choice.Named kind.Ext
trie_choice (Auto trie) = choice.Auto

-- the bytes of a trie
abbrev pub trie_bytes : ChosenTrie → List ℕ
trie_bytes (Simple trie) = trie.store.items
trie_bytes (Ignore trie) = trie.store.items
trie_bytes (Hash trie) = trie.store.items
trie_bytes (Ext trie) = trie.store.items
trie_bytes (Auto trie) = trie.store.items
