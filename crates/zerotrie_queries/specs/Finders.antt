-- What keys and values are looked up in.
use Rattle.std.specs.Prelude.{◌≡◌, ℕ, List, Option, Bool, true, false}
use Rattle.zerotrie_core.specs.Kind.{Kind, simple_ascii}
use Rattle.zerotrie_core.specs.Maps.{Map, Pairs, look, value_at}
use Rattle.zerotrie_core.specs.Texts.{Lists, Means}
use Rattle.zerotrie_core.specs.Values.{first_key_of}
use Rattle.zerotrie_core.specs.Kinds.{kind_of}
use Rattle.zerotrie_core.specs.declared.TrieKind.{TrieKind}
use Rattle.zerotrie_index.specs.Layout.{IsIndex}
use Rattle.zerotrie_queries.specs.declared.question.Finder.{Finder}
use Rattle.zerotrie_queries.specs.declared.question.Finder.TheVariants as finder
use Rattle.zerotrie_queries.specs.declared.question.Asked.{Asked}
use Rattle.zerotrie_queries.specs.declared.question.Asked.TheVariants.{Value, Pair, Longest, LongestAt, Prefixes, KeyOf}

-- What is known of pairs: the value of each key, and the first key of each value.
pub record Dictionary : Type 0 where
  pub value_of : List ℕ → Option ℕ
  pub key_of : ℕ → Option (List ℕ)

-- keys have these values, and the pairs are in this order
abbrev pub dictionary_of : (List ℕ → Option ℕ) → Pairs → Dictionary
dictionary_of at pairs = record { value_of = at; key_of = λ value. first_key_of value pairs }

-- it is that of the map that the bytes of a trie mean, and of the pairs as they list them
abbrev pub KindFinds : Kind → List ℕ → Dictionary → Type 0
KindFinds kind bytes d = (m : Map) × (pairs : Pairs) × Means kind bytes m × Lists kind bytes pairs × (d ≡ dictionary_of (look kind m) pairs)

abbrev pub TrieFinds : TrieKind → List ℕ → Dictionary → Type 0
TrieFinds kind bytes d = KindFinds (kind_of kind) bytes d

-- whether texts are asked for as keys
abbrev pub asks_keys : Asked → Bool
asks_keys Value = true
asks_keys Pair = true
asks_keys Longest = false
asks_keys (LongestAt delimiter) = false
asks_keys (Prefixes border) = false
asks_keys KeyOf = false

-- it is that of the index that bytes are, which is asked for the values of keys alone
abbrev pub IndexFinds : Asked → List ℕ → Dictionary → Type 0
IndexFinds asked bytes d = (asks_keys asked ≡ true) × (pairs : Pairs) × IsIndex pairs bytes × (d ≡ dictionary_of (value_at simple_ascii pairs) pairs)

-- it is that of what texts are looked up in; a table is asked for the keys of values alone
abbrev pub Finds : Finder → Asked → Dictionary → Type 0
Finds (finder.Trie t) asked d = TrieFinds t.kind t.bytes.now d
Finds (finder.Index bytes) asked d = IndexFinds asked bytes.now d
Finds (finder.Table t) asked d = (asked ≡ KeyOf) × KindFinds t.now.kind t.now.bytes d
