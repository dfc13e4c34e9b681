-- The source code of a trie.
use Rattle.std.specs.Prelude.{ℕ, List, [], ◌++◌}
use Rattle.zerotrie_core.specs.declared.TrieKind.{TrieKind}
use Rattle.zerotrie_queries.specs.code.Texts.{front, end}
use Rattle.zerotrie_queries.specs.code.Items.{items}
use Rattle.zerotrie_queries.specs.declared.code.Language.{Language}
use Rattle.zerotrie_queries.specs.declared.code.Language.TheVariants as lang
use Rattle.zerotrie_queries.specs.declared.code.c_reader.TheConstants.{READER}

-- a constant of these bytes in the language, and the call that reads it as a trie of the kind, by a name
abbrev pub code : Language → TrieKind → List ℕ → List ℕ → List ℕ
code language kind name bytes = front language kind name ++ (items 0 bytes ++ end language kind name)

-- what a program needs before it: nothing but the library, or a reader
abbrev pub reader_of : Language → List ℕ
reader_of lang.CAlone = READER.now
reader_of language = []

-- both
abbrev pub whole_code : Language → TrieKind → List ℕ → List ℕ → List ℕ
whole_code language kind name bytes = reader_of language ++ code language kind name bytes
