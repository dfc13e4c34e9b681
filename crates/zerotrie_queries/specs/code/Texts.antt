-- What each language has around the bytes of a trie.
use Rattle.std.specs.Prelude.{ℕ, List, ◌++◌, codes}
use Rattle.zerotrie_core.specs.declared.TrieKind.{TrieKind}
use Rattle.zerotrie_core.specs.declared.TrieKind.TheVariants.{Simple, Ignore, Hash, Ext}
use Rattle.zerotrie_queries.specs.declared.code.Language.{Language}
use Rattle.zerotrie_queries.specs.declared.code.Language.TheVariants as lang

-- a constant of the header
abbrev pub c_kind : TrieKind → List ℕ
c_kind Simple = codes "ZEROTRIE_SIMPLE_ASCII"
c_kind Ignore = codes "ZEROTRIE_IGNORE_CASE"
c_kind Hash = codes "ZEROTRIE_PERFECT_HASH"
c_kind Ext = codes "ZEROTRIE_EXTENDED_CAPACITY"

-- a type of the library, and of the package of plain Rust
abbrev pub rattle_type : TrieKind → List ℕ
rattle_type Simple = codes "ZeroTrieSimpleAscii"
rattle_type Ignore = codes "ZeroAsciiIgnoreCaseTrie"
rattle_type Hash = codes "ZeroTriePerfectHash"
rattle_type Ext = codes "ZeroTrieExtendedCapacity"

-- its number
abbrev pub kind_number : TrieKind → List ℕ
kind_number Simple = codes "0"
kind_number Ignore = codes "8"
kind_number Hash = codes "3"
kind_number Ext = codes "7"

-- the name that code has if no other is asked for
abbrev pub usual_name : Language → List ℕ
usual_name lang.Rust = codes "TRIE"
usual_name lang.C = codes "trie"
usual_name lang.CAlone = codes "trie"
usual_name lang.Rattle = codes "get"
usual_name lang.JavaScript = codes "trie"

-- what Rust has before the bytes, for a kind and a name
abbrev pub rust_front : TrieKind → List ℕ → List ℕ
rust_front kind name =
    codes "/// The trie: `" ++ (name
    ++ (codes ".get(key)` is the value of a key.\npub static " ++ (name
    ++ (codes ": zerotrie::" ++ (rattle_type kind
    ++ (codes "<&'static [u8]> =\n    zerotrie::" ++ (rattle_type kind
    ++ codes "::from_store(&[")))))))

-- what C has, with the text of the kind
abbrev pub c_constants : List ℕ → List ℕ → List ℕ
c_constants kind name =
    codes "\n/* The kind of the trie. */\nstatic const uint32_t " ++ (name
    ++ (codes "_kind = " ++ (kind
    ++ (codes ";\n\n/* Its bytes, and a zero. */\nstatic const uint8_t " ++ (name
    ++ codes "_bytes[] = {")))))

-- what C has over the library
abbrev pub c_front : TrieKind → List ℕ → List ℕ
c_front kind name = codes "#include \"zerotrie.h\"\n" ++ c_constants (c_kind kind) name

-- what Rattle has
abbrev pub rattle_front : List ℕ → List ℕ
rattle_front name =
    codes "/// The value of a key. `None` if the trie has no such key.\npub fn " ++ (name
    ++ codes "(key: &[u8]) -> Option<usize> {\n    static BYTES: &[u8] = &[")

-- what JavaScript has
abbrev pub js_front : List ℕ → List ℕ
js_front name =
    codes "import { ZeroTrie } from \"./zerotrie_read.mjs\";\n\n/** The trie: `" ++ (name
    ++ (codes ".get(key)` is the value of a key. */\nexport const " ++ (name
    ++ codes " = new ZeroTrie(new Uint8Array([")))

-- what C has right after the bytes: a zero, and their number
abbrev pub c_len : List ℕ → List ℕ
c_len name =
    codes "\n    0\n};\n\n/* How many bytes it has. */\nstatic const size_t " ++ (name
    ++ (codes "_len = sizeof " ++ (name
    ++ codes "_bytes - 1;\n")))

-- the parameters of the function of C, and the call in it: of the library
abbrev pub c_call : List ℕ
c_call = codes "_get(const void *key, size_t key_len, size_t *value) {\n    return zerotrie_get("

-- and of the reader
abbrev pub alone_call : List ℕ
alone_call = codes "_get(const void *key, size_t key_len, uint64_t *value) {\n    return zerotrie_read_get("

-- the function of C, with its parameters and the call in it
abbrev pub c_get : List ℕ → List ℕ → List ℕ
c_get call name =
    codes "\n/* Whether the trie has the key. If so, writes its value. */\nstatic inline bool " ++ (name
    ++ (call ++ (name
    ++ (codes "_kind, " ++ (name
    ++ (codes "_bytes, " ++ (name
    ++ codes "_len, (const uint8_t *)key, key_len, value);\n}\n")))))))

-- what C has after the bytes
abbrev pub c_end : List ℕ → List ℕ → List ℕ
c_end call name = c_len name ++ c_get call name

-- what Rattle has
abbrev pub rattle_end : TrieKind → List ℕ
rattle_end kind = codes "\n    ];\n    zerotrie::" ++ (rattle_type kind ++ codes "::from_bytes(BYTES).get(key)\n}\n")

-- what JavaScript has
abbrev pub js_end : TrieKind → List ℕ
js_end kind = codes "\n]), " ++ (kind_number kind ++ codes ");\n")

-- what is before the bytes
abbrev pub front : Language → TrieKind → List ℕ → List ℕ
front lang.Rust kind name = rust_front kind name
front lang.C kind name = c_front kind name
front lang.CAlone kind name = c_constants (kind_number kind) name
front lang.Rattle kind name = rattle_front name
front lang.JavaScript kind name = js_front name

-- what is after the bytes
abbrev pub end : Language → TrieKind → List ℕ → List ℕ
end lang.Rust kind name = codes "\n]);\n"
end lang.C kind name = c_end c_call name
end lang.CAlone kind name = c_end alone_call name
end lang.Rattle kind name = rattle_end kind
end lang.JavaScript kind name = js_end kind
