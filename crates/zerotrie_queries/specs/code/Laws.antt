-- What is written as code is read back.
use Rattle.std.specs.Prelude.{◌≡◌, ℕ, ◌+◌, ◌<◌, ◌==◌, List, [], ◌∷◌, length, All, true, Option, Some, None, bytes_eq, cond, codes, decimal, if◌then◌else◌}
use Rattle.zerotrie_core.specs.Kind.{tag}
use Rattle.zerotrie_core.specs.Kinds.{kind_of}
use Rattle.zerotrie_queries.specs.code.Texts.{c_kind, kind_number}
use Rattle.zerotrie_core.specs.declared.TrieKind.{TrieKind}
use Rattle.zerotrie_queries.specs.declared.code.Language.{Language}
use Rattle.zerotrie_queries.specs.declared.code.Language.TheVariants as lang
use Rattle.zerotrie_queries.specs.code.Names.{is_name}
use Rattle.zerotrie_queries.specs.code.Items.{numbers_in}
use Rattle.zerotrie_queries.specs.code.Code.{code}

-- the words of 0x and two hexadecimal digits in the code of bytes are these bytes, in their order, whatever its name
abbrev pub CodeSpellsBytes : Type 0
CodeSpellsBytes = (language : Language) (kind : TrieKind) (name bytes : List ℕ) → is_name name ≡ true → All (λ b. b < 256) bytes
    → numbers_in (code language kind name bytes) ≡ bytes

-- the number of a name in a list of both
abbrev pub number_at : List (List ℕ × ℕ) → List ℕ → Option ℕ
number_at [] name = None
number_at (row ∷ rows) name = cond (bytes_eq row.0 name) (Some row.1) (number_at rows name)

-- the constants of `zerotrie.h`
abbrev pub header_kinds : List (List ℕ × ℕ)
header_kinds =
    (codes "ZEROTRIE_SIMPLE_ASCII", 0) ∷ (codes "ZEROTRIE_PERFECT_HASH", 3) ∷ (codes "ZEROTRIE_EXTENDED_CAPACITY", 7)
    ∷ (codes "ZEROTRIE_IGNORE_CASE", 8) ∷ []

-- the constant that the code of C names is the number of the kind, and so is the number beside a reader
abbrev pub CodeNamesKind : Type 0
CodeNamesKind = (kind : TrieKind) → (number_at header_kinds (c_kind kind) ≡ Some (tag (kind_of kind))) × (kind_number kind ≡ decimal (tag (kind_of kind)))

-- a language over an array of C
abbrev pub IsC : Language → Type 0
IsC lang.Rust = ⊥
IsC lang.C = Unit
IsC lang.CAlone = Unit
IsC lang.Rattle = ⊥
IsC lang.JavaScript = ⊥

-- how many items are before the brace that ends a list: those with a comma after them, and the last
abbrev pub items_before_end : List ℕ → ℕ
items_before_end [] = 1
items_before_end (c ∷ text) = if c == 125 then 1 else (if c == 44 then 1 + items_before_end text else items_before_end text)

-- how many are in the first braces of a text
abbrev pub items_in_braces : List ℕ → ℕ
items_in_braces [] = 0
items_in_braces (c ∷ text) = if c == 123 then items_before_end text else items_in_braces text

-- the array in the code of C has one item more than there are bytes, so its size less one, which is the length in the code, is their number
abbrev pub CodeCountsBytes : Type 0
CodeCountsBytes = (language : Language) (kind : TrieKind) (name bytes : List ℕ) → IsC language → is_name name ≡ true → All (λ b. b < 256) bytes
    → items_in_braces (code language kind name bytes) ≡ length bytes + 1
