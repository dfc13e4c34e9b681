-- What is read of source code.
use Rattle.std.proofs.Common.{rules, ◌≡◌, ℕ, ◌+◌, ◌*◌, ◌/◌, ◌%◌, ◌<◌, Bool, true, false, List, [], ◌∷◌, ◌++◌, length, refl, ◌∙◌, ap, append_assoc, arith}
use Rattle.std.specs.Prelude.{All, ◌==◌, ◌&&◌, codes, if◌then◌else◌}
use Rattle.std.proofs.lemmas.Bool.Decides.{nat_tests}
use Rattle.std.proofs.lemmas.List.Elements.{All-head, All-tail}
use Rattle.zerotrie_lines.specs.Escapes.{hex_digit}
use Rattle.zerotrie_core.specs.declared.TrieKind.{TrieKind}
use Rattle.zerotrie_core.specs.declared.TrieKind.TheVariants.{Simple, Ignore, Hash, Ext}
use Rattle.zerotrie_queries.specs.declared.code.Language.{Language}
use Rattle.zerotrie_queries.specs.declared.code.Language.TheVariants as lang
use Rattle.zerotrie_queries.specs.code.Names.{is_letter, is_in_word, are_in_word, is_name}
use Rattle.zerotrie_queries.specs.code.Texts.{c_kind, kind_number, rattle_type, c_constants, c_call, alone_call, c_get, c_end, js_end, front, end}
use Rattle.zerotrie_queries.specs.code.Items.{before_item, item_number, items, is_hex, digit_value, seen_after, numbers_after}
use Rattle.zerotrie_queries.specs.code.Laws.{IsC, items_before_end, items_in_braces}
use Rattle.zerotrie_queries.specs.code.Items.Seen.{outside, inside, zero_seen, digit_seen}

-- a digit that is written has its value
digit_back : (n : ℕ) → n < 16 → digit_value (hex_digit n) ≡ n
digit_back n below = grind (arith, nat_tests)

-- and is one
hex_back : (n : ℕ) → n < 16 → is_hex (hex_digit n) ≡ true
hex_back n below = grind (arith, nat_tests)

-- no number stands in front of an item
before_read : (first : Bool) (rest : List ℕ) → numbers_after outside ((if first then codes "\n    " else codes " ") ++ rest) ≡ numbers_after outside rest
before_read true rest = refl
before_read false rest = refl

-- an item has one number, its byte
number_read : (b : ℕ) (rest : List ℕ) → b < 256 → numbers_after outside (item_number b ++ rest) ≡ b ∷ numbers_after outside rest
number_read b rest below =
    let high = hex_digit (b / 16) in
    let low = hex_digit (b % 16) in
    ap (λ hex. numbers_after (if hex then digit_seen (digit_value high) else seen_after high) (low ∷ 44 ∷ rest)) (hex_back (b / 16) (omega arith))
    ∙ ap (λ hex. if hex then (16 * digit_value high + digit_value low) ∷ numbers_after inside (44 ∷ rest) else numbers_after (seen_after low) (44 ∷ rest)) (hex_back (b % 16) (omega arith))
    ∙ ap (λ n. n ∷ numbers_after outside rest) (bytes_back b below)
  where
    bytes_back : (b : ℕ) → b < 256 → 16 * digit_value (hex_digit (b / 16)) + digit_value (hex_digit (b % 16)) ≡ b
    bytes_back b below = rw (digit_back (b / 16) (omega arith), digit_back (b % 16) (omega arith)) (omega arith)

-- the items of bytes have these numbers
pub items_read : (i : ℕ) (bytes tail : List ℕ) → All (λ b. b < 256) bytes → numbers_after outside (items i bytes ++ tail) ≡ bytes ++ numbers_after outside tail
items_read i [] tail all = refl
items_read i (b ∷ bytes) tail all =
    ap (numbers_after outside) (append_assoc (before_item i) (item_number b ++ items (i + 1) bytes) tail)
    ∙ before_read (i % 16 == 0) (item_number b ++ (items (i + 1) bytes ++ tail))
    ∙ number_read b (items (i + 1) bytes ++ tail) (all_first b bytes all)
    ∙ ap (λ more. b ∷ more) (items_read (i + 1) bytes tail (all_rest b bytes all))
  where
    all_first : (b : ℕ) (bytes : List ℕ) → All (λ b. b < 256) (b ∷ bytes) → b < 256
    all_first b bytes all = search (rules, All-head)

    all_rest : (b : ℕ) (bytes : List ℕ) → All (λ b. b < 256) (b ∷ bytes) → All (λ b. b < 256) bytes
    all_rest b bytes all = All-tail (λ b. b < 256) b bytes all

-- two tests that both hold
first_holds : (a b : Bool) → (a && b) ≡ true → a ≡ true
first_holds true b e = refl
first_holds false b e = absurd (cc)

second_holds : (a b : Bool) → (a && b) ≡ true → b ≡ true
second_holds true b e = e
second_holds false b e = absurd (cc)

-- a byte of a word is one after which a word goes on
seen_inside : (c : ℕ) → is_in_word c ≡ true → seen_after c ≡ inside
seen_inside c is = ap (λ b. if b then inside else outside) is

-- a word goes on through bytes of words
word_read : (word rest : List ℕ) → are_in_word word ≡ true → numbers_after inside (word ++ rest) ≡ numbers_after inside rest
word_read [] rest all = refl
word_read (c ∷ word) rest all =
    ap (λ s. numbers_after s (word ++ rest)) (seen_inside c (first_holds (is_in_word c) (are_in_word word) all))
    ∙ word_read word rest (second_holds (is_in_word c) (are_in_word word) all)

-- a letter is no 0
letter_is_no_zero : (c : ℕ) → is_letter c ≡ true → (c == 48) ≡ false
letter_is_no_zero c is = grind (arith, nat_tests)

letter_in_word : (c : ℕ) → is_letter c ≡ true → is_in_word c ≡ true
letter_in_word c is = rw is refl

-- a name has no number
name_read : (name rest : List ℕ) → is_name name ≡ true → numbers_after outside (name ++ rest) ≡ numbers_after inside rest
name_read [] rest is = absurd (cc)
name_read (c ∷ word) rest is =
    let letter = first_holds (is_letter c) (are_in_word word) is in
    ap (λ b. numbers_after (if b then zero_seen else seen_after c) (word ++ rest)) (letter_is_no_zero c letter)
    ∙ ap (λ s. numbers_after s (word ++ rest)) (seen_inside c (letter_in_word c letter))
    ∙ word_read word rest (second_holds (is_letter c) (are_in_word word) is)

-- nor has a name that stands before another text and a rest
named : (name text rest : List ℕ) → is_name name ≡ true → numbers_after outside ((name ++ text) ++ rest) ≡ numbers_after inside (text ++ rest)
named name text rest is = ap (numbers_after outside) (append_assoc name text rest) ∙ name_read name (text ++ rest) is

-- a text that begins with letters alone up to the rest, as a kind does, leaves a word open
rust_type_read : (kind : TrieKind) (text rest : List ℕ) → numbers_after outside ((rattle_type kind ++ text) ++ rest) ≡ numbers_after inside (text ++ rest)
rust_type_read Simple text rest = refl
rust_type_read Ignore text rest = refl
rust_type_read Hash text rest = refl
rust_type_read Ext text rest = refl

c_kind_read : (kind : TrieKind) (text rest : List ℕ) → numbers_after outside ((c_kind kind ++ text) ++ rest) ≡ numbers_after inside (text ++ rest)
c_kind_read Simple text rest = refl
c_kind_read Ignore text rest = refl
c_kind_read Hash text rest = refl
c_kind_read Ext text rest = refl

rattle_type_read : (kind : TrieKind) (text : List ℕ) → numbers_after outside (rattle_type kind ++ text) ≡ numbers_after inside text
rattle_type_read Simple text = refl
rattle_type_read Ignore text = refl
rattle_type_read Hash text = refl
rattle_type_read Ext text = refl

-- so does the number of a kind before a semicolon
kind_number_read : (kind : TrieKind) (text rest : List ℕ) → numbers_after outside ((kind_number kind ++ (59 ∷ text)) ++ rest) ≡ numbers_after inside ((59 ∷ text) ++ rest)
kind_number_read Simple text rest = refl
kind_number_read Ignore text rest = refl
kind_number_read Hash text rest = refl
kind_number_read Ext text rest = refl

-- no number stands in the constants of C, if the text of the kind leaves a word open
constants_read : (kind name rest : List ℕ) → ((text rest : List ℕ) → numbers_after outside ((kind ++ (59 ∷ text)) ++ rest) ≡ numbers_after inside ((59 ∷ text) ++ rest)) → is_name name ≡ true
    → numbers_after outside (c_constants kind name ++ rest) ≡ numbers_after outside rest
constants_read kind name rest read is =
    let last = codes "_bytes[] = {" in
    let bytes = codes "\n\n/* Its bytes, and a zero. */\nstatic const uint8_t " ++ (name ++ last) in
    let kinds = codes "_kind = " ++ (kind ++ (59 ∷ bytes)) in
    named name kinds rest is ∙ read bytes rest ∙ named name last rest is

-- no number stands in front of the bytes
pub front_read : (language : Language) (kind : TrieKind) (name rest : List ℕ) → is_name name ≡ true → numbers_after outside (front language kind name ++ rest) ≡ numbers_after outside rest
front_read lang.Rust kind name rest is =
    let last = codes "::from_store(&[" in
    let made = codes "<&'static [u8]> =\n    zerotrie::" ++ (rattle_type kind ++ last) in
    let types = codes ": zerotrie::" ++ (rattle_type kind ++ made) in
    let static = codes ".get(key)` is the value of a key.\npub static " ++ (name ++ types) in
    named name static rest is ∙ named name types rest is ∙ rust_type_read kind made rest ∙ rust_type_read kind last rest
front_read lang.C kind name rest is = constants_read (c_kind kind) name rest (λ text. c_kind_read kind (59 ∷ text)) is
front_read lang.CAlone kind name rest is = constants_read (kind_number kind) name rest (kind_number_read kind) is
front_read lang.Rattle kind name rest is = named name (codes "(key: &[u8]) -> Option<usize> {\n    static BYTES: &[u8] = &[") rest is
front_read lang.JavaScript kind name rest is =
    let last = codes " = new ZeroTrie(new Uint8Array([" in
    let constant = codes ".get(key)` is the value of a key. */\nexport const " ++ (name ++ last) in
    named name constant rest is ∙ named name last rest is

-- nor after the bytes of C
c_end_read : (call name : List ℕ) → ((rest : List ℕ) → numbers_after inside (call ++ rest) ≡ numbers_after outside rest) → is_name name ≡ true → numbers_after outside (c_end call name) ≡ []
c_end_read call name read is =
    let less = codes "_bytes - 1;\n" in
    let size = codes "_len = sizeof " ++ (name ++ less) in
    let last = codes "_len, (const uint8_t *)key, key_len, value);\n}\n" in
    let len = codes "_bytes, " ++ (name ++ last) in
    let bytes = codes "_kind, " ++ (name ++ len) in
    let get = c_get call name in
    named name size get is ∙ named name less get is ∙ name_read name (call ++ (name ++ bytes)) is ∙ read (name ++ bytes) ∙ name_read name bytes is ∙ name_read name len is ∙ name_read name last is

js_end_read : (kind : TrieKind) → numbers_after outside (js_end kind) ≡ []
js_end_read Simple = refl
js_end_read Ignore = refl
js_end_read Hash = refl
js_end_read Ext = refl

-- and none after them
pub end_read : (language : Language) (kind : TrieKind) (name : List ℕ) → is_name name ≡ true → numbers_after outside (end language kind name) ≡ []
end_read lang.Rust kind name is = refl
end_read lang.C kind name is = c_end_read c_call name (λ rest. refl) is
end_read lang.CAlone kind name is = c_end_read alone_call name (λ rest. refl) is
end_read lang.Rattle kind name is = rattle_type_read kind (codes "::from_bytes(BYTES).get(key)\n}\n")
end_read lang.JavaScript kind name is = js_end_read kind

-- a digit is neither the end of a list nor a comma
no_end : (n : ℕ) → n < 16 → (hex_digit n == 125) ≡ false
no_end n below = grind (arith, nat_tests)

no_comma : (n : ℕ) → n < 16 → (hex_digit n == 44) ≡ false
no_comma n below = grind (arith, nat_tests)

digit_counted : (n : ℕ) (rest : List ℕ) → n < 16 → items_before_end (hex_digit n ∷ rest) ≡ items_before_end rest
digit_counted n rest below =
    ap (λ b. if b then 1 else (if hex_digit n == 44 then 1 + items_before_end rest else items_before_end rest)) (no_end n below)
    ∙ ap (λ b. if b then 1 + items_before_end rest else items_before_end rest) (no_comma n below)

before_counted : (first : Bool) (rest : List ℕ) → items_before_end ((if first then codes "\n    " else codes " ") ++ rest) ≡ items_before_end rest
before_counted true rest = refl
before_counted false rest = refl

number_counted : (b : ℕ) (rest : List ℕ) → b < 256 → items_before_end (item_number b ++ rest) ≡ 1 + items_before_end rest
number_counted b rest below = digit_counted (b / 16) (hex_digit (b % 16) ∷ 44 ∷ rest) (omega arith) ∙ digit_counted (b % 16) (44 ∷ rest) (omega arith)

-- each byte is an item
pub items_counted : (i : ℕ) (bytes tail : List ℕ) → All (λ b. b < 256) bytes → items_before_end (items i bytes ++ tail) ≡ length bytes + items_before_end tail
items_counted i [] tail all = omega arith
items_counted i (b ∷ bytes) tail all =
    let first : b < 256 = search (rules, All-head) in
    let rest = items_counted (i + 1) bytes tail (All-tail (λ b. b < 256) b bytes all) in
    ap items_before_end (append_assoc (before_item i) (item_number b ++ items (i + 1) bytes) tail)
    ∙ before_counted (i % 16 == 0) (item_number b ++ (items (i + 1) bytes ++ tail))
    ∙ number_counted b (items (i + 1) bytes ++ tail) first
    ∙ omega (arith, rest)

-- no brace stands in a name
no_brace : (c : ℕ) → is_in_word c ≡ true → (c == 123) ≡ false
no_brace c is = grind (arith, nat_tests)

word_passed : (word rest : List ℕ) → are_in_word word ≡ true → items_in_braces (word ++ rest) ≡ items_in_braces rest
word_passed [] rest all = refl
word_passed (c ∷ word) rest all =
    ap (λ b. if b then items_before_end (word ++ rest) else items_in_braces (word ++ rest)) (no_brace c (first_holds (is_in_word c) (are_in_word word) all))
    ∙ word_passed word rest (second_holds (is_in_word c) (are_in_word word) all)

name_is_word : (name : List ℕ) → is_name name ≡ true → are_in_word name ≡ true
name_is_word [] is = absurd (cc)
name_is_word (c ∷ word) is =
    ap (λ b. b && are_in_word word) (letter_in_word c (first_holds (is_letter c) (are_in_word word) is)) ∙ second_holds (is_letter c) (are_in_word word) is

name_passed : (name text rest : List ℕ) → is_name name ≡ true → items_in_braces ((name ++ text) ++ rest) ≡ items_in_braces (text ++ rest)
name_passed name text rest is = ap items_in_braces (append_assoc name text rest) ∙ word_passed name (text ++ rest) (name_is_word name is)

c_kind_passed : (kind : TrieKind) (text rest : List ℕ) → items_in_braces ((c_kind kind ++ text) ++ rest) ≡ items_in_braces (text ++ rest)
c_kind_passed Simple text rest = refl
c_kind_passed Ignore text rest = refl
c_kind_passed Hash text rest = refl
c_kind_passed Ext text rest = refl

kind_number_passed : (kind : TrieKind) (text rest : List ℕ) → items_in_braces ((kind_number kind ++ text) ++ rest) ≡ items_in_braces (text ++ rest)
kind_number_passed Simple text rest = refl
kind_number_passed Ignore text rest = refl
kind_number_passed Hash text rest = refl
kind_number_passed Ext text rest = refl

constants_passed : (kind name rest : List ℕ) → ((text rest : List ℕ) → items_in_braces ((kind ++ text) ++ rest) ≡ items_in_braces (text ++ rest)) → is_name name ≡ true
    → items_in_braces (c_constants kind name ++ rest) ≡ items_before_end rest
constants_passed kind name rest passed is =
    let last = codes "_bytes[] = {" in
    let bytes = codes ";\n\n/* Its bytes, and a zero. */\nstatic const uint8_t " ++ (name ++ last) in
    let kinds = codes "_kind = " ++ (kind ++ bytes) in
    name_passed name kinds rest is ∙ passed bytes rest ∙ name_passed name last rest is

-- the first brace is the one in front of the bytes
pub front_passed : (language : Language) (kind : TrieKind) (name rest : List ℕ) → IsC language → is_name name ≡ true → items_in_braces (front language kind name ++ rest) ≡ items_before_end rest
front_passed lang.Rust kind name rest c is = absurd c
front_passed lang.C kind name rest c is = constants_passed (c_kind kind) name rest (c_kind_passed kind) is
front_passed lang.CAlone kind name rest c is = constants_passed (kind_number kind) name rest (kind_number_passed kind) is
front_passed lang.Rattle kind name rest c is = absurd c
front_passed lang.JavaScript kind name rest c is = absurd c

-- what stands behind the bytes has one item more
pub end_passed : (language : Language) (kind : TrieKind) (name : List ℕ) → IsC language → items_before_end (end language kind name) ≡ 1
end_passed lang.Rust kind name c = absurd c
end_passed lang.C kind name c = refl
end_passed lang.CAlone kind name c = refl
end_passed lang.Rattle kind name c = absurd c
end_passed lang.JavaScript kind name c = absurd c
