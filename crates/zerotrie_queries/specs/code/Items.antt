-- Bytes as the items of a constant, and what is read of them.
use Rattle.std.specs.Prelude.{ℕ, ◌+◌, ◌-◌, ◌*◌, ◌/◌, ◌%◌, ◌==◌, ◌&&◌, ◌||◌, Bool, nat_lt, nat_le, List, [], ◌∷◌, ◌++◌, codes, if◌then◌else◌}
use Rattle.zerotrie_lines.specs.Escapes.{hex_digit}
use Rattle.zerotrie_queries.specs.code.Names.{is_in_word}

-- what is before item number i: a new line before each sixteenth
abbrev pub before_item : ℕ → List ℕ
before_item i = if i % 16 == 0 then codes "\n    " else codes " "

-- a byte in hexadecimal, and a comma
abbrev pub item_number : ℕ → List ℕ
item_number b = 48 ∷ 120 ∷ hex_digit (b / 16) ∷ hex_digit (b % 16) ∷ 44 ∷ []

-- bytes as items, of which the first has this number
abbrev pub items : ℕ → List ℕ → List ℕ
items i [] = []
items i (b ∷ bytes) = before_item i ++ (item_number b ++ items (i + 1) bytes)

-- What was read last: no part of a word, part of a word that is no such number or comes after it, a 0 that begins a
-- word, the 0x that does, or that and its first digit of this value.
pub data Seen : Type 0 where
  outside : Seen
  inside : Seen
  zero_seen : Seen
  x_seen : Seen
  digit_seen : ℕ → Seen

-- a hexadecimal digit in lower case
abbrev pub is_hex : ℕ → Bool
is_hex c = (nat_le 48 c && nat_le c 57) || (nat_le 97 c && nat_le c 102)

-- its value
abbrev pub digit_value : ℕ → ℕ
digit_value c = if nat_lt c 58 then c - 48 else c - 87

-- what was seen after a byte that begins no number
abbrev pub seen_after : ℕ → Seen
seen_after c = if is_in_word c then inside else outside

-- the words of a text that begin with 0x and two hexadecimal digits, as numbers, after what was seen of the first
abbrev pub numbers_after : Seen → List ℕ → List ℕ
numbers_after s [] = []
numbers_after outside (c ∷ text) = numbers_after (if c == 48 then zero_seen else seen_after c) text
numbers_after inside (c ∷ text) = numbers_after (seen_after c) text
numbers_after zero_seen (c ∷ text) = numbers_after (if c == 120 then x_seen else seen_after c) text
numbers_after x_seen (c ∷ text) = numbers_after (if is_hex c then digit_seen (digit_value c) else seen_after c) text
numbers_after (digit_seen d) (c ∷ text) =
    if is_hex c then (16 * d + digit_value c) ∷ numbers_after inside text else numbers_after (seen_after c) text

-- the words of a text that begin with 0x and two hexadecimal digits, as numbers
abbrev pub numbers_in : List ℕ → List ℕ
numbers_in text = numbers_after outside text
