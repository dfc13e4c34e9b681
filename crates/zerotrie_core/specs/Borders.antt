-- The longest prefix of a text that is a key and ends at a border of the text.
use Rattle.std.specs.Prelude.{ℕ, List, [], ◌∷◌, length, drop, ◌==◌, ◌||◌, Bool, true, Option, None, if◌then◌else◌}
use Rattle.std.specs.List.{list_any}
use Rattle.zerotrie_base.specs.Kind.{Kind}
use Rattle.zerotrie_base.specs.Maps.{Map, look}
use Rattle.zerotrie_core.specs.Prefixes.{IsLongest}

-- nothing is left of a text, or a delimiter is next
abbrev pub is_end : List ℕ → List ℕ → Bool
is_end delimiters [] = true
is_end delimiters (b ∷ rest) = list_any (λ d. d == b) delimiters

-- A border of a text is its beginning, its end, or a place with a delimiter next: whether one is
-- after this many bytes.
abbrev pub is_border : List ℕ → List ℕ → ℕ → Bool
is_border delimiters text len = (len == 0) || is_end delimiters (drop len text)

-- the values of those keys alone that end at a border of the text that begins with them
abbrev pub at_borders : List ℕ → List ℕ → (List ℕ → Option ℕ) → List ℕ → Option ℕ
at_borders delimiters text at key = if is_border delimiters text (length key) then at key else None

-- the answer is the length and the value of the longest key of the map that the text begins with
-- and that ends at a border of the text, if there is one
abbrev pub IsLongestPrefixAt : Kind → Map → List ℕ → List ℕ → Option (ℕ × ℕ) → Type 0
IsLongestPrefixAt kind m delimiters text answer = IsLongest (at_borders delimiters text (look kind m)) text (length text) answer
