-- The names that code can have.
use Rattle.std.specs.Prelude.{ℕ, List, [], ◌∷◌, Bool, true, false, nat_le, ◌==◌, ◌&&◌, ◌||◌}

-- an ASCII letter, or `_`
abbrev pub is_letter : ℕ → Bool
is_letter c = (nat_le 97 c && nat_le c 122) || ((nat_le 65 c && nat_le c 90) || c == 95)

-- one of these, or an ASCII digit
abbrev pub is_in_word : ℕ → Bool
is_in_word c = is_letter c || (nat_le 48 c && nat_le c 57)

-- each of them is
abbrev pub are_in_word : List ℕ → Bool
are_in_word [] = true
are_in_word (c ∷ rest) = is_in_word c && are_in_word rest

-- a name: a letter, and after it letters and digits
abbrev pub is_name : List ℕ → Bool
is_name [] = false
is_name (c ∷ rest) = is_letter c && are_in_word rest
