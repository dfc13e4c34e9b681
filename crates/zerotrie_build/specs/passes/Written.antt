-- The front of a text, and the store that the text is written into.
use Rattle.std.specs.Prelude.{ℕ, List, length, take}

-- the bytes of a text that are written, and how many the text has in the end
pub record Written : Type 0 where
  pub bytes : List ℕ
  pub len : ℕ

-- the bytes of a store as far as a place are written
abbrev pub written_to : List ℕ → ℕ → Written
written_to store place = record { bytes = take place store; len = length store }
