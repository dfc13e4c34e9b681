-- Zeros at the end of a list of bytes, and bytes that are set in their place.
use Rattle.std.specs.Prelude.{◌≡◌, ℕ, ◌+◌, ◌-◌, ◌^◌, ◌<◌, ◌≤◌, List, ◌++◌, length, take, drop, replicate}

-- The bytes from a place on are zeros, and all bytes can be counted.
pub record IsClear (list : List ℕ) (place : ℕ) : Type 0 where
  pub within : place ≤ length list
  pub zeros : drop place list ≡ replicate (length list - place) 0
  pub short : length list < 2 ^ 64

-- the list with these bytes from a place on
abbrev pub set_to : List ℕ → ℕ → List ℕ → List ℕ
set_to list place bytes = (take place list ++ bytes) ++ drop (place + length bytes) list
