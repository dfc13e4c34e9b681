-- A search along a text.
use Rattle.std.specs.Prelude.{ℕ, Option, Some, None}

-- a value found after this many bytes replaces one found before
abbrev pub noted : Option ℕ → ℕ → Option (ℕ × ℕ) → Option (ℕ × ℕ)
noted None len found = found
noted (Some value) len found = Some (len, value)
