-- Bytes of a stream that are lines, as they come.
use Rattle.std.specs.Prelude.{◌≡◌, List, ℕ, ◌++◌, ◌<◌, length, slice_index}
use Rattle.zerotrie_lines.specs.Lines.{lines_of}

-- bytes that are whole lines: what comes after them begins a line of its own
abbrev pub AreWhole : List ℕ → Type 0
AreWhole bytes = (rest : List ℕ) → lines_of (bytes ++ rest) ≡ lines_of bytes ++ lines_of rest

-- a line feed is at a place
abbrev pub HasFeed : List ℕ → ℕ → Type 0
HasFeed bytes k = (k < length bytes) × (slice_index bytes k ≡ 10)
