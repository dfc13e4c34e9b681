-- A cursor by numbers.
use Rattle.std.specs.Prelude.{ℕ, ◌-◌, ◌&&◌, List, Bool, length, take, drop, nat_le, if◌then◌else◌}
use Rattle.zerotrie_core.specs.Places.{Place, nowhere}
use Rattle.zerotrie_core.specs.declared.cursor_place.CursorPlace.{CursorPlace}

-- the bytes from one number to another
abbrev pub between : List ℕ → ℕ → ℕ → List ℕ
between bytes from to = take (to - from) (drop from bytes)

-- whether the numbers ascend, and are not beyond the bytes
abbrev pub is_in : List ℕ → CursorPlace → Bool
is_in bytes p = nat_le p.run p.trie && nat_le p.trie p.end && nat_le p.end (length bytes)

-- the run and the trie between the numbers
abbrev pub parts_at : List ℕ → CursorPlace → Place
parts_at bytes p = record { run = between bytes p.run p.trie; trie = between bytes p.trie p.end }

-- the cursor that the numbers are
abbrev pub cursor_at : List ℕ → CursorPlace → Place
cursor_at bytes p = if is_in bytes p then parts_at bytes p else nowhere

-- the numbers of an empty cursor
abbrev pub zeros : CursorPlace
zeros = record { run = 0; trie = 0; end = 0 }
