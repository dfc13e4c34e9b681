-- What clauses see of a reader or writer with flags.
use Rattle.std.specs.Prelude.{ℕ, List, Bool, false, ◌&&◌, ◌==◌, nat_lt, length, Result, Ok, Err}

-- the reader or writer itself, whether some call of it failed, and whether some read found the end
pub record Watched (T : Type 0) : Type 0 where
  pub inner : T
  pub failed : Bool
  pub ended : Bool

-- whether a read found the end: it returned no byte, and the buffer has room for one
abbrev pub found_end : {E : Type 0} → Result ℕ E → List ℕ → Bool
found_end (Ok count) buffer = (count == 0) && nat_lt 0 (length buffer)
found_end (Err e) buffer = false
