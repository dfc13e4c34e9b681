-- What was read of a stream.
use Rattle.std.specs.Prelude.{◌≡◌, List, ℕ, ◌++◌, Option, Bool, true}
use Rattle.std.specs.Io.KnownBytes.{Consumes, IsAtEnd}

-- What one read of a stream gave to the bytes that were held, and whether the stream has ended.
pub record Gives (old new : Option (List ℕ)) (held more : List ℕ) (ended : Bool) : Type 0 where
  pub bytes : List ℕ
  pub consumes : Consumes old new bytes
  pub adds : more ≡ held ++ bytes
  pub at_end : ended ≡ true → IsAtEnd new
