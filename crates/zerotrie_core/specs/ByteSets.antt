-- Sets of bytes.
use Rattle.std.specs.Prelude.{ℕ, Bool, ◌/◌, ◌%◌, ◌==◌, slice_index}
use Rattle.std.specs.Int.{bit_at}
use Rattle.zerotrie_core.specs.declared.byte_set.ByteSet.{ByteSet}

-- whether the byte is in the set, which has a bit for each byte
unfoldable pub is_in : ByteSet → ℕ → Bool
is_in set byte = bit_at (slice_index set.words (byte / 64)) (byte % 64) == 1
