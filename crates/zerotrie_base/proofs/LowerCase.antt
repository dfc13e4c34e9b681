-- The table of bytes in lower case.
use Rattle.std.proofs.Common.{◌≡◌, ℕ, ◌<◌, List, map, get_or, ◌∙◌, ap, arith}
use Rattle.std.specs.Char.{to_ascii_lowercase}
use Rattle.std.specs.List.{range_with_len}
use Rattle.std.proofs.lemmas.List.FromFn.{get_or-map-range_with_len}

-- the byte at a place of the table
pub lower_at : (xs : List ℕ) → xs ≡ map to_ascii_lowercase (range_with_len 0 256) → (b : ℕ) → b < 256 → get_or xs b 0 ≡ to_ascii_lowercase b
lower_at xs e b h = ap (λ r. get_or r b 0) e ∙ get_or-map-range_with_len to_ascii_lowercase 0 256 b b 0 h (omega arith)
