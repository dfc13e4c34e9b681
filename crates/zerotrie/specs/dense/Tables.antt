-- What the parts of a built table are, and why a build fails.
use Rattle.std.specs.Prelude.{◌≡◌, ℕ, ◌<◌, ◌≤◌, ◌^◌, ◌⊎◌, length, All, Any, Contains}
use Rattle.zerotrie_core.specs.Kind.{simple_ascii}
use Rattle.zerotrie_core.specs.Maps.{map_of}
use Rattle.zerotrie_core.specs.Canonical.{enc}
use Rattle.zerotrie_core.specs.Fits.{Fits, ExceedsCapacity}
use Rattle.zerotrie_core.specs.declared.ZeroTrieBuildError.{ZeroTrieBuildError}
use Rattle.zerotrie_core.specs.declared.ZeroTrieBuildError.TheVariants.{NonAsciiError, CapacityExceeded, CouldNotSolvePerfectHash, MixedCase, IllegalDelimiter, DuplicateKey, Unsorted, BufferTooSmall, BufferTooLarge, StackExceeded, OutOfMemory}
use Rattle.zerotrie.specs.dense.Rows.{Rows, texts, suffixes, IsInOrder}
use Rattle.zerotrie.specs.dense.Windows.{inside}
use Rattle.zerotrie.specs.dense.Layout.{primary, columns, matrix}
use Rattle.zerotrie.specs.dense.Records.{Parts, matrix_bytes}

-- the parts of the table of these rows
abbrev pub table_of : ℕ → Rows → Parts
table_of delimiter rows = record {
  suffix_count = length (suffixes rows);
  delimiter = delimiter;
  primary = enc simple_ascii (primary delimiter rows);
  suffixes = enc simple_ascii (columns rows);
  matrix = matrix_bytes (matrix rows);
}

-- a text or the delimiter is not ASCII
abbrev pub IsNonAscii : ℕ → Rows → Type 0
IsNonAscii delimiter rows = (128 ≤ delimiter) ⊎ Any (λ text. Any (λ b. 128 ≤ b) text) (texts rows)

-- a text holds the delimiter
abbrev pub HoldsDelimiter : ℕ → Rows → Type 0
HoldsDelimiter delimiter rows = Any (λ text. Contains text delimiter) (texts rows)

-- The parts are the table of these rows, which are in order and in range, and both tries have a text.
pub record IsDenseTable (delimiter : ℕ) (rows : Rows) (parts : Parts) : Type 0 where
  pub in_order : IsInOrder rows
  pub values : All (λ row. All (λ e. e.1 < 2 ^ 64) row.1) rows
  pub ascii : IsNonAscii delimiter rows → ⊥
  pub apart : HoldsDelimiter delimiter rows → ⊥
  pub few : length (suffixes rows) ≤ 65535
  pub primary_fits : Fits simple_ascii (primary delimiter rows)
  pub columns_fit : Fits simple_ascii (columns rows)
  pub parts_are : parts ≡ table_of delimiter rows

-- The cause of a refusal of a dense build.
abbrev pub DenseCause : ℕ → Rows → ZeroTrieBuildError → Type 0
DenseCause delimiter rows NonAsciiError = IsNonAscii delimiter rows
DenseCause delimiter rows IllegalDelimiter = HoldsDelimiter delimiter rows
DenseCause delimiter rows CapacityExceeded = (65535 < length (suffixes rows)) ⊎ ((IsNonAscii delimiter rows → ⊥)
    × (HoldsDelimiter delimiter rows → ⊥) × (ExceedsCapacity simple_ascii (primary delimiter rows)
    ⊎ ExceedsCapacity simple_ascii (columns rows) ⊎ Any (λ row. ExceedsCapacity simple_ascii (map_of (inside row.1))) rows))
DenseCause delimiter rows CouldNotSolvePerfectHash = ⊥
DenseCause delimiter rows MixedCase = ⊥
DenseCause delimiter rows DuplicateKey = ⊥
DenseCause delimiter rows Unsorted = ⊥
DenseCause delimiter rows BufferTooSmall = ⊥
DenseCause delimiter rows (BufferTooLarge needed) = ⊥
DenseCause delimiter rows StackExceeded = ⊥
DenseCause delimiter rows OutOfMemory = ⊥
