-- The laws of the dense table over the definitions alone, and what the calls promise.
use Rattle.std.specs.Prelude.{◌≡◌, ℕ, ◌+◌, ◌*◌, ◌^◌, ◌-◌, ◌<◌, ◌≤◌, ◌⊎◌, ◌==◌, ◌||◌, nat_le, List, [], ◌∷◌, ◌++◌, length, Option, Some, None, if◌then◌else◌, Result, MatchResult, cond}
use Rattle.std.specs.List.{list_any}
use Rattle.zerotrie_core.specs.Kind.{simple_ascii}
use Rattle.zerotrie_core.specs.Maps.{Map, look}
use Rattle.zerotrie_core.specs.Texts.{Means}
use Rattle.zerotrie_core.specs.declared.ZeroTrieBuildError.{ZeroTrieBuildError}
use Rattle.zerotrie_core.specs.declared.ZeroTrieBuildError.TheVariants.{OutOfMemory}
use Rattle.zerotrie.specs.dense.Rows.{Rows, entry}
use Rattle.zerotrie.specs.dense.Windows.{count_within, fullest}
use Rattle.zerotrie.specs.dense.Records.{Parts, record_of, asked}
use Rattle.zerotrie.specs.dense.Tables.{IsDenseTable, DenseCause}

-- no 65,535 consecutive numbers hold more of the values than the window of the offset
abbrev pub FullestIsBest : Type 0
FullestIsBest = (values : List ℕ) (start : ℕ) → count_within values start ≤ count_within values (fullest values)

-- the number in a cell of a matrix's bytes, if there is one
abbrev pub cell_at : List ℕ → ℕ → Option ℕ
cell_at [] n = None
cell_at (b ∷ []) n = None
cell_at (b ∷ c ∷ more) n = if n == 0 then Some (b + 256 * c) else cell_at more (n - 1)

-- the value of a cell: none for 65535 or no cell, nor from 2 ^ 64 on
abbrev pub value_of : ℕ → Option ℕ → Option ℕ
value_of offset None = None
value_of offset (Some cell) = if cell == 65535 || nat_le (2 ^ 64) (offset + cell) then None else Some (offset + cell)

-- the value in the matrix, of a row with this number and offset and of a column, if these are there
abbrev pub in_matrix : Parts → ℕ → Option ℕ → Option ℕ → Option ℕ
in_matrix t row None column = None
in_matrix t row (Some offset) None = None
in_matrix t row (Some offset) (Some column) = value_of offset (cell_at t.matrix (row * t.suffix_count + column))

-- a value, or else another
abbrev pub or_else : Option ℕ → Option ℕ → Option ℕ
or_else None other = other
or_else (Some v) other = Some v

-- what is beside the matrix under a suffix that is not empty
abbrev pub beside_matrix : Parts → Map → List ℕ → List ℕ → Option ℕ
beside_matrix t primary prefix [] = None
beside_matrix t primary prefix (b ∷ suffix) = look simple_ascii primary (prefix ++ (t.delimiter ∷ (b ∷ suffix)))

-- the result of a dense row: a value beside the matrix, else the matrix's
abbrev pub in_row : Parts → Map → Map → List ℕ → List ℕ → ℕ → Option ℕ
in_row t primary columns prefix suffix row = or_else (beside_matrix t primary prefix suffix)
    (in_matrix t row (look simple_ascii primary (prefix ++ (t.delimiter ∷ []))) (look simple_ascii columns suffix))

-- what the maps and the matrix answer for a prefix with this row number, or with none
abbrev pub by_row : Parts → Map → Map → List ℕ → List ℕ → Option ℕ → Option ℕ
by_row t primary columns prefix suffix None = look simple_ascii primary (prefix ++ (t.delimiter ∷ suffix))
by_row t primary columns prefix suffix (Some row) = in_row t primary columns prefix suffix row

-- none if a text holds the delimiter (or is not ASCII: such a text is no key); else by the prefix's row number
abbrev pub answer : Parts → Map → Map → List ℕ → List ℕ → Option ℕ
answer t primary columns prefix suffix = cond (list_any (λ b. b == t.delimiter) (prefix ++ suffix)) None
    (by_row t primary columns prefix suffix (look simple_ascii primary prefix))

-- what `get` promises: on tries that mean maps their answer, and on the table of rows the entry, for every two texts
abbrev pub Answers : Parts → List ℕ → List ℕ → Option ℕ → Type 0
Answers t prefix suffix result = (delimiter : ℕ) (rows : Rows) → IsDenseTable delimiter rows t → result ≡ entry rows prefix suffix

abbrev pub AnswersByMaps : Parts → List ℕ → List ℕ → Option ℕ → Type 0
AnswersByMaps t prefix suffix result = (primary columns : Map) → Means simple_ascii t.primary primary → Means simple_ascii t.suffixes columns
    → result ≡ answer t primary columns prefix suffix

-- by which the second gives the first
abbrev pub AnswerIsEntry : Type 0
AnswerIsEntry = (delimiter : ℕ) (rows : Rows) (t : Parts) (primary columns : Map) → IsDenseTable delimiter rows t
    → Means simple_ascii t.primary primary → Means simple_ascii t.suffixes columns
    → (prefix suffix : List ℕ) → answer t primary columns prefix suffix ≡ entry rows prefix suffix

-- what a dense build promises
abbrev pub IsDenseBuild : {B : Type 0} → (B → Parts) → ℕ → Rows → Result B ZeroTrieBuildError → Type 0
IsDenseBuild parts delimiter rows result =
    MatchResult result (λ t. IsDenseTable delimiter rows (parts t)) (λ e. (e ≡ OutOfMemory) ⊎ DenseCause delimiter rows e)

-- parts that a record can hold
pub record IsWhole (t : Parts) : Type 0 where
  pub count : t.suffix_count < 65536
  pub delimiter : t.delimiter < 256
  pub primary : length t.primary < 2 ^ 64
  pub suffixes : length t.suffixes < 2 ^ 64
  pub half : ℕ
  pub even : length t.matrix ≡ 2 * half
  pub matrix : half < 2 ^ 64

-- a record asks for its own length, and different parts have different records
abbrev pub RecordAsks : Type 0
RecordAsks = (t : Parts) → IsWhole t → asked (record_of t) ≡ length (record_of t)

abbrev pub RecordIsOne : Type 0
RecordIsOne = (s t : Parts) → IsWhole s → IsWhole t → record_of s ≡ record_of t → s ≡ t
