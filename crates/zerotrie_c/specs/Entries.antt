-- Entries of a dense table as C gives them, and their rows.
use Rattle.std.specs.Prelude.{ℕ, ◌≤◌, List, [], ◌∷◌, if◌then◌else◌, Any}
use Rattle.std.proofs.Common.{zero, suc, get_or}
use Rattle.zerotrie_core.specs.Kind.{simple_ascii}
use Rattle.zerotrie_core.specs.Maps.{same_key}
use Rattle.zerotrie_core.specs.declared.ZeroTrieBuildError.{ZeroTrieBuildError}
use Rattle.zerotrie_core.specs.declared.ZeroTrieBuildError.TheVariants.{NonAsciiError, CapacityExceeded, CouldNotSolvePerfectHash, MixedCase, IllegalDelimiter, DuplicateKey, Unsorted, BufferTooSmall, BufferTooLarge, StackExceeded, OutOfMemory}
use Rattle.zerotrie.specs.dense.Rows.{Rows, texts, IsInOrder}
use Rattle.zerotrie_c.specs.Keys.{keys_from}

-- entries: a prefix, a suffix, and the value of both
abbrev pub Entries : Type 0
Entries = List (List ℕ × List ℕ × ℕ)

-- the entries of three lists, as many as the shortest has
abbrev pub entries_of : List (List ℕ) → List (List ℕ) → List ℕ → Entries
entries_of [] suffixes values = []
entries_of (p ∷ prefixes) [] values = []
entries_of (p ∷ prefixes) (s ∷ suffixes) [] = []
entries_of (p ∷ prefixes) (s ∷ suffixes) (v ∷ values) = (p, s, v) ∷ entries_of prefixes suffixes values

-- rows with an entry in front of them: in the first row if that has its prefix, and else in a row of its own
abbrev pub entry_before : List ℕ × List ℕ × ℕ → Rows → Rows
entry_before e [] = (e.0, (e.1, e.2) ∷ []) ∷ []
entry_before e (row ∷ rows) =
    if same_key simple_ascii e.0 row.0 then (row.0, (e.1, e.2) ∷ row.1) ∷ rows else (e.0, (e.1, e.2) ∷ []) ∷ row ∷ rows

-- the rows of entries: those that follow one another with one prefix are a row
abbrev pub rows_of : Entries → Rows
rows_of [] = []
rows_of (e ∷ entries) = entry_before e (rows_of entries)

-- the rows of the texts that lie one after another up to these ends, and of the values
abbrev pub rows_given : List ℕ → List ℕ → List ℕ → List ℕ → List ℕ → Rows
rows_given prefixes prefix_ends suffixes suffix_ends values =
    rows_of (entries_of (keys_from 0 prefixes prefix_ends) (keys_from 0 suffixes suffix_ends) values)

-- a word of private functions: where the key of a number begins
abbrev pub start_at : List ℕ → ℕ → ℕ
start_at ends zero = 0
start_at ends (suc n) = get_or ends n 0

-- a word of private functions: why rows are not put into maps
abbrev pub NoRows : Rows → ZeroTrieBuildError → Type 0
NoRows rows NonAsciiError = Any (λ text. Any (λ b. 128 ≤ b) text) (texts rows)
NoRows rows CapacityExceeded = ⊥
NoRows rows CouldNotSolvePerfectHash = ⊥
NoRows rows MixedCase = ⊥
NoRows rows IllegalDelimiter = ⊥
NoRows rows DuplicateKey = ⊥
NoRows rows Unsorted = IsInOrder rows → ⊥
NoRows rows BufferTooSmall = ⊥
NoRows rows (BufferTooLarge needed) = ⊥
NoRows rows StackExceeded = ⊥
NoRows rows OutOfMemory = Unit {0}
