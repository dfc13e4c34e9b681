-- Dense tables as C is told of them.
use Rattle.std.specs.Prelude.{◌≡◌, ℕ, ◌⊎◌, List, Option, Some, None}
use Rattle.zerotrie_core.specs.declared.ZeroTrieBuildError.{ZeroTrieBuildError}
use Rattle.zerotrie_core.specs.declared.ZeroTrieBuildError.TheVariants.{Unsorted, OutOfMemory}
use Rattle.zerotrie.specs.dense.Laws.{Answers, AnswersByMaps}
use Rattle.zerotrie.specs.dense.Records.{Parts, record_of}
use Rattle.zerotrie.specs.dense.Rows.{Rows, IsInOrder}
use Rattle.zerotrie.specs.dense.Tables.{IsDenseTable, DenseCause}
use Rattle.zerotrie_c.specs.Builds.{IsHandedOut}
use Rattle.zerotrie_c.specs.Statuses.{done, no_entry, status_of}

-- what an answer of a table is told as: its value, or that there is none, and then nothing is written
abbrev pub IsEntryTold : Option ℕ → ℕ → ℕ → ℕ → Type 0
IsEntryTold None status old value = (status ≡ no_entry) × (value ≡ old)
IsEntryTold (Some n) status old value = (status ≡ done) × (value ≡ n)

-- what is told of a look-up in a table: an answer that `get` may have
abbrev pub IsDenseAnswerTold : Parts → List ℕ → List ℕ → ℕ → ℕ → ℕ → Type 0
IsDenseAnswerTold t prefix suffix status old value =
    (answer : Option ℕ) × Answers t prefix suffix answer × AnswersByMaps t prefix suffix answer × IsEntryTold answer status old value

-- why a table of rows is not built: an allocation failed, a cause of the library's build, or the rows are not in order
abbrev pub IsDenseRefusal : ℕ → Rows → ZeroTrieBuildError → Type 0
IsDenseRefusal delimiter rows e = (e ≡ OutOfMemory) ⊎ (DenseCause delimiter rows e ⊎ ((e ≡ Unsorted) × (IsInOrder rows → ⊥)))

-- what is told of a build of the rows: the record of their table is handed out, or the refusal's number, and then
-- nothing is written
abbrev pub IsDenseBuildTold : ℕ → Rows → ℕ → ℕ → ℕ → List ℕ → List ℕ → Type 0
IsDenseBuildTold delimiter rows status old_len len old out =
    ((t : Parts) × IsDenseTable delimiter rows t × IsHandedOut (record_of t) status len old out)
    ⊎ ((e : ZeroTrieBuildError) × IsDenseRefusal delimiter rows e × (status ≡ status_of e) × (len ≡ old_len) × (out ≡ old))
