-- What is told of dense tables.
use Rattle.std.proofs.Common.{◌≡◌, ◌≢◌, ◌<◌, ℕ, Option, Some, None, Result, Ok, Err, arith, inl, inr, refl, subst}
use Rattle.zerotrie_core.specs.declared.ZeroTrieBuildError.{ZeroTrieBuildError}
use Rattle.zerotrie_core.specs.declared.ZeroTrieBuildError.TheVariants.{NonAsciiError, CapacityExceeded, CouldNotSolvePerfectHash, MixedCase, IllegalDelimiter, DuplicateKey, Unsorted, BufferTooSmall, BufferTooLarge, StackExceeded, OutOfMemory}
use Rattle.zerotrie.specs.dense.Rows.{Rows}
use Rattle.zerotrie_c.specs.Dense.{IsEntryTold, IsDenseRefusal}
use Rattle.zerotrie_c.specs.Entries.{NoRows}

-- what is well is no error
abbrev IsFine : {T E : Type 0} → Result T E → Type 0
IsFine (Ok t) = Unit {0}
IsFine (Err e) = ⊥

pub fine_is_no_error : {T E : Type 0} (t : T) (e : E) → Ok t ≡ Err e → ⊥
fine_is_no_error {T} {E} t e is = subst (λ r. IsFine {T = T} {E = E} r) is tt

-- an answer of a table is told by one of two numbers
pub told_below : (answer : Option ℕ) (status old value : ℕ) → IsEntryTold answer status old value → status < 16
told_below None status old value told = omega (arith, told.0)
told_below (Some n) status old value told = omega (arith, told.0)

-- and only a value is written
pub told_kept : (answer : Option ℕ) (status old value : ℕ) → IsEntryTold answer status old value → status ≢ 0 → value ≡ old
told_kept None status old value told other = told.1
told_kept (Some n) status old value told other = absurd (other told.0)

-- rows that are not put into maps are refused
pub no_rows_refused : (delimiter : ℕ) (rows : Rows) (e : ZeroTrieBuildError) → NoRows rows e → IsDenseRefusal delimiter rows e
no_rows_refused delimiter rows NonAsciiError h = inr (inl (inr h))
no_rows_refused delimiter rows CapacityExceeded h = absurd h
no_rows_refused delimiter rows CouldNotSolvePerfectHash h = absurd h
no_rows_refused delimiter rows MixedCase h = absurd h
no_rows_refused delimiter rows IllegalDelimiter h = absurd h
no_rows_refused delimiter rows DuplicateKey h = absurd h
no_rows_refused delimiter rows Unsorted h = inr (inr (refl, h))
no_rows_refused delimiter rows BufferTooSmall h = absurd h
no_rows_refused delimiter rows (BufferTooLarge needed) h = absurd h
no_rows_refused delimiter rows StackExceeded h = absurd h
no_rows_refused delimiter rows OutOfMemory h = inl refl
