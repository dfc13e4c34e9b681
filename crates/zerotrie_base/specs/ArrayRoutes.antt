-- Builds into an array, in a kind over ASCII keys, and their results.
use Rattle.std.specs.Prelude.{◌≡◌, ◌≢◌, ℕ, ◌<◌, ◌≤◌, ◌⊎◌, List, Result, Ok, Err}
use Rattle.zerotrie_base.specs.Kind.{Kind}
use Rattle.zerotrie_base.specs.Maps.{Pairs, map_of, AscendsIn, RepeatsKey}
use Rattle.zerotrie_base.specs.Canonical.{size}
use Rattle.zerotrie_base.specs.Fits.{Fits}
use Rattle.zerotrie_base.specs.Stack.{stack}
use Rattle.zerotrie_base.specs.Causes.{Cause}
use Rattle.zerotrie_base.specs.Built.{IsBuilt}
use Rattle.zerotrie_base.specs.declared.error.ZeroTrieBuildError.{ZeroTrieBuildError}
use Rattle.zerotrie_base.specs.declared.error.ZeroTrieBuildError.TheVariants.{NonAsciiError, CapacityExceeded, CouldNotSolvePerfectHash, MixedCase, IllegalDelimiter, DuplicateKey, Unsorted, BufferTooSmall, BufferTooLarge, StackExceeded, OutOfMemory}

-- The cause of an error of a build of the pairs into an array of n bytes, with a stack of k waiting
-- targets: one of any build, that the pairs do not ascend in the order of the kind, or that their
-- map needs another array or a larger stack. Such a build does not allocate.
abbrev pub ArrayCause : Kind → ℕ → ℕ → Pairs → ZeroTrieBuildError → Type 0
ArrayCause kind n k pairs NonAsciiError = Cause kind pairs NonAsciiError
ArrayCause kind n k pairs CapacityExceeded = Cause kind pairs CapacityExceeded
ArrayCause kind n k pairs MixedCase = Cause kind pairs MixedCase
ArrayCause kind n k pairs Unsorted = AscendsIn kind pairs → ⊥
ArrayCause kind n k pairs BufferTooSmall = (RepeatsKey pairs → ⊥) × (n < size kind (map_of pairs))
ArrayCause kind n k pairs (BufferTooLarge needed) = (RepeatsKey pairs → ⊥) × Fits kind (map_of pairs)
    × (needed ≡ size kind (map_of pairs)) × (needed < n)
ArrayCause kind n k pairs StackExceeded = (RepeatsKey pairs → ⊥) × (k < stack kind (map_of pairs))
ArrayCause kind n k pairs DuplicateKey = ⊥
ArrayCause kind n k pairs CouldNotSolvePerfectHash = ⊥
ArrayCause kind n k pairs IllegalDelimiter = ⊥
ArrayCause kind n k pairs OutOfMemory = ⊥

-- the bytes are a build of pairs that ascend, whose map needs a stack of at most k
pub record IsArrayBuilt (kind : Kind) (k : ℕ) (pairs : Pairs) (bytes : List ℕ) : Type 0 where
  pub ascends : AscendsIn kind pairs
  pub built : IsBuilt kind pairs bytes
  pub within : stack kind (map_of pairs) ≤ k

-- The result of a build of the pairs that fills an array of n bytes.
abbrev pub IsArrayBuild : {B : Type 0} → Kind → ℕ → ℕ → (B → List ℕ) → Pairs → Result B ZeroTrieBuildError → Type 0
IsArrayBuild kind n k bytes pairs (Ok b) = IsArrayBuilt kind k pairs (bytes b) × (size kind (map_of pairs) ≡ n)
IsArrayBuild kind n k bytes pairs (Err e) = ArrayCause kind n k pairs e

-- an error of a build into an array that need not be full
abbrev pub IsRefusalWithin : Kind → ℕ → ℕ → Pairs → ZeroTrieBuildError → Type 0
IsRefusalWithin kind n k pairs e = ((needed : ℕ) → e ≢ BufferTooLarge needed) × ArrayCause kind n k pairs e

-- the result of a build of the pairs into an array of n bytes that need not be full
abbrev pub IsBuildWithin : {B : Type 0} → Kind → ℕ → ℕ → (B → List ℕ) → Pairs → Result B ZeroTrieBuildError → Type 0
IsBuildWithin kind n k bytes pairs (Ok b) = IsArrayBuilt kind k pairs (bytes b) × (size kind (map_of pairs) ≤ n)
IsBuildWithin kind n k bytes pairs (Err e) = IsRefusalWithin kind n k pairs e

-- the result of such a build if its bytes are then copied into memory of their own, which may fail
abbrev pub IsBuildCopied : {B : Type 0} → Kind → ℕ → ℕ → (B → List ℕ) → Pairs → Result B ZeroTrieBuildError → Type 0
IsBuildCopied kind n k bytes pairs (Ok b) = IsArrayBuilt kind k pairs (bytes b) × (size kind (map_of pairs) ≤ n)
IsBuildCopied kind n k bytes pairs (Err e) = (e ≡ OutOfMemory) ⊎ IsRefusalWithin kind n k pairs e
