-- What holds of the pairs if a build of them fails.
use Rattle.std.specs.Prelude.{◌≡◌, ℕ, ◌<◌, ◌≤◌, List, length, true, Any}
use Rattle.std.specs.FinMap.{entries}
use Rattle.zerotrie_base.specs.Kind.{Kind, edge_limit, is_hashed}
use Rattle.zerotrie_base.specs.Maps.{Pairs, map_of, edges, behind_all, Ascends, RepeatsKey, IsCaseConsistent}
use Rattle.zerotrie_base.specs.Fits.{ExceedsCapacity}
use Rattle.zerotrie_base.specs.Hashes.{IsStraight}
use Rattle.zerotrie_base.specs.declared.error.ZeroTrieBuildError.{ZeroTrieBuildError}
use Rattle.zerotrie_base.specs.declared.error.ZeroTrieBuildError.TheVariants.{NonAsciiError, CapacityExceeded, CouldNotSolvePerfectHash, MixedCase, IllegalDelimiter, DuplicateKey, Unsorted, BufferTooSmall, BufferTooLarge, StackExceeded, OutOfMemory}

-- these edges need a hashed table whose parameters have to be searched, and are not straight
abbrev pub AreCrooked : Kind → List ℕ → Type 0
AreCrooked kind edges = (is_hashed kind (length edges) ≡ true) × (length edges < 256) × (IsStraight edges → ⊥)

-- The cause of an error of a build of the pairs in the kind, however long the encoding may be.
-- `OutOfMemory` has none, and the errors of arrays and delimiters have none here.
abbrev pub Cause : Kind → Pairs → ZeroTrieBuildError → Type 0
Cause kind pairs NonAsciiError = Any (λ e. Any (λ b. edge_limit kind ≤ b) e.0) pairs
Cause kind pairs CapacityExceeded = (RepeatsKey pairs → ⊥) × ExceedsCapacity kind (map_of pairs)
Cause kind pairs MixedCase = IsCaseConsistent kind pairs → ⊥
Cause kind pairs DuplicateKey = RepeatsKey pairs
Cause kind pairs Unsorted = Ascends pairs → ⊥
Cause kind pairs CouldNotSolvePerfectHash =
    (RepeatsKey pairs → ⊥) × ((front : List ℕ) × AreCrooked kind (edges (behind_all front (entries (map_of pairs)))))
Cause kind pairs IllegalDelimiter = ⊥
Cause kind pairs BufferTooSmall = ⊥
Cause kind pairs (BufferTooLarge needed) = ⊥
Cause kind pairs StackExceeded = ⊥
Cause kind pairs OutOfMemory = ⊥
