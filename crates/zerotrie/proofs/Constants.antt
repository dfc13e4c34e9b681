-- Builds of tables of constants. Where the rows of a table are known, what is asked of it here holds by `refl`.
use Rattle.std.proofs.Common.{◌≡◌, ℕ, List, length, inl, inr, ◌⊎◌, true, leb, Result, Ok, Err}
use Rattle.std.specs.Prelude.{IfErr, IsOk}
use Rattle.std.proofs.lemmas.Bool.{leb-true}
use Rattle.zerotrie_core.specs.Kind.{Kind}
use Rattle.zerotrie_core.specs.Maps.{Pairs}
use Rattle.zerotrie_core.specs.Bounds.{build_bound, is_clean}
use Rattle.zerotrie_core.specs.Routes.{Route, IsBuild}
use Rattle.zerotrie_core.specs.ArrayRoutes.{IsBuildWithin, IsBuildCopied}
use Rattle.zerotrie_build.specs.Clean.{is_clean_in_order}
use Rattle.zerotrie_core.specs.declared.ZeroTrieBuildError.{ZeroTrieBuildError}
use Rattle.zerotrie_core.specs.declared.ZeroTrieBuildError.TheVariants.{OutOfMemory, CouldNotSolvePerfectHash}
pub use Rattle.zerotrie_core.proofs.CallerLemmas.{NeedsNoSearch, clean_told}
use Rattle.zerotrie_build.proofs.CleanLemmas.{clean_in_order_suits}
use Rattle.zerotrie_core.proofs.CallerLemmas.{ascends_taken, only_search, only_memory, suits_array, built_within, copied_within}

-- The only error of a build of a clean table is out of memory, in a kind over ASCII keys or of fewer than 16 pairs.
pub clean_build : {B : Type 0} (route : Route) (kind : Kind) (bytes : B → List ℕ) (pairs : Pairs) (r : Result B ZeroTrieBuildError) → NeedsNoSearch kind pairs → is_clean kind pairs ≡ true
    → IsBuild route kind bytes pairs r → IfErr r (λ e. e ≡ OutOfMemory)
clean_build route kind bytes pairs r none clean build = let told = clean_told kind pairs clean in only_memory route kind bytes pairs r (ascends_taken route pairs told.0) told.1 none build

-- In any kind it is that or a hashed table that can't be found.
pub clean_searched : {B : Type 0} (route : Route) (kind : Kind) (bytes : B → List ℕ) (pairs : Pairs) (r : Result B ZeroTrieBuildError) → is_clean kind pairs ≡ true
    → IsBuild route kind bytes pairs r → IfErr r (λ e. (e ≡ OutOfMemory) ⊎ (e ≡ CouldNotSolvePerfectHash))
clean_searched route kind bytes pairs (Ok b) clean build = tt
clean_searched route kind bytes pairs (Err e) clean build =
    let told = clean_told kind pairs clean in
    elim build [ inl memory ↦ inl memory | inr cause ↦ inr (only_search route kind pairs e (ascends_taken route pairs told.0) told.1 cause) ]

-- A build has no error in an array of the bound, with a stack for all pairs.
pub clean_within : {B : Type 0} (kind : Kind) (n k : ℕ) (bytes : B → List ℕ) (pairs : Pairs) (r : Result B ZeroTrieBuildError) → is_clean kind pairs ≡ true → leb (build_bound pairs) n ≡ true → leb (length pairs) k ≡ true
    → IsBuildWithin kind n k bytes pairs r → IsOk r
clean_within kind n k bytes pairs r clean room waits =
    let told = clean_told kind pairs clean in
    built_within kind n k bytes pairs r (suits_array kind pairs told.0 told.1) (leb-true (build_bound pairs) n room) (leb-true (length pairs) k waits)

-- If its bytes are then copied, the only error is out of memory.
pub clean_copied : {B : Type 0} (kind : Kind) (n k : ℕ) (bytes : B → List ℕ) (pairs : Pairs) (r : Result B ZeroTrieBuildError) → is_clean kind pairs ≡ true → leb (build_bound pairs) n ≡ true → leb (length pairs) k ≡ true
    → IsBuildCopied kind n k bytes pairs r → IfErr r (λ e. e ≡ OutOfMemory)
clean_copied kind n k bytes pairs r clean room waits =
    let told = clean_told kind pairs clean in
    copied_within kind n k bytes pairs r (suits_array kind pairs told.0 told.1) (leb-true (build_bound pairs) n room) (leb-true (length pairs) k waits)

-- So it is of a table that is clean in the order of its kind, as one whose names have upper case in the kind that ignores it.
pub in_order_within : {B : Type 0} (kind : Kind) (n k : ℕ) (bytes : B → List ℕ) (pairs : Pairs) (r : Result B ZeroTrieBuildError) → is_clean_in_order kind pairs ≡ true → leb (build_bound pairs) n ≡ true → leb (length pairs) k ≡ true
    → IsBuildWithin kind n k bytes pairs r → IsOk r
in_order_within kind n k bytes pairs r clean room waits =
    built_within kind n k bytes pairs r (clean_in_order_suits kind pairs clean) (leb-true (build_bound pairs) n room) (leb-true (length pairs) k waits)

pub in_order_copied : {B : Type 0} (kind : Kind) (n k : ℕ) (bytes : B → List ℕ) (pairs : Pairs) (r : Result B ZeroTrieBuildError) → is_clean_in_order kind pairs ≡ true → leb (build_bound pairs) n ≡ true → leb (length pairs) k ≡ true
    → IsBuildCopied kind n k bytes pairs r → IfErr r (λ e. e ≡ OutOfMemory)
in_order_copied kind n k bytes pairs r clean room waits =
    copied_within kind n k bytes pairs r (clean_in_order_suits kind pairs clean) (leb-true (build_bound pairs) n room) (leb-true (length pairs) k waits)
