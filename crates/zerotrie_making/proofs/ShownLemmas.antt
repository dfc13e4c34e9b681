-- The keys that show a refusal are keys of the list, and those of an index show what an index refuses.
use Rattle.std.proofs.Common.{◌≡◌, ℕ, ◌<◌, ◌≤◌, List, Bool, true, false, refl, subst, arith}
use Rattle.std.specs.Prelude.{All, Any, Some}
use Rattle.zerotrie_core.specs.Kind.{perfect_hash}
use Rattle.zerotrie_core.specs.Maps.{Pairs}
use Rattle.zerotrie_core.specs.Routes.{HasCause}
use Rattle.zerotrie_core.specs.declared.ZeroTrieBuildError.{ZeroTrieBuildError}
use Rattle.zerotrie_core.specs.declared.ZeroTrieBuildError.TheVariants.{NonAsciiError, CapacityExceeded, CouldNotSolvePerfectHash, MixedCase, IllegalDelimiter, DuplicateKey, Unsorted, BufferTooSmall, BufferTooLarge, StackExceeded, OutOfMemory}
use Rattle.zerotrie_build.specs.Refused.{key_at, AreShown, IsWhyRefused}
use Rattle.zerotrie_build.specs.declared.refusal.Refusal.{Refusal}
use Rattle.zerotrie_making.specs.Plans.{an_index, route_of}
use Rattle.zerotrie_making.specs.Made.{fault_of, AreAtFault}

-- a byte is below 256
low_key : (key : List ℕ) → All (λ b. b < 256) key → Any (λ b. 256 ≤ b) key → ⊥
low_key key all any =
    let low = subst (λ b. b < 256) any.3 (all any.0 any.1 any.2) in
    let high = any.4 in
    omega (arith, low, high)

-- the error that keys of bytes show of a trie that takes any bytes
one_fault : (sorted : Bool) (pairs : Pairs) (e : ZeroTrieBuildError) (first second : ℕ) → All (λ b. b < 256) (key_at pairs first)
    → AreShown perfect_hash pairs e first second → HasCause (route_of sorted) perfect_hash pairs e → e ≡ fault_of sorted
one_fault true pairs Unsorted first second low shown cause = refl
one_fault false pairs Unsorted first second low shown cause = absurd (cause.0 refl)
one_fault true pairs DuplicateKey first second low shown cause = absurd (cause.0 refl)
one_fault false pairs DuplicateKey first second low shown cause = refl
one_fault sorted pairs NonAsciiError first second low shown cause = absurd (low_key (key_at pairs first) low shown.2)
one_fault sorted pairs MixedCase first second low shown cause = absurd (shown.2 refl)
one_fault sorted pairs CapacityExceeded first second low shown cause = absurd shown
one_fault sorted pairs CouldNotSolvePerfectHash first second low shown cause = absurd shown
one_fault sorted pairs IllegalDelimiter first second low shown cause = absurd shown
one_fault sorted pairs BufferTooSmall first second low shown cause = absurd shown
one_fault sorted pairs (BufferTooLarge needed) first second low shown cause = absurd shown
one_fault sorted pairs StackExceeded first second low shown cause = absurd shown
one_fault sorted pairs OutOfMemory first second low shown cause = absurd shown

pub at_fault : (sorted : Bool) (pairs : Pairs) (r : Refusal) → All (λ b. b < 256) (key_at pairs r.first) → IsWhyRefused (route_of sorted) perfect_hash pairs (Some r)
    → AreAtFault an_index sorted pairs r
at_fault sorted pairs r low why = (one_fault sorted pairs r.error r.first r.second low why.0 why.1, why)
