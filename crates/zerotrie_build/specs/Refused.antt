-- Which keys show why a build fails.
use Rattle.std.specs.Prelude.{◌≡◌, ◌≢◌, ◌==◌, ℕ, ◌+◌, ◌<◌, ◌≤◌, List, [], length, All, Any, Option, Some, None, slice_index_or}
use Rattle.std.specs.Cmp.Lexicographic.{slice_cmp}
use Rattle.std.specs.Ordering.{nat_cmp}
use Rattle.std.specs.declared.cmp.Ordering.TheVariants.{Less}
use Rattle.zerotrie_base.specs.Kind.{Kind, edge_limit, same_byte}
use Rattle.zerotrie_base.specs.Maps.{Pairs, IsCaseConsistent, common_front}
use Rattle.zerotrie_base.specs.Routes.{Route, Takes, HasCause}
use Rattle.zerotrie_base.specs.declared.error.ZeroTrieBuildError.{ZeroTrieBuildError}
use Rattle.zerotrie_base.specs.declared.error.ZeroTrieBuildError.TheVariants.{NonAsciiError, CapacityExceeded, CouldNotSolvePerfectHash, MixedCase, IllegalDelimiter, DuplicateKey, Unsorted, BufferTooSmall, BufferTooLarge, StackExceeded, OutOfMemory}
use Rattle.zerotrie_build.specs.declared.refusal.Refusal.{Refusal}

-- the key of the pair of this number
abbrev pub key_at : Pairs → ℕ → List ℕ
key_at pairs number = (slice_index_or pairs number ([], 0)).0

-- the keys agree in front up to case, and not byte by byte
abbrev pub DifferInCase : Kind → List ℕ → List ℕ → Type 0
DifferInCase kind key other = common_front (same_byte kind) key other ≢ common_front (λ a b. a == b) key other

-- What the keys of these numbers show of an error: two that follow one another do not ascend by their bytes, two are
-- the same, one has a byte that is none of the kind's, or two differ in case. They show nothing of another error.
abbrev pub AreShown : Kind → Pairs → ZeroTrieBuildError → ℕ → ℕ → Type 0
AreShown kind pairs Unsorted first second = (second ≡ first + 1) × (second < length pairs)
    × (slice_cmp nat_cmp (key_at pairs first) (key_at pairs second) ≢ Less)
AreShown kind pairs DuplicateKey first second = (first < second) × (second < length pairs)
    × (key_at pairs first ≡ key_at pairs second)
AreShown kind pairs NonAsciiError first second = (second ≡ first) × (first < length pairs)
    × Any (λ b. edge_limit kind ≤ b) (key_at pairs first)
AreShown kind pairs MixedCase first second = (first < second) × (second < length pairs)
    × DifferInCase kind (key_at pairs first) (key_at pairs second)
AreShown kind pairs CapacityExceeded first second = ⊥
AreShown kind pairs CouldNotSolvePerfectHash first second = ⊥
AreShown kind pairs IllegalDelimiter first second = ⊥
AreShown kind pairs BufferTooSmall first second = ⊥
AreShown kind pairs (BufferTooLarge needed) first second = ⊥
AreShown kind pairs StackExceeded first second = ⊥
AreShown kind pairs OutOfMemory first second = ⊥

-- No keys show a cause: the route takes the pairs, the bytes of their keys are bytes of the kind, and they agree in case.
pub record AreFaultless (route : Route) (kind : Kind) (pairs : Pairs) : Type 0 where
  pub taken : Takes route pairs
  pub bytes : All (λ e. All (λ b. b < edge_limit kind) e.0) pairs
  pub case : IsCaseConsistent kind pairs

-- What comes before an error in the order of the question shows none: the route takes the pairs, and where keys differ
-- in case, the bytes of all keys are bytes of the kind, too.
abbrev pub AreFaultlessBefore : Route → Kind → Pairs → ZeroTrieBuildError → Type 0
AreFaultlessBefore route kind pairs NonAsciiError = Takes route pairs
AreFaultlessBefore route kind pairs MixedCase = Takes route pairs × All (λ e. All (λ b. b < edge_limit kind) e.0) pairs
AreFaultlessBefore route kind pairs e = Unit {0}

-- The result of the question which keys show why a build of the pairs by the route fails: keys that show an
-- error, which is one of the route, has its cause and is the first in order, or none, and then no keys show one.
abbrev pub IsWhyRefused : Route → Kind → Pairs → Option Refusal → Type 0
IsWhyRefused route kind pairs (Some r) =
    AreShown kind pairs r.error r.first r.second × HasCause route kind pairs r.error × AreFaultlessBefore route kind pairs r.error
IsWhyRefused route kind pairs None = AreFaultless route kind pairs
