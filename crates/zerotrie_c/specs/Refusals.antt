-- Why a build is refused, as C is told of it.
use Rattle.std.specs.Prelude.{◌≡◌, ℕ, ◌⊎◌, Option, Some, None}
use Rattle.zerotrie_build.specs.Refused.{IsWhyRefused}
use Rattle.zerotrie_build.specs.declared.refusal.Refusal.{Refusal}
use Rattle.zerotrie_core.specs.Kind.{Kind}
use Rattle.zerotrie_core.specs.Maps.{Pairs}
use Rattle.zerotrie_core.specs.Routes.{any_order}
use Rattle.zerotrie_core.specs.declared.ZeroTrieBuildError.TheVariants.{OutOfMemory}
use Rattle.zerotrie_c.specs.Statuses.{done, status_of}

-- what an answer is told as: the number of the error and the numbers of the keys that show it, or that none do, and
-- then nothing is written
abbrev pub IsRefusalTold : Option Refusal → ℕ → ℕ → ℕ → ℕ → ℕ → Type 0
IsRefusalTold None status old_first first old_second second = (status ≡ done) × (first ≡ old_first) × (second ≡ old_second)
IsRefusalTold (Some r) status old_first first old_second second =
    (status ≡ status_of r.error) × (first ≡ r.first) × (second ≡ r.second)

-- what C is told of the question which keys show why a build of the pairs in any order is refused: an answer that it
-- may have, or that an allocation failed, and then nothing is written
abbrev pub IsWhyTold : Kind → Pairs → ℕ → ℕ → ℕ → ℕ → ℕ → Type 0
IsWhyTold kind pairs status old_first first old_second second =
    ((why : Option Refusal) × IsWhyRefused any_order kind pairs why × IsRefusalTold why status old_first first old_second second)
    ⊎ ((status ≡ status_of OutOfMemory) × (first ≡ old_first) × (second ≡ old_second))
