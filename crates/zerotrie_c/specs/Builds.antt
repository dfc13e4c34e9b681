-- Builds as C is told of them.
use Rattle.std.specs.Prelude.{◌≡◌, ℕ, ◌≤◌, ◌<◌, ◌⊎◌, List, Result, Ok, Err, length, drop, ◌++◌, map, zip}
use Rattle.zerotrie_core.specs.Kind.{Kind}
use Rattle.zerotrie_core.specs.Maps.{Pairs}
use Rattle.zerotrie_core.specs.Routes.{Route, IsBuild, IsLength}
use Rattle.zerotrie_core.specs.declared.ZeroTrieBuildError.{ZeroTrieBuildError}
use Rattle.zerotrie_core.specs.declared.ZeroTrieBuildError.TheVariants.{BufferTooSmall}
use Rattle.zerotrie_c.specs.Keys.{keys_from}
use Rattle.zerotrie_c.specs.Statuses.{done, status_of}
use Rattle.zerotrie_c.specs.declared.builds.Pair.{Pair}

-- the pairs that were given
abbrev pub given : List Pair → Pairs
given pairs = map {B = List ℕ × ℕ} (λ p. (p.key.now, p.value)) pairs

-- the pairs of the keys that lie one after another up to these ends, and of the values, as many as the shorter of both
abbrev pub given_flat : List ℕ → List ℕ → List ℕ → Pairs
given_flat keys ends values = zip (keys_from 0 keys ends) values

-- The bytes are at the front of the room, and the rest of it stays; or it has no room for them, and all of it
-- stays. Their length is told.
abbrev pub IsHandedOut : List ℕ → ℕ → ℕ → List ℕ → List ℕ → Type 0
IsHandedOut bytes status len old out = (len ≡ length bytes)
    × (((status ≡ done) × (length bytes ≤ length old) × (out ≡ bytes ++ drop (length bytes) old))
    ⊎ ((status ≡ status_of BufferTooSmall) × (length old < length bytes) × (out ≡ old)))

-- what an answer of a build is told as: a refusal by its number, and then nothing is written
abbrev pub IsToldBy : {E : Type 0} → (E → ℕ) → Result (List ℕ) E → ℕ → ℕ → ℕ → List ℕ → List ℕ → Type 0
IsToldBy number (Ok bytes) status old_len len old out = IsHandedOut bytes status len old out
IsToldBy number (Err e) status old_len len old out = (status ≡ number e) × (len ≡ old_len) × (out ≡ old)

abbrev pub IsTold : Result (List ℕ) ZeroTrieBuildError → ℕ → ℕ → ℕ → List ℕ → List ℕ → Type 0
IsTold answer status old_len len old out = IsToldBy status_of answer status old_len len old out

-- what C is told of a build of the pairs by the route: an answer that it may have
abbrev pub IsBuildTold : Route → Kind → Pairs → ℕ → ℕ → ℕ → List ℕ → List ℕ → Type 0
IsBuildTold route kind pairs status old_len len old out =
    (answer : Result (List ℕ) ZeroTrieBuildError) × IsBuild route kind (λ bytes. bytes) pairs answer × IsTold answer status old_len len old out

-- what C is told of the length that a build would have
abbrev pub IsNumberTold : Result ℕ ZeroTrieBuildError → ℕ → ℕ → ℕ → Type 0
IsNumberTold (Ok n) status old_len len = (status ≡ done) × (len ≡ n)
IsNumberTold (Err e) status old_len len = (status ≡ status_of e) × (len ≡ old_len)

abbrev pub IsLengthTold : Route → Kind → Pairs → ℕ → ℕ → ℕ → Type 0
IsLengthTold route kind pairs status old_len len =
    (answer : Result ℕ ZeroTrieBuildError) × IsLength route kind pairs answer × IsNumberTold answer status old_len len
