-- One key that is found, as C is told of it.
use Rattle.std.specs.Prelude.{◌≡◌, ℕ, ◌⊎◌, List, Option, Some, None}
use Rattle.zerotrie_core.specs.declared.ZeroTrieBuildError.TheVariants.{OutOfMemory}
use Rattle.zerotrie_c.specs.Builds.{IsHandedOut}
use Rattle.zerotrie_c.specs.Statuses.{no_entry, status_of}

-- the key is handed out; or there is none, and nothing is written
abbrev pub IsKeyTold : Option (List ℕ) → ℕ → ℕ → ℕ → List ℕ → List ℕ → Type 0
IsKeyTold None status old_len len old room = (status ≡ no_entry) × (len ≡ old_len) × (room ≡ old)
IsKeyTold (Some key) status old_len len old room = IsHandedOut key status len old room

-- the same, with the value of the key, which is told whenever the length of the key is
abbrev pub IsPairTold : Option (List ℕ × ℕ) → ℕ → ℕ → ℕ → ℕ → ℕ → List ℕ → List ℕ → Type 0
IsPairTold None status old_len len old_value value old room =
    (status ≡ no_entry) × (len ≡ old_len) × (value ≡ old_value) × (room ≡ old)
IsPairTold (Some p) status old_len len old_value value old room = IsHandedOut p.0 status len old room × (value ≡ p.1)

-- What a call that looks for a key comes to: that is told, or an allocation failed, and nothing is written.
abbrev pub IsKeyFound : Option (List ℕ) → ℕ → ℕ → ℕ → List ℕ → List ℕ → Type 0
IsKeyFound found status old_len len old room = IsKeyTold found status old_len len old room
    ⊎ ((status ≡ status_of OutOfMemory) × (len ≡ old_len) × (room ≡ old))

abbrev pub IsPairFound : Option (List ℕ × ℕ) → ℕ → ℕ → ℕ → ℕ → ℕ → List ℕ → List ℕ → Type 0
IsPairFound found status old_len len old_value value old room = IsPairTold found status old_len len old_value value old room
    ⊎ ((status ≡ status_of OutOfMemory) × (len ≡ old_len) × (value ≡ old_value) × (room ≡ old))
