-- Reverse look-ups by a table, as C is told of them.
use Rattle.std.specs.Prelude.{◌≡◌, ℕ, ◌≤◌, ◌⊎◌, List, [], length}
use Rattle.zerotrie_core.specs.Kind.{Kind}
use Rattle.zerotrie_core.specs.Maps.{Pairs}
use Rattle.zerotrie_core.specs.Texts.{Lists}
use Rattle.zerotrie_core.specs.declared.ZeroTrieBuildError.TheVariants.{OutOfMemory}
use Rattle.zerotrie_reverse.specs.Tables.{IsTable}
use Rattle.zerotrie_c.specs.Builds.{IsHandedOut}
use Rattle.zerotrie_c.specs.Statuses.{status_of}

-- the places are a table of the trie, or there are none
abbrev pub ArePlaces : Kind → List ℕ → List ℕ → Type 0
ArePlaces kind bytes places = (places ≡ []) ⊎ IsTable kind bytes places

-- What a call that makes a table comes to: the places are handed out, one for each pair or none at all; or an
-- allocation failed, and nothing is written.
abbrev pub IsReverseTold : Kind → List ℕ → ℕ → ℕ → ℕ → List ℕ → List ℕ → Type 0
IsReverseTold kind bytes status old_count count old room =
    ((places : List ℕ) × ArePlaces kind bytes places × (length places ≤ length bytes)
    × ((pairs : Pairs) → Lists kind bytes pairs → (length places ≡ 0) ⊎ (length places ≡ length pairs))
    × IsHandedOut places status count old room)
    ⊎ ((status ≡ status_of OutOfMemory) × (count ≡ old_count) × (room ≡ old))
