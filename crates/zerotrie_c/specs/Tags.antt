-- Tagged bytes as C is told of them.
use Rattle.std.specs.Prelude.{◌≡◌, ℕ, ◌⊎◌, List, [], ◌∷◌, None, drop}
use Rattle.zerotrie_core.specs.Kind.{Kind, tag}
use Rattle.zerotrie_any.specs.Tagged.{tagged}
use Rattle.zerotrie_c.specs.Numbers.{kind_of}
use Rattle.zerotrie_c.specs.Statuses.{done, no_tag, invalid_tag}

-- the bytes are these after the tag of the kind of this number
abbrev pub IsTaggedAs : List ℕ → ℕ → List ℕ → Type 0
IsTaggedAs bytes number behind = (kind : Kind) × (number ≡ tag kind) × (bytes ≡ tagged kind behind)

-- why bytes are no tagged ones: there are none, or the first is the number of no kind
abbrev pub IsNotTagged : List ℕ → ℕ → Type 0
IsNotTagged [] status = status ≡ no_tag
IsNotTagged (first ∷ bytes) status = (status ≡ invalid_tag) × (kind_of first ≡ None)

-- What is told of tagged bytes: the number of their kind, after which their trie is, or why they are none; then
-- nothing is written.
abbrev pub IsUntagged : List ℕ → ℕ → ℕ → ℕ → Type 0
IsUntagged bytes status old_number number =
    ((status ≡ done) × IsTaggedAs bytes number (drop 1 bytes))
    ⊎ (IsNotTagged bytes status × (number ≡ old_number))
