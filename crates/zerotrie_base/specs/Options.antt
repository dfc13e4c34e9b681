-- What holds of the constants of a kind together.
use Rattle.std.specs.Prelude.{◌≡◌, ℕ, ◌+◌, ◌*◌, Bool, cond, ◌⊎◌}
use Rattle.zerotrie_base.specs.Kind.{Flags, flags, kind_with}

abbrev pub bit : Bool → ℕ
bit b = cond b 1 0

-- the tag is the sum of 1, 2, 4 and 8 for the flags that are set, and that of one of the four kinds
abbrev pub IsTag : ℕ → Flags → Type 0
IsTag tag f = (tag ≡ bit f.use_phf + 2 * bit f.spans + 4 * bit f.extended + 8 * bit f.ignore_case)
    × ((tag ≡ 0) ⊎ (tag ≡ 3) ⊎ (tag ≡ 7) ⊎ (tag ≡ 8))

-- the options are those of a kind
abbrev pub IsLawful : Flags → Type 0
IsLawful options = flags (kind_with options) ≡ options
