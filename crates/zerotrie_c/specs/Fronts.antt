-- The keys that a text begins with, as C is told of them.
use Rattle.std.specs.Prelude.{◌≡◌, ℕ, List, length, map}
use Rattle.zerotrie_c.specs.Keys.{written_over}

-- All of the keys are counted. Their lengths are at the front of one room and their values at the front of another,
-- as far as each has places, and the rest of each room stays.
abbrev pub AreFrontsTold : List (ℕ × ℕ) → ℕ → List ℕ → List ℕ → List ℕ → List ℕ → Type 0
AreFrontsTold found count old_lens lens old_values values = (count ≡ length found)
    × (lens ≡ written_over (map (λ f. f.0) found) old_lens) × (values ≡ written_over (map (λ f. f.1) found) old_values)
