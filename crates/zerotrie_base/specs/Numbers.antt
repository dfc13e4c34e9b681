-- Numbers of variable length. A form is named by its latent value L: 16 with three bits of
-- metadata, 32 with two. A lead byte is metadata * 2L + extender * L + digit. A trail byte is
-- extender * 128 + digit.
use Rattle.std.specs.Prelude.{nat_lt, ◌≡◌, ℕ, ◌+◌, ◌-◌, ◌*◌, ◌/◌, ◌%◌, ◌^◌, ◌<◌, ◌≤◌, List, [], ◌∷◌, ◌++◌, length, suc, zero, if◌then◌else◌}
use Rattle.std.proofs.Common.{suc, zero}

-- each trail byte but the last is extended
abbrev pub IsTrail : List ℕ → Type 0
IsTrail [] = Unit {0}
IsTrail (t ∷ []) = t < 128
IsTrail (t ∷ u ∷ ts) = (128 ≤ t) × (t < 256) × IsTrail (u ∷ ts)

-- the base-128 number of the digit a and the digits of the trail bytes
abbrev pub base_128 : ℕ → List ℕ → ℕ
base_128 a [] = a
base_128 a (t ∷ ts) = base_128 (128 * a + t % 128) ts

-- L * (1 + 128 + .. + 128 ^ (k - 1))
abbrev pub latent : ℕ → ℕ → ℕ
latent L zero = 0
latent L (suc k) = latent L k + L * 128 ^ k

-- 1 if a trail byte follows the lead
abbrev pub extender : List ℕ → ℕ
extender [] = 0
extender (t ∷ ts) = 1

-- The bytes spell v in the form of L, with these bits of metadata.
pub record Spells (L metadata v : ℕ) (bytes : List ℕ) : Type 0 where
  pub digit : ℕ
  pub trail : List ℕ
  pub below : v < 2 ^ 64
  pub digit_below : digit < L
  pub is_trail : IsTrail trail
  pub bytes_are : bytes ≡ (metadata * (2 * L) + extender trail * L + digit) ∷ trail
  pub value : v ≡ base_128 digit trail + latent L (length trail)

-- The bytes begin with a spelling of v, and continue with the bytes after.
pub record BeginsWith (L metadata v : ℕ) (bytes after : List ℕ) : Type 0 where
  pub spelling : List ℕ
  pub spells : Spells L metadata v spelling
  pub bytes_are : bytes ≡ spelling ++ after

-- the number of trail bytes of v in the form of L: the least k, counting up, with v below latent L
-- (k + 1)
abbrev pub trails_from : ℕ → ℕ → ℕ → ℕ → ℕ
trails_from zero L v k = k
trails_from (suc more) L v k = if nat_lt v (latent L (suc k)) then k else trails_from more L v (suc k)

-- the lowest k digits of u, the highest first, each but the last extended
abbrev pub trail_bytes : ℕ → ℕ → List ℕ
trail_bytes zero u = []
trail_bytes (suc k) u = let rest = trail_bytes k u in (extender rest * 128 + u / 128 ^ k % 128) ∷ rest

-- the spelling with k trail bytes
abbrev pub spelled_with : ℕ → ℕ → ℕ → ℕ → List ℕ
spelled_with k L metadata v = let trail = trail_bytes k (v - latent L k) in
    (metadata * (2 * L) + extender trail * L + (v - latent L k) / 128 ^ k) ∷ trail

-- the spelling of v
unfoldable pub spelled : ℕ → ℕ → ℕ → List ℕ
spelled L metadata v = spelled_with (trails_from 9 L v 0) L metadata v

-- A form of the numbers that nodes begin with: its latent value, and the metadata in its lead.
pub record Form : Type 0 where
  pub latent_value : ℕ
  pub metadata : ℕ

-- values
abbrev pub value_form : Form
value_form = record { latent_value = 16; metadata = 4 }

-- lengths of spans
abbrev pub span_form : Form
span_form = record { latent_value = 16; metadata = 5 }

-- the width and the count of edges of a branch
abbrev pub branch_form : Form
branch_form = record { latent_value = 32; metadata = 3 }

-- the bytes spell v in the form
abbrev pub SpellsAs : Form → ℕ → List ℕ → Type 0
SpellsAs form v bytes = Spells form.latent_value form.metadata v bytes

-- the spelling of v in the form
abbrev pub spelled_as : Form → ℕ → List ℕ
spelled_as form v = spelled form.latent_value form.metadata v
