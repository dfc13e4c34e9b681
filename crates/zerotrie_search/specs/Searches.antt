-- Listings of the pairs whose keys are accepted.
use Rattle.std.specs.Prelude.{ℕ, List, Bool, filter}
use Rattle.zerotrie_base.specs.Maps.{Pairs}
use Rattle.zerotrie_core.specs.Listings.{Left}

-- the pairs whose keys are accepted, in their order
abbrev pub accepted : (List ℕ → Bool) → Pairs → Pairs
accepted accepts pairs = filter (λ e. accepts e.0) pairs

-- what is left of a listing, of these pairs alone
abbrev pub accepted_left : (List ℕ → Bool) → Left → Left
accepted_left accepts left = record { pairs = accepted accepts left.pairs; ended = left.ended }
