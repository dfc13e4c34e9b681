-- Skipping the pairs that come next in a listing, as far as their keys begin alike.
use Rattle.std.specs.Prelude.{◌≡◌, ◌≢◌, ℕ, List, [], ◌∷◌, ◌++◌, false}
use Rattle.zerotrie_base.specs.Maps.{Pairs, with_run}
use Rattle.zerotrie_core.specs.Listings.{Left, Standing}
use Rattle.zerotrie_core.specs.listing.Grouped.{AreGrouped}

-- the pairs before are some whose keys begin with the front, and then those after
abbrev pub Passes : List ℕ → Pairs → Pairs → Type 0
Passes front before after = (passed : Pairs) × (before ≡ with_run front passed ++ after)

-- Some pairs whose keys begin with the front were skipped, and nothing else changed.
pub record Skips (front : List ℕ) (before after : Left) : Type 0 where
  pub passes : Passes front before.pairs after.pairs
  pub same : after.ended ≡ before.ended

-- no key begins with the front
abbrev pub NoneBegins : List ℕ → Pairs → Type 0
NoneBegins front [] = Unit {0}
NoneBegins front (e ∷ pairs) = ((more : List ℕ) → e.0 ≢ front ++ more) × NoneBegins front pairs

-- What a stream reads is an encoding, so the pairs whose keys begin alike come one after another.
abbrev pub IsGrouped : Standing → Type 0
IsGrouped s = s.left.ended ≡ false → AreGrouped s.reading.kind s.key s.reading.rest s.reading.branches
