-- The masks of a pattern.
use Rattle.std.specs.Prelude.{◌≡◌, ◌<◌, ℕ, List, length, slice_index}
use Rattle.zerotrie_search.specs.Globs.{Item, matches}
use Rattle.zerotrie_search.specs.GlobMasks.{any_match, AreTakers, AreFollowers}
use Rattle.zerotrie_search.specs.declared.glob.masks.Masks.{Masks}

-- The masks are those of the items.
pub record AreMasks (items : List Item) (masks : Masks) : Type 0 where
  pub takers : (b : ℕ) → b < 256 → AreTakers items b (slice_index masks.takers b)
  pub followers : AreFollowers items masks.followers
  pub first : (key : List ℕ) → any_match masks.first 0 items key ≡ matches items key
  pub last : masks.last ≡ length items
