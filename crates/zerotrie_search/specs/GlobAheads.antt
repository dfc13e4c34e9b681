-- The places ahead in a pattern.
use Rattle.std.specs.Prelude.{◌≡◌, ℕ, List}
use Rattle.zerotrie_search.specs.Globs.{Item, matches, others, behind}
use Rattle.zerotrie_search.specs.GlobMasks.{any_match}
use Rattle.zerotrie_search.specs.declared.glob.masks.Ahead.{Ahead}

-- the places in a pattern lead to what some items match, to what the other alternatives match, and to what
-- is behind the group
pub record AreAhead (pattern items : List Item) (ahead : Ahead) (key : List ℕ) : Type 0 where
  pub all : any_match ahead.all 0 pattern key ≡ matches items key
  pub others : any_match ahead.others 0 pattern key ≡ others items key
  pub behind : any_match ahead.behind 0 pattern key ≡ behind items key
