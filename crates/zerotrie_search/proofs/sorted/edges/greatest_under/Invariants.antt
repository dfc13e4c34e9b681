use Rattle.std.proofs.Common.{◌≡◌, length}
use Rattle.zerotrie_base.specs.Maps.{Pairs}
use Rattle.zerotrie_base.specs.Cursors.{met}
use Rattle.zerotrie_core.specs.Places.{ListsAt}
use Rattle.zerotrie_core.specs.CursorPlaces.{cursor_at}
use Rattle.zerotrie_search.specs.Lasts.{IsGreatest}
use Rattle.zerotrie_search.proofs.sorted.edges.greatest_under.Given as goal

-- the edges before this one were compared
abbrev pub invariant-loop-index : goal.invariant-loop-index
invariant-loop-index g l = (pairs : Pairs) → ListsAt g.K.ZeroTrieWithOptions.kind (cursor_at l.bytes l.place) pairs
    → IsGreatest g.K.ZeroTrieWithOptions.kind l.bytes pairs l.index l.limit l.found × (length (met pairs) ≡ l.index-end)
