-- Steps by the bytes of a prefix.
use Rattle.std.proofs.Common.{◌≡◌, ℕ, List, [], ◌∷◌, ◌++◌, refl}
use Rattle.zerotrie_core.specs.Kind.{Kind}
use Rattle.zerotrie_core.specs.Maps.{Pairs}
use Rattle.zerotrie_core.specs.Cursors.{met, edge_like}
use Rattle.zerotrie_core.specs.Machine.{after_steps, behind}

-- one step more, by the byte after the others
pub after_steps-more : (kind : Kind) (front : List ℕ) (c : ℕ) (pairs : Pairs)
    → after_steps kind (front ++ c ∷ []) pairs ≡ behind (edge_like kind c (met (after_steps kind front pairs))) (after_steps kind front pairs)
after_steps-more kind [] c pairs = refl
after_steps-more kind (b ∷ front) c pairs = after_steps-more kind front c (behind (edge_like kind b (met pairs)) pairs)
