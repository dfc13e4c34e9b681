use Rattle.std.proofs.Common.{◌≡◌, ◌&&◌, ℕ, take, nat_le}
use Rattle.zerotrie_core.specs.ByteSets.{is_in}
use Rattle.zerotrie_search.specs.Forks.{is_among}
use Rattle.zerotrie_search.proofs.sorted.fork.edges_from.Given as goal

-- the edges before this one, as far as they are at least `from`
abbrev pub invariant-loop-edge : goal.invariant-loop-edge
invariant-loop-edge l = (c : ℕ) → is_in l.left c ≡ (nat_le l.from c && is_among c (take l.edge-index l.edges))
