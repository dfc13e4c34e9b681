use Rattle.std.proofs.Common.{◌≡◌, ◌++◌}
use Rattle.zerotrie_core.specs.Kinds.{kind_of}
use Rattle.zerotrie_core.specs.Listings.{turns_left}
use Rattle.zerotrie_core.specs.Maps.{Map, look}
use Rattle.zerotrie_core.specs.Texts.{Means}
use Rattle.zerotrie_queries.specs.Recased.{looked_up}
use Rattle.zerotrie_queries.proofs.any_case.look_up_each.Given as goal

abbrev pub invariant-loop-table : goal.invariant-loop-table
invariant-loop-table g l = (n : Map) → Means (kind_of l.other.kind) l.other.bytes.now n
    → l.table ++ looked_up l.operation (look (kind_of l.other.kind) n) (g.S.PairStream.left l.pairs).pairs
    ≡ looked_up l.operation (look (kind_of l.other.kind) n) (g.S.PairStream.left l.fn.pairs).pairs

abbrev pub decreases-loop-table : goal.decreases-loop-table
decreases-loop-table g l = turns_left (g.S.PairStream.left l.pairs)
