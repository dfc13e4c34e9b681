use Rattle.std.proofs.Common.{take, nat_eq}
use Rattle.std.specs.List.{IsDistinct}
use Rattle.zerotrie_base.specs.byte_phf.Search.{IsMarked}
use Rattle.zerotrie_base.proofs.byte_phf.are_distinct.Given as goal

abbrev pub invariant-loop-key : goal.invariant-loop-key
invariant-loop-key l = record { distinct : IsDistinct nat_eq (take l.key-index l.keys); marked : IsMarked (take l.key-index l.keys) l.seen }
