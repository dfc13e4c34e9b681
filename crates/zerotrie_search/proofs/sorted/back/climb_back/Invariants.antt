use Rattle.std.proofs.Common.{vec_len}
use Rattle.zerotrie_base.specs.Kind.{kind_with}
use Rattle.zerotrie_base.specs.Maps.{Pairs}
use Rattle.zerotrie_base.specs.Texts.{Lists}
use Rattle.zerotrie_search.specs.Paths.{IsPathIn}
use Rattle.zerotrie_search.specs.Lasts.{Agree, is_past}
use Rattle.zerotrie_search.proofs.sorted.back.climb_back.Given as goal

-- a path still, and the same keys come later
abbrev pub invariant-loop-byte : goal.invariant-loop-byte
invariant-loop-byte g l = IsPathIn (kind_with l.options) l.bytes l.key.items l.places.items l.at
    × ((pairs : Pairs) → Lists (kind_with l.options) l.bytes pairs → Agree pairs (is_past l.initial.key.items l.initial.limit) (is_past l.key.items l.limit))

abbrev pub decreases-loop-byte : goal.decreases-loop-byte
decreases-loop-byte g l = vec_len l.places
