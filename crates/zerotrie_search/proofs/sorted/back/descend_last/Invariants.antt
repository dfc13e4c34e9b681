use Rattle.std.proofs.Common.{◌-◌, ◌+◌, length}
use Rattle.zerotrie_base.specs.Kind.{kind_with}
use Rattle.zerotrie_base.specs.Maps.{Pairs}
use Rattle.zerotrie_base.specs.Texts.{Lists}
use Rattle.zerotrie_search.specs.Lasts.{Agree, IsBehind, is_beyond}
use Rattle.zerotrie_search.proofs.sorted.back.descend_last.Given as goal

-- a place that some key leads to, before which just the keys came that are not beyond
abbrev pub invariant-loop-options : goal.invariant-loop-options
invariant-loop-options g l = (pairs : Pairs) → Lists (kind_with l.options) l.bytes pairs
    → IsBehind (kind_with l.options) l.bytes l.key.items l.at pairs × Agree pairs (is_beyond l.initial.key.items) (is_beyond l.key.items)

abbrev pub decreases-loop-options : goal.decreases-loop-options
decreases-loop-options g l = length l.bytes + 1 - length l.key.items
