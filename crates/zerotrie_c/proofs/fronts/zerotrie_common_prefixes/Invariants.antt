use Rattle.std.proofs.Common.{◌≡◌, Some}
use Rattle.zerotrie_core.specs.Kind.{Kind}
use Rattle.zerotrie_core.specs.Prefixes.{at_front}
use Rattle.zerotrie_c.specs.Numbers.{kind_of}
use Rattle.zerotrie_c.proofs.FrontsLemmas.{Going}
use Rattle.zerotrie_c.proofs.fronts.zerotrie_common_prefixes.Given as goal

abbrev pub invariant-loop-len : goal.invariant-loop-len
invariant-loop-len l = (k : Kind) × (kind_of l.kind ≡ Some k)
    × Going (at_front k l.bytes l.text) l.len-iterator l.count l.initial.lens l.lens l.initial.values l.values
