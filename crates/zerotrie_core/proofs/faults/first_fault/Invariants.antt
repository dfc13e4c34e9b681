use Rattle.std.proofs.Common.{map, reverse}
use Rattle.zerotrie_core.specs.walk.Seen.{part_of}
use Rattle.zerotrie_core.proofs.FaultLemmas.Rows.{work}
use Rattle.zerotrie_core.proofs.FaultLemmas.Search.{Searched}
use Rattle.zerotrie_core.proofs.faults.first_fault.Given as goal

abbrev pub invariant-loop-part : goal.invariant-loop-part
invariant-loop-part g l = Searched g.K.ZeroTrieWithOptions.kind l.bytes l.expected (map part_of (reverse l.parts.items))

abbrev pub decreases-loop-part : goal.decreases-loop-part
decreases-loop-part g l = work (map part_of (reverse l.parts.items))
