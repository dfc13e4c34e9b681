use Rattle.std.proofs.Common.{take}
use Rattle.std.specs.List.{AllZip}
use Rattle.zerotrie_c.specs.Sets.{IsTrieOf}
use Rattle.zerotrie_c.proofs.sets.tries_of.Given as goal

abbrev pub invariant-loop-source : goal.invariant-loop-source
invariant-loop-source l = AllZip IsTrieOf (take l.source-index l.sources) l.tries.items
