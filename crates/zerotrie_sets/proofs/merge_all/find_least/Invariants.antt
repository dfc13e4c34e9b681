use Rattle.std.proofs.Common.{take}
use Rattle.zerotrie_sets.specs.ManyInputs.{found_as, IsLeast}
use Rattle.zerotrie_sets.proofs.merge_all.find_least.Given as goal

abbrev pub invariant-loop-at : goal.invariant-loop-at
invariant-loop-at g l = IsLeast g.S.PairStream.current (found_as l.least) (take l.at l.inputs)
