use Rattle.std.proofs.Common.{◌≡◌, ◌++◌, map, take, drop}
use Rattle.zerotrie_sets.specs.ManyInputs.{after_key}
use Rattle.zerotrie_sets.proofs.merge_all.list_all.Given as goal

abbrev pub invariant-loop-input : goal.invariant-loop-input
invariant-loop-input g l =
    l.inputs ≡ map (after_key g.S.PairStream.current l.key) (take l.input-index l.initial.inputs) ++ drop l.input-index l.initial.inputs
