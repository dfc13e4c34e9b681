use Rattle.std.proofs.Common.{◌≡◌, drop}
use Rattle.zerotrie_sets.specs.Rows.{first_of}
use Rattle.zerotrie_sets.specs.ManyInputs.{listed_all}
use Rattle.zerotrie_sets.proofs.merge_all.first_listed.Given as goal

abbrev pub invariant-loop-input : goal.invariant-loop-input
invariant-loop-input g l =
    first_of (listed_all g.S.PairStream.current (drop l.input-index l.inputs)) ≡ first_of (listed_all g.S.PairStream.current l.inputs)
