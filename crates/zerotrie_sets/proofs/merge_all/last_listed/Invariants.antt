use Rattle.std.proofs.Common.{◌≡◌, drop}
use Rattle.std.specs.Option.{option_or}
use Rattle.zerotrie_sets.specs.Rows.{last_of}
use Rattle.zerotrie_sets.specs.ManyInputs.{listed_all}
use Rattle.zerotrie_sets.proofs.merge_all.last_listed.Given as goal

abbrev pub invariant-loop-input : goal.invariant-loop-input
invariant-loop-input g l =
    option_or (last_of (listed_all g.S.PairStream.current (drop l.input-index l.inputs))) l.last ≡ last_of (listed_all g.S.PairStream.current l.inputs)
