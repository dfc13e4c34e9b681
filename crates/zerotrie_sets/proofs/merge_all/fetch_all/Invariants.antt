use Rattle.std.proofs.Common.{◌≡◌, take}
use Rattle.zerotrie_sets.specs.ManyInputs.{pendings, AllFetched}
use Rattle.zerotrie_sets.proofs.merge_all.fetch_all.Given as goal

abbrev pub invariant-loop-input : goal.invariant-loop-input
invariant-loop-input g l = record {
  fetched : AllFetched (take l.input-index l.inputs);
  same : pendings g.S.PairStream.left g.S.PairStream.current l.inputs ≡ pendings g.S.PairStream.left g.S.PairStream.current l.initial.inputs;
}
