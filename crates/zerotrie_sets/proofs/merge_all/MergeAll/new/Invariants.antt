use Rattle.std.proofs.Common.{◌≡◌, ◌++◌, map}
use Rattle.std.specs.Vec.Iter.{into_iter_items}
use Rattle.zerotrie_core.specs.Maps.{Pairs}
use Rattle.zerotrie_sets.specs.ManyInputs.{pendings}
use Rattle.zerotrie_sets.proofs.merge_all.MergeAll.new.Given as goal

abbrev pub invariant-loop-stream : goal.invariant-loop-stream
invariant-loop-stream g l =
    pendings g.S.PairStream.left g.S.PairStream.current l.inputs.items ++ map {B = Pairs} (λ s. (g.S.PairStream.left s).pairs) (into_iter_items l.stream-iterator)
    ≡ map (λ s. (g.S.PairStream.left s).pairs) l.fn.streams.items
