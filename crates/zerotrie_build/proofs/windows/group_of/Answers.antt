use Rattle.std.proofs.Common.{rules, ◌≡◌, ◌+◌, ◌<◌, arith}
use Rattle.zerotrie_build.specs.passes.Windows.{byte_of}
use Rattle.zerotrie_build.proofs.WindowLemmas.Ends.{same_between}
use Rattle.zerotrie_build.proofs.windows.group_of.Goals as goal

pub loop-low-preserved-then-eq : goal.loop-low-preserved-then-eq
loop-low-preserved-then-eq g c =
    let v = c.loop-low.invariant in
    let all = g.I.IndexedItems.pairs c.args.items in
    let w = c.args.window in
    let place = c.loop-low.low + c.min-step.result in
    let some = v.some in let order = v.order in let within = v.within in let t = c.loop-low-test.true in
    let below : place < c.loop-low.high = search rules in
    let same : byte_of all place w.depth ≡ byte_of all w.from w.depth = search rules in
    let each = same_between g.K.ZeroTrieWithOptions.kind all w place (omega arith) (omega arith) c.requires.items c.requires.ordered same in
    record {
      some = omega arith;
      order = omega arith;
      within = v.within;
      same = λ i from less. each i from (omega arith);
      other = v.other;
      next = v.next;
    }
