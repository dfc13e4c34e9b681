use Rattle.std.proofs.Common.{◌+◌, ◌/◌, ◌<◌, length, arith, inl, inr}
use Rattle.std.proofs.lemmas.Bool.{cases_lt}
use Rattle.zerotrie_base.proofs.NodeLemmas.Places.{below_middle, above_middle}
use Rattle.zerotrie_core.proofs.simd.edge_search.place_in_window.Goals as goal

pub loop-left-preserved : goal.loop-left-preserved
loop-left-preserved g c =
    let mid = c.loop-left.base + c.loop-left.left / 2 in
    let at_mid = c.folded-middle.ensures in
    elim (cases_lt c.args.sought c.folded-middle.result) [
      | inl above ↦
          let e = c.half_passed-base.ensures.stayed above in
          record {
            some = omega arith;
            inside = omega arith;
            within = λ k up is low high. (let h : k < length c.args.table.now = omega arith in let w = c.loop-left.invariant.within k up is low high in let b = below_middle g.K.ZeroTrieWithOptions.kind c.args.table.now c.args.sought mid k up h is (omega arith) in (omega arith, omega arith));
          }
      | inr not_above ↦
          let e = c.half_passed-base.ensures.passed not_above in
          record {
            some = omega arith;
            inside = omega arith;
            within = λ k up is low high. (let h : k < length c.args.table.now = omega arith in let w = c.loop-left.invariant.within k up is low high in let b = above_middle g.K.ZeroTrieWithOptions.kind c.args.table.now c.args.sought mid k up (omega arith) is (omega arith) in (omega arith, omega arith));
          }
    ]
