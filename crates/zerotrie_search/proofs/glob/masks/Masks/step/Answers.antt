use Rattle.std.proofs.Common.{◌<◌, ◌^◌, ◌∙◌, ◌∷◌, ap, w64, rules}
use Rattle.std.specs.Prelude.{◌||◌}
use Rattle.std.specs.Int.{trailing_zeros}
use Rattle.std.specs.Int.Bits.{bit_and}
use Rattle.zerotrie_search.specs.GlobMasks.{any_match}
use Rattle.zerotrie_search.proofs.MarkLemmas.{no_marks, taken_marks, taken_within, lowest, step_turn, fewer_marks, still_within, none_left}
use Rattle.zerotrie_search.proofs.glob.masks.Masks.step.Goals as goal

pub loop-left-init : goal.loop-left-init
loop-left-init c = record {
  within = taken_within c.args.marks c.args.takers;
  same = λ all b key are takers. ap (λ x. x || any_match (bit_and c.args.marks c.args.takers) 0 all (b ∷ key)) (no_marks 0 all key) ∙ taken_marks c.args.marks c.args.takers b all key takers;
}

pub loop-left-preserved : goal.loop-left-preserved
loop-left-preserved c =
    let l = c.loop-left in
    let fits : l.left < 2 ^ 64 = search rules in
    let low = lowest l.left c.loop-left-test.true fits in
    let p = trailing_zeros w64 l.left in
    record {
      within = still_within l.left c.args.takers p low.0 fits l.invariant.within;
      same = λ all b key are takers. step_turn c.args.marks l.next l.left p b c.args.takers all c.args.self.now key are takers low.0 fits low.1 (l.invariant.within p low.1) (l.invariant.same all b key are takers);
    }

pub loop-left-smaller : goal.loop-left-smaller
loop-left-smaller c =
    let l = c.loop-left in
    let fits : l.left < 2 ^ 64 = search rules in
    let low = lowest l.left c.loop-left-test.true fits in
    fewer_marks l.left (trailing_zeros w64 l.left) low.0 low.1

pub returns : goal.returns
returns c all b key are takers =
    let l = c.loop-left in
    none_left l.next l.left c.args.marks b all key c.loop-left-test.false (l.invariant.same all b key are takers)
