use Rattle.std.proofs.Common.{◌≡◌, ◌+◌, ◌-◌, ◌/◌, ◌%◌, ◌^◌, ℕ, ◌∷◌, map, take, get_or, length, arith, sym, ap, ◌∙◌}
use Rattle.std.proofs.Math.Seq.{take-length}
use Rattle.std.specs.List.{range_with_len}
use Rattle.zerotrie_base.specs.Branches.{total as total_of}
use Rattle.zerotrie_base.proofs.CallerLemmas.{shifted}
use Rattle.zerotrie_build.specs.array.Texts.{newest_first, lens_of}
use Rattle.zerotrie_build.proofs.ArrayLemmas.Text.{puts_then, puts_same, puts_nothing, len_at, end_before, block_more, all_blocks, length-lens}
use Rattle.zerotrie_build.proofs.array.text.Text.put_block.Goals as goal

pub loop-index-init : goal.loop-index-init
loop-index-init c =
    let ss = c.args.siblings.now in
    let ls = lens_of (newest_first ss) in
    let whole : take (length ss - 0) ls ≡ ls = ap (λ n. take n ls) (let k = length-lens ss in let e : length ss - 0 ≡ length ls = omega arith in e) ∙ take-length ls in
    record {
      end = c.requires.total ∙ ap total_of (sym whole);
      puts = puts_nothing c.args.self.now;
      in_range = omega arith;
    }

pub overflow_sub-end-in-loop-index : goal.overflow_sub-end-in-loop-index
overflow_sub-end-in-loop-index c =
    let ss = c.args.siblings.now in
    let i = c.loop-index.index in
    let t = c.loop-index-test.true in
    let u = c.loop-index.auto.index in
    let e = end_before ss i c.loop-index.end _ u t c.loop-index.invariant.end (len_at ss i (record { depth = 0; byte = 0; len = 0 }) (omega arith) (omega arith)) in
    omega arith

pub loop-index-preserved : goal.loop-index-preserved
loop-index-preserved c =
    let ss = c.args.siblings.now in
    let ls = lens_of (newest_first ss) in
    let i = c.loop-index.index in
    let t = c.loop-index-test.true in
    let u = c.loop-index.auto.index in
    let s = get_or ss (i - 1) (record { depth = 0; byte = 0; len = 0 }) in
    let f = λ (o : ℕ). o / 256 ^ c.args.place % 256 in
    let e = end_before ss i c.loop-index.end s.len u t c.loop-index.invariant.end (len_at ss i (record { depth = 0; byte = 0; len = 0 }) (omega arith) (omega arith)) in
    let now : c.loop-index.end - s.len ≡ total_of (take (length ss - i) ls) = omega arith in
    let back : i ≡ i + 1 - 1 = omega arith in
    record {
      end = now ∙ ap (λ k. total_of (take (length ss - k) ls)) back;
      puts = puts_same _ _ _ _
          (ap (λ x. x ∷ map f (map (λ j. total_of (take j ls)) (range_with_len (length ss - (i - 1)) (i - 1)))) (ap (λ x. x % 256) (shifted (c.loop-index.end - s.len) c.args.place) ∙ ap f now)
          ∙ block_more (λ j. total_of (take j ls)) f (length ss) i u t
          ∙ ap (λ k. map f (map (λ j. total_of (take j ls)) (range_with_len (length ss - k) k))) back)
          (puts_then _ _ _ _ _ c.loop-index.invariant.puts c.put.ensures);
      in_range = omega arith;
    }

pub returns : goal.returns
returns c =
    let ss = c.args.siblings.now in
    let ls = lens_of (newest_first ss) in
    let i = c.loop-index.index in
    let v = c.loop-index.invariant in
    let f = λ (o : ℕ). o / 256 ^ c.args.place % 256 in
    let k = length-lens ss in
    let r = v.in_range in
    let t = c.loop-index-test.false in
    let u = c.loop-index.auto.index in
    let count : i - 1 ≡ length ls - 1 = omega arith in
    puts_same _ _ _ _ (all_blocks f (λ j. total_of (take j ls)) (length ss) (i - 1) (length ls - 1) count (omega arith)) v.puts
