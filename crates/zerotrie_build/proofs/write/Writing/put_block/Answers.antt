use Rattle.std.proofs.Common.{◌≡◌, ◌+◌, ◌-◌, ◌/◌, ◌%◌, ◌^◌, ◌++◌, ℕ, suc, [], ◌∷◌, map, take, get_or, arith, refl, sym, ap, ◌∙◌}
use Rattle.std.proofs.lemmas.List.{map-append}
use Rattle.std.specs.List.{range_with_len}
use Rattle.zerotrie_base.specs.Branches.{total as total_of}
use Rattle.zerotrie_base.proofs.CallerLemmas.{shifted}
use Rattle.zerotrie_build.specs.passes.Writing.{target_lens}
use Rattle.zerotrie_build.proofs.WriteLemmas.Puts.{grows, puts_then, puts_same, total_take, block_so_far, lens_at, count_lens}
use Rattle.zerotrie_build.proofs.Nodes.{total_more, offsets_more}
use Rattle.zerotrie_build.proofs.write.Writing.put_block.Goals as goal

pub overflow_add-end : goal.overflow_add-end
overflow_add-end g c =
    let v = c.loop-index.invariant in
    let ns = c.args.numbers.now in
    let ls = target_lens c.args.lens.now ns in
    let k = count_lens c.args.lens.now ns in
    let t = c.loop-index-test.true in let u = c.loop-index.auto.index in
    let m = total_more ls (c.loop-index.index - 1) (omega arith) in
    let w = total_take ls (suc (c.loop-index.index - 1)) in
    let e = lens_at c.args.lens.now ns (c.loop-index.index - 1) (omega arith) in
    let r = c.requires.small in let b = v.end in
    record { fits = omega arith }

pub put-requires : goal.put-requires
put-requires g c =
    let v = c.loop-index.invariant in
    let p = v.puts in let a = grows p in let s = p.same in let r = c.requires.room in
    let n = block_so_far c.args.place c.loop-index.index (target_lens c.args.lens.now c.args.numbers.now) in
    let t = c.loop-index-test.true in let u = c.loop-index.auto.index in omega arith

pub loop-index-preserved : goal.loop-index-preserved
loop-index-preserved g c =
    let v = c.loop-index.invariant in
    let i = c.loop-index.index in
    let ts = c.args.lens.now in
    let ns = c.args.numbers.now in
    let ls = target_lens ts ns in
    let so_far = map (λ j. total_of (take j ls)) (range_with_len 1 (i - 1)) in
    let f = λ (o : ℕ). o / 256 ^ c.args.place % 256 in
    let k = count_lens ts ns in
    let t = c.loop-index-test.true in let u = c.loop-index.auto.index in
    let m = offsets_more ls so_far i c.loop-index.end (omega arith) (omega arith) v.end refl in
    let e = lens_at ts ns (i - 1) (omega arith) in
    let back : i ≡ i + 1 - 1 = omega arith in
    let last = c.loop-index.end + get_or ts (get_or ns (i - 1) 0) 0 in
    record {
      end = ap (λ x. c.loop-index.end + x) (sym e) ∙ m.0 ∙ ap (λ n. total_of (take n ls)) back;
      puts = puts_same
          (ap (λ x. map f so_far ++ x ∷ []) (ap (λ x. x % 256) (shifted last c.args.place) ∙ ap (λ l. f (c.loop-index.end + l)) (sym e))
          ∙ sym (map-append f so_far ((c.loop-index.end + get_or ls (i - 1) 0) ∷ []))
          ∙ ap (map f) (m.1 ∙ ap (λ n. map (λ j. total_of (take j ls)) (range_with_len 1 n)) back))
          (puts_then v.puts c.put.ensures);
      in_range = omega arith;
    }
