use Rattle.std.proofs.Common.{◌+◌, [], ◌∷◌, take, get_or, arith, ap}
use Rattle.std.proofs.lemmas.List.{take_more, map-append}
use Rattle.zerotrie_base.specs.Branches.{total as total_of}
use Rattle.zerotrie_build.specs.passes.Writing.{target_lens}
use Rattle.zerotrie_build.proofs.WriteLemmas.Puts.{total_take, total_push, lens_take}
use Rattle.zerotrie_build.proofs.write.total.Goals as goal

pub overflow_add-total : goal.overflow_add-total
overflow_add-total c =
    let ts = c.args.lens.now in
    let ns = c.args.numbers.now in
    let i = c.loop-number.number-index in
    let m = ap (λ x. total_of (target_lens ts x)) (take_more ns i 0 c.loop-number-test.true) in
    let a = total_push (target_lens ts (take i ns)) (get_or ts (get_or ns i 0) 0) in
    let d = ap total_of (map-append (λ j. get_or ts j 0) (take i ns) (get_or ns i 0 ∷ [])) in
    let w = total_take (target_lens ts ns) (i + 1) in
    let e = ap total_of (lens_take ts (i + 1) ns) in
    let r = c.requires.small in let v = c.loop-number.invariant in
    record { fits = omega arith }
