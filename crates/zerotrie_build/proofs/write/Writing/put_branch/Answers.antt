use Rattle.std.proofs.Common.{◌≡◌, ◌≤◌, ◌+◌, ◌^◌, refl, arith, subst, length}
use Rattle.zerotrie_base.specs.Branches.{IsWidth}
use Rattle.zerotrie_build.specs.passes.Writing.{target_lens}
use Rattle.zerotrie_build.proofs.WriteLemmas.Puts.{grows, puts_same, puts_then, count_lens, front_is, front_long}
use Rattle.zerotrie_build.proofs.write.Writing.put_branch.Goals as goal

pub overflow_mul-width : goal.overflow_mul-width
overflow_mul-width g c = let l : c.least_width-width.result ≤ 7 = c.least_width-width.ensures.small in record { fits = omega arith }

pub overflow_add-width : goal.overflow_add-width
overflow_add-width g c = let l : c.least_width-width.result ≤ 7 = c.least_width-width.ensures.small in record { fits = omega arith }

pub overflow_add-width-2 : goal.overflow_add-width-2
overflow_add-width-2 g c = let l : c.least_width-width.result ≤ 7 = c.least_width-width.ensures.small in record { fits = omega arith }

pub put_number-requires-clause-room : goal.put_number-requires-clause-room
put_number-requires-clause-room g c =
    let lens = target_lens c.args.lens.now c.args.numbers.now in
    let w = c.least_width-width.result in
    let n = length c.args.numbers.now in
    let f = front_long c.args.table.now lens w n (subst (λ t. IsWidth t w) c.total.ensures c.least_width-width.ensures.width) (count_lens c.args.lens.now c.args.numbers.now) in
    let r = c.requires.room in
    omega arith

pub put_all-requires : goal.put_all-requires
put_all-requires g c =
    let lens = target_lens c.args.lens.now c.args.numbers.now in
    let w = c.least_width-width.result in
    let n = length c.args.numbers.now in
    let f = front_long c.args.table.now lens w n (subst (λ t. IsWidth t w) c.total.ensures c.least_width-width.ensures.width) (count_lens c.args.lens.now c.args.numbers.now) in
    let a = grows c.put_number.ensures in let s = c.put_number.ensures.same in
    let r = c.requires.room in
    omega arith

pub put_offsets-requires-clause-bytes : goal.put_offsets-requires-clause-bytes
put_offsets-requires-clause-bytes g c = let l : c.least_width-width.result ≤ 7 = c.least_width-width.ensures.small in omega arith

pub put_offsets-requires-clause-room : goal.put_offsets-requires-clause-room
put_offsets-requires-clause-room g c =
    let lens = target_lens c.args.lens.now c.args.numbers.now in
    let w = c.least_width-width.result in
    let n = length c.args.numbers.now in
    let f = front_long c.args.table.now lens w n (subst (λ t. IsWidth t w) c.total.ensures c.least_width-width.ensures.width) (count_lens c.args.lens.now c.args.numbers.now) in
    let a = grows c.put_number.ensures in let s = c.put_number.ensures.same in
    let b = grows c.put_all.ensures in let t = c.put_all.ensures.same in
    let r = c.requires.room in
    omega arith

pub returns : goal.returns
returns g c =
    let lens = target_lens c.args.lens.now c.args.numbers.now in
    let w = c.least_width-width.result in
    let n = length c.args.numbers.now in
    puts_same (front_is c.args.table.now lens w n (subst (λ t. IsWidth t w) c.total.ensures c.least_width-width.ensures.width) (count_lens c.args.lens.now c.args.numbers.now))
    (puts_then c.put_number.ensures (puts_then c.put_all.ensures c.put_offsets.ensures))
