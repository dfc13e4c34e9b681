use Rattle.std.proofs.Common.{◌≤◌, ◌∙◌, arith, subst, length}
use Rattle.zerotrie_base.specs.Branches.{IsWidth}
use Rattle.zerotrie_build.specs.array.Texts.{newest_first, bytes_of, lens_of}
use Rattle.zerotrie_build.proofs.WriteLemmas.Puts.{front_is}
use Rattle.zerotrie_build.proofs.ArrayLemmas.Text.{puts_then, puts_same, length-lens}
use Rattle.zerotrie_build.proofs.array.text.Text.put_branch.Goals as goal

pub overflow_add-width : goal.overflow_add-width
overflow_add-width c = let l : c.least_width-width.result ≤ 7 = c.least_width-width.ensures.small in record { fits = omega arith }

pub put_offsets-requires : goal.put_offsets-requires
put_offsets-requires c = let l : c.least_width-width.result ≤ 7 = c.least_width-width.ensures.small in record { bytes = omega arith; total = c.requires.total }

pub overflow_mul-width : goal.overflow_mul-width
overflow_mul-width c = let l : c.least_width-width.result ≤ 7 = c.least_width-width.ensures.small in record { fits = omega arith }

pub overflow_add-width-2 : goal.overflow_add-width-2
overflow_add-width-2 c = let l : c.least_width-width.result ≤ 7 = c.least_width-width.ensures.small in record { fits = omega arith }

pub returns : goal.returns
returns c =
    let ss = c.args.siblings.now in
    let lens = lens_of (newest_first ss) in
    let table = bytes_of (newest_first ss) in
    let w = c.least_width-width.result in
    let n = length ss in
    puts_same _ _ _ _ (front_is table lens w n (subst (λ t. IsWidth t w) c.requires.total c.least_width-width.ensures.width) (length-lens ss))
    (puts_then _ _ _ _ _ (puts_then _ _ _ _ _ c.put_offsets.ensures c.put_edges.ensures) (puts_same _ _ _ _ (c.deref.ensures.0 ∙ c.number_bytes.ensures) c.put_all.ensures))
