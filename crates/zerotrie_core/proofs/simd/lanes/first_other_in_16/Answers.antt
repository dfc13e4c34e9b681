use Rattle.std.proofs.Common.{◌^◌, ◌%◌, not, eqb, leb, take, replicate, ap, ◌∙◌, arith, w8}
use Rattle.std.specs.Simd.Lanes.{mask_l, zip2}
use Rattle.std.proofs.lemmas.List.{length-take-le}
use Rattle.std.proofs.lemmas.Simd.{tops_compared, mask_l-mod, zip2_splat_left}
use Rattle.zerotrie_core.proofs.ReaderLemmas.Lanes.{lowest_other, differ_len, high_len}
use Rattle.zerotrie_core.proofs.simd.lanes.first_other_in_16.Goals as goal

pub returns : goal.returns
returns c =
    let bytes = c.args.bytes.now in
    let others = c.args.others.now in
    let len = length-take-le 16 bytes c.requires.bytes in
    let differ = zip2 (λ a b. not (eqb a b)) (take 16 bytes) (take 16 others) in
    lowest_other bytes others c.requires.bytes c.requires.others _ _
    (ap (λ ms. mask_l ms % 2 ^ 64) (tops_compared w8 (λ a b. not (eqb a b)) (take 16 bytes) (take 16 others)) ∙ mask_l-mod differ 64 (omega (arith, differ_len bytes others c.requires.bytes c.requires.others)))
    (ap (λ ms. mask_l ms % 2 ^ 64) (tops_compared w8 (λ a b. leb a b) (replicate 16 128) (take 16 bytes) ∙ zip2_splat_left (λ a b. leb a b) 128 16 (take 16 bytes) len) ∙ mask_l-mod _ 64 (omega (arith, high_len bytes others c.requires.bytes c.requires.others)))
