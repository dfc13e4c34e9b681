use Rattle.std.proofs.Common.{◌^◌, ◌%◌, leb, take, drop, ap, ◌∙◌, arith, w8}
use Rattle.std.specs.Simd.Lanes.{mask_l}
use Rattle.std.proofs.lemmas.Simd.{tops_compared, mask_l-mod}
use Rattle.zerotrie_core.proofs.ReaderLemmas.Lanes.{lowest_rises, lowest_stops, stops_len}
use Rattle.zerotrie_core.proofs.simd.lanes.rising_in_17.Goals as goal

pub returns-clause-rises : goal.returns-clause-rises
returns-clause-rises c = lowest_rises c.args.bytes.now c.requires _ (rw c.split_at.ensures.back (ap (λ ms. mask_l ms % 2 ^ 64) (tops_compared w8 (λ a b. leb a b) (take 16 (drop 1 c.args.bytes.now)) (take 16 c.args.bytes.now)) ∙ mask_l-mod _ 64 (omega (arith, stops_len c.args.bytes.now c.requires))))

pub returns-clause-stops : goal.returns-clause-stops
returns-clause-stops c = lowest_stops c.args.bytes.now c.requires _ (rw c.split_at.ensures.back (ap (λ ms. mask_l ms % 2 ^ 64) (tops_compared w8 (λ a b. leb a b) (take 16 (drop 1 c.args.bytes.now)) (take 16 c.args.bytes.now)) ∙ mask_l-mod _ 64 (omega (arith, stops_len c.args.bytes.now c.requires))))
