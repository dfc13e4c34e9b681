use Rattle.std.proofs.Common.{refl}
use Rattle.zerotrie_sets.specs.Changes.{change}
use Rattle.zerotrie_sets.proofs.MergeLemmas.{all_ascend, all_values, keys_ascend}
use Rattle.zerotrie_sets.proofs.laws.diffs_are_of_maps.Goals as goal

pub returns : goal.returns
returns c first second up_first up_second =
    let p = keys_ascend first up_first in
    let q = keys_ascend second up_second in
    record {
      ascends = all_ascend change first second p q;
      changes = all_values change refl first second p q;
    }
