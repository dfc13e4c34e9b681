use Rattle.std.proofs.Common.{refl, subst, ◌∙◌, sym, ap}
use Rattle.zerotrie_sets.specs.Merges.{both, KeysAscend, value_of}
use Rattle.zerotrie_sets.proofs.MergeLemmas.{all_ascend, all_values, rows_chosen, keys_ascend}
use Rattle.zerotrie_sets.proofs.laws.rows_are_of_maps.Goals as goal

pub returns : goal.returns
returns c first second up_first up_second =
    let p = keys_ascend first up_first in
    let q = keys_ascend second up_second in
    record {
      ascends = subst KeysAscend (rows_chosen first second) (all_ascend both first second p q);
      values = λ key. sym (ap (value_of key) (rows_chosen first second)) ∙ all_values both refl first second p q key;
    }
