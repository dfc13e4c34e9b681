use Rattle.std.proofs.Common.{◌≡◌, refl, None}
use Rattle.zerotrie_sets.specs.Operations.{choose}
use Rattle.zerotrie_sets.specs.declared.combined.Keep.TheVariants.{First, Last}
use Rattle.zerotrie_sets.specs.declared.combined.Operation.{Operation}
use Rattle.zerotrie_sets.specs.declared.combined.Operation.TheVariants.{Union, Intersection, Difference, SymmetricDifference}
use Rattle.zerotrie_sets.proofs.MergeLemmas.{all_ascend, all_values, keys_ascend, pairs_ascend}
use Rattle.zerotrie_sets.proofs.laws.combined_are_maps.Goals as goal

none : (operation : Operation) → choose operation None None ≡ None
none (Union First) = refl
none (Union Last) = refl
none (Intersection First) = refl
none (Intersection Last) = refl
none Difference = refl
none SymmetricDifference = refl

pub returns : goal.returns
returns c operation first second up_first up_second =
    let p = keys_ascend first up_first in
    let q = keys_ascend second up_second in
    record {
      ascends = pairs_ascend _ (all_ascend (choose operation) first second p q);
      values = all_values (choose operation) (none operation) first second p q;
    }
