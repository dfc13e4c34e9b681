use Rattle.std.proofs.Common.{◌∷◌, [], refl, lit<}
use Rattle.zerotrie_checks.proofs.tests.counting.grows_at_the_front.Goals as goal

pub atbs_permute_front-requires-clause-permutation : goal.atbs_permute_front-requires-clause-permutation
atbs_permute_front-requires-clause-permutation g c = record {
  moves = (1, 2) ∷ [];
  below = (lit< tt, lit< tt, tt);
  is = refl;
}
