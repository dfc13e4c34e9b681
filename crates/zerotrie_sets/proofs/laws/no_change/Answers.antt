use Rattle.std.proofs.Common.{◌≡◌, [], subst}
use Rattle.zerotrie_sets.specs.Changes.{changes}
use Rattle.zerotrie_sets.proofs.ChangeLemmas.{unchanged_same, same_unchanged}
use Rattle.zerotrie_sets.proofs.laws.no_change.Goals as goal

pub returns : goal.returns
returns c first second = (unchanged_same first second, λ e. subst (λ ps. changes first ps ≡ []) e (same_unchanged first))
