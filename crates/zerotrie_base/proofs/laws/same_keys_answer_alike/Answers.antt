use Rattle.std.specs.FinMap.{entries}
use Rattle.zerotrie_base.proofs.MapLemmas.Cases.{value_at-same}
use Rattle.zerotrie_base.proofs.laws.same_keys_answer_alike.Goals as goal

pub returns : goal.returns
returns c kind m k l same = value_at-same kind (entries m) k l same
