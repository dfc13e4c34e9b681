use Rattle.zerotrie_index.proofs.CrowdLemmas.{not_crowded}
use Rattle.zerotrie_index.proofs.PermutedLemmas.{distinct_given}
use Rattle.zerotrie_index.proofs.WrittenLemmas.{index_short}
use Rattle.zerotrie_index.proofs.laws.index_excludes_causes.Goals as goal

pub returns : goal.returns
returns c = λ given bytes h. (distinct_given given h.0 h.1.distinct h.2, index_short given bytes h, not_crowded given bytes h)
