use Rattle.zerotrie_any.proofs.JsonLemmas.{json_kept}
use Rattle.zerotrie_any.proofs.json.json_keeps_the_pairs.Goals as goal

pub returns : goal.returns
returns c = json_kept
