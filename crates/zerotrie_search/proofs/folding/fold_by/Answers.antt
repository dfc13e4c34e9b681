use Rattle.zerotrie_search.proofs.FoldLemmas.{unfolded}
use Rattle.zerotrie_search.proofs.folding.fold_by.Goals as goal

pub returns-in-Simple : goal.returns-in-Simple
returns-in-Simple c = unfolded c.args.kind c.args.bytes.now c.in-Simple.is
