use Rattle.zerotrie_core.specs.ByteSets.{is_in}
use Rattle.zerotrie_core.proofs.ByteSetLemmas.{has_tested}
use Rattle.zerotrie_core.proofs.byte_set.ByteSet.has.Goals as goal

pub returns : goal.returns
unfolding is_in
returns c = has_tested c.args.self.now.words c.args.byte
