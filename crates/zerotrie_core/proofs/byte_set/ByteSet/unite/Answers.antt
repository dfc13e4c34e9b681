use Rattle.zerotrie_core.specs.ByteSets.{is_in}
use Rattle.zerotrie_core.proofs.ByteSetLemmas.{in_one}
use Rattle.zerotrie_core.proofs.byte_set.ByteSet.unite.Goals as goal

pub returns : goal.returns
unfolding is_in
returns c byte =
    let s = c.args.self.now in
    let o = c.args.other.now in
    in_one s.words o.words s.whole o.whole byte
