use Rattle.zerotrie_core.specs.ByteSets.{is_in}
use Rattle.zerotrie_core.proofs.ByteSetLemmas.{in_both}
use Rattle.zerotrie_core.proofs.byte_set.ByteSet.intersect.Goals as goal

pub returns : goal.returns
unfolding is_in
returns c byte =
    let s = c.args.self.now in
    let o = c.args.other.now in
    in_both s.words o.words s.whole o.whole byte
