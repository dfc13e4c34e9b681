use Rattle.std.proofs.Common.{refl, arith}
use Rattle.zerotrie_build.proofs.ArrayLemmas.Text.{puts_more}
use Rattle.zerotrie_build.proofs.array.text.Text.put_all.Goals as goal

pub loop-index-preserved : goal.loop-index-preserved
loop-index-preserved c =
    let v = c.loop-index.invariant in
    (puts_more _ _ _ c.args.bytes.now c.loop-index.index _ c.loop-index-test.true v.1 refl v.0 c.put.ensures, (let w = v.1 in omega arith))
