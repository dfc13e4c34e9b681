use Rattle.zerotrie_build.proofs.Filling.{set_next}
use Rattle.zerotrie_build.proofs.store.TrieBuilderStore.atbs_set_zeros.Goals as goal

pub loop-i-preserved : goal.loop-i-preserved
loop-i-preserved g c =
    set_next (g.Self.TrieBuilderStore.list c.args.self.now) (g.Self.TrieBuilderStore.list c.loop-i.self) _ c.args.bytes.now c.args.index c.loop-i.i
    c.loop-i-test.true c.requires.fit c.requires.zeros c.loop-i.invariant c.atbs_bitor_assign.ensures
