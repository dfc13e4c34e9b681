use Rattle.zerotrie_base.specs.Items.{keyed}
use Rattle.zerotrie_index.proofs.WrittenLemmas.{sorted_build}
use Rattle.zerotrie_index.proofs.builder.build_sorted.Goals as goal

pub returns : goal.returns
returns g c = sorted_build (λ bytes. bytes.items) c.args.seed (keyed g.K.TrieKey.key c.args.items.now) c.build.result (c.is_ascending.ensures.0 c.if-not-is_ascending.false) c.build.ensures
