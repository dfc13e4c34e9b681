use Rattle.std.proofs.Common.{rules}
use Rattle.zerotrie_base.proofs.PlainLemmas.Items.{below_by_less}
use Rattle.zerotrie_index.proofs.AscendLemmas.{above_first}
use Rattle.zerotrie_index.proofs.builder.precedes.Goals as goal

pub returns-in-Some : goal.returns-in-Some
returns-in-Some g c = above_first g.K.TrieKey.key _ c.args.others.now c.in-Some.next.now (search rules) c.lt.result (rw (c.key_bytes.ensures, c.key_bytes-in-Some.ensures) at (below_by_less c.key_bytes.result.now c.key_bytes-in-Some.result.now c.lt.result c.lt.ensures))
