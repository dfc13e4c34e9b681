use Rattle.zerotrie_any.proofs.MapOrder.{keyed_ascends}
use Rattle.zerotrie_any.proofs.routes.items_of.Goals as goal

pub returns-clause-by_bytes : goal.returns-clause-by_bytes
returns-clause-by_bytes g c by =
    keyed_ascends g.Key.Ord.cmp g.Key.TrieKey.key by c.args.entries.now.entries c.into_iter-key-iterator.ensures.into_iter_gives.5
