use Rattle.std.proofs.Common.{ap, ◌∙◌, is_some}
use Rattle.zerotrie_base.specs.Caches.{find}
use Rattle.zerotrie_base.proofs.CacheLemmas.{find_lookup, is_some_seen}
use Rattle.zerotrie_base.proofs.byte_phf.cached_owned.PerfectByteHashMapCacheOwned.has.Goals as goal

pub returns : goal.returns
returns g c = c.contains_key.ensures ∙ is_some_seen _ ∙ ap is_some (find_lookup c.args.keys.now c.self.inside.tables.entries ∙ ap (find c.args.keys.now) c.self.view_is)
