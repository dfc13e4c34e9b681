use Rattle.std.proofs.Common.{ap, sym, ◌∙◌, ◌≡◌, is_some, option_map, Some, None, true, false}
use Rattle.zerotrie_base.specs.Caches.{find}
use Rattle.zerotrie_base.specs.byte_phf.Held.{held}
use Rattle.zerotrie_base.proofs.CacheLemmas.{find_lookup, perfect_found}
use Rattle.zerotrie_base.proofs.byte_phf.cached_owned.PerfectByteHashMapCacheOwned.held_table.Goals as goal

pub unreachable-requires : goal.unreachable-requires
unreachable-requires g c =
    let e : None ≡ find c.args.keys.now (held c.self.inside.tables) = ap (option_map (λ x. x.items)) c.in-None.ensures.value ∙ find_lookup c.args.keys.now c.self.inside.tables.entries in
    let k : false ≡ true = ap is_some (e ∙ ap (find c.args.keys.now) c.self.view_is) ∙ c.requires in
    cc

pub returns : goal.returns
returns g c =
    let found : find c.args.keys.now (held c.self.inside.tables) ≡ Some c.from_bytes.result.store.now =
    sym (ap Some (c.from_bytes.ensures ∙ c.as_slice.ensures.value) ∙ ap (option_map (λ x. x.items)) c.in-Some.ensures.value ∙ find_lookup c.args.keys.now c.self.inside.tables.entries) in
    record {
      found = ap (find c.args.keys.now) (sym c.self.view_is) ∙ found;
      perfect = perfect_found c.args.keys.now c.from_bytes.result.store.now (held c.self.inside.tables) c.self.invariant found;
    }
