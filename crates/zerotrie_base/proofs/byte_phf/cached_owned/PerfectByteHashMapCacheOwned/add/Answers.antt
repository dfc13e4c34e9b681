use Rattle.std.proofs.Common.{◌≡◌, ap, ◌∙◌, subst, sym}
use Rattle.zerotrie_base.specs.Caches.{put, AllPerfect}
use Rattle.zerotrie_base.specs.byte_phf.Held.{tables_of, held}
use Rattle.zerotrie_base.proofs.CacheLemmas.{tables_of-insert_entry, perfect-put}
use Rattle.zerotrie_base.proofs.byte_phf.cached_owned.PerfectByteHashMapCacheOwned.add.Goals as goal

pub invariant_of-self-2 : goal.invariant_of-self-2
invariant_of-self-2 g c =
    let keys = c.args.keys.now in
    let table = c.in_ok-table.table.items in
    let before = c.self.inside.tables in
    let grown : held c.insert.new.self ≡ put keys table (held before) =
    ap tables_of c.in_ok-insert.ensures.entries ∙ tables_of-insert_entry before.entries c.in_ok-copy.copy c.in_ok-table.table ∙ ap (λ k. put k table (held before)) c.in_ok-copy.ensures.items in
    subst AllPerfect (sym grown) (perfect-put keys table (held before) c.self.invariant c.in_ok-table.ensures.table)

pub returns-clause-ok : goal.returns-clause-ok
returns-clause-ok g c =
    let keys = c.args.keys.now in
    let table = c.in_ok-table.table.items in
    let before = c.self.inside.tables in
    let grown : held c.insert.new.self ≡ put keys table (held before) =
    ap tables_of c.in_ok-insert.ensures.entries ∙ tables_of-insert_entry before.entries c.in_ok-copy.copy c.in_ok-table.table ∙ ap (λ k. put k table (held before)) c.in_ok-copy.ensures.items in
    (table, grown ∙ ap (put keys table) c.self.view_is)
