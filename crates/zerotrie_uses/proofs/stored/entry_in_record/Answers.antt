use Rattle.std.proofs.Common.{◌≡◌, ◌<◌, List, ℕ, length, ap, subst, sym, ◌∙◌}
use Rattle.std.specs.Prelude.{◌^◌}
use Rattle.zerotrie.specs.dense.Records.{record_of}
use Rattle.zerotrie.specs.dense.Tables.{IsDenseTable}
use Rattle.zerotrie.specs.dense.Views.{owned_parts, rows_in}
use Rattle.zerotrie.proofs.Tables.{table_whole}
use Rattle.zerotrie_uses.proofs.stored.entry_in_record.Goals as goal

pub unreachable-requires : goal.unreachable-requires
unreachable-requires c =
    let parts = owned_parts c.in_ok-table.table in
    let is : c.as_slice.result.now ≡ record_of parts = c.as_slice.ensures.value ∙ c.in_ok-record.ensures ∙ ap record_of c.as_borrowed.ensures in
    let short : length (record_of parts) < 2 ^ 64 = subst (λ (bytes : List ℕ). length bytes < 2 ^ 64) is c.as_slice.type_inv.0 in
    c.in-Err.ensures.written parts (table_whole 47 (rows_in c.args.rows.now.entries) parts c.in_ok-table.ensures short) is

pub returns : goal.returns
returns c =
    let parts = owned_parts c.in_ok-table.table in
    let is : c.as_slice.result.now ≡ record_of parts = c.as_slice.ensures.value ∙ c.in_ok-record.ensures ∙ ap record_of c.as_borrowed.ensures in
    let short : length (record_of parts) < 2 ^ 64 = subst (λ (bytes : List ℕ). length bytes < 2 ^ 64) is c.as_slice.type_inv.0 in
    let same = c.in-Ok.ensures.written parts (table_whole 47 (rows_in c.args.rows.now.entries) parts c.in_ok-table.ensures short) is in
    c.get.ensures.entry 47 (rows_in c.args.rows.now.entries) (subst (IsDenseTable 47 (rows_in c.args.rows.now.entries)) (sym same) c.in_ok-table.ensures)
