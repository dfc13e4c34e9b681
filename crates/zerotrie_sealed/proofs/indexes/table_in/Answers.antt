-- What is behind the header is cut at the length of the table.
use Rattle.std.proofs.Common.{rules, ◌≡◌, ◌+◌, ◌^◌, ◌<◌, length, drop, sym, subst, ◌∙◌, arith}
use Rattle.std.proofs.lemmas.List.{length-drop, drop-drop}
use Rattle.zerotrie_sealed.specs.Faults.{length_in, table_in, index_in, HasSumOf}
use Rattle.zerotrie_sealed.proofs.InBlocks.{table-long}
use Rattle.zerotrie_sealed.proofs.indexes.table_in.Goals as goal

pub returns-in_default-table_behind-clause-fault : goal.returns-in_default-table_behind-clause-fault
returns-in_default-table_behind-clause-fault c =
    let file = c.args.file.now in
    let is : c.in-Some.table.now ≡ table_in file = search rules in
    let fits : length (index_in file) < 2 ^ 64 = let short : length file < 2 ^ 64 = search rules in omega (arith, length-drop (24 + length_in file) file) in
    λ sum same. c.in_default-table_behind.ensures.none (subst (λ t. HasSumOf t file) (sym is) sum) (table-long (index_in file) c.in-Some.table.now fits (is ∙ same))

pub returns-clause-index : goal.returns-clause-index
returns-clause-index c =
    let file = c.args.file.now in
    let behind : c.in-Some.behind.now ≡ drop (length_in file) (drop 24 file) = search rules in
    behind ∙ drop-drop (length_in file) 24 file
