use Rattle.std.proofs.Common.{◌≡◌, ◌≤◌, ◌<◌, ℕ, List, Ok, Err, length, map, ◌∙◌, sym, ap, subst, inl, inr, arith, refl}
use Rattle.std.proofs.lemmas.Result.{err_from_is_err_and}
use Rattle.zerotrie_core.specs.Built.{IsBuilt}
use Rattle.zerotrie_core.specs.Items.{pairs_of, keyed}
use Rattle.zerotrie_core.specs.Kind.{simple_ascii}
use Rattle.zerotrie_core.specs.Maps.{Ascends}
use Rattle.zerotrie_core.specs.Routes.{ascending, any_order, IsRefusal}
use Rattle.zerotrie.specs.dense.Layout.{laid_rows, laid_pairs, dense_cells, primary_pairs, matrix}
use Rattle.zerotrie.specs.dense.Views.{row_shown, rows_in}
use Rattle.zerotrie.specs.dense.Records.{matrix_bytes}
use Rattle.zerotrie.specs.dense.Rows.{placed, suffixes}
use Rattle.zerotrie.proofs.OnceLemmas.{primary_once, once_apart}
use Rattle.zerotrie.proofs.RowsLemmas.{laid_by, laid_ascend}
use Rattle.zerotrie.specs.dense.RowFaults.{AllAscend}
use Rattle.zerotrie.proofs.Builds.{build_of_vec}
use Rattle.zerotrie.proofs.CauseLemmas.{text_refused, row_refused, primary_refused, columns_refused, free_rows_of}
use Rattle.zerotrie.proofs.MadeLemmas.{made, as_many}
use Rattle.zerotrie.proofs.dense.table.ZeroAsciiDenseSparse2dTrieOwned.try_from_btree_map_str.Goals as goal

pub returns-in_err-check_texts : goal.returns-in_err-check_texts
returns-in_err-check_texts c =
    let same = err_from_is_err_and c.from_residual.result c.from_residual.ensures.1 in
    rw (same.1, same.2) (text_refused c.args.delimiter (rows_in c.args.entries.now.entries) c.in_err-check_texts.field-0.0 c.in_err-check_texts.ensures.fault)

pub returns-in_default : goal.returns-in_default
returns-in_default c =
    let at = c.in_ok-columns.ensures.columns ∙ ap (placed 0) c.in_ok-suffixes.ensures in
    let many = as_many c.in_ok-columns.columns.items (suffixes (rows_in c.args.entries.now.entries)) at in
    let wide : 65535 < length (suffixes (rows_in c.args.entries.now.entries)) = (let high = c.in_default.ensures in let n = c.len.ensures in let m = c.in_ok-columns.columns.ok in omega (arith, many, n, high)) in
    inr (inl wide)

pub returns-in_err-rows : goal.returns-in_err-rows
returns-in_err-rows c =
    let same = err_from_is_err_and c.from_residual-in_err-rows.result c.from_residual-in_err-rows.ensures.1 in
    rw (same.1, same.2) (row_refused c.args.delimiter (rows_in c.args.entries.now.entries) c.in_err-rows.field-0.0
    (c.in_ok-check_texts.ensures.delimiter, c.in_ok-check_texts.ensures.plain, c.in_ok-check_texts.ensures.apart) c.in_err-rows.ensures.refused)

pub returns-in_err-try_from_iter : goal.returns-in_err-try_from_iter
unfolding primary_pairs
returns-in_err-try_from_iter c =
    let same = err_from_is_err_and c.from_residual-in_err-try_from_iter.result c.from_residual-in_err-try_from_iter.ensures.1 in
    let d = c.args.delimiter in
    let rows = rows_in c.args.entries.now.entries in
    let most = as_many c.in_ok-columns.columns.items (suffixes rows) (c.in_ok-columns.ensures.columns ∙ ap (placed 0) c.in_ok-suffixes.ensures) in
    let many : c.len-2.result ≡ length (suffixes rows) = (let n = c.len-2.ensures in omega (arith, n, most)) in
    let are : map row_shown c.as_slice.result.now ≡ laid_rows rows = laid_by c.len-2.result rows _ many (ap (map row_shown) c.as_slice.ensures.value ∙ c.in_ok-rows.ensures.rows) in
    let pairs : keyed (λ k. k.items) c.in_ok-pairs.pairs.items ≡ primary_pairs d rows = c.in_ok-pairs.ensures.pairs ∙ ap (laid_pairs d) are in
    let free = free_rows_of d rows c.in_ok-check_texts.ensures.apart in
    let refusal = build_of_vec {B = List ℕ} (λ k. k.items) simple_ascii (λ b. b) c.in_ok-pairs.pairs (Err c.in_err-try_from_iter.field-0.0) c.in_err-try_from_iter.ensures in
    rw (same.1, same.2) (primary_refused d rows c.in_err-try_from_iter.field-0.0
    (c.in_ok-check_texts.ensures.delimiter, c.in_ok-check_texts.ensures.plain, c.in_ok-check_texts.ensures.apart)
    (once_apart (primary_pairs d rows) (primary_once d rows free c.in_ok-rows.ensures.order))
    (subst (λ p. IsRefusal any_order simple_ascii p c.in_err-try_from_iter.field-0.0) pairs refusal))

pub returns-in_err-try_from_sorted_slice : goal.returns-in_err-try_from_sorted_slice
returns-in_err-try_from_sorted_slice c =
    let same = err_from_is_err_and c.from_residual-in_err-try_from_sorted_slice.result c.from_residual-in_err-try_from_sorted_slice.ensures.1 in
    let d = c.args.delimiter in
    let rows = rows_in c.args.entries.now.entries in
    let at = c.in_ok-columns.ensures.columns ∙ ap (placed 0) c.in_ok-suffixes.ensures in
    let ascends : Ascends (placed 0 (suffixes rows)) = subst (λ ts. Ascends (placed 0 ts)) c.in_ok-suffixes.ensures c.in_ok-columns.ensures.ascends in
    let pairs = ap pairs_of c.as_slice-2.ensures.value ∙ at in
    rw (same.1, same.2) (columns_refused d rows c.in_err-try_from_sorted_slice.field-0.0
    (c.in_ok-check_texts.ensures.delimiter, c.in_ok-check_texts.ensures.plain, c.in_ok-check_texts.ensures.apart) ascends
    (subst (λ p. IsRefusal ascending simple_ascii p c.in_err-try_from_sorted_slice.field-0.0) pairs c.in_err-try_from_sorted_slice.ensures))

pub matrix_of-requires : goal.matrix_of-requires
matrix_of-requires c =
    let rows = rows_in c.args.entries.now.entries in
    subst AllAscend (sym (ap (map row_shown) c.as_slice-3.ensures.value ∙ c.in_ok-rows.ensures.rows)) (laid_ascend c.len-2.result rows c.in_ok-rows.ensures.order)

pub returns : goal.returns
unfolding primary_pairs matrix
returns c =
    let d = c.args.delimiter in
    let rows = rows_in c.args.entries.now.entries in
    let at = c.in_ok-columns.ensures.columns ∙ ap (placed 0) c.in_ok-suffixes.ensures in
    let most = as_many c.in_ok-columns.columns.items (suffixes rows) at in
    let many : c.len-2.result ≡ length (suffixes rows) = (let n = c.len-2.ensures in omega (arith, n, most)) in
    let are : map row_shown c.as_slice.result.now ≡ laid_rows rows = laid_by c.len-2.result rows _ many (ap (map row_shown) c.as_slice.ensures.value ∙ c.in_ok-rows.ensures.rows) in
    let same : map row_shown c.as_slice-3.result.now ≡ laid_rows rows = laid_by c.len-2.result rows _ many (ap (map row_shown) c.as_slice-3.ensures.value ∙ c.in_ok-rows.ensures.rows) in
    let pairs : keyed (λ k. k.items) c.in_ok-pairs.pairs.items ≡ primary_pairs d rows = c.in_ok-pairs.ensures.pairs ∙ ap (laid_pairs d) are in
    let cells : dense_cells (suffixes rows) (map row_shown c.as_slice-3.result.now) ≡ matrix rows = ap (dense_cells (suffixes rows)) same in
    let columns = ap pairs_of c.as_slice-2.ensures.value ∙ at in
    let count : c.in-Ok.suffix_count ≡ length (suffixes rows) = (let n = c.len.ensures in let m = c.in-Ok.ensures in omega (arith, n, m, most)) in
    let few : length (suffixes rows) ≤ 65535 = (let n = c.len.ensures in let m = c.in-Ok.ensures in omega (arith, n, m, most)) in
    let built = build_of_vec (λ k. k.items) simple_ascii (λ trie. trie.store.items) c.in_ok-pairs.pairs (Ok c.in_ok-try_from_iter.field-0) c.in_ok-try_from_iter.ensures in
    made d rows _ (c.in_ok-check_texts.ensures.delimiter, c.in_ok-check_texts.ensures.plain, c.in_ok-check_texts.ensures.apart)
    c.in_ok-rows.ensures.order c.in_ok-check_texts.ensures.values few count refl
    (subst (λ p. IsBuilt simple_ascii p c.in_ok-try_from_iter.field-0.store.items) pairs built.1)
    (subst (λ p. IsBuilt simple_ascii p c.in_ok-try_from_sorted_slice.field-0.store.items) columns c.in_ok-try_from_sorted_slice.ensures.1)
    (c.in_ok-matrix_of.ensures ∙ ap (λ ts. matrix_bytes (dense_cells ts (map row_shown c.as_slice-3.result.now))) c.in_ok-suffixes.ensures ∙ ap matrix_bytes cells)
