use Rattle.std.proofs.Common.{rules, ◌≡◌, ◌+◌, ◌++◌, inl, inr, length, take, drop, subst, ap, ◌∙◌, sym, arith}
use Rattle.std.specs.Allocator.{alloc_error}
use Rattle.std.proofs.lemmas.Result.{err_from_is_err_and}
use Rattle.std.specs.Int.{w64, to_le_bytes}
use Rattle.zerotrie_sealed.specs.Sealed.{HasFront}
use Rattle.zerotrie_index.specs.InBlocks.{HasTableOf}
use Rattle.zerotrie_index.specs.Placed.{HasPart}
use Rattle.zerotrie_index.proofs.FrontLemmas.{header_told, table_cause, table_told}
use Rattle.zerotrie_index.proofs.InBlocksLemmas.{front_read, table_read}
use Rattle.zerotrie_index.proofs.in_blocks.SealedIndex.open.Goals as goal

pub returns-clause-front : goal.returns-clause-front
returns-clause-front g c = λ file may.
    let table = c.as_slice.result.now in
    let value : table ≡ c.in_ok-table.table.items = c.as_slice.ensures.value in
    let second : table ≡ take (length table) (drop 24 file) =
    subst (λ t. t ≡ take (length t) (drop 24 file)) (sym value) (c.in_ok-table.ensures.part file (c.in_ok-fill.ensures.same file may)) in
    subst (λ n. HasFront (24 + n) file) (ap length value ∙ c.in_ok-table.ensures.length)
    (front_read file c.fill.new.room table (search rules) (c.in_ok-fill.ensures.part file may) second (search rules) c.in_ok-table-2.ensures.sealed)

pub returns-clause-table : goal.returns-clause-table
returns-clause-table g c = λ file may.
    let table = c.as_slice.result.now in
    let len = c.in_ok-table-2.table.index_len in
    let value : table ≡ c.in_ok-table.table.items = c.as_slice.ensures.value in
    let second : table ≡ take (length table) (drop 24 file) =
    subst (λ t. t ≡ take (length t) (drop 24 file)) (sym value) (c.in_ok-table.ensures.part file (c.in_ok-fill.ensures.same file may)) in
    subst (λ n. HasTableOf (24 + n) len c.extend_from_slice.new.self.items file) (ap length value ∙ c.in_ok-table.ensures.length)
    (table_read file c.fill.new.room table len c.extend_from_slice.new.self.items (search rules) (c.in_ok-fill.ensures.part file may) second (search rules)
    (c.in_ok-table-2.ensures.parts ∙ ap (λ l. to_le_bytes w64 len ++ l) (search rules)))

-- ---- what fails

pub returns-in_err-fill-clause-err : goal.returns-in_err-fill-clause-err
returns-in_err-fill-clause-err g c =
    let p = err_from_is_err_and c.from_residual.result c.from_residual.ensures.1 in
    rw (p.1, p.2) (inl (0, 24, λ file may. omega arith, c.in_err-fill.ensures.err))

pub returns-in_err-len-clause-err : goal.returns-in_err-len-clause-err
returns-in_err-len-clause-err g c =
    let p = err_from_is_err_and c.from_residual-in_err-len.result c.from_residual-in_err-len.ensures.1 in
    let told = c.in_err-len.ensures in
    rw p.1 (inr (inr (c.in_err-len.field-0.0, p.2, header_told _ c.fill.new.room _ (search rules) c.in_ok-fill.ensures.part told.fault told.order told.none)))

pub returns-in_err-table-clause-err : goal.returns-in_err-table-clause-err
returns-in_err-table-clause-err g c =
    let p = err_from_is_err_and c.from_residual-in_err-table.result c.from_residual-in_err-table.ensures.1 in
    let len = c.in_ok-len.ensures in
    rw (p.1, p.2) (table_cause _ _ _ (g.S.Error.From-1.from_gives alloc_error) g.S.Error.From-2.from_gives c.fill.new.room _ _ (search rules) c.in_ok-fill.ensures.part len.len len.known c.in_ok-fill.ensures.fewer c.in_err-table.ensures.err)

pub returns-in_err-table-2-clause-err : goal.returns-in_err-table-2-clause-err
returns-in_err-table-2-clause-err g c =
    let p = err_from_is_err_and c.from_residual-in_err-table-2.result c.from_residual-in_err-table-2.ensures.1 in
    let told = c.in_err-table-2.ensures in
    let table = c.as_slice.result.now in
    let value : table ≡ c.in_ok-table.table.items = c.as_slice.ensures.value in
    rw p.1 (inr (inr (
      c.in_err-table-2.field-0.0,
      p.2,
      table_told _ c.fill.new.room table _ (search rules) c.in_ok-fill.ensures.part
          (λ file may. subst (λ t. HasPart 24 t file) (sym value) (c.in_ok-table.ensures.part file (c.in_ok-fill.ensures.same file may)))
          (ap length value ∙ c.in_ok-table.ensures.length ∙ c.in_ok-len.ensures.len) told.fault told.order told.none,
    )))

pub returns-in_err-extend_from_slice-clause-err : goal.returns-in_err-extend_from_slice-clause-err
returns-in_err-extend_from_slice-clause-err g c =
    let p = err_from_is_err_and c.from_residual-in_err-extend_from_slice.result c.from_residual-in_err-extend_from_slice.ensures.1 in
    rw p.1 (inr (inl p.2))
