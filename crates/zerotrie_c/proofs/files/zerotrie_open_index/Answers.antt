-- The file of an index is that of the index at its end, or of none.
use Rattle.std.proofs.Common.{◌+◌, ◌-◌, ◌≡◌, ◌≤◌, inl, inr, length, refl, subst, sym, arith}
use Rattle.zerotrie_c.specs.Files.{IsIndexFileFault}
use Rattle.zerotrie_c.proofs.FileLemmas.{index_fits, index_part, index_fault}
use Rattle.zerotrie_c.proofs.files.zerotrie_open_index.Goals as goal

pub returns-in-Ok : goal.returns-in-Ok
returns-in-Ok c =
    let file = c.args.file.now in
    let index = c.in-Ok.index.now in
    let fits : length index ≤ length file = index_fits index file c.in-Ok.ensures.ok in
    let whole : length file - length index + length index ≡ length file = omega arith in
    inl (refl, whole, index_part index file c.in-Ok.ensures.ok)

pub returns-in-Err : goal.returns-in-Err
returns-in-Err c = inr (
  c.in-Err.ensures.none,
  subst (IsIndexFileFault c.args.file.now) (sym c.seal_status_of.ensures) (index_fault c.args.file.now c.in-Err.error c.in-Err.ensures.fault c.in-Err.ensures.order),
  refl,
  refl,
)
