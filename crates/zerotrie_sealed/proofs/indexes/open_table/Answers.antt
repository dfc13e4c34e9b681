-- A header and a table that agree are sealed, and in front of one index alone.
use Rattle.std.proofs.Common.{rules, ◌≡◌, ℕ, ◌^◌, ◌<◌, length, get_or}
use Rattle.zerotrie_sealed.specs.Faults.{length_in}
use Rattle.zerotrie_sealed.specs.declared.reading.SealError.TheVariants.{Checksum}
use Rattle.zerotrie_sealed.proofs.InBlocks.{no-table, table-is, parts-are, front-agreed}
use Rattle.zerotrie_sealed.proofs.indexes.open_table.Goals as goal

pub returns-in_default-clause-none : goal.returns-in_default-clause-none
returns-in_default-clause-none c =
    let bytes : (i : ℕ) → get_or c.args.header.now i 0 < 256 = search rules in
    no-table c.args.header.now c.args.table.now Checksum bytes (λ i. (c.type_inv.table i).fits) c.in_default.ensures.none

pub returns-clause-sealed : goal.returns-clause-sealed
returns-clause-sealed c =
    let bytes : (i : ℕ) → get_or c.args.header.now i 0 < 256 = search rules in
    let len : length_in c.args.header.now ≡ length c.args.table.now = search rules in
    front-agreed c.args.header.now c.args.table.now (search rules) bytes c.in_ok-len.ensures.known len c.in-Some.ensures.some.0

pub returns-clause-of : goal.returns-clause-of
returns-clause-of c = λ index file begins is.
    let low : c.in-Some.table.index_len < 2 ^ 64 = search rules in
    parts-are index c.args.table.now c.in-Some.table.sums.now c.in-Some.table.index_len low is.fits c.in-Some.ensures.parts
    (table-is index file c.args.header.now c.args.table.now begins is)
