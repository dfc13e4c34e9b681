-- A file is a sealed index exactly if its parts agree and its number is that of one.
use Rattle.std.proofs.Common.{rules, ◌≡◌}
use Rattle.zerotrie_sealed.specs.Sealed.{index_number, blocks_number}
use Rattle.zerotrie_sealed.specs.Faults.{kind_in, IsIndexFault}
use Rattle.zerotrie_sealed.specs.declared.reading.SealError.TheVariants.{UnknownKind}
use Rattle.zerotrie_sealed.proofs.InBlocks.{none_indexed, no_index, whole_fault, blocks_fault, indexed, indexed-whole}
use Rattle.zerotrie_sealed.proofs.indexes.open_index.Goals as goal

pub returns-in-25-clause-ok : goal.returns-in-25-clause-ok
returns-in-25-clause-ok c =
    let number = c.in_ok-number.ensures in
    let kind : kind_in c.args.file.now ≡ blocks_number = search rules in
    indexed c.args.file.now c.index_in.result number.header (search rules) (λ i. (c.type_inv.file i).fits) number.magic number.version kind c.index_in.ensures.index c.index_in.ensures.table

pub returns-in-25-clause-none : goal.returns-in-25-clause-none
returns-in-25-clause-none c =
    let kind : kind_in c.args.file.now ≡ blocks_number = search rules in
    no_index c.args.file.now c.index_in.result (search rules) (λ i. (c.type_inv.file i).fits) (blocks_fault c.args.file.now c.index_in.result kind c.index_in.ensures.fault)

pub returns-in-24-clause-ok : goal.returns-in-24-clause-ok
returns-in-24-clause-ok c =
    let number = c.in_ok-number.ensures in
    let whole = c.whole_in.ensures in
    let kind : kind_in c.args.file.now ≡ index_number = search rules in
    indexed-whole c.args.file.now c.whole_in.result number.header (λ i. (c.type_inv.file i).fits) number.magic number.version kind whole.bytes whole.length whole.checksum

pub returns-in-24-clause-none : goal.returns-in-24-clause-none
returns-in-24-clause-none c =
    let kind : kind_in c.args.file.now ≡ index_number = search rules in
    no_index c.args.file.now c.whole_in.result (search rules) (λ i. (c.type_inv.file i).fits) (whole_fault c.args.file.now c.whole_in.result kind c.whole_in.ensures.fault)

pub returns-in_default-clause-none : goal.returns-in_default-clause-none
returns-in_default-clause-none c =
    let fault : IsIndexFault c.args.file.now (UnknownKind c.in_ok-number.number) = search rules in
    none_indexed c.args.file.now (UnknownKind c.in_ok-number.number) (search rules) (λ i. (c.type_inv.file i).fits) fault
