-- A header with another number is that of no index in blocks.
use Rattle.std.proofs.Common.{rules}
use Rattle.zerotrie_sealed.specs.Faults.{IsHeaderFault}
use Rattle.zerotrie_sealed.specs.declared.reading.SealError.TheVariants.{UnknownKind}
use Rattle.zerotrie_sealed.proofs.InBlocks.{no-header}
use Rattle.zerotrie_sealed.proofs.indexes.table_len.Goals as goal

pub returns-then-number-ne-BLOCKS_NUMBER-clause-none : goal.returns-then-number-ne-BLOCKS_NUMBER-clause-none
returns-then-number-ne-BLOCKS_NUMBER-clause-none c =
    let fault : IsHeaderFault c.args.header.now (UnknownKind c.in_ok-number.number) = search rules in
    no-header c.args.header.now (UnknownKind c.in_ok-number.number) fault
