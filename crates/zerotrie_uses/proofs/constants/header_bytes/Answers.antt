use Rattle.std.proofs.Common.{rules}
use Rattle.zerotrie.specs.Kind.{simple_ascii}
use Rattle.zerotrie.specs.ArrayRoutes.{IsBuildWithin}
use Rattle.zerotrie.proofs.Constants.{clean_within}
use Rattle.zerotrie_uses.proofs.HeaderTable.{headers, clean, room, waits}
use Rattle.zerotrie_uses.proofs.constants.header_bytes.Goals as goal

pub unreachable-requires : goal.unreachable-requires
unreachable-requires c =
    let build : IsBuildWithin simple_ascii 3493 104 (λ bytes. bytes) headers c.from_tuple_slice_with_stack.result = rw c.from_byte_slice-items.ensures at c.from_tuple_slice_with_stack.ensures in
    let ok = clean_within simple_ascii 3493 104 (λ bytes. bytes) headers c.from_tuple_slice_with_stack.result clean room waits build in
    search rules

pub returns : goal.returns
returns c = rw c.from_byte_slice-items.ensures at c.in-Ok.ensures.0.built
