use Rattle.std.proofs.Common.{refl, rules, sym}
use Rattle.zerotrie.specs.Kind.{ignore_case}
use Rattle.zerotrie.specs.Bounds.{build_bound}
use Rattle.zerotrie.specs.Clean.{is_clean_in_order}
use Rattle.zerotrie.specs.ArrayRoutes.{IsArrayBuilt}
use Rattle.zerotrie.proofs.Constants.{in_order_within}
use Rattle.zerotrie.proofs.Found.{array_answered, without_case}
use Rattle.zerotrie_uses.specs.Fields.{fields}
use Rattle.zerotrie_uses.proofs.constants.field_number.Goals as goal

pub unreachable-requires : goal.unreachable-requires
unfolding is_clean_in_order build_bound
unreachable-requires c =
    let ok = in_order_within ignore_case 221 8 (λ bytes. bytes) _ c.from_tuple_slice_as.result refl refl refl (rw c.from_byte_slice-items.ensures at c.from_tuple_slice_as.ensures) in
    search rules

pub returns-clause-present : goal.returns-clause-present
returns-clause-present c =
    let built : IsArrayBuilt ignore_case 8 fields c.in-Ok.bytes = rw c.from_byte_slice-items.ensures at c.in-Ok.ensures.0 in
    (without_case (array_answered (rw (sym c.as_bytes.ensures.value) at built) c.get.ensures)).present

pub returns-clause-absent : goal.returns-clause-absent
returns-clause-absent c =
    let built : IsArrayBuilt ignore_case 8 fields c.in-Ok.bytes = rw c.from_byte_slice-items.ensures at c.in-Ok.ensures.0 in
    (without_case (array_answered (rw (sym c.as_bytes.ensures.value) at built) c.get.ensures)).absent
