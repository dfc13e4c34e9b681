use Rattle.std.proofs.Common.{refl, rules, sym}
use Rattle.zerotrie.specs.Kind.{simple_ascii}
use Rattle.zerotrie.specs.Bounds.{build_bound, is_clean}
use Rattle.zerotrie.specs.ArrayRoutes.{IsArrayBuilt}
use Rattle.zerotrie.proofs.Constants.{clean_within}
use Rattle.zerotrie.proofs.Found.{array_answered, exactly}
use Rattle.zerotrie_uses.specs.Methods.{methods}
use Rattle.zerotrie_uses.proofs.constants.method_number.Goals as goal

pub unreachable-requires : goal.unreachable-requires
unfolding is_clean build_bound
unreachable-requires c =
    let ok = clean_within simple_ascii 224 9 (λ bytes. bytes) _ c.from_tuple_slice_with_stack.result refl refl refl (rw c.from_byte_slice-items.ensures at c.from_tuple_slice_with_stack.ensures) in
    search rules

pub returns : goal.returns
returns c =
    let built : IsArrayBuilt simple_ascii 9 methods c.in-Ok.bytes = rw c.from_byte_slice-items.ensures at c.in-Ok.ensures.0 in
    (exactly (array_answered (rw (sym c.as_bytes.ensures.value) at built) c.get.ensures) tt).exactly
