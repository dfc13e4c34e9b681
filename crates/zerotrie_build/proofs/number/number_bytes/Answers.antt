use Rattle.std.proofs.Common.{◌<◌, ◌+◌, ◌∙◌, ap, length, arith}
use Rattle.std.specs.Prelude.{slice_set, slice_index}
use Rattle.std.specs.List.{refill}
use Rattle.zerotrie_build.proofs.WriteLemmas.Numbers.{bits_added, spelling_behind}
use Rattle.zerotrie_build.proofs.number.number_bytes.Goals as goal

pub returns : goal.returns
returns c =
    let bits = c.args.bits in
    let s = c.plain_bytes-bytes.ensures in
    let bytes = c.plain_bytes-bytes.result.items in
    let some : 0 < length bytes = (let n = ap length s.bytes_are in omega arith) in
    ap (λ x. refill (length bytes) bytes (slice_set x 0 (slice_index x 0 + bits))) c.as_mut_slice.ensures.value ∙ bits_added bits bytes some ∙ spelling_behind bits c.args.latent c.args.number bytes c.requires s
