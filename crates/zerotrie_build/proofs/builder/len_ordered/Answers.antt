use Rattle.std.proofs.Common.{rules}
use Rattle.std.proofs.lemmas.Result.{err_from_is_err_and}
use Rattle.zerotrie_build.specs.Items.{pairs}
use Rattle.zerotrie_build.proofs.Building.{length_refusal}
use Rattle.zerotrie_build.proofs.MeasureLemmas.Measured.{measured_fits, measured_len}
use Rattle.zerotrie_build.proofs.OrderLemmas.Sorting.{ordered_distinct}
use Rattle.zerotrie_build.proofs.builder.len_ordered.Goals as goal

pub returns-in_err-measured : goal.returns-in_err-measured
returns-in_err-measured g c =
    let kind = g.K.ZeroTrieWithOptions.kind in
    let p = err_from_is_err_and c.from_residual.result c.from_residual.ensures.1 in
    rw (p.1, p.2) (length_refusal kind (pairs c.args.items) _ (ordered_distinct kind (pairs c.args.items) c.requires.ordered) c.in_err-measured.ensures.refused)

pub returns : goal.returns
returns g c =
    let kind = g.K.ZeroTrieWithOptions.kind in
    let all = pairs c.args.items in
    let m = c.in_ok-measured.ensures.measured in
    let slots = c.in_ok-measured.measured.slots.items in
    let len = c.in_ok-measured.measured.len in
    (ordered_distinct kind all c.requires.ordered, measured_fits kind all slots len m c.requires.values (search rules), measured_len kind all slots len m)
