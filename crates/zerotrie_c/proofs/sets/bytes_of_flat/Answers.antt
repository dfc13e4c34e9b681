use Rattle.std.proofs.Common.{◌∙◌, ap, subst}
use Rattle.zerotrie_core.specs.Items.{pairs_of}
use Rattle.zerotrie_core.specs.Kinds.{kind_of}
use Rattle.zerotrie_core.specs.Routes.{ascending, IsBuild}
use Rattle.zerotrie_c.proofs.SetLemmas.{flat_given}
use Rattle.zerotrie_c.proofs.sets.bytes_of_flat.Goals as goal

pub returns : goal.returns
returns c pairs flat =
    let listed = c.args.listed.now in
    let given = rw (c.as_slice.ensures.value, c.as_slice-2.ensures.value, c.as_slice-3.ensures.value) at c.in_ok-items.ensures in
    subst (λ ps. IsBuild ascending (kind_of c.args.kind) (λ bytes. bytes.items) ps c.bytes_of_sorted.result)
    (ap pairs_of c.as_slice-4.ensures.value ∙ given ∙ flat_given pairs listed.keys.items listed.ends.items listed.values.items flat) c.bytes_of_sorted.ensures
