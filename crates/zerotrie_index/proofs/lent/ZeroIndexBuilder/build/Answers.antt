use Rattle.std.proofs.Common.{◌≡◌, ap, ◌∙◌, subst}
use Rattle.zerotrie_base.specs.Items.{pairs_of}
use Rattle.zerotrie_index.specs.Built.{IsIndexBuild}
use Rattle.zerotrie_index.specs.Lent.{marked_pairs}
use Rattle.zerotrie_index.proofs.lent.ZeroIndexBuilder.build.Goals as goal

pub returns : goal.returns
returns c =
    let items : pairs_of c.as_slice-3.result.now ≡ marked_pairs c.self.inside.text.items c.self.inside.marks.items =
    ap pairs_of c.as_slice-3.ensures.value ∙ c.in_ok-items.ensures ∙ ap (λ t. marked_pairs t c.as_slice-2.result.now) c.as_slice.ensures.value ∙ ap (marked_pairs c.self.inside.text.items) c.as_slice-2.ensures.value in
    subst (λ pairs. IsIndexBuild c.args.seed (λ index. index.store.items) pairs c.try_from_seed.result) (items ∙ c.self.view_is) c.try_from_seed.ensures
