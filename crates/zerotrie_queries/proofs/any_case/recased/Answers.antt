use Rattle.std.proofs.Common.{◌∙◌, ap, sym, subst}
use Rattle.std.proofs.lemmas.Result.{IfOk-weaker}
use Rattle.std.specs.FinMap.{entries}
use Rattle.zerotrie_core.specs.Kinds.{kind_of}
use Rattle.zerotrie_core.specs.Maps.{Ascends, look}
use Rattle.zerotrie_sets.specs.Merges.{chosen, joined}
use Rattle.zerotrie_sets.specs.Operations.{choose}
use Rattle.zerotrie_sets.specs.declared.combined.Keep.TheVariants.{First, Last}
use Rattle.zerotrie_sets.specs.declared.combined.Operation.TheVariants.{Union, Intersection, Difference}
use Rattle.zerotrie_queries.specs.Recased.{looked_up}
use Rattle.zerotrie_queries.proofs.RecasedLemmas.{looked_up_ascends}
use Rattle.zerotrie_queries.proofs.any_case.recased.Goals as goal

pub unite-requires-clause-second : goal.unite-requires-clause-second
unite-requires-clause-second g c =
    let (m, one) = c.requires.first in
    let at = look (kind_of c.args.first.now.kind) m in
    subst (λ ps. Ascends ps) (sym (c.in_ok-others.ensures m one)) (looked_up_ascends Difference at (g.S.PairStream.left c.args.pairs).pairs c.requires.pairs)

pub returns-clause-ascends : goal.returns-clause-ascends
returns-clause-ascends g c =
    let (m, one) = c.requires.first in
    let at = look (kind_of c.args.first.now.kind) m in
    let found = c.in_ok-found.found in
    let others = c.in_ok-others.others in
    let up = subst (λ ps. Ascends ps) (sym (c.in_ok-others.ensures m one)) (looked_up_ascends Difference at (g.S.PairStream.left c.args.pairs).pairs c.requires.pairs) in
    IfOk-weaker c.unite.result _ _
    (λ table is. subst (λ ps. Ascends ps) (sym is) (c.combined_are_maps.ensures (Union First) found others c.in_ok-found.ensures.ascends up).ascends)
    c.unite.ensures

pub returns-clause-is : goal.returns-clause-is
returns-clause-is g c =
    let found = c.in_ok-found.found in
    let others = c.in_ok-others.others in
    IfOk-weaker c.unite.result _ _
    (λ table is m n one two.
    (let ours = looked_up (Intersection Last) (look (kind_of c.args.second.now.kind) n) (entries m) in
    is ∙ ap (λ ps. chosen (choose (Union First)) (joined ps others)) (c.in_ok-found.ensures.is m n one two)
    ∙ ap (λ ps. chosen (choose (Union First)) (joined ours ps)) (c.in_ok-others.ensures m one)))
    c.unite.ensures
