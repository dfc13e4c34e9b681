use Rattle.std.proofs.Common.{◌∙◌, ap, sym, subst}
use Rattle.std.proofs.lemmas.Result.{IfOk-weaker}
use Rattle.zerotrie_core.specs.Kinds.{kind_of}
use Rattle.zerotrie_core.specs.Maps.{Ascends, look}
use Rattle.zerotrie_queries.specs.Recased.{looked_up}
use Rattle.zerotrie_queries.proofs.RecasedLemmas.{looked_up_ascends}
use Rattle.zerotrie_queries.proofs.any_case.look_up_all.Goals as goal

pub returns-clause-ascends : goal.returns-clause-ascends
returns-clause-ascends c =
    let (m, one) = c.requires.trie in
    let (n, two) = c.requires.other in
    let pairs = c.in_ok-pairs.pairs.left.pairs in
    let at = look (kind_of c.args.other.now.kind) n in
    IfOk-weaker c.look_up_each.result _ _
    (λ table is. subst (λ ps. Ascends ps) (sym (is n two)) (looked_up_ascends c.args.operation at pairs (c.in_ok-pairs.ensures m one).1))
    c.look_up_each.ensures

pub returns-clause-is : goal.returns-clause-is
returns-clause-is c =
    IfOk-weaker c.look_up_each.result _ _
    (λ table is m n one two. is n two ∙ ap (λ l. looked_up c.args.operation (look (kind_of c.args.other.now.kind) n) l.pairs) (c.in_ok-pairs.ensures m one).0)
    c.look_up_each.ensures
