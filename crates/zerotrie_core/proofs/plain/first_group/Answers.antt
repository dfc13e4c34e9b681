use Rattle.std.proofs.Common.{◌<◌, ◌∙◌, ◌++◌, length, drop, ap, refl, subst, sym}
use Rattle.std.proofs.lemmas.List.{take-append-drop}
use Rattle.zerotrie_base.proofs.PlainLemmas.Cuts.{some_group}
use Rattle.zerotrie_core.proofs.plain.first_group.Goals as goal

pub returns-clause-parts : goal.returns-clause-parts
returns-clause-parts c =
    sym (take-append-drop c.group_len.result c.args.items.now) ∙ ap (λ x. x ++ drop c.group_len.result c.args.items.now) (sym c.split_at.ensures.front) ∙ ap (λ x. c.split_at.result.0.now ++ x) (sym c.split_at.ensures.back)

pub returns-clause-some : goal.returns-clause-some
returns-clause-some c =
    subst (λ x. 0 < length x) (sym c.split_at.ensures.front) (some_group c.args.depth _ c.group_len.result c.args.items.now c.requires.some c.requires.deep refl c.group_len.ensures.other)
