use Rattle.std.proofs.Common.{sym, ap, subst, ◌∙◌}
use Rattle.zerotrie_core.specs.Kind.{simple_ascii}
use Rattle.zerotrie_core.specs.Texts.{Means}
use Rattle.zerotrie.specs.dense.Layout.{primary, columns}
use Rattle.zerotrie.specs.dense.Laws.{answer}
use Rattle.zerotrie.proofs.EntryLemmas.{entry_is}
use Rattle.zerotrie.proofs.dense.laws.answer_is_entry.Goals as goal

pub returns : goal.returns
returns c delimiter rows t p q table mp mq prefix suffix =
    let means = c.canonical_exactly.ensures.means simple_ascii tt in
    let p_means = subst (λ x. Means simple_ascii x.primary (primary delimiter rows)) (sym table.parts_are) (means (primary delimiter rows) table.primary_fits) in
    let q_means = subst (λ x. Means simple_ascii x.suffixes (columns rows)) (sym table.parts_are) (means (columns rows) table.columns_fit) in
    let p_is = c.one_meaning.ensures simple_ascii t.primary p (primary delimiter rows) mp p_means in
    let q_is = c.one_meaning.ensures simple_ascii t.suffixes q (columns rows) mq q_means in
    ap (λ x. answer t x q prefix suffix) p_is ∙ ap (λ y. answer t (primary delimiter rows) y prefix suffix) q_is ∙ entry_is delimiter rows t table prefix suffix
