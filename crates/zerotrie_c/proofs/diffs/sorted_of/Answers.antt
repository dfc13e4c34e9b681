use Rattle.std.proofs.Common.{◌≡◌, true, false, inr, refl, ap, sym, ◌∙◌, subst}
use Rattle.zerotrie_core.specs.Kinds.{kind_of as kind_that_is}
use Rattle.zerotrie_core.specs.WellFormed.{IsWellFormed}
use Rattle.zerotrie_c.proofs.diffs.sorted_of.Goals as goal

pub returns-in-Some-clause-ok : goal.returns-in-Some-clause-ok
returns-in-Some-clause-ok c =
    let kind = kind_that_is c.args.trie.now.kind in
    let well : IsWellFormed kind c.args.trie.now.bytes.now =
    subst (λ b. IsWellFormed kind b) c.in-Ok.ensures.bytes (subst (λ k. IsWellFormed k c.in-Ok.pairs.bytes) c.in-Ok.ensures.kind (c.in-Some.ensures.valid.0 refl)) in
    (well.0, well.1, ap (λ l. l.pairs) c.in-Some.ensures.lists ∙ ap (λ l. l.pairs) (c.in-Ok.ensures.pairs well.0 well.1))

pub returns-in-None-clause-err : goal.returns-in-None-clause-err
returns-in-None-clause-err c = inr (
  refl,
  λ well. (let here : IsWellFormed c.in-Ok.pairs.kind c.in-Ok.pairs.bytes =
      subst (λ k. IsWellFormed k c.in-Ok.pairs.bytes) (sym c.in-Ok.ensures.kind) (subst (λ b. IsWellFormed (kind_that_is c.args.trie.now.kind) b) (sym c.in-Ok.ensures.bytes) well) in
      let same : false ≡ true = c.in-None.ensures.valid.1 here in absurd (cc)),
)
