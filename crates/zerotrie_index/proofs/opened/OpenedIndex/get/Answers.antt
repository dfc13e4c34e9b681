use Rattle.std.proofs.Common.{◌∙◌, sym, subst}
use Rattle.zerotrie_index.specs.Layout.{IsIndex}
use Rattle.zerotrie_index.proofs.opened.OpenedIndex.get.Goals as goal

pub returns-clause-index : goal.returns-clause-index
returns-clause-index c pairs is = c.value_in.ensures c.self.inside.bytes.now pairs c.self.invariant (subst (IsIndex pairs) (sym c.self.view_is) is)

pub returns-clause-given : goal.returns-clause-given
returns-clause-given c given index =
    let is = subst (IsIndex index.0) (sym c.self.view_is) index.1 in
    c.value_in.ensures c.self.inside.bytes.now index.0 c.self.invariant is ∙ c.built_answers_as_given.ensures given index.0 is.distinct index.2 c.args.key.now
