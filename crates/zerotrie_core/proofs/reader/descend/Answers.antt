use Rattle.std.proofs.Common.{sym, ◌∙◌}
use Rattle.std.proofs.lemmas.List.{nil_from_length}
use Rattle.std.proofs.lemmas.Bool.{eqb-true, eqb-false}
use Rattle.zerotrie_core.proofs.ReaderLemmas.LookUps.{value_ends, value_goes}
use Rattle.zerotrie_core.proofs.reader.descend.Goals as goal

pub returns-then-is_empty : goal.returns-then-is_empty
returns-then-is_empty g c =
    rw c.in-Value.is (value_ends g.K.ZeroTrieWithOptions.kind c.in-Value.value c.in-Value.rest.now c.args.key.now (nil_from_length c.args.key.now (eqb-true _ _ (sym c.is_empty.ensures ∙ c.if-is_empty.true))))

pub returns-else-is_empty : goal.returns-else-is_empty
returns-else-is_empty g c =
    rw c.in-Value.is (value_goes g.K.ZeroTrieWithOptions.kind c.in-Value.value c.in-Value.rest.now c.args.key.now (eqb-false _ _ (sym c.is_empty.ensures ∙ c.if-is_empty.false)))

pub returns-in-Literal : goal.returns-in-Literal
returns-in-Literal g c = rw c.in-Literal.is c.over_literals.ensures

pub returns-in-Span : goal.returns-in-Span
returns-in-Span g c = rw c.in-Span.is (c.over_span.ensures g.K.ZeroTrieWithOptions.kind)

pub returns-in-Branch : goal.returns-in-Branch
returns-in-Branch g c = rw c.in-Branch.is c.into_target.ensures
