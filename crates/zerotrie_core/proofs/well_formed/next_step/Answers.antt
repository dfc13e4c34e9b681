use Rattle.zerotrie_core.proofs.WellFormedLemmas.Steps.{literal_there, literal_allowed}
use Rattle.zerotrie_core.proofs.well_formed.next_step.Goals as goal

pub returns-in-Value : goal.returns-in-Value
returns-in-Value g c = rw c.in-Value.is (c.value_step.ensures g.K.ZeroTrieWithOptions.kind c.in-Value._value)

pub returns-in-Literal : goal.returns-in-Literal
returns-in-Literal g c =
    let kind = g.K.ZeroTrieWithOptions.kind in
    let rest = c.in-Literal._rest.now in
    rw c.in-Literal.is (literal_there kind c.in-Literal._edge rest, literal_allowed kind c.in-Literal._edge rest c.args.expected)

pub returns-in-Span : goal.returns-in-Span
returns-in-Span g c = rw c.in-Span.is (c.span_step.ensures g.K.ZeroTrieWithOptions.kind)
