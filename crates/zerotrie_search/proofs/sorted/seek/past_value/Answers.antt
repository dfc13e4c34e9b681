use Rattle.std.proofs.Common.{[], ◌∷◌, ap, arith}
use Rattle.zerotrie_base.specs.Kind.{simple_ascii}
use Rattle.zerotrie_base.specs.Maps.{value_at}
use Rattle.zerotrie_search.proofs.StandLemmas.{past_value_is, value_shorter, no_value_there, run_no_value, literal_run, span_run, branch_no_value, none_listed}
use Rattle.zerotrie_search.proofs.sorted.seek.past_value.Goals as goal

pub returns-in-Some-Value-clause-past : goal.returns-in-Some-Value-clause-past
returns-in-Some-Value-clause-past g c pairs text =
    past_value_is g.K.ZeroTrieWithOptions.kind pairs c.args.at.now c.in-Some-Value.after.now c.in-Some-Value._value (rw c.in-Some-Value.field-0-is at c.in-Some-Value.ensures.begins) text

pub returns-in-Some-Value-clause-less : goal.returns-in-Some-Value-clause-less
returns-in-Some-Value-clause-less g c =
    let less = value_shorter c.args.at.now c.in-Some-Value._value c.in-Some-Value.after.now (rw c.in-Some-Value.field-0-is at c.in-Some-Value.ensures.begins) in
    omega (arith, less)

pub returns-in-Some-Literal-clause-past : goal.returns-in-Some-Literal-clause-past
returns-in-Some-Literal-clause-past g c pairs text =
    let kind = g.K.ZeroTrieWithOptions.kind in
    let at = c.args.at.now in
    let b = c.in-Some-Literal._edge in
    let after = c.in-Some-Literal._after.now in
    let begins = rw c.in-Some-Literal.field-0-is at c.in-Some-Literal.ensures.begins in
    no_value_there kind pairs at text (run_no_value kind pairs at (b ∷ []) after (literal_run kind at b after begins) text)

pub returns-in-Some-Span-clause-past : goal.returns-in-Some-Span-clause-past
returns-in-Some-Span-clause-past g c pairs text =
    let kind = g.K.ZeroTrieWithOptions.kind in
    let at = c.args.at.now in
    let run' = c.in-Some-Span._run.now in
    let after = c.in-Some-Span._after.now in
    let begins = rw c.in-Some-Span.field-0-is at c.in-Some-Span.ensures.begins in
    no_value_there kind pairs at text (run_no_value kind pairs at run' after (span_run kind at run' after begins) text)

pub returns-in-Some-Branch-clause-past : goal.returns-in-Some-Branch-clause-past
returns-in-Some-Branch-clause-past g c pairs text =
    no_value_there g.K.ZeroTrieWithOptions.kind pairs c.args.at.now text (branch_no_value text c.in-Some-Branch._branch (rw c.in-Some-Branch.field-0-is at c.in-Some-Branch.ensures.begins))

pub returns-in-None-clause-past : goal.returns-in-None-clause-past
returns-in-None-clause-past g c pairs text =
    no_value_there g.K.ZeroTrieWithOptions.kind pairs c.args.at.now text (ap (λ ps. value_at simple_ascii ps []) (none_listed text c.in-None.ensures.node))
