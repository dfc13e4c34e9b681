use Rattle.zerotrie_base.proofs.NodeLemmas.Nodes.{span_shorter}
use Rattle.zerotrie_core.proofs.ListingLemmas.Left.{span_end}
use Rattle.zerotrie_core.proofs.WellFormedLemmas.Steps.{span_reduces, span_high, span_allowed, span_unfit}
use Rattle.zerotrie_core.proofs.well_formed.span_step.Goals as goal
use Rattle.zerotrie_core.proofs.well_formed.span_step.Goals.{else-takes_span-via-then-takes_span+else-is_run, else-takes_span-via-else-takes_span}

pub returns-then-is_run : goal.returns-then-is_run
returns-then-is_run c kind =
    let run = c.args.run.now in
    let rest = c.args.rest.now in
    let is = c.is_run.ensures.0 c.if-is_run.true in
    (λ bytes b. (span_shorter kind run rest bytes b, span_end kind bytes run rest b), span_allowed kind run rest c.args.expected (c.takes_span.ensures.0 c.if-takes_span.true), span_reduces kind run rest is.0 is.1)

pub returns-else-takes_span : goal.returns-else-takes_span
returns-else-takes_span c kind bytes b allowed text =
    let run = c.args.run.now in
    let rest = c.args.rest.now in
    elim c.else-takes_span.branch [
      | else-takes_span-via-then-takes_span+else-is_run w ↦ let e = w.is_run.ensures.1 (span_high kind run rest bytes b text) in let f = w.if-is_run.false in cc
      | else-takes_span-via-else-takes_span w ↦ span_unfit kind run rest c.args.expected (λ other. (let e = c.takes_span.ensures.1 other in let f = w.if-takes_span.false in cc)) bytes b allowed
    ]
