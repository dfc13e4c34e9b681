use Rattle.std.proofs.Common.{refl, ◌≡◌, ◌+◌, ◌-◌, sym, ◌∙◌, subst, length, arith}
use Rattle.std.proofs.lemmas.Result.{err_from_is_err_and}
use Rattle.zerotrie_base.specs.Numbers.{value_form, span_form, spelled_as}
use Rattle.zerotrie_build.specs.passes.Measured.{Passes}
use Rattle.zerotrie_build.specs.passes.Measured.Passes.{here, value, span}
use Rattle.zerotrie_build.proofs.WindowLemmas.Spans.{span_some}
use Rattle.zerotrie_build.proofs.WindowLemmas.NodeRuns.{too_long, literal_low, literals_to}
use Rattle.zerotrie_build.proofs.measure.after_front.Goals as goal

pub loop-value-preserved-in-Value : goal.loop-value-preserved-in-Value
loop-value-preserved-in-Value g c =
    let v = c.loop-value.invariant in
    record {
      goes_on = λ n last r. subst (Passes g.K.ZeroTrieWithOptions.kind (g.I.IndexedItems.pairs c.args.items) c.args.start last) (let s = c.in_ok-len-in-Value.ensures.sum in let k = c.value_len.ensures in omega arith)
          (v.goes_on (length (spelled_as value_form c.in-Value.value) + n) last (value c.in-Value.value (sym c.first_step.ensures.is ∙ c.in-Value.is) r));
      to_is = v.to_is;
    }

pub literals_end-end-requires : goal.literals_end-end-requires
literals_end-end-requires g c =
    let v = c.loop-value.invariant in
    let to = v.to_is in
    let within = c.requires.within in
    let l = literal_low g.K.ZeroTrieWithOptions.kind (g.I.IndexedItems.pairs c.args.items) c.loop-value.rest c.in-Literal.field-0 (omega arith) c.requires.keys (sym c.first_step.ensures.is ∙ c.in-Literal.is) in
    λ k. ((refl, tt), (l.0, (omega arith, l.1)))

pub loop-value-preserved-in-Literal : goal.loop-value-preserved-in-Literal
loop-value-preserved-in-Literal g c =
    let v = c.loop-value.invariant in
    let e = c.literals_end-end.ensures in
    let past = e.past in
    let to = v.to_is in
    let within = c.requires.within in
    let l = literal_low g.K.ZeroTrieWithOptions.kind (g.I.IndexedItems.pairs c.args.items) c.loop-value.rest c.in-Literal.field-0 (omega arith) c.requires.keys (sym c.first_step.ensures.is ∙ c.in-Literal.is) in
    record {
      goes_on = λ n last r. subst (Passes g.K.ZeroTrieWithOptions.kind (g.I.IndexedItems.pairs c.args.items) c.args.start last) (let s = c.in_ok-len-in-Literal.ensures.sum in omega arith)
          (v.goes_on (c.literals_end-end.result - c.loop-value.rest.depth + n) last (literals_to c.literals_end-end.result l.0 (omega arith) e.low r));
      to_is = v.to_is;
    }

pub loop-value-preserved : goal.loop-value-preserved
loop-value-preserved g c =
    let v = c.loop-value.invariant in
    record {
      goes_on = λ n last r. subst (Passes g.K.ZeroTrieWithOptions.kind (g.I.IndexedItems.pairs c.args.items) c.args.start last)
          (let s = c.in_ok-len-in-Span.ensures.sum in let t = c.in_ok-lead-in-Span.ensures.sum in let k = c.number_len.ensures.len span_form refl in omega arith)
          (v.goes_on (length (spelled_as span_form c.in-Span.count) + c.in-Span.count + n) last (span c.in-Span.count (sym c.first_step.ensures.is ∙ c.in-Span.is) r));
      to_is = v.to_is;
    }

pub loop-value-smaller : goal.loop-value-smaller
loop-value-smaller g c =
    let some = span_some g.K.ZeroTrieWithOptions.kind (g.I.IndexedItems.pairs c.args.items) c.loop-value.rest c.in-Span.count (sym c.first_step.ensures.is ∙ c.in-Span.is) in
    let room = c.first_step.ensures.span c.in-Span.count c.in-Span.is in
    omega (arith, some.0)

pub returns-in-Branch-clause-run : goal.returns-in-Branch-clause-run
returns-in-Branch-clause-run g c =
    let v = c.loop-value.invariant in
    subst (Passes g.K.ZeroTrieWithOptions.kind (g.I.IndexedItems.pairs c.args.items) c.args.start c.loop-value.rest) (let e : c.loop-value.len + 0 ≡ c.loop-value.len = omega arith in e) (v.goes_on 0 c.loop-value.rest here)

pub returns-in_err-len-in-Value-clause-refused : goal.returns-in_err-len-in-Value-clause-refused
returns-in_err-len-in-Value-clause-refused g c =
    let v = c.loop-value.invariant in
    let p = err_from_is_err_and c.from_residual.result c.from_residual.ensures.1 in
    let f = c.in_err-len-in-Value.ensures.refused in
    let k = length (spelled_as value_form c.in-Value.value) in
    let run = v.goes_on (k + 0) (record c.loop-value.rest { from = c.loop-value.rest.from + 1 }) (value c.in-Value.value (sym c.first_step.ensures.is ∙ c.in-Value.is) here) in
    rw (p.1, p.2) (f.0, too_long run c.requires.within c.requires.keys c.requires.ordered (let e = c.value_len.ensures in omega (arith, f.1)))

pub returns-in_err-len-in-Literal-clause-refused : goal.returns-in_err-len-in-Literal-clause-refused
returns-in_err-len-in-Literal-clause-refused g c =
    let v = c.loop-value.invariant in
    let p = err_from_is_err_and c.from_residual-in_err-len-in-Literal.result c.from_residual-in_err-len-in-Literal.ensures.1 in
    let f = c.in_err-len-in-Literal.ensures.refused in
    let e = c.literals_end-end.ensures in
    let past = e.past in
    let end = c.literals_end-end.result in
    let to = v.to_is in
    let within = c.requires.within in
    let l = literal_low g.K.ZeroTrieWithOptions.kind (g.I.IndexedItems.pairs c.args.items) c.loop-value.rest c.in-Literal.field-0 (omega arith) c.requires.keys (sym c.first_step.ensures.is ∙ c.in-Literal.is) in
    let run = v.goes_on (end - c.loop-value.rest.depth + 0) (record c.loop-value.rest { depth = end }) (literals_to end l.0 (omega arith) e.low here) in
    rw (p.1, p.2) (f.0, too_long run c.requires.within c.requires.keys c.requires.ordered (omega (arith, f.1)))

pub returns-in_err-lead-in-Span-clause-refused : goal.returns-in_err-lead-in-Span-clause-refused
returns-in_err-lead-in-Span-clause-refused g c =
    let v = c.loop-value.invariant in
    let p = err_from_is_err_and c.from_residual-in_err-lead-in-Span.result c.from_residual-in_err-lead-in-Span.ensures.1 in
    let f = c.in_err-lead-in-Span.ensures.refused in
    let k = length (spelled_as span_form c.in-Span.count) in
    let run = v.goes_on (k + c.in-Span.count + 0) (record c.loop-value.rest { depth = c.loop-value.rest.depth + c.in-Span.count }) (span c.in-Span.count (sym c.first_step.ensures.is ∙ c.in-Span.is) here) in
    rw (p.1, p.2) (f.0, too_long run c.requires.within c.requires.keys c.requires.ordered (let e = c.number_len.ensures.len span_form refl in omega (arith, f.1)))

pub returns-in_err-len-in-Span-clause-refused : goal.returns-in_err-len-in-Span-clause-refused
returns-in_err-len-in-Span-clause-refused g c =
    let v = c.loop-value.invariant in
    let p = err_from_is_err_and c.from_residual-in_err-len-in-Span.result c.from_residual-in_err-len-in-Span.ensures.1 in
    let f = c.in_err-len-in-Span.ensures.refused in
    let k = length (spelled_as span_form c.in-Span.count) in
    let run = v.goes_on (k + c.in-Span.count + 0) (record c.loop-value.rest { depth = c.loop-value.rest.depth + c.in-Span.count }) (span c.in-Span.count (sym c.first_step.ensures.is ∙ c.in-Span.is) here) in
    rw (p.1, p.2) (f.0, too_long run c.requires.within c.requires.keys c.requires.ordered (let e = c.number_len.ensures.len span_form refl in let l = c.in_ok-lead-in-Span.ensures.sum in omega (arith, f.1)))
