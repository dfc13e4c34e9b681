use Rattle.std.proofs.Common.{refl, ap, sym, ◌∙◌, arith, inl, inr, length, length-append, length-drop, take, drop, ◌-◌}
use Rattle.std.proofs.lemmas.List.{length-take-le}
use Rattle.zerotrie_base.specs.Numbers.{span_form, spelled_as}
use Rattle.zerotrie_build.specs.passes.Windows.{item_no}
use Rattle.zerotrie_build.specs.passes.Measured.{NoneFirst}
use Rattle.zerotrie_build.proofs.WindowLemmas.NodeRuns.{literal_low}
use Rattle.zerotrie_build.proofs.WriteLemmas.Fronts.{going_start, going_value, going_literals, going_span, no_more, room_value, room_literals, room_span, span_within, front_written}
use Rattle.zerotrie_build.proofs.WriteLemmas.Puts.{grows}
use Rattle.zerotrie_build.proofs.write.Writing.put_front.Goals as goal

pub loop-value-init : goal.loop-value-init
loop-value-init g c = (c.requires.known.0, c.requires.known.1, going_start _ c.requires.known.1)

pub put_value-requires : goal.put_value-requires
put_value-requires g c = let v = c.loop-value.invariant in let o = v.1 in room_value c.in-Value.value _ v.2 o.stops (sym c.first_step.ensures.is ∙ c.in-Value.is) (no_more o.bytes) (c.requires.room o.behind o.bytes o.run o.stops)

pub loop-value-smaller-in-Value : goal.loop-value-smaller-in-Value
loop-value-smaller-in-Value g c =
    let v = c.loop-value.invariant in
    let o = v.1 in
    let r = room_value c.in-Value.value _ v.2 o.stops (sym c.first_step.ensures.is ∙ c.in-Value.is) (no_more o.bytes) (c.requires.room o.behind o.bytes o.run o.stops) in
    let p = c.put_value.ensures.puts in let a = grows p in let l = p.same in
    let some = ap length c.put_value.ensures.spells.bytes_are in omega arith

pub loop-value-preserved-in-Value : goal.loop-value-preserved-in-Value
loop-value-preserved-in-Value g c =
    let v = c.loop-value.invariant in
    let o = v.1 in
    (v.0, v.1, going_value _ c.in-Value.value v.2 o.stops o.within (sym c.first_step.ensures.is ∙ c.in-Value.is) c.put_value.ensures.spells c.put_value.ensures.puts)

pub literals_end-end-requires : goal.literals_end-end-requires
literals_end-end-requires g c =
    let v = c.loop-value.invariant in
    let o = v.1 in
    let step = sym c.first_step.ensures.is ∙ c.in-Literal.is in
    let to = v.2.to_is in
    let within = o.within in
    let l = literal_low g.K.ZeroTrieWithOptions.kind (g.I.IndexedItems.pairs c.args.items) c.loop-value.rest c.in-Literal.field-0 (omega arith) c.requires.keys step in
    λ k. ((refl, tt), (l.0, (omega arith, l.1)))

pub put_literals-requires : goal.put_literals-requires
put_literals-requires g c =
    let v = c.loop-value.invariant in
    let o = v.1 in
    let step = sym c.first_step.ensures.is ∙ c.in-Literal.is in
    let to = v.2.to_is in
    let within = o.within in
    let l = literal_low g.K.ZeroTrieWithOptions.kind (g.I.IndexedItems.pairs c.args.items) c.loop-value.rest c.in-Literal.field-0 (omega arith) c.requires.keys step in
    let e = c.literals_end-end.ensures in
    let room = room_literals c.in-Literal.field-0 c.literals_end-end.result _ v.2 o.stops o.within c.requires.keys step e.past e.low (no_more o.bytes) (c.requires.room o.behind o.bytes o.run o.stops) in
    λ k. ((refl, tt), (omega (arith, l.0), (omega (arith, e.past), (e.within, room))))

pub put_span-requires : goal.put_span-requires
put_span-requires g c =
    let v = c.loop-value.invariant in
    let o = v.1 in
    let s = span_within c.in-Span.count v.2 o.within c.requires.keys (sym c.first_step.ensures.is ∙ c.in-Span.is) in
    λ k. ((refl, tt), (s.0, (s.1, room_span c.in-Span.count _ v.2 o.stops (sym c.first_step.ensures.is ∙ c.in-Span.is) (no_more o.bytes) (c.requires.room o.behind o.bytes o.run o.stops))))

pub loop-value-preserved : goal.loop-value-preserved
loop-value-preserved g c =
    let v = c.loop-value.invariant in
    let o = v.1 in
    (v.0, v.1, going_span _ c.in-Span.count v.2 o.stops o.within c.requires.keys (sym c.first_step.ensures.is ∙ c.in-Span.is) c.put_span.ensures.spells c.put_span.ensures.puts)

pub loop-value-smaller-in-Literal : goal.loop-value-smaller-in-Literal
loop-value-smaller-in-Literal g c =
    let v = c.loop-value.invariant in
    let o = v.1 in
    let step = sym c.first_step.ensures.is ∙ c.in-Literal.is in
    let e = c.literals_end-end.ensures in
    let past = e.past in
    let within = e.within in
    let r = room_literals c.in-Literal.field-0 c.literals_end-end.result _ v.2 o.stops o.within c.requires.keys step e.past e.low (no_more o.bytes) (c.requires.room o.behind o.bytes o.run o.stops) in
    let key = (item_no (g.I.IndexedItems.pairs c.args.items) c.loop-value.rest.from).0 in
    let d = c.loop-value.rest.depth in
    let n = length-take-le (c.literals_end-end.result - d) (drop d key) (let l = length-drop d key in omega arith) in
    let a = grows c.put_literals.ensures in let l = c.put_literals.ensures.same in omega arith

pub loop-value-preserved-in-Literal : goal.loop-value-preserved-in-Literal
loop-value-preserved-in-Literal g c =
    let v = c.loop-value.invariant in
    let o = v.1 in
    let step = sym c.first_step.ensures.is ∙ c.in-Literal.is in
    let e = c.literals_end-end.ensures in
    (v.0, v.1, going_literals _ c.in-Literal.field-0 c.literals_end-end.result v.2 o.stops o.within c.requires.keys step e.past e.low e.within c.put_literals.ensures)

pub loop-value-smaller : goal.loop-value-smaller
loop-value-smaller g c =
    let v = c.loop-value.invariant in
    let o = v.1 in
    let r = room_span c.in-Span.count _ v.2 o.stops (sym c.first_step.ensures.is ∙ c.in-Span.is) (no_more o.bytes) (c.requires.room o.behind o.bytes o.run o.stops) in
    let p = c.put_span.ensures.puts in let a = grows p in let l = p.same in
    let some = ap length c.put_span.ensures.spells.bytes_are in
    let n = length-append (spelled_as span_form c.in-Span.count) (take c.in-Span.count (drop c.loop-value.rest.depth (item_no (g.I.IndexedItems.pairs c.args.items) c.loop-value.rest.from).0)) in
    omega arith

pub returns-in-Branch-clause-front : goal.returns-in-Branch-clause-front
returns-in-Branch-clause-front g c =
    let v = c.loop-value.invariant in
    let is = c.first_step.ensures.is in
    let stops : NoneFirst g.K.ZeroTrieWithOptions.kind (g.I.IndexedItems.pairs c.args.items) c.loop-value.rest =
    elim c.in-Branch.is [ inl branch ↦ inr (sym is ∙ branch) | inr end ↦ inl (sym is ∙ end) ] in
    front_written v.1 v.2 stops
