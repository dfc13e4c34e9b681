use Rattle.std.proofs.Common.{◌≡◌, ◌-◌, ◌+◌, ◌++◌, [], None, Some, arith, sym, ◌∙◌, ap, subst, append_assoc}
use Rattle.std.specs.Option.{option_map}
use Rattle.zerotrie_reverse.specs.Descent.{key_by, step_towards}
use Rattle.zerotrie_reverse.specs.Steps.{passed_of}
use Rattle.zerotrie_reverse.proofs.DescentLemmas.{key_there, key_none, key_past, key_more, key_ended, key_over}
use Rattle.zerotrie_reverse.proofs.descent.read_key_at.Goals as goal

pub loop-step-preserved : goal.loop-step-preserved
loop-step-preserved g c =
    let kind = g.K.ZeroTrieWithOptions.kind in
    let n = c.args.place - c.loop-step._step in
    let m = c.args.place - (c.loop-step._step + 1) in
    let p = passed_of c.in-Some.passed in
    let step : step_towards kind c.loop-step.rest.now c.loop-step.to ≡ Some p = sym c.step_towards.ensures ∙ ap (option_map passed_of) c.in-Some.is in
    let more = key_more n m kind c.loop-step.rest.now c.loop-step.to p (omega arith) (omega (arith, c.if-to-eq0.false)) step (omega (arith, c.if-passed-to.false)) in
    ap (λ items. items ++ key_by m kind c.from_place-rest.result.now (c.loop-step.to - c.in-Some.passed.size)) c.in_ok-extend_from_slice.ensures.items
    ∙ append_assoc c.loop-step.key.items c.in-Some.passed.run.now (key_by m kind c.from_place-rest.result.now (c.loop-step.to - c.in-Some.passed.size))
    ∙ ap (λ from. c.loop-step.key.items ++ (c.in-Some.passed.run.now ++ key_by m kind from (c.loop-step.to - c.in-Some.passed.size))) c.from_place-rest.ensures
    ∙ ap (λ keys. c.loop-step.key.items ++ keys) (sym more)
    ∙ c.loop-step.invariant

pub returns-after-loop-step : goal.returns-after-loop-step
returns-after-loop-step g c =
    let kind = g.K.ZeroTrieWithOptions.kind in
    let n = c.args.place - c.loop-step._step in
    key_ended c.args.place n kind c.args.bytes.now c.loop-step.rest.now c.loop-step.to c.loop-step.key.items c.loop-step.invariant
    (key_over n kind c.loop-step.rest.now c.loop-step.to (omega arith))

pub returns-then-to-eq0 : goal.returns-then-to-eq0
returns-then-to-eq0 g c =
    let kind = g.K.ZeroTrieWithOptions.kind in
    let n = c.args.place - c.loop-step._step in
    key_ended c.args.place n kind c.args.bytes.now c.loop-step.rest.now c.loop-step.to c.loop-step.key.items c.loop-step.invariant
    (subst (λ to. key_by n kind c.loop-step.rest.now to ≡ []) (sym c.if-to-eq0.true) (key_there n kind c.loop-step.rest.now))

pub returns-in_default : goal.returns-in_default
returns-in_default g c =
    let kind = g.K.ZeroTrieWithOptions.kind in
    let n = c.args.place - c.loop-step._step in
    let step : step_towards kind c.loop-step.rest.now c.loop-step.to ≡ None = sym c.step_towards.ensures ∙ ap (option_map passed_of) c.in_default.is in
    key_ended c.args.place n kind c.args.bytes.now c.loop-step.rest.now c.loop-step.to c.loop-step.key.items c.loop-step.invariant
    (key_none n (c.args.place - (c.loop-step._step + 1)) kind c.loop-step.rest.now c.loop-step.to (omega arith) (omega (arith, c.if-to-eq0.false)) step)

pub returns-then-passed-to : goal.returns-then-passed-to
returns-then-passed-to g c =
    let kind = g.K.ZeroTrieWithOptions.kind in
    let n = c.args.place - c.loop-step._step in
    let p = passed_of c.in-Some.passed in
    let step : step_towards kind c.loop-step.rest.now c.loop-step.to ≡ Some p = sym c.step_towards.ensures ∙ ap (option_map passed_of) c.in-Some.is in
    key_ended c.args.place n kind c.args.bytes.now c.loop-step.rest.now c.loop-step.to c.loop-step.key.items c.loop-step.invariant
    (key_past n (c.args.place - (c.loop-step._step + 1)) kind c.loop-step.rest.now c.loop-step.to p (omega arith) (omega (arith, c.if-to-eq0.false)) step c.if-passed-to.true)
