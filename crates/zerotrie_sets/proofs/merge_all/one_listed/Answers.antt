use Rattle.std.proofs.Common.{◌≡◌, ◌+◌, ◌≤◌, ◌∙◌, length, take, drop, ap, sym, subst, arith}
use Rattle.std.proofs.lemmas.List.{length-map, take_all}
use Rattle.zerotrie_sets.specs.Inputs.{listed}
use Rattle.zerotrie_sets.specs.ManyInputs.{listed_all}
use Rattle.zerotrie_sets.specs.Selections.{present, as_one, one_more, AreSame, HasNoTwo, HasSame, IsNoNext, IsNoOne}
use Rattle.zerotrie_sets.proofs.SelectionLemmas.{listed_at, present_next, present_parts, one_next, few_next, same_next, none_of_all, one_allowed}
use Rattle.zerotrie_sets.proofs.merge_all.one_listed.Goals as goal

pub loop-input-preserved : goal.loop-input-preserved
loop-input-preserved g c =
    let l = c.loop-input in
    let vs = listed_all g.S.PairStream.current c.args.inputs.now in
    let i = l.input-index in
    let o = c.listed.result in
    let at = listed_at g.S.PairStream.current c.args.inputs.now i c.input-item.result o (omega (arith, c.loop-input-test.true)) c.input-item.is c.listed.ensures in
    record {
      one = ap (as_one c.args.rule) (present_next vs i o at.0 at.1) ∙ one_next c.args.rule (present (take i vs)) o
          ∙ ap (λ p. one_more c.args.rule p o) l.invariant.one ∙ sym c.in-Ok.ensures.ok;
      few = λ refuse. subst (λ ps. length ps ≤ 1) (sym (present_next vs i o at.0 at.1))
          (few_next c.args.rule (present (take i vs)) o (l.invariant.few refuse) (subst (λ p. HasNoTwo p o) (sym l.invariant.one) (c.in-Ok.ensures.allowed refuse)));
      same = λ equal. subst AreSame (sym (present_next vs i o at.0 at.1))
          (same_next c.args.rule (present (take i vs)) o equal (l.invariant.same equal) (subst (λ p. HasSame p o) (sym l.invariant.one) (c.in-Ok.ensures.same equal)));
      small = c.in-Ok.ensures.small;
    }

pub returns-in-Err-clause-err : goal.returns-in-Err-clause-err
returns-in-Err-clause-err g c =
    let l = c.loop-input in
    let vs = listed_all g.S.PairStream.current c.args.inputs.now in
    let i = l.input-index in
    let o = c.listed.result in
    let e = c.in-Err.error in
    let at = listed_at g.S.PairStream.current c.args.inputs.now i c.input-item.result o (omega (arith, c.loop-input-test.true)) c.input-item.is c.listed.ensures in
    subst (λ ps. IsNoOne c.args.rule ps e) (sym (present_parts vs i o at.0 at.1))
    (none_of_all c.args.rule (present (take i vs)) (present (drop (i + 1) vs)) o e (subst (λ p. IsNoNext c.args.rule p o e) (sym l.invariant.one) c.in-Err.ensures.err))

pub returns-clause-allowed : goal.returns-clause-allowed
returns-clause-allowed g c e h =
    let l = c.loop-input in
    let vs = listed_all g.S.PairStream.current c.args.inputs.now in
    let same = length-map c.args.inputs.now (λ y. listed (g.S.PairStream.current y.stream) y.held) in
    let whole : take l.input-index vs ≡ vs = take_all l.input-index vs (omega (arith, c.loop-input-test.false, same)) in
    one_allowed c.args.rule (present vs) l.one e (ap (λ p. as_one c.args.rule (present p)) (sym whole) ∙ l.invariant.one)
    (λ refuse. subst (λ p. length (present p) ≤ 1) whole (l.invariant.few refuse))
    (λ equal. subst (λ p. AreSame (present p)) whole (l.invariant.same equal)) l.invariant.small h
