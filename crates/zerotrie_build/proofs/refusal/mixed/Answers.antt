use Rattle.std.proofs.Common.{◌-◌, ap, arith, subst}
use Rattle.zerotrie_base.specs.Items.{keyed}
use Rattle.zerotrie_build.specs.Refused.{key_at, DifferInCase}
use Rattle.zerotrie_build.specs.passes.OtherCase.{NoneHasOtherCase}
use Rattle.zerotrie_build.proofs.RefusalLemmas.OtherCase.{no_turns, turns_consistent}
use Rattle.zerotrie_build.proofs.RefusalLemmas.Shown.{count_keyed, differ_within, differ_shown, turn_more}
use Rattle.zerotrie_build.proofs.refusal.mixed.Goals as goal

pub returns-in-Some-clause-some : goal.returns-in-Some-clause-some
returns-in-Some-clause-some g c =
    let kind = g.K.ZeroTrieWithOptions.kind in
    let all = keyed g.Key.TrieKey.key c.args.items.now in
    let count = count_keyed g.Key.TrieKey.key c.args.items.now in
    let e = c.between.ensures.error in
    let differ = subst (λ k. DifferInCase kind k (key_at all c.in-Some.other)) (ap (λ x. x.0) c.item_at.ensures) c.in-Some.ensures.some in
    (e, rw e (differ_shown kind all (c.loop-number.number - 1) c.in-Some.other _ _ c.between.ensures.first c.between.ensures.second (omega arith) (differ_within kind _ all c.in-Some.other differ) differ))

pub loop-number-preserved : goal.loop-number-preserved
loop-number-preserved g c =
    let all = keyed g.Key.TrieKey.key c.args.items.now in
    turn_more (λ k l. NoneHasOtherCase g.K.ZeroTrieWithOptions.kind k l all) all c.loop-number.number c.item_at.result.0.now c.item_at-in-loop-number.result.0.now (omega arith)
    (ap (λ x. x.0) c.item_at.ensures) (ap (λ x. x.0) c.item_at-in-loop-number.ensures) c.in_default.ensures.none c.loop-number.invariant

pub returns-clause-none : goal.returns-clause-none
returns-clause-none g c =
    let kind = g.K.ZeroTrieWithOptions.kind in
    let all = keyed g.Key.TrieKey.key c.args.items.now in
    let count = count_keyed g.Key.TrieKey.key c.args.items.now in
    turns_consistent kind all c.requires (no_turns kind all (λ k below. c.loop-number.invariant k (omega arith)))
