use Rattle.std.proofs.Common.{arith, refl, ap, sym, ◌∙◌, subst}
use Rattle.std.proofs.lemmas.Bool.{false≢true}
use Rattle.zerotrie_base.specs.Kind.{simple_ascii}
use Rattle.zerotrie_base.specs.Maps.{same_key}
use Rattle.zerotrie_base.proofs.MapLemmas.Alike.{exact_same, exact_itself}
use Rattle.zerotrie_index.specs.Hashed.{hashed_pairs}
use Rattle.zerotrie_index.proofs.PermutedLemmas.{Has}
use Rattle.zerotrie_index.proofs.RepeatLemmas.{has_dropped, has_past, has_hashed}
use Rattle.zerotrie_index.proofs.builder.repeats_in.Goals as goal

pub returns-then-eq : goal.returns-then-eq
returns-then-eq c = (λ _. subst (Has (hashed_pairs c.args.others.now)) (exact_same _ _ (sym c.if-eq.ensures)) (has_hashed c.args.others.now c.loop-other.other-index _ c.loop-other-test.true), λ _. refl)

pub loop-other-preserved : goal.loop-other-preserved
loop-other-preserved c has = has_dropped c.args.others.now c.args.pair.now.key.now c.loop-other.other-index _ c.loop-other-test.true
    (λ is. false≢true (c.if-eq.ensures ∙ ap (λ k. same_key simple_ascii k c.args.pair.now.key.now) is ∙ exact_itself c.args.pair.now.key.now))
    (c.loop-other.invariant has)

pub returns : goal.returns
returns c = (λ is. absurd (cc), λ has. absurd (has_past c.args.others.now c.args.pair.now.key.now c.loop-other.other-index (omega (arith, c.loop-other-test.false)) (c.loop-other.invariant has)))
