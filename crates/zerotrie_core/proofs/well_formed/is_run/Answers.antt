use Rattle.std.proofs.Common.{◌∙◌, sym, refl, arith, ap, length, ◌≡◌}
use Rattle.std.proofs.lemmas.Bool.{eqb-false}
use Rattle.zerotrie_core.proofs.WellFormedLemmas.Parts.{high_from, high_at}
use Rattle.zerotrie_core.proofs.well_formed.is_run.Goals as goal

pub returns-then-byte-lt128 : goal.returns-then-byte-lt128
returns-then-byte-lt128 c = (λ e. absurd (cc), λ is. absurd (let high = high_at c.args.run.now is.1 c.loop-byte.byte-index c.loop-byte-test.true in omega (arith, c.if-byte-lt128.true, high)))

pub returns : goal.returns
returns c = (
  λ e. (
    λ none. (let some : length c.args.run.now ≡ 0 → ⊥ = eqb-false _ _ (sym c.is_empty.ensures ∙ c.if-is_empty.false) in some (ap length none)),
    high_from c.args.run.now (λ i. omega (arith, c.type_inv.run i)) (λ i h. c.loop-byte.invariant i (omega (arith, c.loop-byte-test.false))),
  ),
  λ is. refl,
)
