use Rattle.std.proofs.Common.{arith, refl}
use Rattle.zerotrie_base.specs.Kind.{fold_byte}
use Rattle.zerotrie_core.proofs.WellFormedLemmas.Parts.{rises_from, rises_not}
use Rattle.zerotrie_core.proofs.well_formed.branches.rises.Goals as goal

pub returns-then-folded-clause-rises : goal.returns-then-folded-clause-rises
returns-then-folded-clause-rises g c =
    (λ e. absurd (cc), λ up. absurd (rises_not (fold_byte g.K.ZeroTrieWithOptions.kind) c.args.edges.now c.loop-index.index c.loop-index.invariant.one c.loop-index-test.true (omega (arith, c.folded.ensures, c.folded-in-loop-index.ensures, c.if-folded.true)) up))

pub returns-clause-rises : goal.returns-clause-rises
returns-clause-rises g c = (λ e. rises_from (fold_byte g.K.ZeroTrieWithOptions.kind) c.args.edges.now (λ k h. c.loop-index.invariant.up k (omega (arith, c.loop-index-test.false))), λ up. refl)
