use Rattle.std.proofs.Common.{inl, refl}
use Rattle.zerotrie.proofs.BuildLemmas.{any_high, no_high}
use Rattle.zerotrie.proofs.dense.build.check_text.Goals as goal

pub returns-then-not-is_ascii-clause-fault : goal.returns-then-not-is_ascii-clause-fault
returns-then-not-is_ascii-clause-fault c = let high = rw c.if-not-is_ascii.true at c.is_ascii.ensures.cases in inl (refl, any_high c.args.text.now high.0 high.1)

pub returns-clause-plain : goal.returns-clause-plain
returns-clause-plain c any = let low = rw c.if-not-is_ascii.false at c.is_ascii.ensures.cases in no_high c.args.text.now any.0 any.1 low any.2 any.3 any.4
