use Rattle.std.proofs.Common.{rules, arith}
use Rattle.zerotrie_reverse.proofs.DescentLemmas.{one_byte}
use Rattle.zerotrie_reverse.proofs.descent.edge_at.Goals as goal

pub returns : goal.returns
returns c = let one = one_byte c.args.branch.behind.now c.args.index (omega (arith, c.args.branch.whole)) in search rules
