use Rattle.std.proofs.Common.{sym}
use Rattle.zerotrie_base.proofs.NodeLemmas.Fronts.{width_by_bits}
use Rattle.zerotrie_base.proofs.width.least_width.Goals as goal

pub returns-clause-width : goal.returns-clause-width
returns-clause-width c = width_by_bits c.args.total c.ilog2.result (rw (sym c.max.ensures) c.ilog2.ensures.power_le) (rw (sym c.max.ensures) c.ilog2.ensures.next_power_gt)
