use Rattle.std.proofs.Common.{rules}
use Rattle.zerotrie_base.proofs.NodeLemmas.Offsets.{offset_before, offset_next}
use Rattle.zerotrie_core.proofs.branch.Branch.short_offsets.Goals as goal

pub returns-clause-before : goal.returns-clause-before
returns-clause-before c some =
    let before = offset_before c.args.self.now.edges c.args.width c.args.index c.args.self.now.behind.now some c.requires.index in
    search rules

pub returns-clause-next : goal.returns-clause-next
returns-clause-next c within =
    let next = offset_next c.args.self.now.edges c.args.width c.args.index c.args.self.now.behind.now within in
    search rules
