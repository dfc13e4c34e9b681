use Rattle.std.proofs.Common.{◌+◌, ◌-◌, ◌*◌, ◌≤◌, length, arith}
use Rattle.zerotrie_base.specs.Branches.{table_size}
use Rattle.zerotrie_base.proofs.NodeLemmas.Nodes.{head_read}
use Rattle.zerotrie_core.proofs.node.branch_in.Goals as goal
use Rattle.zerotrie_core.proofs.node.branch_in.Goals.{then-width-greatest_width-via-then-width-greatest_width, then-width-greatest_width-via-else-width-greatest_width+then-edges-lt2}

pub returns-then-width-greatest_width-clause-none : goal.returns-then-width-greatest_width-clause-none
returns-then-width-greatest_width-clause-none g c bytes table behind e w begins b =
    let r = head_read c.args.edges c.args.width e w c.requires.width c.requires.edges begins b in
    let same = r.0 in
    let count = r.1 in
    let fits = b.fits in
    let two = b.two in
    elim c.then-width-greatest_width.branch [
      | then-width-greatest_width-via-then-width-greatest_width x ↦ let wide = x.if-width-greatest_width.true in let widest = c.greatest_width.ensures in omega arith
      | then-width-greatest_width-via-else-width-greatest_width+then-edges-lt2 x ↦ let less = x.if-edges-lt2.true in omega arith
    ]

pub returns-in_err-table-clause-none : goal.returns-in_err-table-clause-none
returns-in_err-table-clause-none g c = rw c.from_residual.ensures (λ bytes table behind e w begins b. (
    let r = head_read c.args.edges c.args.width e w c.requires.width c.requires.edges begins b in
    let short = c.in_err-table.ensures.none in
    let holds : table_size g.K.ZeroTrieWithOptions.kind c.args.edges + c.args.width * (c.args.edges - 1) ≤ length c.args.body.now = rw (r.1, r.0, r.2) b.holds in
    omega arith
    ))
