use Rattle.std.proofs.lemmas.List.{nil_from_length}
use Rattle.zerotrie_core.specs.Shapes.{branch_shape}
use Rattle.zerotrie_core.proofs.ReaderLemmas.LookUps.{branch_ends, node_ends}
use Rattle.zerotrie_core.proofs.ListingLemmas.Passed.{leads_branch}
use Rattle.zerotrie_core.proofs.stream.past_branch.Goals as goal

pub returns-in_default : goal.returns-in_default
returns-in_default g c =
    let b = c.args.branch in
    branch_ends g.K.ZeroTrieWithOptions.kind b.edges b.width b.table.now b.behind.now c.args.left.now (nil_from_length c.args.left.now c.in_default.ensures.cases) c.args.here.rest.now c.requires.begins

pub returns-in-Some-2 : goal.returns-in-Some-2
returns-in-Some-2 g c =
    let opened = c.open_at.new in
    leads_branch (branch_shape c.args.branch) c.in-Some.byte.now c.in-Some-2.target.rest.now c.in-Some.more.now opened.key.items opened.branches
    c.requires.begins c.in-Some.ensures.cases.0 (rw c.in-Some-2.is at c.in_ok-target.ensures)

pub returns-in-None : goal.returns-in-None
returns-in-None g c =
    node_ends g.K.ZeroTrieWithOptions.kind (branch_shape c.args.branch) c.in-Some.byte.now c.args.left.now c.in-Some.more.now c.in-Some.ensures.cases.0 (rw c.in-None.is at c.in_ok-target.ensures) c.args.here.rest.now c.requires.begins
