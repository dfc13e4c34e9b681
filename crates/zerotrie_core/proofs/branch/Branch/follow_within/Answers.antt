use Rattle.std.proofs.Common.{subst, sym}
use Rattle.zerotrie_core.specs.reader.Going.{AlwaysGoes}
use Rattle.zerotrie_core.specs.Shapes.{branch_shape}
use Rattle.zerotrie_core.proofs.CursorLemmas.Parts.{lies_target}
use Rattle.zerotrie_core.proofs.ReaderLemmas.Edges.{follow_goes, follow_some, follow_stops}
use Rattle.zerotrie_core.proofs.branch.Branch.follow_within.Goals as goal

pub returns-in_err-place-clause-none : goal.returns-in_err-place-clause-none
returns-in_err-place-clause-none g c =
    let b = c.args.self.now in
    rw c.from_residual.ensures (follow_stops g.K.ZeroTrieWithOptions.kind b.edges b.width b.table.now b.behind.now c.args.byte c.in_err-place.ensures.none)

pub returns-in_err-target-clause-none : goal.returns-in_err-target-clause-none
returns-in_err-target-clause-none g c =
    let b = c.args.self.now in
    rw c.from_residual-in_err-target.ensures
    (follow_some g.K.ZeroTrieWithOptions.kind b.edges b.width b.table.now b.behind.now c.args.byte c.in_ok-place.place c.in_ok-place.ensures.some.0 c.in_err-target.ensures.target)

pub returns-clause-lies : goal.returns-clause-lies
returns-clause-lies g c =
    let b = c.args.self.now in
    lies_target b.edges b.width b.behind.now c.in_ok-place.place c.in_ok-target.after c.in_ok-target.target c.in_ok-target.ensures.target c.in_ok-target.ensures.after

pub returns-clause-some : goal.returns-clause-some
returns-clause-some g c =
    let b = c.args.self.now in
    subst (λ e. AlwaysGoes g.K.ZeroTrieWithOptions.kind (branch_shape b) c.args.byte e c.in_ok-target.target.now) (sym c.edge_at.ensures)
    (follow_goes g.K.ZeroTrieWithOptions.kind b.edges b.width b.table.now b.behind.now c.args.byte c.in_ok-place.place c.in_ok-target.target c.in_ok-place.ensures.some c.in_ok-target.ensures.target)
