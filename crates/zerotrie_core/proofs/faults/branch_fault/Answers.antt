use Rattle.std.proofs.Common.{◌-◌, ◌*◌, length, drop, subst}
use Rattle.zerotrie_base.specs.Branches.{IsWidth}
use Rattle.zerotrie_core.specs.well_formed.Branching.{AreBytes}
use Rattle.zerotrie_core.proofs.faults.branch_fault.Goals as goal

pub returns-then-not-has_offsets-clause-some : goal.returns-then-not-has_offsets-clause-some
returns-then-not-has_offsets-clause-some g c =
    let b = c.args.branch in
    λ before bytes begins. (b.edges, b.width, b.table.now, b.behind.now, begins, λ order. (let e = c.has_offsets.ensures.1 order in let f = c.if-not-has_offsets.true in cc))

pub returns-else-not-has_offsets-clause-none : goal.returns-else-not-has_offsets-clause-none
returns-else-not-has_offsets-clause-none g c =
    let b = c.args.branch in
    λ expected. (
      record {
        has_table = λ long. (c.has_table.ensures long).0 c.if-not-has_table.false;
        bytes = subst AreBytes c.split_at.ensures.back c.has_width.ensures.bytes;
        is_width = subst (λ x. IsWidth (length (drop (b.width * (b.edges - 1)) x)) (b.width - 1)) c.split_at.ensures.back (c.has_width.ensures.width.0 c.if-not-has_width.false);
      },
      c.has_offsets.ensures.0 c.if-not-has_offsets.false,
    )
