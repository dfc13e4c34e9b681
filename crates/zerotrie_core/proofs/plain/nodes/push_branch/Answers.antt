use Rattle.std.proofs.Common.{◌≤◌, length, ◌++◌, refl, ap, ◌∙◌, subst}
use Rattle.std.specs.Prelude.{IfSome}
use Rattle.zerotrie_base.specs.Branches.{IsWidth}
use Rattle.zerotrie_base.specs.plain.Encoding.{with_bits}
use Rattle.zerotrie_base.proofs.NodeLemmas.Fronts.{within_width}
use Rattle.zerotrie_base.proofs.PlainLemmas.Cuts.{marked, joined}
use Rattle.zerotrie_base.proofs.PlainLemmas.Groups.{branch_written}
use Rattle.zerotrie_core.proofs.plain.nodes.push_branch.Goals as goal
use Rattle.zerotrie_core.proofs.plain.nodes.push_branch.Goals.{In_ok-extend_from_slice-2}

width_here : (c : In_ok-extend_from_slice-2) → (c.in_ok-width.width ≤ 3) × IsWidth (length c.args.targets.now) c.in_ok-width.width
width_here c = subst (λ r. IfSome r (λ w. (w ≤ 3) × IsWidth (length c.args.targets.now) w)) c.in_ok-width.ensures.ok_part c.width_of.ensures.width

pub returns-clause-ok : goal.returns-clause-ok
returns-clause-ok c texts targets =
    let number = marked 32 3 _ 192 c.write_varint_meta2.result.items c.write_varint_meta2.ensures refl in
    let written = branch_written texts c.args.edges.now c.args.offsets.now c.args.targets.now (with_bits 192 c.write_varint_meta2.result.items) c.in_ok-width.width targets (width_here c).1 number in
    joined _ _ _ _ _ _ _ _ _ (c.in_ok-push_number.ensures.ok ∙ ap (λ x. c.args.out.now.items ++ with_bits 192 x) c.deref.ensures.0) c.in_ok-extend_from_slice.ensures.items c.in_ok-push_offsets.ensures.ok c.in_ok-extend_from_slice-2.ensures.items
    ∙ ap (λ x. c.args.out.now.items ++ x) written

pub returns-clause-narrow : goal.returns-clause-narrow
returns-clause-narrow c = let w = width_here c in within_width 3 c.in_ok-width.width (length c.args.targets.now) w.0 w.1
