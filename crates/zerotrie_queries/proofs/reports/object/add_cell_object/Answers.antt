use Rattle.std.proofs.Common.{◌≡◌, ◌+◌, ◌/◌, ◌%◌, OnOk, subst}
use Rattle.std.specs.Prelude.{codes, decimal}
use Rattle.zerotrie_queries.specs.reports.Json.{member_after, edge_members}
use Rattle.zerotrie_queries.proofs.TextLemmas.{behind_four}
use Rattle.zerotrie_queries.proofs.reports.object.add_cell_object.Goals as goal

pub returns : goal.returns
returns c =
    subst (λ l. OnOk c.add_text.result (c.add_text.new.line.items ≡ l))
    (behind_four c.args.text.now.items c.add_edge_members.new.text.items c.add_number_member.new.text.items c.add_number_member-2.new.text.items
    (edge_members (c.args.cell / 8)) (member_after (codes "width") (decimal (c.args.cell % 8 + 1))) (member_after (codes "count") (decimal c.args.count)) (codes "}")
    c.in_ok-add_edge_members.ensures c.in_ok-add_number_member.ensures c.in_ok-add_number_member-2.ensures)
    c.add_text.ensures
