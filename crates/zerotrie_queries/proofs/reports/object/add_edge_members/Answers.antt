use Rattle.std.proofs.Common.{rules, ◌≡◌, ◌++◌, OnOk, subst}
use Rattle.std.specs.Prelude.{codes, decimal}
use Rattle.zerotrie_queries.specs.reports.Json.{member_after, least_edges}
use Rattle.zerotrie_queries.proofs.TextLemmas.{behind_three}
use Rattle.zerotrie_queries.proofs.reports.object.add_edge_members.Goals as goal

pub returns : goal.returns
returns c =
    let text = c.args.text.now.items in
    let least = decimal (least_edges c.args.group) in
    let number : c.write_number.new.output.items ≡ c.add_text.new.line.items ++ least = search rules in
    subst (λ n. OnOk c.add_number_member.result (c.add_number_member.new.text.items ≡ text ++ (codes "{\"least_edges\":" ++ (least ++ member_after (codes "most_edges") (decimal n)))))
    c.most_edges.ensures
    (subst (λ l. OnOk c.add_number_member.result (c.add_number_member.new.text.items ≡ l))
    (behind_three text c.add_text.new.line.items c.write_number.new.output.items (codes "{\"least_edges\":") least (member_after (codes "most_edges") (decimal c.most_edges.result))
    c.in_ok-add_text.ensures number)
    c.add_number_member.ensures)
