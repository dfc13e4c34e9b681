use Rattle.std.proofs.Common.{◌≡◌, OnOk, false, subst}
use Rattle.std.specs.Prelude.{codes}
use Rattle.zerotrie_queries.specs.reports.Json.{cell_objects}
use Rattle.zerotrie_queries.proofs.TextLemmas.{behind_three}
use Rattle.zerotrie_queries.proofs.reports.object.add_branch_member.Goals as goal

pub returns : goal.returns
returns c =
    subst (λ l. OnOk c.add_text-2.result (c.add_text-2.new.line.items ≡ l))
    (behind_three c.args.text.now.items c.add_text.new.line.items c.add_cell_objects.new.text.items (codes ",\"branch_sizes\":[") (cell_objects false 0 c.args.report.now.branches.cells) (codes "]}\n")
    c.in_ok-add_text.ensures c.in_ok-add_cell_objects.ensures)
    c.add_text-2.ensures
