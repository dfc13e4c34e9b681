use Rattle.std.proofs.Common.{◌≡◌, OnOk, subst}
use Rattle.zerotrie_queries.specs.reports.Lines.{size_lines, key_lines, node_lines, cell_lines}
use Rattle.zerotrie_queries.proofs.TextLemmas.{behind_four}
use Rattle.zerotrie_queries.proofs.reports.lines.add_report.Goals as goal

pub returns : goal.returns
returns c =
    let r = c.args.report.now in
    subst (λ l. OnOk c.add_cells.result (c.add_cells.new.lines.items ≡ l))
    (behind_four c.args.lines.now.items c.add_sizes.new.lines.items c.add_keys.new.lines.items c.add_nodes.new.lines.items (size_lines r) (key_lines r) (node_lines r) (cell_lines 0 r.branches.cells)
    c.in_ok-add_sizes.ensures c.in_ok-add_keys.ensures c.in_ok-add_nodes.ensures)
    c.add_cells.ensures
