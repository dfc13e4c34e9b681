use Rattle.std.proofs.Common.{◌≡◌, ◌∙◌, ap, sym, subst, length, arith}
use Rattle.zerotrie_queries.specs.reports.Reports.{report_over, TellsPairs}
use Rattle.zerotrie_queries.specs.reports.count.Steps.{no_nodes, with_nodes}
use Rattle.zerotrie_queries.proofs.CountLemmas.{none_within, counted, tells}
use Rattle.zerotrie_queries.proofs.reports.count.Report.of.Goals as goal

pub add_all-requires : goal.add_all-requires
add_all-requires c =
    let start : c.of_none-report.result ≡ no_nodes c.args.trie.now.kind (length c.args.trie.now.bytes.now) = c.of_none-report.ensures in
    rw start (omega (arith, c.in_ok-nodes.ensures.most), none_within c.args.trie.now.kind (length c.args.trie.now.bytes.now))

abbrev AllCounted : goal.After-drop-nodes-inside-2 → Type 0
AllCounted c = c.add_all.new.self ≡ report_over c.args.trie.now.kind (length c.args.trie.now.bytes.now) c.in_ok-nodes.nodes

all_counted : (c : goal.After-drop-nodes-inside-2) → AllCounted c
all_counted c =
    let kind = c.args.trie.now.kind in
    let size = length c.args.trie.now.bytes.now in
    c.in_ok-add_all.ensures ∙ ap (with_nodes c.in_ok-nodes.nodes) c.of_none-report.ensures ∙ counted kind size c.in_ok-nodes.nodes

pub returns-clause-counts : goal.returns-clause-counts
returns-clause-counts c =
    all_counted c ∙ ap (report_over c.args.trie.now.kind (length c.args.trie.now.bytes.now)) c.in_ok-nodes.ensures.nodes

pub returns-clause-pairs : goal.returns-clause-pairs
returns-clause-pairs c = λ pairs text.
    let kind = c.args.trie.now.kind in
    let size = length c.args.trie.now.bytes.now in
    let walked = all_counted c ∙ ap (report_over kind size) (c.in_ok-nodes.ensures.text pairs text) in
    subst (λ r. TellsPairs r pairs) (sym walked) (tells text kind size)
