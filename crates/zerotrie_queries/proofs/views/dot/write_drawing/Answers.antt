use Rattle.std.proofs.Common.{rules, ◌++◌, take, refl, codes}
use Rattle.std.proofs.lemmas.Result.{on_err_weaker}
use Rattle.zerotrie_files.specs.Parts.{AppendsPart}
use Rattle.zerotrie_queries.proofs.PartLemmas.{part_front, part_behind}
use Rattle.zerotrie_queries.specs.views.Dots.{dot_nodes, drawing}
use Rattle.zerotrie_queries.proofs.views.dot.write_drawing.Goals as goal

pub returns-in_err-write_bytes-clause-part : goal.returns-in_err-write_bytes-clause-part
returns-in_err-write_bytes-clause-part g c =
    let contents = g.W.Write.contents in
    let all = drawing c.args.most c.args.nodes.now in
    let part : AppendsPart (contents c.args.output.now.inner) (contents c.write_bytes.new.self.inner) all =
    part_front (contents c.args.output.now.inner) (contents c.write_bytes.new.self.inner) (codes "digraph trie {\n  rankdir=LR;\n")
    (dot_nodes (take c.args.most c.args.nodes.now) ++ codes "}\n") all c.in_err-write_bytes.ensures.part refl in
    search (rules, part)

pub returns-in_err-write_nodes-clause-part : goal.returns-in_err-write_nodes-clause-part
returns-in_err-write_nodes-clause-part g c =
    let contents = g.W.Write.contents in
    let nodes = dot_nodes (take c.args.most c.args.nodes.now) in
    let all = drawing c.args.most c.args.nodes.now in
    let part : AppendsPart (contents c.args.output.now.inner) (contents c.write_nodes.new.output.inner) all =
    part_behind (contents c.args.output.now.inner) (contents c.write_bytes.new.self.inner) (contents c.write_nodes.new.output.inner) (codes "digraph trie {\n  rankdir=LR;\n")
    (nodes ++ codes "}\n") all c.in_ok-write_bytes.ensures.all
    (part_front (contents c.write_bytes.new.self.inner) (contents c.write_nodes.new.output.inner) nodes (codes "}\n") (nodes ++ codes "}\n") c.in_err-write_nodes.ensures.part refl) refl in
    search (rules, part)

pub returns-clause-part : goal.returns-clause-part
returns-clause-part g c =
    let contents = g.W.Write.contents in
    let nodes = dot_nodes (take c.args.most c.args.nodes.now) in
    on_err_weaker c.write_bytes-2.result
    (λ (p : AppendsPart (contents c.write_nodes.new.output.inner) (contents c.write_bytes-2.new.self.inner) (codes "}\n")).
    part_behind (contents c.args.output.now.inner) (contents c.write_bytes.new.self.inner) (contents c.write_bytes-2.new.self.inner) (codes "digraph trie {\n  rankdir=LR;\n")
    (nodes ++ codes "}\n") (drawing c.args.most c.args.nodes.now) c.in_ok-write_bytes.ensures.all
    (part_behind (contents c.write_bytes.new.self.inner) (contents c.write_nodes.new.output.inner) (contents c.write_bytes-2.new.self.inner) nodes (codes "}\n") (nodes ++ codes "}\n")
    c.in_ok-write_nodes.ensures.all p refl) refl)
    c.write_bytes-2.ensures.part
