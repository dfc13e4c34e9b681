use Rattle.std.proofs.Common.{rules, ◌≡◌, ◌-◌, ◌∷◌, ◌++◌, ◌∙◌, take, suc, ap, sym, arith}
use Rattle.zerotrie_core.specs.walk.Seen.{visit_of}
use Rattle.zerotrie_files.specs.Parts.{AppendsPart}
use Rattle.zerotrie_files.proofs.WroteLemmas.{wrote_more}
use Rattle.zerotrie_queries.proofs.PartLemmas.{part_next}
use Rattle.zerotrie_queries.specs.views.Dots.{dot_node, dot_nodes}
use Rattle.zerotrie_queries.proofs.views.dot.write_nodes.Goals.{After-as_slice}
use Rattle.zerotrie_queries.proofs.views.dot.write_nodes.Goals as goal

line_first : (g : _) (c : After-as_slice g) → dot_nodes (take c.loop-left.left c.loop-left.nodes) ≡ c.as_slice.result.now ++ dot_nodes (take (c.loop-left.left - 1) c.next_node.new.self)
line_first g c =
    let v = visit_of c.in-Some.visit in
    let more = c.next_node.new.self in
    let left = c.loop-left.left in
    let line : c.as_slice.result.now ≡ dot_node v = search rules in
    let first : c.loop-left.nodes ≡ v ∷ more = search rules in
    let one : left ≡ suc (left - 1) = omega arith in
    ap (λ n. dot_nodes (take n c.loop-left.nodes)) one ∙ ap (λ vs. dot_nodes (take (suc (left - 1)) vs)) first ∙ ap (λ l. l ++ dot_nodes (take (left - 1) more)) (sym line)

pub loop-left-preserved : goal.loop-left-preserved
loop-left-preserved g c =
    let contents = g.W.Write.contents in
    let left = c.loop-left.left in (
      wrote_more (contents c.args.output.now.inner) (contents c.loop-left.output.inner) (contents c.write_bytes.new.self.inner) c.as_slice.result.now
          (dot_nodes (take left c.loop-left.nodes)) (dot_nodes (take (left - 1) c.next_node.new.self)) (dot_nodes (take c.args.most c.args.nodes.now)) c.loop-left.invariant.0 c.in_ok-write_bytes.ensures.all
          (line_first g (goal.at.loop-left-preserved g c).After-as_slice),
      c.in_ok-write_bytes.ensures.noted ∙ c.loop-left.invariant.1,
    )

pub returns-in_err-write_bytes-clause-part : goal.returns-in_err-write_bytes-clause-part
returns-in_err-write_bytes-clause-part g c =
    let contents = g.W.Write.contents in
    let left = c.loop-left.left in
    let part : AppendsPart (contents c.args.output.now.inner) (contents c.write_bytes.new.self.inner) (dot_nodes (take c.args.most c.args.nodes.now)) =
    part_next (contents c.args.output.now.inner) (contents c.loop-left.output.inner) (contents c.write_bytes.new.self.inner) c.as_slice.result.now
    (dot_nodes (take (left - 1) c.next_node.new.self)) (dot_nodes (take left c.loop-left.nodes)) (dot_nodes (take c.args.most c.args.nodes.now)) c.loop-left.invariant.0 c.in_err-write_bytes.ensures.part
    (line_first g (goal.at.returns-in_err-write_bytes-clause-part g c).After-as_slice) in
    search (rules, part)
