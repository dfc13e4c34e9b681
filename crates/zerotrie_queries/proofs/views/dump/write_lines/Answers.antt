use Rattle.std.proofs.Common.{rules, ◌≡◌, ◌∷◌, ◌++◌, ◌∙◌, ap, sym}
use Rattle.zerotrie_core.specs.walk.Seen.{visit_of}
use Rattle.zerotrie_files.specs.Parts.{AppendsPart}
use Rattle.zerotrie_files.proofs.WroteLemmas.{wrote_more}
use Rattle.zerotrie_queries.proofs.PartLemmas.{part_next}
use Rattle.zerotrie_queries.specs.views.Dumps.{dump_line, dump_lines}
use Rattle.zerotrie_queries.proofs.views.dump.write_lines.Goals.{After-as_slice}
use Rattle.zerotrie_queries.proofs.views.dump.write_lines.Goals as goal

line_first : (g : _) (c : After-as_slice g) → dump_lines c.loop-line.nodes ≡ c.as_slice.result.now ++ dump_lines c.next_node.new.self
line_first g c =
    let v = visit_of c.in-Some.visit in
    let left = c.next_node.new.self in
    let line : c.as_slice.result.now ≡ dump_line v = search rules in
    let first : c.loop-line.nodes ≡ v ∷ left = search rules in
    ap dump_lines first ∙ ap (λ l. l ++ dump_lines left) (sym line)

pub loop-line-preserved : goal.loop-line-preserved
loop-line-preserved g c =
    let contents = g.W.Write.contents in (
      wrote_more (contents c.args.output.now.inner) (contents c.loop-line.output.inner) (contents c.write_bytes.new.self.inner) c.as_slice.result.now
          (dump_lines c.loop-line.nodes) (dump_lines c.next_node.new.self) (dump_lines c.args.nodes.now) c.loop-line.invariant.0 c.in_ok-write_bytes.ensures.all
          (line_first g (goal.at.loop-line-preserved g c).After-as_slice),
      c.in_ok-write_bytes.ensures.noted ∙ c.loop-line.invariant.1,
    )

pub returns-in_err-write_bytes-clause-part : goal.returns-in_err-write_bytes-clause-part
returns-in_err-write_bytes-clause-part g c =
    let contents = g.W.Write.contents in
    let part : AppendsPart (contents c.args.output.now.inner) (contents c.write_bytes.new.self.inner) (dump_lines c.args.nodes.now) =
    part_next (contents c.args.output.now.inner) (contents c.loop-line.output.inner) (contents c.write_bytes.new.self.inner) c.as_slice.result.now
    (dump_lines c.next_node.new.self) (dump_lines c.loop-line.nodes) (dump_lines c.args.nodes.now) c.loop-line.invariant.0 c.in_err-write_bytes.ensures.part
    (line_first g (goal.at.returns-in_err-write_bytes-clause-part g c).After-as_slice) in
    search (rules, part)
