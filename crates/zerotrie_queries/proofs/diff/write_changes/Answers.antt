use Rattle.std.proofs.Common.{rules, arith, ◌<◌, ◌++◌, ◌∙◌, ap, sym, length}
use Rattle.std.specs.Vec.{vec_len}
use Rattle.zerotrie_queries.specs.Diffs.{change_lines}
use Rattle.zerotrie_queries.proofs.PartLemmas.{part_next, on_err}
use Rattle.zerotrie_queries.proofs.DiffLemmas.{same_all, more_left, empty_is}
use Rattle.zerotrie_files.proofs.WroteLemmas.{wrote_more}
use Rattle.zerotrie_queries.proofs.diff.write_changes.Goals as goal

pub loop-lines-preserved : goal.loop-lines-preserved
loop-lines-preserved g c =
    let contents = g.W.Write.contents in
    let l = c.loop-lines in
    let left = change_lines c.add_block.new.diff.left.items in
    let is = sym c.in_ok-more.ensures.lines ∙ ap (λ x. x ++ left) (sym c.as_slice.ensures.value) in
    let fewer : length c.add_block.new.diff.left.items < length l.diff.left.items = search rules in
    let m = more_left l.same c.is_empty-same.result c.add_block.new.lines.items l.diff.left.items c.args.diff.now.left.items c.add_block.new.diff.left.items l.invariant.same c.in_ok-more.ensures.none (empty_is (vec_len c.add_block.new.lines) c.add_block.new.lines.items c.is_empty-same.result c.is_empty-same.ensures (omega arith)) fewer in
    record {
      wrote = wrote_more (contents c.args.output.now.inner) (contents l.output.inner) (contents c.write_bytes.new.self.inner) c.as_slice.result.now (change_lines l.diff.left.items) left
          (change_lines c.args.diff.now.left.items) l.invariant.wrote c.in_ok-write_bytes.ensures.all is;
      empty = c.clear.ensures.items;
      noted = c.in_ok-write_bytes.ensures.noted ∙ l.invariant.noted;
      same = m.0;
      other = m.1 l.invariant.other;
    }

pub returns-in_err-write_bytes-clause-part : goal.returns-in_err-write_bytes-clause-part
returns-in_err-write_bytes-clause-part g c =
    let contents = g.W.Write.contents in
    let l = c.loop-lines in
    let left = change_lines c.add_block.new.diff.left.items in
    let is = sym c.in_ok-more.ensures.lines ∙ ap (λ x. x ++ left) (sym c.as_slice.ensures.value) in
    on_err c.from_residual-in_err-write_bytes.result
    (part_next (contents c.args.output.now.inner) (contents l.output.inner) (contents c.write_bytes.new.self.inner) c.as_slice.result.now left (change_lines l.diff.left.items)
    (change_lines c.args.diff.now.left.items) l.invariant.wrote c.in_err-write_bytes.ensures.part is)

pub returns-then-not-more-clause-none : goal.returns-then-not-more-clause-none
returns-then-not-more-clause-none g c =
    let l = c.loop-lines in
    same_all l.same c.is_empty-same.result c.add_block.new.lines.items l.diff.left.items c.args.diff.now.left.items l.invariant.same l.invariant.other c.in_ok-more.ensures.none (empty_is (vec_len c.add_block.new.lines) c.add_block.new.lines.items c.is_empty-same.result c.is_empty-same.ensures (omega arith))
