use Rattle.std.proofs.Common.{◌++◌, ◌∙◌, ap, sym}
use Rattle.zerotrie_queries.specs.Printed.{lines_of}
use Rattle.zerotrie_queries.proofs.PartLemmas.{part_next, on_err}
use Rattle.zerotrie_files.proofs.WroteLemmas.{wrote_more}
use Rattle.zerotrie_queries.proofs.listing.forms.write_lines.Goals as goal

pub loop-text-preserved : goal.loop-text-preserved
loop-text-preserved g c =
    let contents = g.W.Write.contents in
    let lines = lines_of (g.L.PairLine.line c.args.line.now) in
    let left = lines (g.P.TrieListing.left c.add_block.new.pairs).pairs in
    record {
      valid = λ is. c.in_ok-more.ensures.valid (c.loop-text.invariant.valid is);
      wrote = λ is.
          let one = sym (c.in_ok-more.ensures.lines (c.loop-text.invariant.valid is)) ∙ ap (λ l. l ++ left) (sym c.as_slice.ensures.value) in
          wrote_more (contents c.args.output.now.inner) (contents c.loop-text.output.inner) (contents c.write_bytes.new.self.inner) c.as_slice.result.now
          (lines (g.P.TrieListing.left c.loop-text.pairs).pairs) left (lines (g.P.TrieListing.left c.args.pairs).pairs)
          (c.loop-text.invariant.wrote is) c.in_ok-write_bytes.ensures.all one;
      empty = c.clear.ensures.items;
      failed = c.in_ok-write_bytes.ensures.noted ∙ c.loop-text.invariant.failed;
    }

pub returns-in_err-write_bytes-clause-part : goal.returns-in_err-write_bytes-clause-part
returns-in_err-write_bytes-clause-part g c =
    let contents = g.W.Write.contents in
    let lines = lines_of (g.L.PairLine.line c.args.line.now) in
    let left = lines (g.P.TrieListing.left c.add_block.new.pairs).pairs in
    on_err c.from_residual-in_err-write_bytes.result
    (λ is.
    let one = sym (c.in_ok-more.ensures.lines (c.loop-text.invariant.valid is)) ∙ ap (λ l. l ++ left) (sym c.as_slice.ensures.value) in
    part_next (contents c.args.output.now.inner) (contents c.loop-text.output.inner) (contents c.write_bytes.new.self.inner) c.as_slice.result.now left
    (lines (g.P.TrieListing.left c.loop-text.pairs).pairs) (lines (g.P.TrieListing.left c.args.pairs).pairs)
    (c.loop-text.invariant.wrote is) c.in_err-write_bytes.ensures.part one)
