use Rattle.std.proofs.Common.{rules, ◌≡◌, ◌++◌, ◌∙◌, true, false, ap, sym}
use Rattle.serde_json.specs.Written.{comma_if}
use Rattle.zerotrie_queries.specs.Json.{member_text, member_texts}
use Rattle.zerotrie_queries.proofs.LimitLemmas.{next_pair}
use Rattle.zerotrie_queries.proofs.PartLemmas.{part_next, on_err}
use Rattle.zerotrie_files.proofs.WroteLemmas.{wrote_more}
use Rattle.zerotrie_queries.proofs.listing.json_object.write_members.Goals as goal

pub loop-text-preserved : goal.loop-text-preserved
loop-text-preserved g c =
    let contents = g.W.Write.contents in
    let before = g.P.TrieListing.left c.loop-text.pairs in
    let after = g.P.TrieListing.left c.advance.new.self in
    let now = g.P.TrieListing.current c.advance.new.self in
    let later = c.loop-text.later in
    let more : c.in_ok-advance.field-0 ≡ true = search rules in
    let line : c.as_slice.result.now ≡ comma_if later ++ member_text now = search rules in
    record {
      valid = λ valid. c.advance.ensures.valid (c.loop-text.invariant.valid valid);
      wrote = λ valid.
          let first = next_pair before after now c.in_ok-advance.field-0 more (c.in_ok-advance.ensures.lists (c.loop-text.invariant.valid valid)) in
          wrote_more (contents c.args.output.now.inner) (contents c.loop-text.output.inner) (contents c.write_bytes.new.self.inner) c.as_slice.result.now
          (member_texts later before.pairs) (member_texts true after.pairs) (member_texts false (g.P.TrieListing.left c.args.pairs).pairs)
          (c.loop-text.invariant.wrote valid) c.in_ok-write_bytes.ensures.all
          (ap (member_texts later) first ∙ ap (λ l. l ++ member_texts true after.pairs) (sym line));
      failed = c.in_ok-write_bytes.ensures.noted ∙ c.loop-text.invariant.failed;
    }

pub returns-in_err-write_bytes-clause-part : goal.returns-in_err-write_bytes-clause-part
returns-in_err-write_bytes-clause-part g c =
    let contents = g.W.Write.contents in
    let before = g.P.TrieListing.left c.loop-text.pairs in
    let after = g.P.TrieListing.left c.advance.new.self in
    let now = g.P.TrieListing.current c.advance.new.self in
    let later = c.loop-text.later in
    let more : c.in_ok-advance.field-0 ≡ true = search rules in
    let line : c.as_slice.result.now ≡ comma_if later ++ member_text now = search rules in
    on_err c.from_residual-in_err-write_bytes.result
    (λ valid.
    let first = next_pair before after now c.in_ok-advance.field-0 more (c.in_ok-advance.ensures.lists (c.loop-text.invariant.valid valid)) in
    part_next (contents c.args.output.now.inner) (contents c.loop-text.output.inner) (contents c.write_bytes.new.self.inner) c.as_slice.result.now
    (member_texts true after.pairs) (member_texts later before.pairs) (member_texts false (g.P.TrieListing.left c.args.pairs).pairs)
    (c.loop-text.invariant.wrote valid) c.in_err-write_bytes.ensures.part
    (ap (member_texts later) first ∙ ap (λ l. l ++ member_texts true after.pairs) (sym line)))
