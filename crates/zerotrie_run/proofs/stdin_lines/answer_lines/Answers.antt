use Rattle.std.proofs.Common.{[], ℕ, ◌≤◌, ◌++◌, length, take, drop, None, refl, sym, ◌∙◌, ap, subst, arith, inl, inr}
use Rattle.std.specs.Prelude.{◌==◌, ◌&&◌}
use Rattle.std.proofs.lemmas.List.{take_all, take-append-drop}
use Rattle.std.specs.Io.Buffered.{writer_contents}
use Rattle.std.proofs.KnownBytes.{Consumes-nil}
use Rattle.zerotrie_queries.specs.Finders.{Finds}
use Rattle.zerotrie_lines.specs.Lines.{ended_lines}
use Rattle.zerotrie_lines.specs.Blocks.{AreWhole, HasFeed}
use Rattle.zerotrie_lines.specs.declared.reading.LineEnd.TheVariants.{CrLf}
use Rattle.zerotrie_queries.specs.Answers.{AreAnswered, AreAnsweredInPart}
use Rattle.zerotrie_queries.proofs.PartLemmas.{on_err}
use Rattle.zerotrie_making.specs.Others.{IsOther}
use Rattle.zerotrie_run.specs.Streams.{text_behind}
use Rattle.zerotrie_run.proofs.LineLemmas.{IsNext, lines_first, lines_read, lines_part, lines_ends, lines_stops, lines_fails, lines_break, no_feed_left, feed_before, none_begun, start_read, start_lines, start_breaks}
use Rattle.zerotrie_run.proofs.stdin_lines.answer_lines.Goals as goal

pub returns-in-Err-clause-part : goal.returns-in-Err-clause-part
returns-in-Err-clause-part g c =
    none_begun c.args.query (Finds c.args.finder.now c.args.query.asked) (g.R.Read.remaining c.args.input.now.inner) (writer_contents g.W.Write.contents c.args.output.now.inner)

pub returns-in-Err-clause-before : goal.returns-in-Err-clause-before
returns-in-Err-clause-before g c = elim c.in-Err.ensures.stays [
  | inl none ↦ inl none
  | inr unsettled ↦ inr (start_breaks c.args.query (Finds c.args.finder.now c.args.query.asked) (g.R.Read.remaining c.args.input.now.inner) (g.R.Read.remaining c.read_start.new.input.inner)
      (writer_contents g.W.Write.contents c.args.output.now.inner) unsettled (λ empty. empty))
]

pub returns-in-Some-clause-part : goal.returns-in-Some-clause-part
returns-in-Some-clause-part g c =
    none_begun c.args.query (Finds c.args.finder.now c.args.query.asked) (g.R.Read.remaining c.args.input.now.inner) (writer_contents g.W.Write.contents c.args.output.now.inner)

pub loop-init : goal.loop-init
loop-init g c =
    let input = g.R.Read.remaining c.args.input.now.inner in
    let left = g.R.Read.remaining c.read_start.new.input.inner in
    let held = c.read_start.new.held.items in
    let consumes = start_read input input left [] held c.in-Ok.ended (Consumes-nil input) c.in-Ok.ensures.gives in
    record {
      lines = lines_first c.args.query (Finds c.args.finder.now c.args.query.asked) input left (writer_contents g.W.Write.contents c.args.output.now.inner) held consumes;
      no_other = start_lines input left held c.in-Ok.ended None consumes c.in-Ok.ensures.gives.at_end c.in-Ok.ensures.settled (subst (λ t. IsOther t None) c.as_slice.ensures.value c.in_default.ensures);
      at_end = c.in-Ok.ensures.gives.at_end;
      handed = λ empty. empty;
      notes = (c.in-Ok.ensures.noted, refl);
      no_feed = λ k low. absurd (omega (arith, low));
    }

pub returns-in_err-all-clause-part : goal.returns-in_err-all-clause-part
returns-in_err-all-clause-part g c =
    let remaining = g.R.Read.remaining in
    let contents = writer_contents g.W.Write.contents in
    let query = c.args.query in
    let Has = Finds c.args.finder.now query.asked in
    let input = remaining c.args.input.now.inner in
    let left = remaining c.loop.input.inner in
    let held = c.loop.held.items in
    let len = c.part_len-len.result in
    let old = contents c.args.output.now.inner in
    let mid = contents c.loop.output.inner in
    let new = contents c.answer_part.new.output.inner in
    let text = c.text_behind.ensures ∙ ap (λ all. text_behind c.loop.first (take len all)) c.deref.ensures.value in
    let next : IsNext c.loop.ended left held (take len held) (drop len held) = record {
      cut = sym (take-append-drop len held);
      all = λ ended. ((ap (λ n. take n held) (c.part_len-len.ensures.all ended ∙ ap length c.as_slice-in-loop.ensures.value) ∙ take_all (length held) held (omega arith)), c.loop.invariant.at_end ended);
      whole = λ more. subst (λ all. AreWhole (take len all)) c.as_slice-in-loop.ensures.value (c.part_len-len.ensures.whole more);
    } in
    on_err c.from_residual.result
    (lines_fails query Has input left held (take len held) (drop len held) old mid new c.loop.all c.loop.first c.loop.ended c.loop.invariant.lines next
    (subst (λ lines. AreAnsweredInPart query Has (ended_lines CrLf lines) mid new) text c.in_err-all.ensures.part))

pub returns-then-ended-clause-answered : goal.returns-then-ended-clause-answered
returns-then-ended-clause-answered g c =
    let remaining = g.R.Read.remaining in
    let contents = writer_contents g.W.Write.contents in
    let query = c.args.query in
    let Has = Finds c.args.finder.now query.asked in
    let input = remaining c.args.input.now.inner in
    let left = remaining c.loop.input.inner in
    let held = c.loop.held.items in
    let len = c.part_len-len.result in
    let old = contents c.args.output.now.inner in
    let mid = contents c.loop.output.inner in
    let new = contents c.answer_part.new.output.inner in
    let text = c.text_behind.ensures ∙ ap (λ all. text_behind c.loop.first (take len all)) c.deref.ensures.value in
    let answered = subst (λ lines. AreAnswered query Has (ended_lines CrLf lines) mid new c.in_ok-all.field-0) text c.in_ok-all.ensures.answered in
    lines_ends query Has input left held (take len held) old mid new c.loop.all c.loop.first c.in_ok-all.field-0 (c.loop.all && c.in_ok-all.field-0) c.loop.invariant.lines
    (ap (λ n. take n held) (c.part_len-len.ensures.all c.if-ended.true ∙ ap length c.as_slice-in-loop.ensures.value) ∙ take_all (length held) held (omega arith))
    (c.loop.invariant.at_end c.if-ended.true) c.loop.invariant.no_other answered refl

pub returns-in-Err-read_more-clause-part : goal.returns-in-Err-read_more-clause-part
returns-in-Err-read_more-clause-part g c =
    let remaining = g.R.Read.remaining in
    let contents = writer_contents g.W.Write.contents in
    let query = c.args.query in
    let Has = Finds c.args.finder.now query.asked in
    let input = remaining c.args.input.now.inner in
    let left = remaining c.loop.input.inner in
    let held = c.loop.held.items in
    let len = c.part_len-len.result in
    let old = contents c.args.output.now.inner in
    let mid = contents c.loop.output.inner in
    let new = contents c.answer_part.new.output.inner in
    let text = c.text_behind.ensures ∙ ap (λ all. text_behind c.loop.first (take len all)) c.deref.ensures.value in
    let rest = c.drop_front.new.held.items in
    let within = subst (λ all. len ≤ length all) c.as_slice-in-loop.ensures.value c.part_len-len.ensures.within in
    let cut = sym (take-append-drop len held) ∙ ap (λ r. take len held ++ r) (sym c.drop_front.ensures) in
    let whole = subst (λ all. AreWhole (take len all)) c.as_slice-in-loop.ensures.value (c.part_len-len.ensures.whole c.if-ended.false) in
    let answered = subst (λ lines. AreAnswered query Has (ended_lines CrLf lines) mid new c.in_ok-all.field-0) text c.in_ok-all.ensures.answered in
    let next = c.loop.all && c.in_ok-all.field-0 in
    let later = c.loop.first && (len == 0) in
    let part = lines_part query Has input left held rest len old mid new c.loop.all c.loop.first c.in_ok-all.field-0 next later c.loop.invariant.lines within cut whole answered refl refl in
    lines_stops query Has input left rest old new next later part

pub returns-in-Err-read_more-clause-before : goal.returns-in-Err-read_more-clause-before
returns-in-Err-read_more-clause-before g c =
    let remaining = g.R.Read.remaining in
    let contents = writer_contents g.W.Write.contents in
    let query = c.args.query in
    let Has = Finds c.args.finder.now query.asked in
    let input = remaining c.args.input.now.inner in
    let left = remaining c.loop.input.inner in
    let held = c.loop.held.items in
    let len = c.part_len-len.result in
    let old = contents c.args.output.now.inner in
    let mid = contents c.loop.output.inner in
    let new = contents c.answer_part.new.output.inner in
    let text = c.text_behind.ensures ∙ ap (λ all. text_behind c.loop.first (take len all)) c.deref.ensures.value in
    let rest = c.drop_front.new.held.items in
    let within = subst (λ all. len ≤ length all) c.as_slice-in-loop.ensures.value c.part_len-len.ensures.within in
    let cut = sym (take-append-drop len held) ∙ ap (λ r. take len held ++ r) (sym c.drop_front.ensures) in
    let whole = subst (λ all. AreWhole (take len all)) c.as_slice-in-loop.ensures.value (c.part_len-len.ensures.whole c.if-ended.false) in
    let answered = subst (λ lines. AreAnswered query Has (ended_lines CrLf lines) mid new c.in_ok-all.field-0) text c.in_ok-all.ensures.answered in
    let next = c.loop.all && c.in_ok-all.field-0 in
    let later = c.loop.first && (len == 0) in
    let part = lines_part query Has input left held rest len old mid new c.loop.all c.loop.first c.in_ok-all.field-0 next later c.loop.invariant.lines within cut whole answered refl refl in
    let none = λ (k : ℕ). subst (λ left. HasFeed left k → ⊥) (sym c.drop_front.ensures)
    (no_feed_left held c.loop.before len c.loop.invariant.no_feed
    (λ k from past has. c.part_len-len.ensures.last c.if-ended.false k from past (subst (λ all. HasFeed all k) (sym c.as_slice-in-loop.ensures.value) has)) k) in
    elim c.in-Err-read_more.ensures.stays [
      | inl none ↦ inl none
      | inr keeps ↦ inr (inl (lines_break query Has input left (remaining c.read_more.new.self.inner) rest old new next later part keeps none
          (λ empty. c.in_ok-all.ensures.handed (c.loop.invariant.handed empty))))
    ]

pub loop-preserved : goal.loop-preserved
loop-preserved g c =
    let remaining = g.R.Read.remaining in
    let contents = writer_contents g.W.Write.contents in
    let query = c.args.query in
    let Has = Finds c.args.finder.now query.asked in
    let input = remaining c.args.input.now.inner in
    let left = remaining c.loop.input.inner in
    let held = c.loop.held.items in
    let len = c.part_len-len.result in
    let old = contents c.args.output.now.inner in
    let mid = contents c.loop.output.inner in
    let new = contents c.answer_part.new.output.inner in
    let text = c.text_behind.ensures ∙ ap (λ all. text_behind c.loop.first (take len all)) c.deref.ensures.value in
    let rest = c.drop_front.new.held.items in
    let within = subst (λ all. len ≤ length all) c.as_slice-in-loop.ensures.value c.part_len-len.ensures.within in
    let cut = sym (take-append-drop len held) ∙ ap (λ r. take len held ++ r) (sym c.drop_front.ensures) in
    let whole = subst (λ all. AreWhole (take len all)) c.as_slice-in-loop.ensures.value (c.part_len-len.ensures.whole c.if-ended.false) in
    let answered = subst (λ lines. AreAnswered query Has (ended_lines CrLf lines) mid new c.in_ok-all.field-0) text c.in_ok-all.ensures.answered in
    let next = c.loop.all && c.in_ok-all.field-0 in
    let later = c.loop.first && (len == 0) in
    let part = lines_part query Has input left held rest len old mid new c.loop.all c.loop.first c.in_ok-all.field-0 next later c.loop.invariant.lines within cut whole answered refl refl in
    let none = λ (k : ℕ). subst (λ left. HasFeed left k → ⊥) (sym c.drop_front.ensures)
    (no_feed_left held c.loop.before len c.loop.invariant.no_feed
    (λ k from past has. c.part_len-len.ensures.last c.if-ended.false k from past (subst (λ all. HasFeed all k) (sym c.as_slice-in-loop.ensures.value) has)) k) in
    let gives = c.in-Ok-read_more.ensures.gives in
    record {
      lines = lines_read query Has input left (remaining c.read_more.new.self.inner) rest c.read_more.new.held.items old new next later c.in-Ok-read_more.ended part gives;
      no_other = c.loop.invariant.no_other;
      at_end = gives.at_end;
      handed = λ empty. c.in_ok-all.ensures.handed (c.loop.invariant.handed empty);
      notes = (c.in-Ok-read_more.ensures.noted ∙ c.loop.invariant.notes.0, c.in_ok-all.ensures.noted ∙ c.loop.invariant.notes.1);
      no_feed = λ k low has. none k (feed_before rest gives.bytes c.read_more.new.held.items k gives.adds (omega (arith, low, c.len-before.ensures)) has);
    }

pub returns-clause-part : goal.returns-clause-part
returns-clause-part g c =
    lines_stops c.args.query (Finds c.args.finder.now c.args.query.asked) (g.R.Read.remaining c.args.input.now.inner) (g.R.Read.remaining c.loop.input.inner) c.loop.held.items
    (writer_contents g.W.Write.contents c.args.output.now.inner) (writer_contents g.W.Write.contents c.loop.output.inner) c.loop.all c.loop.first c.loop.invariant.lines
