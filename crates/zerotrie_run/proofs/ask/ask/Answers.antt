use Rattle.std.proofs.Common.{rules, inl, inr, subst}
use Rattle.std.proofs.lemmas.Result.{err_from_is_err_and}
use Rattle.std.specs.Io.Buffered.{writer_contents}
use Rattle.zerotrie_run.specs.Runs.{HasNumberToo, IsAsked, IsRefusedUnread}
use Rattle.zerotrie_run.proofs.FrontLemmas.{ends_refused, reason_refused}
use Rattle.zerotrie_run.proofs.AskLemmas.{kept_content, same_answer, answer_in_part, same_keys, same_part, ends_unanswered, reason_unanswered, left_alone, not_misused}
use Rattle.zerotrie_run.proofs.ask.ask.Goals as goal

pub returns-in-Ok-hand_on-clause-ok : goal.returns-in-Ok-hand_on-clause-ok
returns-in-Ok-hand_on-clause-ok g c =
    let contents = writer_contents g.W.Write.contents in
    let remaining = g.R.Read.remaining in
    let old = contents c.args.output.now.inner in
    let now = contents c.answer_held.new.output.inner in
    let answered = c.in_ok-all.ensures.ok in
    let kept = kept_content answered.0 c.args.question (remaining c.read_opened.new.input.inner) old now (contents c.hand_on.new.self.inner) c.in_ok-all.all answered.2 c.hand_on.ensures.bytes in
    record {
      held = c.as_slice-held.result.now;
      read = rw c.as_slice-held.ensures.value (c.in-Ok-read_opened.ensures.read c.args.file.place (g.D.Disk.story c.args.files.now.disk) c.in-Ok.ensures.opens);
      content = answered.0;
      opens = inl answered.1;
      answers = same_answer c.args.file.place remaining c.args.input.now c.read_opened.new.input answered.0 c.args.question old (contents c.hand_on.new.self.inner) c.in_ok-all.all
          c.requires (c.read_opened.ensures.untouched c.args.file.place (g.D.Disk.story c.args.files.now.disk) c.in-Ok.ensures.opens) kept;
    }

pub returns-in-Ok-hand_on-clause-quiet : goal.returns-in-Ok-hand_on-clause-quiet
returns-in-Ok-hand_on-clause-quiet g c = λ none.
    c.tell_number.ensures.quiet (λ both. none (c.as_slice-held.result.now, rw c.as_slice-held.ensures.value (c.in-Ok-read_opened.ensures.read c.args.file.place (g.D.Disk.story c.args.files.now.disk) c.in-Ok.ensures.opens), both))

pub returns-clause-quiet : goal.returns-clause-quiet
returns-clause-quiet g c = λ none.
    c.tell_number.ensures.quiet (λ both. none (c.as_slice-held.result.now, rw c.as_slice-held.ensures.value (c.in-Ok-read_opened.ensures.read c.args.file.place (g.D.Disk.story c.args.files.now.disk) c.in-Ok.ensures.opens), both))

pub returns-clause-err : goal.returns-clause-err
returns-clause-err g c =
    let contents = writer_contents g.W.Write.contents in
    let remaining = g.R.Read.remaining in
    let old = contents c.args.output.now.inner in
    let answered = c.in_ok-all.ensures.ok in
    let kept = kept_content answered.0 c.args.question (remaining c.read_opened.new.input.inner) old (contents c.answer_held.new.output.inner) (contents c.hand_on.new.self.inner) c.in_ok-all.all answered.2 c.hand_on.ensures.bytes in
    inr (record {
      held = c.as_slice-held.result.now;
      read = rw c.as_slice-held.ensures.value (c.in-Ok-read_opened.ensures.read c.args.file.place (g.D.Disk.story c.args.files.now.disk) c.in-Ok.ensures.opens);
      content = answered.0;
      opens = inl answered.1;
      begun = same_part c.args.file.place remaining c.args.input.now c.read_opened.new.input answered.0 c.args.question old (contents c.hand_on.new.self.inner)
          c.requires (c.read_opened.ensures.untouched c.args.file.place (g.D.Disk.story c.args.files.now.disk) c.in-Ok.ensures.opens)
          (answer_in_part answered.0 c.args.question (remaining c.read_opened.new.input.inner) old (contents c.hand_on.new.self.inner) c.in_ok-all.all kept);
    })

pub returns-in_err-all-clause-err : goal.returns-in_err-all-clause-err
returns-in_err-all-clause-err g c =
    let contents = writer_contents g.W.Write.contents in
    let remaining = g.R.Read.remaining in
    let old = contents c.args.output.now.inner in
    let new = contents c.answer_held.new.output.inner in
    let same = err_from_is_err_and c.from_residual-in_err-all.result c.from_residual-in_err-all.ensures.1 in
    rw (same.1, same.2) (ends_unanswered c.args.file c.args.question (remaining c.args.input.now.inner) (remaining c.read_opened.new.input.inner) (g.D.Disk.story c.args.files.now.disk) c.as_slice-held.result.now old new
    c.in_err-all.field-0.0 (rw c.as_slice-held.ensures.value (c.in-Ok-read_opened.ensures.read c.args.file.place (g.D.Disk.story c.args.files.now.disk) c.in-Ok.ensures.opens))
    (λ x h. same_part c.args.file.place remaining c.args.input.now c.read_opened.new.input x c.args.question old new
    c.requires (c.read_opened.ensures.untouched c.args.file.place (g.D.Disk.story c.args.files.now.disk) c.in-Ok.ensures.opens) h)
    (λ e h. same_keys c.args.file.place remaining c.args.input.now c.read_opened.new.input c.args.question old new e
    c.requires (c.read_opened.ensures.untouched c.args.file.place (g.D.Disk.story c.args.files.now.disk) c.in-Ok.ensures.opens) h)
    c.in_err-all.ensures.err)

pub returns-in_err-all-clause-quiet : goal.returns-in_err-all-clause-quiet
returns-in_err-all-clause-quiet g c = λ none.
    c.tell_number.ensures.quiet (λ both. none (c.as_slice-held.result.now, rw c.as_slice-held.ensures.value (c.in-Ok-read_opened.ensures.read c.args.file.place (g.D.Disk.story c.args.files.now.disk) c.in-Ok.ensures.opens), both))

pub returns-in_err-all-clause-unread : goal.returns-in_err-all-clause-unread
returns-in_err-all-clause-unread g c =
    let same = err_from_is_err_and c.from_residual-in_err-all.result c.from_residual-in_err-all.ensures.1 in
    rw (same.1, same.2) (left_alone c.args.file c.args.question c.args.input.now c.read_opened.new.input c.answer_held.new.input c.in_err-all.field-0.0
    (not_misused c.in_err-all.field-0.0) (c.read_opened.ensures.untouched c.args.file.place (g.D.Disk.story c.args.files.now.disk) c.in-Ok.ensures.opens) c.in_err-all.ensures.unread)

pub returns-in_err-all-clause-why : goal.returns-in_err-all-clause-why
returns-in_err-all-clause-why g c =
    let contents = writer_contents g.W.Write.contents in
    let remaining = g.R.Read.remaining in
    let same = err_from_is_err_and c.from_residual-in_err-all.result c.from_residual-in_err-all.ensures.1 in
    rw (same.1, same.2) (reason_unanswered c.args.file c.args.question (remaining c.args.input.now.inner) (remaining c.read_opened.new.input.inner) (g.D.Disk.story c.args.files.now.disk) c.as_slice-held.result.now
    (contents c.args.output.now.inner) (contents c.answer_held.new.output.inner) c.in_err-all.field-0.0 (rw c.as_slice-held.ensures.value (c.in-Ok-read_opened.ensures.read c.args.file.place (g.D.Disk.story c.args.files.now.disk) c.in-Ok.ensures.opens))
    (λ e h. same_keys c.args.file.place remaining c.args.input.now c.read_opened.new.input c.args.question (contents c.args.output.now.inner) (contents c.answer_held.new.output.inner) e
    c.requires (c.read_opened.ensures.untouched c.args.file.place (g.D.Disk.story c.args.files.now.disk) c.in-Ok.ensures.opens) h)
    c.in_err-all.ensures.err)

pub returns-in-Some-clause-notes : goal.returns-in-Some-clause-notes
returns-in-Some-clause-notes g c = λ fine.
    let contents = writer_contents g.W.Write.contents in
    let input = g.R.Read.remaining c.args.input.now.inner in
    let files = g.D.Disk.story c.args.files.now.disk in
    let asked : IsAsked c.args.file c.args.question input files (contents c.args.output.now.inner) (contents c.print.new.output.inner) c.in-Some.all = search rules in
    (asked.held, asked.read, λ number. absurd (subst (λ named. HasNumberToo named asked.held) c.in-Some.ensures.named number))

pub returns-in-Some-refused_by_front-clause-err : goal.returns-in-Some-refused_by_front-clause-err
returns-in-Some-refused_by_front-clause-err g c =
    let files = g.D.Disk.story c.args.files.now.disk in
    let why = c.in-Some-refused_by_front.why in
    let hint = c.in-Some-refused_by_front.hint in
    let refused = subst (λ takes. IsRefusedUnread c.args.file takes files why hint) c.asks_index.ensures (c.in-Some-refused_by_front.ensures files c.in-Ok.ensures.opens) in
    ends_refused c.args.file c.args.question (g.R.Read.remaining c.args.input.now.inner) files (writer_contents g.W.Write.contents c.args.output.now.inner) why hint refused

pub returns-in-Some-refused_by_front-clause-why : goal.returns-in-Some-refused_by_front-clause-why
returns-in-Some-refused_by_front-clause-why g c =
    let files = g.D.Disk.story c.args.files.now.disk in
    let why = c.in-Some-refused_by_front.why in
    let hint = c.in-Some-refused_by_front.hint in
    let refused = subst (λ takes. IsRefusedUnread c.args.file takes files why hint) c.asks_index.ensures (c.in-Some-refused_by_front.ensures files c.in-Ok.ensures.opens) in
    reason_refused c.args.file c.args.question (g.R.Read.remaining c.args.input.now.inner) files why hint refused
