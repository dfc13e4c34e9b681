use Rattle.std.proofs.Common.{inl, inr, refl}
use Rattle.std.proofs.lemmas.Result.{err_from_is_err_and, IfOk-weaker, IfErr-weaker}
use Rattle.std.specs.Io.Buffered.{writer_contents}
use Rattle.zerotrie_run.proofs.DiffLemmas.{are_diffed, both_read, ends_uncompared, ends_unread, numbers_noted, of_any, quiet_twice, reason_uncompared, reason_unread, told_twice}
use Rattle.zerotrie_run.proofs.diff.compare.Goals as goal

pub returns-in_err-other-clause-tells : goal.returns-in_err-other-clause-tells
returns-in_err-other-clause-tells g c =
    let contents = g.M.Write.contents in
    let old = c.args.messages.now in
    let one = c.read_file.new.messages in
    let two = c.read_file-2.new.messages in
    told_twice old.failed one.failed two.failed (contents old.inner) (contents one.inner) (contents two.inner) c.read_file.ensures.tells c.read_file-2.ensures.tells

pub returns-in_err-other-clause-quiet : goal.returns-in_err-other-clause-quiet
returns-in_err-other-clause-quiet g c =
    quiet_twice c.args.diff c.old_file.result c.new_file.result g.R.Read.remaining c.args.input.now c.read_file.new.input g.D.Disk.story c.args.files.now.disk c.read_file.new.files.disk
    c.args.messages.now c.read_file.new.messages c.read_file-2.new.messages
    c.requires c.old_file.ensures c.new_file.ensures c.read_file.ensures.same c.read_file.ensures.untouched c.read_file.ensures.quiet c.read_file-2.ensures.quiet

pub returns-clause-ok : goal.returns-clause-ok
returns-clause-ok g c =
    let remaining = g.R.Read.remaining in
    let story = g.D.Disk.story in
    let contents = writer_contents g.W.Write.contents in
    let diff = c.args.diff in
    let held = c.as_slice.result.now in
    let other = c.as_slice-2.result.now in
    let old = contents c.args.output.now.inner in
    let new = contents c.compare_and_hand_on.new.output.inner in
    let read = both_read diff c.old_file.result c.new_file.result remaining c.args.input.now c.read_file.new.input story c.args.files.now.disk c.read_file.new.files.disk c.in_ok-held.held.items c.in_ok-other.other.items held other
    c.requires c.old_file.ensures c.new_file.ensures c.read_file.ensures.same c.read_file.ensures.untouched c.as_slice.ensures.value c.as_slice-2.ensures.value c.in_ok-held.ensures.read c.in_ok-other.ensures.read in
    IfOk-weaker c.compare_and_hand_on.result _ _ (λ same h. are_diffed diff (remaining c.args.input.now.inner) (story c.args.files.now.disk) held other old new same read.0 read.1 h) c.compare_and_hand_on.ensures.ok

pub returns-clause-err : goal.returns-clause-err
returns-clause-err g c =
    let remaining = g.R.Read.remaining in
    let story = g.D.Disk.story in
    let contents = writer_contents g.W.Write.contents in
    let diff = c.args.diff in
    let held = c.as_slice.result.now in
    let other = c.as_slice-2.result.now in
    let old = contents c.args.output.now.inner in
    let new = contents c.compare_and_hand_on.new.output.inner in
    let read = both_read diff c.old_file.result c.new_file.result remaining c.args.input.now c.read_file.new.input story c.args.files.now.disk c.read_file.new.files.disk c.in_ok-held.held.items c.in_ok-other.other.items held other
    c.requires c.old_file.ensures c.new_file.ensures c.read_file.ensures.same c.read_file.ensures.untouched c.as_slice.ensures.value c.as_slice-2.ensures.value c.in_ok-held.ensures.read c.in_ok-other.ensures.read in
    IfErr-weaker c.compare_and_hand_on.result _ _ (λ e h. ends_uncompared diff (remaining c.args.input.now.inner) (story c.args.files.now.disk) held other old new e read.0 read.1 h) c.compare_and_hand_on.ensures.err

pub returns-clause-why : goal.returns-clause-why
returns-clause-why g c =
    let remaining = g.R.Read.remaining in
    let story = g.D.Disk.story in
    let contents = writer_contents g.W.Write.contents in
    let diff = c.args.diff in
    let held = c.as_slice.result.now in
    let other = c.as_slice-2.result.now in
    let old = contents c.args.output.now.inner in
    let new = contents c.compare_and_hand_on.new.output.inner in
    let read = both_read diff c.old_file.result c.new_file.result remaining c.args.input.now c.read_file.new.input story c.args.files.now.disk c.read_file.new.files.disk c.in_ok-held.held.items c.in_ok-other.other.items held other
    c.requires c.old_file.ensures c.new_file.ensures c.read_file.ensures.same c.read_file.ensures.untouched c.as_slice.ensures.value c.as_slice-2.ensures.value c.in_ok-held.ensures.read c.in_ok-other.ensures.read in
    IfErr-weaker c.compare_and_hand_on.result _ _ (λ e h. reason_uncompared diff (remaining c.args.input.now.inner) (story c.args.files.now.disk) held other old new e read.0 read.1 h) c.compare_and_hand_on.ensures.err

pub returns-clause-notes : goal.returns-clause-notes
returns-clause-notes g c =
    let remaining = g.R.Read.remaining in
    let story = g.D.Disk.story in
    let contents = g.M.Write.contents in
    let diff = c.args.diff in
    let held = c.in_ok-held.held.items in
    let other = c.in_ok-other.other.items in
    let read = both_read diff c.old_file.result c.new_file.result remaining c.args.input.now c.read_file.new.input story c.args.files.now.disk c.read_file.new.files.disk held other held other
    c.requires c.old_file.ensures c.new_file.ensures c.read_file.ensures.same c.read_file.ensures.untouched refl refl c.in_ok-held.ensures.read c.in_ok-other.ensures.read in
    of_any c.compare_and_hand_on.result _ (λ ok. numbers_noted diff c.old_file.result c.new_file.result (remaining c.args.input.now.inner) (story c.args.files.now.disk) held other
    (contents c.args.messages.now.inner) (contents c.read_file.new.messages.inner) (contents c.read_file-2.new.messages.inner) c.old_file.ensures c.new_file.ensures read
    (c.in_ok-held.ensures.notes (c.read_file-2.ensures.tells ok).0) (c.in_ok-other.ensures.notes ok))

pub returns-clause-tells : goal.returns-clause-tells
returns-clause-tells g c =
    let contents = g.M.Write.contents in
    let old = c.args.messages.now in
    let one = c.read_file.new.messages in
    let two = c.read_file-2.new.messages in
    told_twice old.failed one.failed two.failed (contents old.inner) (contents one.inner) (contents two.inner) c.read_file.ensures.tells c.read_file-2.ensures.tells

pub returns-clause-quiet : goal.returns-clause-quiet
returns-clause-quiet g c =
    quiet_twice c.args.diff c.old_file.result c.new_file.result g.R.Read.remaining c.args.input.now c.read_file.new.input g.D.Disk.story c.args.files.now.disk c.read_file.new.files.disk
    c.args.messages.now c.read_file.new.messages c.read_file-2.new.messages
    c.requires c.old_file.ensures c.new_file.ensures c.read_file.ensures.same c.read_file.ensures.untouched c.read_file.ensures.quiet c.read_file-2.ensures.quiet

pub returns-in_err-held-clause-err : goal.returns-in_err-held-clause-err
returns-in_err-held-clause-err g c =
    let same = err_from_is_err_and c.from_residual.result c.from_residual.ensures.1 in
    rw (same.1, same.2) (ends_unread c.args.diff c.old_file.result (g.R.Read.remaining c.args.input.now.inner) (g.D.Disk.story c.args.files.now.disk) (writer_contents g.W.Write.contents c.args.output.now.inner) c.in_err-held.field-0.0.error (inl c.old_file.ensures) c.in_err-held.ensures.err.1)

pub returns-in_err-held-clause-why : goal.returns-in_err-held-clause-why
returns-in_err-held-clause-why g c =
    let same = err_from_is_err_and c.from_residual.result c.from_residual.ensures.1 in
    rw (same.1, same.2) (reason_unread c.args.diff c.old_file.result (g.R.Read.remaining c.args.input.now.inner) (g.D.Disk.story c.args.files.now.disk) c.in_err-held.field-0.0 (inl c.old_file.ensures) c.in_err-held.ensures.err)

pub returns-in_err-other-clause-err : goal.returns-in_err-other-clause-err
returns-in_err-other-clause-err g c =
    let unread = rw c.read_file.ensures.same at c.in_err-other.ensures.err in
    let same = err_from_is_err_and c.from_residual-in_err-other.result c.from_residual-in_err-other.ensures.1 in
    rw (same.1, same.2) (ends_unread c.args.diff c.new_file.result (g.R.Read.remaining c.args.input.now.inner) (g.D.Disk.story c.args.files.now.disk) (writer_contents g.W.Write.contents c.args.output.now.inner) c.in_err-other.field-0.0.error (inr c.new_file.ensures) unread.1)

pub returns-in_err-other-clause-why : goal.returns-in_err-other-clause-why
returns-in_err-other-clause-why g c =
    let unread = rw c.read_file.ensures.same at c.in_err-other.ensures.err in
    let same = err_from_is_err_and c.from_residual-in_err-other.result c.from_residual-in_err-other.ensures.1 in
    rw (same.1, same.2) (reason_unread c.args.diff c.new_file.result (g.R.Read.remaining c.args.input.now.inner) (g.D.Disk.story c.args.files.now.disk) c.in_err-other.field-0.0 (inr c.new_file.ensures) unread)
