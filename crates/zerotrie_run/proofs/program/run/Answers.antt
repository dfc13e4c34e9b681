use Rattle.std.proofs.Common.{◌||◌, []}
use Rattle.std.specs.Io.Buffered.{writer_contents}
use Rattle.zerotrie_run.specs.Commands.{command_refusal}
use Rattle.zerotrie_run.specs.Runs.{world}
use Rattle.zerotrie_run.proofs.EndLemmas.{absent_leaves, command_end, command_ends, command_told, end_closed, end_not_closed, end_pipe_closed, end_unread, end_unwritten, found_leaves, is_not, leaves, misused, not_open}
use Rattle.zerotrie_run.proofs.NoteLemmas.{was_refused}
use Rattle.zerotrie_run.proofs.program.run.Goals as goal

pub returns-then-reads_twice-clause-runs : goal.returns-then-reads_twice-clause-runs
returns-then-reads_twice-clause-runs g c =
    misused c.args.command (g.R.Read.remaining c.args.input.now.inner) (world (g.D.Disk.story c.args.files.now.disk) (writer_contents g.W.Write.contents c.args.output.now.inner)) (c.reads_twice.ensures.0 c.if-reads_twice.true)

pub returns-then-reads_twice-clause-told : goal.returns-then-reads_twice-clause-told
returns-then-reads_twice-clause-told g c = λ ok. (c.twice_line.result.now, c.twice_line.ensures, ([], (c.tell.ensures.told ok).1))

pub returns-in-Ok-true-clause-unread : goal.returns-in-Ok-true-clause-unread
returns-in-Ok-true-clause-unread g c = λ left. c.in-Ok-true.ensures.unread (found_leaves c.args.command left)

pub returns-in-Ok-false-clause-unread : goal.returns-in-Ok-false-clause-unread
returns-in-Ok-false-clause-unread g c = λ left. c.in-Ok-false.ensures.unread (absent_leaves c.args.command left)

pub returns-in-Err : goal.returns-in-Err
returns-in-Err g c =
    let contents = g.M.Write.contents in
    let printed = writer_contents g.W.Write.contents in
    let story = g.D.Disk.story in
    let command = c.args.command in
    let input = g.R.Read.remaining c.args.input.now.inner in
    let e = c.in-Err.error in
    let status = c.end_of-status.result in
    let result = c.end.result in
    let read = c.carry_out.new.input.failed in
    let unread = c.carry_out.new.files.unread in
    let write = c.carry_out.new.output.failed in
    let unwritten = c.carry_out.new.files.unwritten in
    let closed = c.carry_out.new.output.closed in
    let gone = c.carry_out.new.files.closed in
    let is = rw c.refusal.ensures at c.end_of-status.ensures in
    let end = command_end (read || unread) (write || unwritten) (closed || gone) e status result c.text.result is c.end.ensures.status in
    record {
      runs = command_ends command input (world (story c.args.files.now.disk) (printed c.args.output.now.inner)) (world (story c.carry_out.new.files.disk) (printed c.carry_out.new.output.inner)) (read || unread) (write || unwritten) (closed || gone) e status result c.text.result
          c.in-Err.ensures.err is c.end.ensures.status;
      read_failed = end_unread read unread (write || unwritten) (closed || gone) (command_refusal e) result end;
      write_failed = end_unwritten (read || unread) write unwritten (closed || gone) (command_refusal e) result end;
      closed = end_closed (read || unread) write unwritten (closed || gone) (command_refusal e) result end;
      pipe_closed = end_pipe_closed (read || unread) (write || unwritten) closed gone (command_refusal e) result end;
      not_closed = end_not_closed (read || unread) (write || unwritten) closed gone (command_refusal e) result end;
      failed = λ other. c.in-Err.ensures.noted (was_refused (read || unread) (write || unwritten) (closed || gone) (command_refusal e) status result c.text.result is c.end.ensures.status other);
      once = c.carry_out.ensures.once;
      handed = not_open (read || unread) (write || unwritten) (closed || gone) (command_refusal e) result end;
      told = λ ok.
          let told = c.end.ensures.told ok in
          command_told command input (story c.args.files.now.disk) (contents c.args.messages.now.inner) (contents c.carry_out.new.messages.inner) (contents c.end.new.messages.inner) (read || unread) (write || unwritten) (closed || gone) e status result c.text.result
          c.in-Err.ensures.why is c.text.ensures (c.in-Err.ensures.tells told.0) c.end.ensures.status told.1;
      notes = not_open (read || unread) (write || unwritten) (closed || gone) (command_refusal e) result end;
      quiet = λ steps none. not_open (read || unread) (write || unwritten) (closed || gone) (command_refusal e) result end;
      usage = λ twice. absurd (is_not c.reads_twice.result c.if-reads_twice.false (c.reads_twice.ensures.1 twice));
      unread = λ left. c.in-Err.ensures.unread (leaves command (read || unread) (write || unwritten) (closed || gone) (command_refusal e) result end left);
    }
