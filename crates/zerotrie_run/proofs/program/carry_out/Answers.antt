use Rattle.std.proofs.Common.{◌∷◌, [], ap, refl, subst, sym}
use Rattle.std.proofs.KnownBytes.{Appends-nil}
use Rattle.std.specs.Io.Buffered.{writer_contents}
use Rattle.zerotrie_run.specs.Runs.{ask_refusal, world}
use Rattle.zerotrie_run.specs.Told.{TellsMore}
use Rattle.zerotrie_run.specs.Makings.{of_combine}
use Rattle.zerotrie_run.proofs.EndLemmas.{ask_ends, combine_leaves, combined_leaves}
use Rattle.zerotrie_run.proofs.MakingLemmas.{build_done, build_ends, build_tells, combine_done, combine_ends, making_cause, one_file}
use Rattle.zerotrie_run.proofs.program.carry_out.Goals as goal

pub returns-in-Err-ask-clause-err : goal.returns-in-Err-ask-clause-err
returns-in-Err-ask-clause-err g c =
    let printed = writer_contents g.W.Write.contents in
    let story = g.D.Disk.story in
    rw c.in-Ask.is (ask_ends c.in-Ask.file c.in-Ask.question (g.R.Read.remaining c.args.input.now.inner) (world (story c.args.files.now.disk) (printed c.args.output.now.inner)) (world (story c.ask.new.files.disk) (printed c.ask.new.output.inner))
    (ask_refusal c.in-Err-ask.error) (ap story c.in-Err-ask.ensures.same) c.in-Err-ask.ensures.err)

pub returns-in-Err-ask-clause-unread : goal.returns-in-Err-ask-clause-unread
returns-in-Err-ask-clause-unread g c = λ left. c.in-Err-ask.ensures.unread (rw c.in-Ask.is at left)

pub returns-in-Ok-ask-clause-quiet : goal.returns-in-Ok-ask-clause-quiet
returns-in-Ok-ask-clause-quiet g c = λ steps none. c.in-Ok-ask.ensures.quiet (λ doubt. none (rw c.in-Ask.is doubt))

pub returns-in-Ok-compare-clause-quiet : goal.returns-in-Ok-compare-clause-quiet
returns-in-Ok-compare-clause-quiet g c = λ steps none. c.in-Ok-compare.ensures.quiet (λ doubt. none (rw c.in-Diff.is doubt))

pub returns-in-Ok : goal.returns-in-Ok
returns-in-Ok g c =
    let input = g.R.Read.remaining c.args.input.now.inner in
    let printed = writer_contents g.W.Write.contents in
    let story = g.D.Disk.story in
    let before = world (story c.args.files.now.disk) (printed c.args.output.now.inner) in
    let after = world (story c.make_file.new.files.disk) (printed c.make_file.new.output.inner) in
    let old = g.M.Write.contents c.args.messages.now.inner in
    let new = g.M.Write.contents c.make_file.new.messages.inner in
    rw c.in-Build.is (record {
      ok = build_done c.in-Build.build _ input before after refl c.in-Ok.ensures.ok;
      err = tt;
      handed = c.in-Ok.ensures.handed;
      why = tt;
      notes = λ ok. build_tells c.in-Build.build (record { ref_ptr = (0, 0); now = c.in-Build.build.from ∷ [] }) input before.files old new refl (c.in-Ok.ensures.done ok);
      tells = tt;
      quiet = λ steps none. c.in-Ok.ensures.quiet steps;
      once = c.make_file.ensures.once;
      noted = λ none. c.in-Ok.ensures.noted refl;
      unread = λ left. c.in-Ok.ensures.unread (one_file c.in-Build.build.from left);
    })

pub returns-in-Err : goal.returns-in-Err
returns-in-Err g c =
    let input = g.R.Read.remaining c.args.input.now.inner in
    let printed = writer_contents g.W.Write.contents in
    let story = g.D.Disk.story in
    let before = world (story c.args.files.now.disk) (printed c.args.output.now.inner) in
    let after = world (story c.make_file.new.files.disk) (printed c.make_file.new.output.inner) in
    let old = g.M.Write.contents c.args.messages.now.inner in
    let new = g.M.Write.contents c.make_file.new.messages.inner in
    let cause = making_cause _ input before after c.in-Err.error c.in-Err.ensures.err in
    rw c.in-Build.is (record {
      ok = tt;
      err = build_ends c.in-Build.build _ input before after c.in-Err.error refl c.in-Err.ensures.err;
      handed = tt;
      why = (refl, (record { ref_ptr = (0, 0); now = c.in-Build.build.from ∷ [] }, refl, cause));
      notes = tt;
      tells = λ ok. subst (λ m. TellsMore old (g.M.Write.contents m.inner)) (sym c.in-Err.ensures.untold) ([], Appends-nil old);
      quiet = tt;
      once = c.make_file.ensures.once;
      noted = λ none. c.in-Err.ensures.noted none;
      unread = λ left. c.in-Err.ensures.unread (one_file c.in-Build.build.from left);
    })

pub returns-in-Ok-make_file : goal.returns-in-Ok-make_file
returns-in-Ok-make_file g c =
    let input = g.R.Read.remaining c.args.input.now.inner in
    let printed = writer_contents g.W.Write.contents in
    let story = g.D.Disk.story in
    let before = world (story c.args.files.now.disk) (printed c.args.output.now.inner) in
    let after = world (story c.make_file-in-Combine.new.files.disk) (printed c.make_file-in-Combine.new.output.inner) in
    let old = g.M.Write.contents c.args.messages.now.inner in
    let new = g.M.Write.contents c.make_file-in-Combine.new.messages.inner in
    rw c.in-Combine.is (record {
      ok = combine_done c.in-Combine.combine input before after c.in-Ok-make_file.ensures.ok;
      err = tt;
      handed = c.in-Ok-make_file.ensures.handed;
      why = tt;
      notes = λ ok. c.in-Ok-make_file.ensures.done ok;
      tells = tt;
      quiet = λ steps none. c.in-Ok-make_file.ensures.quiet steps;
      once = c.make_file-in-Combine.ensures.once;
      noted = λ none. c.in-Ok-make_file.ensures.noted refl;
      unread = λ left. c.in-Ok-make_file.ensures.unread (combined_leaves left);
    })

pub returns-in-Err-make_file : goal.returns-in-Err-make_file
returns-in-Err-make_file g c =
    let input = g.R.Read.remaining c.args.input.now.inner in
    let printed = writer_contents g.W.Write.contents in
    let story = g.D.Disk.story in
    let before = world (story c.args.files.now.disk) (printed c.args.output.now.inner) in
    let after = world (story c.make_file-in-Combine.new.files.disk) (printed c.make_file-in-Combine.new.output.inner) in
    let old = g.M.Write.contents c.args.messages.now.inner in
    let new = g.M.Write.contents c.make_file-in-Combine.new.messages.inner in
    rw c.in-Combine.is (record {
      ok = tt;
      err = combine_ends c.in-Combine.combine input before after c.in-Err-make_file.error c.in-Err-make_file.ensures.err;
      handed = tt;
      why = (refl, making_cause (of_combine c.in-Combine.combine) input before after c.in-Err-make_file.error c.in-Err-make_file.ensures.err);
      notes = tt;
      tells = λ ok. subst (λ m. TellsMore old (g.M.Write.contents m.inner)) (sym c.in-Err-make_file.ensures.untold) ([], Appends-nil old);
      quiet = tt;
      once = c.make_file-in-Combine.ensures.once;
      noted = λ none. c.in-Err-make_file.ensures.noted none;
      unread = λ left. c.in-Err-make_file.ensures.unread (combine_leaves c.in-Err-make_file.error left);
    })
