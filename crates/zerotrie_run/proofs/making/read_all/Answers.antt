use Rattle.std.proofs.Common.{◌+◌, ◌∙◌, ap, arith, refl}
use Rattle.std.proofs.lemmas.Option.{slice_get-get_or}
use Rattle.zerotrie_run.proofs.CombinedLemmas.{read_more}
use Rattle.zerotrie_run.proofs.MakingLemmas.{unread_unmade}
use Rattle.zerotrie_run.proofs.StreamLemmas.{none_left, read_next, still_same}
use Rattle.zerotrie_run.proofs.making.read_all.Goals as goal

pub returns-in_err-push-in-Ok-clause-unread : goal.returns-in_err-push-in-Ok-clause-unread
returns-in_err-push-in-Ok-clause-unread g c = λ none.
    let l = c.loop-number in
    let places = c.args.making.from.now in
    still_same places l.number _ c.args.input.now l.input c.read_one.new.input c.loop-number-test.true l.invariant.left c.read_one.ensures.untouched (none_left places (l.number + 1) none)

pub returns-in-Err-clause-err : goal.returns-in-Err-clause-err
returns-in-Err-clause-err g c =
    let l = c.loop-number in
    let unread = rw l.invariant.same at c.in-Err.ensures.err in
    unread_unmade c.args.making (g.R.Read.remaining c.args.input.now.inner) (g.D.Disk.story c.args.files.now.disk) l.number _ c.in-Err.error
    (slice_get-get_or c.args.making.from.now l.number _ c.loop-number-test.true) unread

pub returns-in-Err-clause-unread : goal.returns-in-Err-clause-unread
returns-in-Err-clause-unread g c = λ none.
    let l = c.loop-number in
    let places = c.args.making.from.now in
    still_same places l.number _ c.args.input.now l.input c.read_one.new.input c.loop-number-test.true l.invariant.left c.read_one.ensures.untouched (none_left places (l.number + 1) none)

pub loop-number-preserved : goal.loop-number-preserved
loop-number-preserved g c =
    let l = c.loop-number in
    let places = c.args.making.from.now in
    let inside = c.loop-number-test.true in
    let remaining = g.R.Read.remaining in
    let story = g.D.Disk.story in
    let read = read_next places l.number _ remaining c.args.input.now l.input (story c.args.files.now.disk) (story l.files.disk) c.in-Ok.bytes.items inside c.requires l.invariant.left
    (ap story l.invariant.same) c.in-Ok.ensures.read in
    let noted = c.in-Ok.ensures.noted refl in
    record {
      read = read_more (remaining c.args.input.now.inner) (story c.args.files.now.disk) places l.number _ l.held.items c.push.new.self.items c.in-Ok.bytes inside l.invariant.read read
          c.in_ok-push-in-Ok.ensures.items;
      same = c.read_one.ensures.same ∙ l.invariant.same;
      unwritten = c.read_one.ensures.unwritten ∙ l.invariant.unwritten;
      once = (let before = l.invariant.once in let now = c.read_one.ensures.once in omega (arith, before, now));
      noted = (noted.0 ∙ l.invariant.noted.0, noted.1 ∙ l.invariant.noted.1);
      left = still_same places l.number _ c.args.input.now l.input c.read_one.new.input inside l.invariant.left c.read_one.ensures.untouched;
    }
