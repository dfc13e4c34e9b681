use Rattle.std.proofs.Common.{inr}
use Rattle.std.specs.Io.Buffered.{writer_contents}
use Rattle.zerotrie_run.proofs.DiffLemmas.{kept_compared, compared_in_part}
use Rattle.zerotrie_run.proofs.diff.compare_and_hand_on.Goals as goal

pub returns-in-Ok-clause-ok : goal.returns-in-Ok-clause-ok
returns-in-Ok-clause-ok g c =
    let contents = writer_contents g.W.Write.contents in
    kept_compared c.args.diff c.args.held.now c.args.other.now (contents c.args.output.now.inner) (contents c.compare_held.new.output.inner) (contents c.hand_on.new.self.inner) c.in_ok-same.same c.in_ok-same.ensures.ok c.hand_on.ensures.bytes

pub returns-in-Err-clause-err : goal.returns-in-Err-clause-err
returns-in-Err-clause-err g c =
    let contents = writer_contents g.W.Write.contents in
    let old = contents c.args.output.now.inner in
    let new = contents c.hand_on.new.self.inner in
    inr (
      inr c.new_file.ensures,
      tt,
      compared_in_part c.args.diff c.args.held.now c.args.other.now old new c.in_ok-same.same
          (kept_compared c.args.diff c.args.held.now c.args.other.now old (contents c.compare_held.new.output.inner) new c.in_ok-same.same c.in_ok-same.ensures.ok c.hand_on.ensures.bytes),
    )
