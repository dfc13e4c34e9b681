use Rattle.std.proofs.Common.{subst, inr}
use Rattle.zerotrie_run.specs.Runs.{Opens}
use Rattle.zerotrie_run.proofs.diff.compare_held.Goals as goal

pub returns-in-Ok-clause-ok : goal.returns-in-Ok-clause-ok
returns-in-Ok-clause-ok g c =
    let first = c.in_ok-old.old in
    let second = c.in_ok-new.new in
    record {
      kind = first.kind;
      bytes = first.bytes.now;
      opens = subst (λ file. Opens file c.args.held.now first.kind first.bytes.now) c.old_file.ensures c.in_ok-old.ensures.opens;
      other_kind = second.kind;
      others = second.bytes.now;
      opens_other = subst (λ file. Opens file c.args.other.now second.kind second.bytes.now) c.new_file.ensures c.in_ok-new.ensures.opens;
      compared = c.in-Ok.ensures.all;
    }

pub returns-in-Err-clause-err : goal.returns-in-Err-clause-err
returns-in-Err-clause-err g c =
    let first = c.in_ok-old.old in
    let second = c.in_ok-new.new in
    inr (
      inr c.new_file-in-Err.ensures,
      tt,
      record {
        kind = first.kind;
        bytes = first.bytes.now;
        opens = subst (λ file. Opens file c.args.held.now first.kind first.bytes.now) c.old_file.ensures c.in_ok-old.ensures.opens;
        other_kind = second.kind;
        others = second.bytes.now;
        opens_other = subst (λ file. Opens file c.args.other.now second.kind second.bytes.now) c.new_file.ensures c.in_ok-new.ensures.opens;
        begun = c.in-Err.ensures.part;
      },
    )
