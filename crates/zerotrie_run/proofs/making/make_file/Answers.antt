use Rattle.std.proofs.Common.{◌∙◌, ap, inl, inr, length, map, refl, subst, sym}
use Rattle.std.proofs.KnownBytes.{Appends-trans}
use Rattle.std.proofs.lemmas.List.{length-map}
use Rattle.std.proofs.lemmas.Result.{err_from_is_err_and}
use Rattle.std.specs.Io.Buffered.{writer_contents}
use Rattle.std.specs.Io.KnownBytes.{Appends}
use Rattle.zerotrie_run.specs.Combined.{AreRead}
use Rattle.zerotrie_run.specs.Makings.{IsUnmade}
use Rattle.zerotrie_run.specs.Messages.{target_name}
use Rattle.zerotrie_run.specs.Runs.{IsKept, IsRead, IsWritten, world}
use Rattle.zerotrie_run.specs.Told.{told_left}
use Rattle.zerotrie_run.proofs.CombinedLemmas.{zip_len}
use Rattle.zerotrie_run.proofs.MakingLemmas.{none_failed}
use Rattle.zerotrie_run.proofs.making.make_file.Goals as goal

pub returns-in_err-refuse_existing-clause-err : goal.returns-in_err-refuse_existing-clause-err
returns-in_err-refuse_existing-clause-err g c =
    let same = err_from_is_err_and c.from_residual.result c.from_residual.ensures.1 in
    rw (same.1, same.2) (inl (c.in_err-refuse_existing.ensures.err (g.R.Read.remaining c.args.input.now.inner), (refl, ap g.D.Disk.story c.in_err-refuse_existing.ensures.same)))

pub returns-in_err-held-clause-err : goal.returns-in_err-held-clause-err
returns-in_err-held-clause-err g c =
    let same = err_from_is_err_and c.from_residual-in_err-held.result c.from_residual-in_err-held.ensures.1 in
    rw (same.1, same.2) (inl (rw c.refuse_existing.ensures.same at c.in_err-held.ensures.err, (refl, ap g.D.Disk.story (c.read_all.ensures.same ∙ c.refuse_existing.ensures.same))))

pub made_of-requires-clause-all : goal.made_of-requires-clause-all
made_of-requires-clause-all g c =
    let input = g.R.Read.remaining c.args.input.now.inner in
    sym (length-map c.in_ok-held.held.items (λ bytes. bytes.items))
    ∙ zip_len (λ place bytes. IsRead place input (g.D.Disk.story c.refuse_existing.new.files.disk) bytes) c.args.making.from.now (map (λ bytes. bytes.items) c.in_ok-held.held.items) c.in_ok-held.ensures.read

pub returns-in_err-made-clause-err : goal.returns-in_err-made-clause-err
returns-in_err-made-clause-err g c =
    let same = err_from_is_err_and c.from_residual-in_err-made.result c.from_residual-in_err-made.ensures.1 in
    let unmade = c.in_err-made.ensures.err (g.R.Read.remaining c.args.input.now.inner) (g.D.Disk.story c.args.files.now.disk) (rw c.refuse_existing.ensures.same at c.in_ok-held.ensures.read) in
    rw (same.1, same.2) (inl (unmade, (refl, ap g.D.Disk.story (c.in_ok-held.ensures.same ∙ c.refuse_existing.ensures.same))))

pub returns-in_err-lines-clause-err : goal.returns-in_err-lines-clause-err
returns-in_err-lines-clause-err g c =
    let same = err_from_is_err_and c.from_residual-in_err-lines.result c.from_residual-in_err-lines.ensures.1 in
    rw (same.1, same.2) (inl (inl refl, (refl, ap g.D.Disk.story (c.in_ok-held.ensures.same ∙ c.refuse_existing.ensures.same))))

pub returns-in-Ok-clause-ok : goal.returns-in-Ok-clause-ok
returns-in-Ok-clause-ok g c =
    let printed = writer_contents g.W.Write.contents in
    let story = g.D.Disk.story in
    let to = c.args.making.to in
    let file = c.in_ok-made.made.file.items in
    let old = printed c.args.output.now.inner in
    let after = world (story c.write_place.new.files.disk) (printed c.write_place.new.output.inner) in
    record {
      file = c.in_ok-made.made;
      several = c.in_ok-made.several;
      of = (map (λ bytes. bytes.items) c.in_ok-held.held.items, rw c.refuse_existing.ensures.same at c.in_ok-held.ensures.read, c.in_ok-made.ensures.ok);
      fresh = c.in_ok-refuse_existing.ensures.fresh;
      written = subst (λ f. IsWritten to file (world f old) after) (ap story (c.in_ok-held.ensures.same ∙ c.refuse_existing.ensures.same))
          (subst (λ b. IsWritten to b (world (story c.read_all.new.files.disk) old) after) c.as_slice.ensures.value c.in-Ok.ensures.ok);
    }

pub returns-in-Ok-clause-done : goal.returns-in-Ok-clause-done
returns-in-Ok-clause-done g c = λ ok.
    let contents = g.M.Write.contents in
    let old = contents c.args.messages.now.inner in
    let mid = contents c.tell.new.messages.inner in
    let left = c.tell_removed.ensures.told ok in
    let told = c.tell.ensures.told left.0 in (
      c.in_ok-made.made,
      c.in_ok-made.several,
      (map (λ bytes. bytes.items) c.in_ok-held.held.items, rw c.refuse_existing.ensures.same at c.in_ok-held.ensures.read, c.in_ok-made.ensures.ok),
      (
        left.1.0,
        Appends-trans old mid (contents c.tell_removed.new.messages.inner) _ (told_left c.args.making.summary (target_name c.args.making.to) left.1.0)
            (subst (λ text. Appends old mid text) (c.as_slice-in-Ok.ensures.value ∙ c.in_ok-lines.ensures) told.1) left.1.1,
      ),
    )

pub returns-clause-err : goal.returns-clause-err
returns-clause-err g c =
    let printed = writer_contents g.W.Write.contents in
    let story = g.D.Disk.story in
    let to = c.args.making.to in
    let file = c.in_ok-made.made.file.items in
    let old = printed c.args.output.now.inner in
    let after = world (story c.write_place.new.files.disk) (printed c.write_place.new.output.inner) in
    inr (
      record {
        why = c.in-Err.error;
        file = c.in_ok-made.made;
        several = c.in_ok-made.several;
        of = (map (λ bytes. bytes.items) c.in_ok-held.held.items, rw c.refuse_existing.ensures.same at c.in_ok-held.ensures.read, c.in_ok-made.ensures.ok);
        kept = subst (λ f. IsKept to file (world f old) after) (ap story (c.in_ok-held.ensures.same ∙ c.refuse_existing.ensures.same))
            (subst (λ b. IsKept to b (world (story c.read_all.new.files.disk) old) after) c.as_slice.ensures.value c.in-Err.ensures.err);
      },
      refl,
    )

pub returns-in_err-made-clause-failed : goal.returns-in_err-made-clause-failed
returns-in_err-made-clause-failed g c =
    let same = err_from_is_err_and c.from_residual-in_err-made.result c.from_residual-in_err-made.ensures.1 in
    rw (same.1, same.2) (none_failed _ _ c.in_err-made.field-0.0 c.in_err-made.ensures.failed)
