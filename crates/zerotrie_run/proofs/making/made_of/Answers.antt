use Rattle.std.proofs.Common.{◌∙◌, inr, map}
use Rattle.std.proofs.lemmas.Result.{IfErr-weaker, err_from_is_err_and}
use Rattle.zerotrie_run.proofs.MakingLemmas.{one_held, uncombined_failed, uncombined_unmade}
use Rattle.zerotrie_run.proofs.making.made_of.Goals as goal

pub returns-in_err-make-in-Pairs-clause-err : goal.returns-in_err-make-in-Pairs-clause-err
returns-in_err-make-in-Pairs-clause-err c =
    let same = err_from_is_err_and c.from_residual.result c.from_residual.ensures.1 in
    let all = c.swap_remove.result in
    rw (same.1, same.2) (λ input files read. inr (_, read, rw c.in-Pairs.is (all.items, one_held c.args.held.items all (c.requires.all ∙ rw c.in-Pairs.is at c.requires.one) c.swap_remove.ensures.value, c.in_err-make-in-Pairs.ensures.err)))

pub returns-clause-err : goal.returns-clause-err
returns-clause-err c =
    IfErr-weaker c.combine.result _ _ (λ e h. λ input files read. uncombined_unmade c.args.making c.in-Tries.combination input files (map (λ bytes. bytes.items) c.args.held.items) e c.in-Tries.is h read)
    (rw c.as_slice.ensures.value at c.combine.ensures.err)

pub returns-clause-failed : goal.returns-clause-failed
returns-clause-failed c = IfErr-weaker c.combine.result _ _ (λ e h. uncombined_failed c.in-Tries.combination c.args.making.from.now _ e h) c.combine.ensures.err
