use Rattle.std.proofs.Common.{◌∙◌, ap, subst}
use Rattle.std.proofs.lemmas.Result.{IfErr-weaker}
use Rattle.zerotrie_core.specs.Items.{pairs_of}
use Rattle.zerotrie_making.specs.Made.{ExplainsKept}
use Rattle.zerotrie_making.specs.Sources.{number_in_source}
use Rattle.zerotrie_making.proofs.MadeLemmas.{explains_of}
use Rattle.zerotrie_making.proofs.file.make_text.Goals as goal

pub returns-in-Some-clause-err : goal.returns-in-Some-clause-err
returns-in-Some-clause-err c =
    let read = rw c.in-Some.is at c.in_ok-items.ensures in
    let given = rw c.as_slice.ensures.value at read in
    IfErr-weaker c.make_from.result _ _ (λ e why. explains_of c.args.plan c.args.input.items (pairs_of c.in-Some.items.items) e c.requires given
    (subst (λ items. ExplainsKept c.args.plan (number_in_source c.args.plan.read.source) (pairs_of items) e) c.as_slice-in-Some.ensures.value why)) c.make_from.ensures.err

pub returns-clause-err : goal.returns-clause-err
returns-clause-err c =
    IfErr-weaker c.make_from-2.result _ _ (λ e why. explains_of c.args.plan c.args.input.items c.in_ok-table.table e c.requires (rw c.as_slice-2.ensures.value at c.in_ok-table.ensures.ok)
    (subst (λ pairs. ExplainsKept c.args.plan (number_in_source c.args.plan.read.source) pairs e) (ap pairs_of c.as_slice-3.ensures.value ∙ c.in_ok-items-2.ensures) why)) c.make_from-2.ensures.err
