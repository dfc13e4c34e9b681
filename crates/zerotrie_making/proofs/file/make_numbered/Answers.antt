use Rattle.std.proofs.Common.{subst, sym, []}
use Rattle.std.specs.Prelude.{IfErr}
use Rattle.std.proofs.lemmas.Result.{IfErr-weaker}
use Rattle.zerotrie_core.specs.Items.{pairs_of}
use Rattle.zerotrie_making.specs.Kept.{numbered, firsts, lasts, unnumbered, kept, number_in, number_at}
use Rattle.zerotrie_making.specs.Made.{ExplainsOf}
use Rattle.zerotrie_making.proofs.MadeLemmas.{kept_refusal}
use Rattle.zerotrie_making.proofs.file.make_numbered.Goals as goal

pub returns-in-Refuse-clause-err : goal.returns-in-Refuse-clause-err
returns-in-Refuse-clause-err c =
    let pairs = pairs_of c.args.items.now in
    IfErr-weaker c.make_of.result _ _ (λ e. kept_refusal c.args.plan pairs e)
    (subst (λ d. IfErr c.make_of.result (λ e. ExplainsOf c.args.plan.file (number_at d pairs) (kept d pairs) e)) (sym c.in-Refuse.is) c.make_of.ensures.err)

pub returns-in_ok-firsts-in-First-clause-err : goal.returns-in_ok-firsts-in-First-clause-err
returns-in_ok-firsts-in-First-clause-err c =
    let pairs = pairs_of c.args.items.now in
    let es = firsts [] (numbered 1 pairs) in
    let found = c.in_ok-firsts-in-First.field-0 in
    let k = c.in_ok-firsts-in-First.ensures in
    IfErr-weaker c.make_kept.result _ _ (λ e. kept_refusal c.args.plan pairs e)
    (subst (λ d. IfErr c.make_kept.result (λ e. ExplainsOf c.args.plan.file (number_at d pairs) (kept d pairs) e)) (sym c.in-First.is)
    (subst (λ ns. IfErr c.make_kept.result (λ e. ExplainsOf c.args.plan.file (number_in ns) (unnumbered es) e)) k.0
    (subst (λ ps. IfErr c.make_kept.result (λ e. ExplainsOf c.args.plan.file (number_in found.numbers.items) ps e)) k.1 c.make_kept.ensures.err)))

pub returns-in_ok-lasts-in-Last-clause-err : goal.returns-in_ok-lasts-in-Last-clause-err
returns-in_ok-lasts-in-Last-clause-err c =
    let pairs = pairs_of c.args.items.now in
    let es = lasts (numbered 1 pairs) in
    let found = c.in_ok-lasts-in-Last.field-0 in
    let k = c.in_ok-lasts-in-Last.ensures in
    IfErr-weaker c.make_kept-in-Last.result _ _ (λ e. kept_refusal c.args.plan pairs e)
    (subst (λ d. IfErr c.make_kept-in-Last.result (λ e. ExplainsOf c.args.plan.file (number_at d pairs) (kept d pairs) e)) (sym c.in-Last.is)
    (subst (λ ns. IfErr c.make_kept-in-Last.result (λ e. ExplainsOf c.args.plan.file (number_in ns) (unnumbered es) e)) k.0
    (subst (λ ps. IfErr c.make_kept-in-Last.result (λ e. ExplainsOf c.args.plan.file (number_in found.numbers.items) ps e)) k.1 c.make_kept-in-Last.ensures.err)))
