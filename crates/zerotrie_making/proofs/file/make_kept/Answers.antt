use Rattle.std.proofs.Common.{subst}
use Rattle.std.specs.Prelude.{IfErr}
use Rattle.zerotrie_core.specs.Items.{pairs_of}
use Rattle.zerotrie_making.specs.Kept.{number_in}
use Rattle.zerotrie_making.specs.Made.{ExplainsOf}
use Rattle.zerotrie_making.proofs.file.make_kept.Goals as goal

pub returns-clause-err : goal.returns-clause-err
returns-clause-err c =
    subst (λ t. IfErr c.make_of.result (λ e. ExplainsOf c.args.plan (number_in t) (pairs_of c.args.kept.items.items) e)) c.as_slice.ensures.value
    (subst (λ t. IfErr c.make_of.result (λ e. ExplainsOf c.args.plan (number_in c.as_slice.result.now) (pairs_of t) e)) c.as_slice-2.ensures.value c.make_of.ensures.err)
