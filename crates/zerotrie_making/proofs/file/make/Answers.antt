use Rattle.std.proofs.Common.{Some, subst}
use Rattle.zerotrie_making.specs.Others.{IsOther}
use Rattle.zerotrie_making.proofs.MadeLemmas.{other_is_unread}
use Rattle.zerotrie_making.proofs.file.make.Goals as goal

pub returns-in-Some-clause-err : goal.returns-in-Some-clause-err
returns-in-Some-clause-err c =
    let is = rw c.in-Some.is at c.other_file.ensures in
    other_is_unread c.args.plan.read.source c.args.input.items c.in-Some.other (subst (λ text. IsOther text (Some c.in-Some.other)) c.as_slice.ensures.value is)
