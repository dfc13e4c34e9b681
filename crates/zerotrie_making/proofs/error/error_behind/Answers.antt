use Rattle.std.proofs.Common.{◌+◌, subst}
use Rattle.std.specs.Prelude.{IfSome}
use Rattle.zerotrie_making.specs.Kept.{kept, number_at}
use Rattle.zerotrie_making.specs.Made.{ExplainsKept, Shows}
use Rattle.zerotrie_making.proofs.error.error_behind.Goals as goal

pub returns-in-Some : goal.returns-in-Some
returns-in-Some c = λ plan pairs why.
    let number = number_at plan.read.duplicates pairs in
    let all = kept plan.read.duplicates pairs in
    let k = subst (λ e. ExplainsKept plan (λ n. n) pairs e) c.in-Keys.is why in
    (k.0, k.1, subst (λ s. IfSome s (Shows (λ i. c.args.rows + number i) all k.0)) c.in-Some.is (c.shown_behind.ensures number all k.0 k.2))
