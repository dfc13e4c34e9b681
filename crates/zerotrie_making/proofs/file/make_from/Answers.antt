use Rattle.std.proofs.Common.{◌+◌, subst}
use Rattle.std.specs.Prelude.{IfErr}
use Rattle.zerotrie_core.specs.Items.{pairs_of}
use Rattle.zerotrie_making.specs.Made.{ExplainsKept}
use Rattle.zerotrie_making.proofs.file.make_from.Goals as goal

pub returns-in-Err-clause-err : goal.returns-in-Err-clause-err
returns-in-Err-clause-err c =
    let pairs = pairs_of c.args.items.now in
    let why = subst (λ made. IfErr made (λ e. ExplainsKept c.args.plan (λ n. n) pairs e)) c.in-Err.is c.make_numbered.ensures.err in
    subst (λ rows. ExplainsKept c.args.plan (λ n. rows + n) pairs c.error_behind.result) c.rows_before.ensures (c.error_behind.ensures c.args.plan pairs why)
