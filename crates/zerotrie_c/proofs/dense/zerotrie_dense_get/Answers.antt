use Rattle.std.proofs.Common.{subst, arith}
use Rattle.zerotrie.specs.dense.Laws.{Answers, AnswersByMaps}
use Rattle.zerotrie_c.proofs.DenseLemmas.{fine_is_no_error, told_below, told_kept}
use Rattle.zerotrie_c.proofs.dense.zerotrie_dense_get.Goals as goal

pub returns-in-Ok-clause-table : goal.returns-in-Ok-clause-table
returns-in-Ok-clause-table c t whole is =
    let same = c.in-Ok.ensures.written t whole is in (
      c.get_bytes.result,
      subst (λ p. Answers p c.args.prefix.now c.args.suffix.now c.get_bytes.result) same c.get_bytes.ensures.entry,
      subst (λ p. AnswersByMaps p c.args.prefix.now c.args.suffix.now c.get_bytes.result) same c.get_bytes.ensures.maps,
      c.tell.ensures,
    )

pub returns-in-Ok-clause-truncated : goal.returns-in-Ok-clause-truncated
returns-in-Ok-clause-truncated c =
    let below = told_below c.get_bytes.result c.tell.result c.args.value.now c.tell.new.value c.tell.ensures in
    (λ h. absurd (omega (arith, below, h)), λ h. absurd (fine_is_no_error c.in-Ok.table _ (c.in-Ok.ensures.truncated.1 h)))

pub returns-in-Ok-clause-trailing : goal.returns-in-Ok-clause-trailing
returns-in-Ok-clause-trailing c =
    let below = told_below c.get_bytes.result c.tell.result c.args.value.now c.tell.new.value c.tell.ensures in
    (λ h. absurd (omega (arith, below, h)), λ h. absurd (fine_is_no_error c.in-Ok.table _ (c.in-Ok.ensures.trailing.1 h)))

pub returns-in-Ok-clause-kept : goal.returns-in-Ok-clause-kept
returns-in-Ok-clause-kept c = told_kept c.get_bytes.result c.tell.result c.args.value.now c.tell.new.value c.tell.ensures
