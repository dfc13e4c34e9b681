use Rattle.std.proofs.Common.{arith}
use Rattle.std.proofs.lemmas.Bool.{eq-eqb, eqb-true}
use Rattle.zerotrie_build.proofs.OrderLemmas.Parting.{common_most}
use Rattle.zerotrie_build.proofs.RefusalLemmas.Shown.{begins_at, begins_if}
use Rattle.zerotrie_build.proofs.refusal.begins.Goals as goal

pub returns-then-common-key : goal.returns-then-common-key
returns-then-common-key c = (
  λ t. cc,
  λ b.
      let at = (begins_at c.args.key.now c.args.front.now c.args.byte b).room in
      let e = c.common_front_len-common.ensures in
      let n = c.if-common-key.true in
      absurd (omega arith),
)

pub bounds-key-common : goal.bounds-key-common
bounds-key-common c =
    let m = (common_most c.args.key.now c.args.front.now).0 in
    let e = c.common_front_len-common.ensures in
    let n = c.if-common-key.false in
    omega arith

pub returns-then-common-front : goal.returns-then-common-front
returns-then-common-front c =
    let e = c.common_front_len-common.ensures in
    let m = (common_most c.args.key.now c.args.front.now).0 in
    let n = c.if-common-key.false in
    let f = c.if-common-front.true in
    rw e (
      λ t. begins_if c.args.key.now c.args.front.now c.args.byte (omega arith) (omega arith) (eqb-true _ _ t),
      λ b. eq-eqb _ _ (begins_at c.args.key.now c.args.front.now c.args.byte b).byte_is,
    )

pub returns-else-common-front : goal.returns-else-common-front
returns-else-common-front c = (
  λ t. let f = c.if-common-front.false in absurd (f (eqb-true _ _ t)),
  λ b. eq-eqb _ _ (let at = (begins_at c.args.key.now c.args.front.now c.args.byte b).all in let e = c.common_front_len-common.ensures in omega arith),
)
