use Rattle.std.proofs.Common.{◌++◌, [], ◌∷◌, ◌∙◌, arith, refl, sym}
use Rattle.zerotrie_build.proofs.OrderLemmas.Parting.{common_most}
use Rattle.zerotrie_build.proofs.RefusalLemmas.Shown.{below_short, below_at, below_end, by_order, test_less}
use Rattle.zerotrie_build.proofs.refusal.is_below.Goals as goal

pub returns-then-common-key : goal.returns-then-common-key
returns-then-common-key c =
    by_order _ c.args.key.now (c.args.front.now ++ c.args.byte ∷ [])
    (λ t. below_short c.args.key.now c.args.front.now c.args.byte (sym c.common_front_len-common.ensures ∙ c.if-common-key.true), λ b. refl)

pub bounds-key-common : goal.bounds-key-common
bounds-key-common c =
    let m = (common_most c.args.key.now c.args.front.now).0 in
    let e = c.common_front_len-common.ensures in
    let n = c.if-common-key.false in
    omega arith

pub bounds-key-common-else-common-front : goal.bounds-key-common-else-common-front
bounds-key-common-else-common-front c =
    let m = (common_most c.args.key.now c.args.front.now).0 in
    let e = c.common_front_len-common.ensures in
    let n = c.if-common-key.false in
    omega arith

pub returns-then-common-front : goal.returns-then-common-front
returns-then-common-front c =
    let e = c.common_front_len-common.ensures in
    let m = (common_most c.args.key.now c.args.front.now).0 in
    let n = c.if-common-key.false in
    let f = c.if-common-front.true in
    by_order _ c.args.key.now (c.args.front.now ++ c.args.byte ∷ [])
    (rw e (test_less _ _ (below_at c.args.key.now c.args.front.now c.args.byte (omega arith) (omega arith))))

pub returns-else-common-front : goal.returns-else-common-front
returns-else-common-front c =
    let e = c.common_front_len-common.ensures in
    let m = (common_most c.args.key.now c.args.front.now).0 in
    let n = c.if-common-key.false in
    let f = c.if-common-front.false in
    by_order _ c.args.key.now (c.args.front.now ++ c.args.byte ∷ [])
    (rw e (test_less _ _ (below_end c.args.key.now c.args.front.now c.args.byte (omega arith) (omega arith))))
