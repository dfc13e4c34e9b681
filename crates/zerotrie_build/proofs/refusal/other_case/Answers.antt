use Rattle.std.proofs.Common.{◌≡◌, ◌∙◌, arith, subst, sym, take, get_or}
use Rattle.std.proofs.lemmas.Option.{IfSome_then}
use Rattle.zerotrie_base.specs.Kind.{fold_byte}
use Rattle.zerotrie_base.specs.Items.{keyed}
use Rattle.zerotrie_build.specs.Refused.{key_at}
use Rattle.zerotrie_build.proofs.OrderLemmas.Parting.{common_most}
use Rattle.zerotrie_build.specs.passes.OtherCase.{BeginsThen}
use Rattle.zerotrie_build.proofs.RefusalLemmas.Shown.{none_then}
use Rattle.zerotrie_build.proofs.RefusalLemmas.OtherCase.{turns_at, begins_differ}
use Rattle.zerotrie_build.proofs.refusal.other_case.Goals as goal

pub returns-then-common-key-clause-none : goal.returns-then-common-key-clause-none
returns-then-common-key-clause-none g c = λ i d below t.
    let room = (turns_at g.K.ZeroTrieWithOptions.kind c.args.key.now c.args.next.now _ t).room in
    let e = c.common_front_len-common.ensures in
    let n = c.if-common-key.true in
    omega arith

pub bounds-key-common : goal.bounds-key-common
bounds-key-common g c =
    let m = (common_most c.args.key.now c.args.next.now).0 in
    let e = c.common_front_len-common.ensures in
    let n = c.if-common-key.false in
    omega arith

pub bounds-key-common-2 : goal.bounds-key-common-2
bounds-key-common-2 g c =
    let m = (common_most c.args.key.now c.args.next.now).0 in
    let e = c.common_front_len-common.ensures in
    let n = c.if-common-key.false in
    omega arith

pub returns-then-fold-key-clause-none : goal.returns-then-fold-key-clause-none
returns-then-fold-key-clause-none g c = λ i d below t.
    let kind = g.K.ZeroTrieWithOptions.kind in
    let same = sym c.folded-fold.ensures ∙ c.if-fold-key.true in
    (turns_at kind c.args.key.now c.args.next.now (get_or (keyed g.Key.TrieKey.key c.args.items.now) i d).0 t).letter
    (subst (λ n. fold_byte kind (get_or c.args.key.now n 0) ≡ get_or c.args.key.now n 0) c.common_front_len-common.ensures same)

pub returns-clause-some : goal.returns-clause-some
returns-clause-some g c =
    let kind = g.K.ZeroTrieWithOptions.kind in
    let all = keyed g.Key.TrieKey.key c.args.items.now in
    let n = c.common_front_len-common.result in
    let f = c.folded-fold.ensures in
    let m = (common_most c.args.key.now c.args.next.now).0 in
    let e = c.common_front_len-common.ensures in
    let short = c.if-common-key.false in
    IfSome_then c.key_after.result c.key_after.ensures.some
    (λ i b. begins_differ kind c.args.key.now (key_at all i) n (omega arith) (λ h. c.if-fold-key.false (f ∙ h)) (subst (λ x. BeginsThen (take n c.args.key.now) x (key_at all i)) f b))

pub returns-clause-none : goal.returns-clause-none
returns-clause-none g c =
    let kind = g.K.ZeroTrieWithOptions.kind in
    let key = c.args.key.now in
    let all = keyed g.Key.TrieKey.key c.args.items.now in
    let n = c.common_front_len-common.result in
    none_then c.key_after.result c.key_after.ensures.none
    (λ none i d below t.
    let other = (get_or all i d).0 in
    let at = subst (λ x. BeginsThen (take x key) (fold_byte kind (get_or key x 0)) other) (sym c.common_front_len-common.ensures) (turns_at kind key c.args.next.now other t).begins in
    none i d below (subst (λ x. BeginsThen (take n key) x other) (sym c.folded-fold.ensures) at))
