use Rattle.std.proofs.Common.{◌≡◌, ◌∷◌, ◌+◌, ◌<◌, suc, sym, ◌∙◌, ap, arith, subst, inl, inr, get_or, length, rules}
use Rattle.std.proofs.lemmas.Result.{err_from_is_err_and, on_ok_weaker, IfErr-weaker}
use Rattle.zerotrie_build.specs.array.Texts.{newest_first}
use Rattle.zerotrie_build.specs.array.Growing.{IsClosedTo}
use Rattle.zerotrie_build.proofs.OrderLemmas.Parting.{common}
use Rattle.zerotrie_build.proofs.ArrayLemmas.Parting.{parted}
use Rattle.zerotrie_build.proofs.ArrayLemmas.Steps.{on_ok_both, goes_before, parts_before, stuck_before, stuck_from}
use Rattle.zerotrie_build.proofs.array.walk.go_before.Goals as goal

pub returns-then-common-before-clause-waits : goal.returns-then-common-before-clause-waits
returns-then-common-before-clause-waits g c =
    let e = c.common_front_len-common.ensures in
    on_ok_weaker c.close_to.result (λ closed. λ listed standing.
    goes_before g.K.ZeroTrieWithOptions.kind g.row.STACK c.args.before.now c.args.key.now c.close_to.new.text c.close_to.new.siblings.items listed c.requires.sorted (sym e ∙ c.if-common-before.true)
    (subst (λ d. IsClosedTo g.K.ZeroTrieWithOptions.kind g.row.STACK c.args.key.now d c.close_to.new.text c.close_to.new.siblings.items listed) e (closed listed standing))) c.close_to.ensures.closed

pub returns-then-common-before-clause-refused : goal.returns-then-common-before-clause-refused
returns-then-common-before-clause-refused g c =
    let e = c.common_front_len-common.ensures in
    let i = c.if-common-before.true in
    IfErr-weaker c.close_to.result _ _ (λ error refused. λ listed standing.
    stuck_from g.K.ZeroTrieWithOptions.kind g.row.STACK c.args.before.now c.args.key.now c.common_front_len-common.result listed error c.requires.sorted (inl (sym i ∙ e, let r : common c.args.before.now c.args.key.now ≡ c.common_front_len-common.result = sym e in omega arith))
    (refused listed standing)) c.close_to.ensures.refused

pub overflow_add-common : goal.overflow_add-common
overflow_add-common g c =
    let p = parted g.K.ZeroTrieWithOptions.kind c.args.before.now c.args.key.now c.requires.sorted in
    let r = p.room in
    let u = p.upto in
    let e = c.common_front_len-common.ensures in
    let n = c.if-common-before.false in
    record { fits = omega arith }

pub close_to-requires : goal.close_to-requires
close_to-requires g c =
    let p = parted g.K.ZeroTrieWithOptions.kind c.args.before.now c.args.key.now c.requires.sorted in
    let r = p.room in
    let e = c.common_front_len-common.ensures in
    (search rules, (c.requires.kind, (omega arith, c.requires.ascii)))

pub close_to-requires-2 : goal.close_to-requires-2
close_to-requires-2 g c =
    let p = parted g.K.ZeroTrieWithOptions.kind c.args.before.now c.args.key.now c.requires.sorted in
    let r = p.room in
    let e = c.common_front_len-common.ensures in
    (search rules, (c.requires.kind, (omega arith, c.requires.ascii)))

pub returns-in_err-close_to-clause-refused : goal.returns-in_err-close_to-clause-refused
returns-in_err-close_to-clause-refused g c =
    let q = err_from_is_err_and c.from_residual.result c.from_residual.ensures.1 in
    let e = c.common_front_len-common.ensures in
    rw (q.1, q.2) (λ listed standing.
    stuck_from g.K.ZeroTrieWithOptions.kind g.row.STACK c.args.before.now c.args.key.now (c.common_front_len-common.result + 1) listed _ c.requires.sorted (inr (let r : common c.args.before.now c.args.key.now ≡ c.common_front_len-common.result = sym e in omega arith))
    (c.in_err-close_to.ensures.refused listed standing))

pub bounds-key-common : goal.bounds-key-common
bounds-key-common g c =
    let p = parted g.K.ZeroTrieWithOptions.kind c.args.before.now c.args.key.now c.requires.sorted in
    let r = p.room in
    let e = c.common_front_len-common.ensures in
    omega arith

pub returns-clause-waits : goal.returns-clause-waits
returns-clause-waits g c =
    let s = c.set_aside.ensures in
    let e = c.common_front_len-common.ensures in
    let p = parted g.K.ZeroTrieWithOptions.kind c.args.before.now c.args.key.now c.requires.sorted in
    let u = p.upto in
    let n = c.if-common-before.false in
    let r : common c.args.before.now c.args.key.now ≡ c.common_front_len-common.result = sym e in
    let longer : common c.args.before.now c.args.key.now < length c.args.before.now = omega arith in
    let next : c.common_front_len-common.result + 1 ≡ suc (common c.args.before.now c.args.key.now) = omega arith in
    let six = on_ok_both _ _ c.set_aside.result s.aside (on_ok_both _ _ c.set_aside.result s.room (on_ok_both _ _ c.set_aside.result s.front (on_ok_both _ _ c.set_aside.result s.bytes s.len))) in
    on_ok_weaker c.set_aside.result (λ all. λ listed standing.
    parts_before g.K.ZeroTrieWithOptions.kind g.row.STACK c.args.before.now c.args.key.now c.close_to-2.new.text c.set_aside.new.text c.close_to-2.new.siblings.items c.set_aside.new.siblings.items listed
    c.requires.sorted c.requires.ascii longer all.1.0 (all.0 ∙ ap (λ x. record { depth = x; byte = get_or c.args.key.now x 0; len = c.close_to-2.new.text.front } ∷ newest_first c.close_to-2.new.siblings.items) e) all.1.1.0 all.1.1.1.0 all.1.1.1.1
    (subst (λ d. IsClosedTo g.K.ZeroTrieWithOptions.kind g.row.STACK c.args.key.now d c.close_to-2.new.text c.close_to-2.new.siblings.items listed) next (c.in_ok-close_to.ensures.closed listed standing))) six

pub returns-clause-refused : goal.returns-clause-refused
returns-clause-refused g c =
    let e = c.common_front_len-common.ensures in
    let p = parted g.K.ZeroTrieWithOptions.kind c.args.before.now c.args.key.now c.requires.sorted in
    let u = p.upto in
    let n = c.if-common-before.false in
    let r : common c.args.before.now c.args.key.now ≡ c.common_front_len-common.result = sym e in
    let longer : common c.args.before.now c.args.key.now < length c.args.before.now = omega arith in
    let next : c.common_front_len-common.result + 1 ≡ suc (common c.args.before.now c.args.key.now) = omega arith in
    IfErr-weaker c.set_aside.result _ _ (λ error refused. λ listed standing.
    stuck_before g.K.ZeroTrieWithOptions.kind g.row.STACK c.args.before.now c.args.key.now c.close_to-2.new.text c.close_to-2.new.siblings.items listed error c.requires.sorted c.requires.ascii longer refused.1 refused.0
    (subst (λ d. IsClosedTo g.K.ZeroTrieWithOptions.kind g.row.STACK c.args.key.now d c.close_to-2.new.text c.close_to-2.new.siblings.items listed) next (c.in_ok-close_to.ensures.closed listed standing))) c.set_aside.ensures.refused
