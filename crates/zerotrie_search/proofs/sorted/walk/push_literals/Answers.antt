use Rattle.std.proofs.Common.{◌∷◌, arith, sym, subst}
use Rattle.zerotrie_search.specs.Walks.{HasRun}
use Rattle.zerotrie_search.proofs.NextLemmas.{one_literal, more_literals}
use Rattle.zerotrie_search.proofs.sorted.walk.push_literals.Goals as goal

pub loop-next-init : goal.loop-next-init
loop-next-init g c kind front is =
    subst (HasRun kind (c.args.literal ∷ c.args.after.now) front c.args.after.now) (sym is) (one_literal kind c.args.literal c.args.after.now front c.requires)

pub loop-next-preserved : goal.loop-next-preserved
loop-next-preserved g c kind front is =
    let l = c.loop-next in
    let bytes = c.args.literal ∷ c.args.after.now in
    let low = c.if-next-ge128.false in
    rw c.in_ok-push-2.ensures.items
    (more_literals kind bytes front l.at.now l.key.items c.in-Some.next.now c.in-Some.more.now c.in-Some.ensures.cases.0 (omega (arith, low)) (l.invariant kind front is))

pub returns-in_default : goal.returns-in_default
returns-in_default g c kind = c.loop-next.invariant kind c.args.key.now.items c.in_ok-push.ensures.items

pub returns-then-next-ge128 : goal.returns-then-next-ge128
returns-then-next-ge128 g c kind = c.loop-next.invariant kind c.args.key.now.items c.in_ok-push.ensures.items
