use Rattle.std.proofs.Common.{◌+◌, arith, drop, subst}
use Rattle.std.proofs.lemmas.List.{drop_more}
use Rattle.zerotrie_any.proofs.WalkLemmas.{Walked, walked_none, walked_more}
use Rattle.zerotrie_any.proofs.walks.walk.Goals as goal

pub loop-op-init : goal.loop-op-init
loop-op-init g c = rw (c.new-cursor.ensures, c.new-answers.ensures.items) (walked_none g.K.ZeroTrieWithOptions.kind c.args.bytes.now c.args.ops.now)

pub loop-op-preserved : goal.loop-op-preserved
loop-op-preserved g c =
    let kind = g.K.ZeroTrieWithOptions.kind in
    let left = drop (c.loop-op.op-index + 1) c.args.ops.now in
    rw c.in_ok-push.ensures.items
    (walked_more kind c.args.bytes.now c.args.ops.now c.loop-op.cursor c.turn-answer.new.cursor c.loop-op.answers.items _ c.turn-answer.result left
    (subst (λ ops. Walked kind c.args.bytes.now c.args.ops.now c.loop-op.cursor c.loop-op.answers.items ops) (drop_more c.args.ops.now c.loop-op.op-index _ (omega arith)) c.loop-op.invariant)
    c.turn-answer.ensures)
