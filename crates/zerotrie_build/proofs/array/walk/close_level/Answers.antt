use Rattle.std.proofs.lemmas.Result.{err_from_is_err_and, on_ok_weaker, IfErr-weaker}
use Rattle.zerotrie_build.proofs.ArrayLemmas.Steps.{closes_branch, closes_literal, stuck_wide, stuck_many}
use Rattle.zerotrie_build.proofs.array.walk.close_level.Goals as goal

pub returns-in_err-set_aside-clause-refused : goal.returns-in_err-set_aside-clause-refused
returns-in_err-set_aside-clause-refused g c =
    let q = err_from_is_err_and c.from_residual.result c.from_residual.ensures.1 in
    rw (q.1, q.2) (λ listed standing.
    let r = c.in_err-set_aside.ensures.refused in
    stuck_many g.K.ZeroTrieWithOptions.kind g.row.STACK c.args.key.now c.args.depth c.args.text.now c.args.siblings.now.items listed _ c.requires.within c.requires.ascii
    (c.has_siblings_at.ensures.yes c.if-has_siblings_at.true) r.1 r.0 standing)

pub returns-then-has_siblings_at-clause-closed : goal.returns-then-has_siblings_at-clause-closed
returns-then-has_siblings_at-clause-closed g c =
    let s = c.in_ok-set_aside.ensures in
    on_ok_weaker c.join.result (λ joins. λ listed standing.
    closes_branch g.K.ZeroTrieWithOptions.kind g.row.STACK c.args.key.now c.args.depth c.args.text.now c.set_aside.new.text c.join.new.text c.args.siblings.now.items c.set_aside.new.siblings.items c.join.new.siblings.items listed
    c.requires.kind c.requires.within c.requires.ascii (c.has_siblings_at.ensures.yes c.if-has_siblings_at.true) s.room s.aside s.bytes s.len joins standing) c.join.ensures.joins

pub returns-then-has_siblings_at-clause-refused : goal.returns-then-has_siblings_at-clause-refused
returns-then-has_siblings_at-clause-refused g c =
    let s = c.in_ok-set_aside.ensures in
    IfErr-weaker c.join.result _ _ (λ e refused. λ listed standing.
    stuck_wide g.K.ZeroTrieWithOptions.kind g.row.STACK c.args.key.now c.args.depth c.args.text.now c.args.siblings.now.items c.set_aside.new.siblings.items listed e
    c.requires.kind c.requires.within c.requires.ascii (c.has_siblings_at.ensures.yes c.if-has_siblings_at.true) s.room s.aside refused.0 refused.1 standing) c.join.ensures.refused

pub returns-clause-closed : goal.returns-clause-closed
returns-clause-closed g c = λ listed standing.
    closes_literal g.K.ZeroTrieWithOptions.kind g.row.STACK c.args.key.now c.args.depth c.args.text.now c.put.new.self c.args.siblings.now.items listed c.requires.within c.requires.ascii
    (c.has_siblings_at.ensures.no c.if-has_siblings_at.false) c.put.ensures standing
