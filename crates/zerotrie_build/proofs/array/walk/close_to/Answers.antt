use Rattle.std.proofs.Common.{◌≡◌, ◌-◌, suc, arith, subst}
use Rattle.std.proofs.lemmas.Result.{err_from_is_err_and}
use Rattle.zerotrie_build.specs.array.Growing.{IsClosedTo}
use Rattle.zerotrie_build.proofs.ArrayLemmas.Text.{keeps_then}
use Rattle.zerotrie_build.proofs.array.walk.close_to.Goals as goal

pub loop-depth-preserved : goal.loop-depth-preserved
loop-depth-preserved g c =
    let v = c.loop-depth.invariant in
    let t = c.loop-depth-test.true in
    let next : c.loop-depth.depth ≡ suc (c.loop-depth.depth - 1) = omega arith in
    record {
      closed = λ listed standing.
          c.in_ok-close_level.ensures.closed listed
          (subst (λ d. IsClosedTo g.K.ZeroTrieWithOptions.kind g.row.STACK c.args.key.now d c.loop-depth.text c.loop-depth.siblings.items listed) next (v.closed listed standing));
      keeps = keeps_then _ _ _ v.keeps c.in_ok-close_level.ensures.keeps;
      stop = omega arith;
      within = let w = v.within in omega arith;
    }

pub returns-in_err-close_level-clause-refused : goal.returns-in_err-close_level-clause-refused
returns-in_err-close_level-clause-refused g c =
    let p = err_from_is_err_and c.from_residual.result c.from_residual.ensures.1 in
    rw (p.1, p.2) (λ listed standing.
    let v = c.loop-depth.invariant in
    let t = c.loop-depth-test.true in
    let next : c.loop-depth.depth ≡ suc (c.loop-depth.depth - 1) = omega arith in
    let here = subst (λ d. IsClosedTo g.K.ZeroTrieWithOptions.kind g.row.STACK c.args.key.now d c.loop-depth.text c.loop-depth.siblings.items listed) next (v.closed listed standing) in
    (c.loop-depth.depth - 1, omega arith, (let w = v.within in omega arith), c.in_err-close_level.ensures.refused listed here))

pub returns-clause-closed : goal.returns-clause-closed
returns-clause-closed g c = λ listed standing.
    let v = c.loop-depth.invariant in
    let f = c.loop-depth-test.false in
    let ends : c.loop-depth.depth ≡ c.args.stop = let s = v.stop in omega arith in
    subst (λ d. IsClosedTo g.K.ZeroTrieWithOptions.kind g.row.STACK c.args.key.now d c.loop-depth.text c.loop-depth.siblings.items listed) ends (v.closed listed standing)
