use Rattle.std.proofs.Common.{inl, inr, refl, arith, []}
use Rattle.std.proofs.lemmas.Result.{err_from_is_err_and}
use Rattle.zerotrie_files.specs.Stores.{IsBeside}
use Rattle.zerotrie_files.proofs.BesideLemmas.{still_stays, none_free, one_free, one_fails, stays_here}
use Rattle.zerotrie_files.proofs.DeedLemmas.{did_nothing, did_then, places_then, none_then}
use Rattle.zerotrie_files.proofs.replacing.place_beside.Goals as goal

pub loop-tried-init : goal.loop-tried-init
loop-tried-init g c = record { story = stays_here _; deeds = did_nothing _; taken = inl refl }

pub returns-in_err-beside-clause-story : goal.returns-in_err-beside-clause-story
returns-in_err-beside-clause-story g c =
    let p = err_from_is_err_and c.from_residual.result c.from_residual.ensures.1 in
    rw p.1 (none_free c.args.path.now c.args.bytes.now p.0 _ _ c.loop-tried.invariant.story)

pub returns-in_err-beside-clause-unplaced : goal.returns-in_err-beside-clause-unplaced
returns-in_err-beside-clause-unplaced g c =
    let p = err_from_is_err_and c.from_residual.result c.from_residual.ensures.1 in
    rw p.1 (inl c.loop-tried.invariant.deeds)

pub returns-in_err-replace-clause-story : goal.returns-in_err-replace-clause-story
returns-in_err-replace-clause-story g c =
    let p = err_from_is_err_and c.from_residual-in_err-replace.result c.from_residual-in_err-replace.ensures.1 in
    let near : IsBeside c.args.path.now c.as_str.result.now = (c.process.result, c.draw.result, rw c.as_str.ensures.value c.in_ok-beside.ensures.exact) in
    rw p.1
    (one_fails c.args.path.now c.as_str.result.now c.args.bytes.now p.0 _ _ _ near c.loop-tried.invariant.story (rw (← p.2) at (rw c.in_err-replace.was at c.replace.ensures.story)))

pub returns-in_err-replace-clause-unplaced : goal.returns-in_err-replace-clause-unplaced
returns-in_err-replace-clause-unplaced g c =
    let p = err_from_is_err_and c.from_residual-in_err-replace.result c.from_residual-in_err-replace.ensures.1 in
    rw p.1
    (none_then c.args.path.now c.as_str.result.now c.args.mode c.args.bytes.now p.0 _ _ _ c.loop-tried.invariant.deeds (rw c.in_err-replace.was at c.replace.ensures.deeds))

pub returns-then-branch-clause-story : goal.returns-then-branch-clause-story
returns-then-branch-clause-story g c =
    let near : IsBeside c.args.path.now c.as_str.result.now = (c.process.result, c.draw.result, rw c.as_str.ensures.value c.in_ok-beside.ensures.exact) in
    one_free c.args.path.now c.as_str.result.now c.args.bytes.now _ _ _ near c.loop-tried.invariant.story (rw c.if-branch.true at c.in_ok-replace.ensures.story)

pub returns-then-branch-clause-placed : goal.returns-then-branch-clause-placed
returns-then-branch-clause-placed g c =
    let near : IsBeside c.args.path.now c.as_str.result.now = (c.process.result, c.draw.result, rw c.as_str.ensures.value c.in_ok-beside.ensures.exact) in
    places_then c.args.path.now c.as_str.result.now c.args.mode c.args.bytes.now _ _ _ near c.loop-tried.invariant.deeds (rw c.if-branch.true at c.in_ok-replace.ensures.deeds)

pub loop-tried-preserved : goal.loop-tried-preserved
loop-tried-preserved g c =
    let near : IsBeside c.args.path.now c.as_str.result.now = (c.process.result, c.draw.result, rw c.as_str.ensures.value c.in_ok-beside.ensures.exact) in
    record {
      story = still_stays c.args.path.now c.as_str.result.now c.args.bytes.now _ _ _ c.loop-tried.invariant.story (rw c.if-branch.false at c.in_ok-replace.ensures.story);
      deeds = did_then [] [] _ _ _ c.loop-tried.invariant.deeds (rw c.if-branch.false at c.in_ok-replace.ensures.deeds);
      taken = inr (c.as_str.result.now, near, c.in_ok-replace.ensures.taken c.if-branch.false);
    }

pub returns-clause-story : goal.returns-clause-story
returns-clause-story g c = none_free c.args.path.now c.args.bytes.now c.from.result _ _ c.loop-tried.invariant.story

pub returns-clause-unplaced : goal.returns-clause-unplaced
returns-clause-unplaced g c = inl c.loop-tried.invariant.deeds

pub returns-clause-fault : goal.returns-clause-fault
returns-clause-fault g c = elim c.loop-tried.invariant.taken [
  | inl none ↦ absurd (omega (arith, none, c.loop-tried-test.false))
  | inr taken ↦ inr (inr (c.from.ensures, taken.0, taken.1, taken.2))
]
