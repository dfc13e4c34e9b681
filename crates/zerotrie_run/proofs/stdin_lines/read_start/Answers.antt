use Rattle.std.proofs.Common.{◌≡◌, ℕ, List, false, refl, ◌∙◌, subst, inl, inr}
use Rattle.std.specs.Prelude.{◌==◌}
use Rattle.std.specs.List.{list_any}
use Rattle.zerotrie_making.specs.Others.{HasUtf16Mark, IsSettled}
use Rattle.zerotrie_run.proofs.LineLemmas.{start_read, no_feed_in}
use Rattle.zerotrie_run.proofs.stdin_lines.read_start.Goals as goal
use Rattle.zerotrie_run.proofs.stdin_lines.read_start.Goals.{then-ended-via-then-ended, then-ended-via-else-ended+then-is_settled}

pub returns-then-ended-clause-gives : goal.returns-then-ended-clause-gives
returns-then-ended-clause-gives g c =
    let remaining = g.R.Read.remaining in
    record {
      bytes = c.read_more.new.held.items;
      consumes = start_read (remaining c.args.input.now.inner) (remaining c.loop.input.inner) (remaining c.read_more.new.self.inner) c.loop.held.items c.read_more.new.held.items c.in_ok-ended.ended
          c.loop.invariant.consumes c.in_ok-ended.ensures.gives;
      adds = refl;
      at_end = c.in_ok-ended.ensures.gives.at_end;
    }

pub returns-then-ended-clause-settled : goal.returns-then-ended-clause-settled
returns-then-ended-clause-settled g c = elim c.then-ended.branch [
  | then-ended-via-then-ended w ↦ inl w.if-ended.true
  | then-ended-via-else-ended+then-is_settled w ↦ inr (subst IsSettled w.as_slice.ensures.value (w.is_settled.ensures.settled w.if-is_settled.true))
]

pub loop-preserved : goal.loop-preserved
loop-preserved g c =
    let remaining = g.R.Read.remaining in
    record {
      consumes = start_read (remaining c.args.input.now.inner) (remaining c.loop.input.inner) (remaining c.read_more.new.self.inner) c.loop.held.items c.read_more.new.held.items c.in_ok-ended.ended
          c.loop.invariant.consumes c.in_ok-ended.ensures.gives;
      open_yet = elim (c.is_settled.ensures.open c.if-is_settled.false) [
        | inl mark ↦ inr (subst HasUtf16Mark c.as_slice.ensures.value mark)
        | inr none ↦ inl (no_feed_in c.read_more.new.held.items (subst (λ (bytes : List ℕ). list_any (λ b. b == 10) bytes ≡ false) c.as_slice.ensures.value none))
      ];
      noted = c.in_ok-ended.ensures.noted ∙ c.loop.invariant.noted;
    }
