use Rattle.std.proofs.Common.{◌≡◌, ◌+◌, ◌-◌, ◌∙◌, arith, ap, sym}
use Rattle.std.specs.Prelude.{◌≢◌}
use Rattle.std.proofs.lemmas.Slice.Eq.{bytes_eq-Decides}
use Rattle.zerotrie_base.specs.Items.{pairs_of}
use Rattle.zerotrie_build.proofs.ItemLemmas.{count_pairs}
use Rattle.zerotrie_build.proofs.RefusalLemmas.Shown.{turn_more, apart_each}
use Rattle.zerotrie_build.proofs.refusal.first_repeated.Goals as goal

pub returns-then-eq-clause-some : goal.returns-then-eq-clause-some
returns-then-eq-clause-some c =
    let next : c.loop-place.place - 1 + 1 ≡ c.loop-place.place = omega arith in
    let same = (bytes_eq-Decides c.item_at.result.0.now c.item_at-in-loop-place.result.0.now).0 (sym c.eq.ensures ∙ c.if-eq.true) in
    (omega arith, rw next (sym (ap (λ x. x.0) c.item_at.ensures) ∙ same ∙ ap (λ x. x.0) c.item_at-in-loop-place.ensures))

pub loop-place-preserved : goal.loop-place-preserved
loop-place-preserved c =
    turn_more (λ k l. k ≢ l) (pairs_of c.args.items.now) c.loop-place.place c.item_at.result.0.now c.item_at-in-loop-place.result.0.now (omega arith)
    (ap (λ x. x.0) c.item_at.ensures) (ap (λ x. x.0) c.item_at-in-loop-place.ensures)
    (λ same. let yes = (bytes_eq-Decides c.item_at.result.0.now c.item_at-in-loop-place.result.0.now).1 same in let no = sym c.eq.ensures ∙ c.if-eq.false in cc) c.loop-place.invariant

pub returns-clause-none : goal.returns-clause-none
returns-clause-none c =
    let count = count_pairs c.args.items.now in
    apart_each (pairs_of c.args.items.now) (λ k below. c.loop-place.invariant k (omega arith))
