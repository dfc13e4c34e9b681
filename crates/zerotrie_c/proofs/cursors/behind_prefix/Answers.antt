use Rattle.std.proofs.Common.{arith, rules, take, subst, sym, ap, ◌∙◌, get_or}
use Rattle.std.proofs.lemmas.List.{take_all, take_more}
use Rattle.zerotrie_core.specs.CursorPlaces.{cursor_at}
use Rattle.zerotrie_core.specs.Machine.{after_steps, behind}
use Rattle.zerotrie_core.specs.Places.{ListsAt}
use Rattle.zerotrie_c.proofs.Steps.{after_steps-more}
use Rattle.zerotrie_c.proofs.cursors.behind_prefix.Goals as goal

pub loop-byte-preserved : goal.loop-byte-preserved
loop-byte-preserved g c = (
  λ pairs lists. (
      let kind = g.K.ZeroTrieWithOptions.kind in
      let front = take c.loop-byte.byte-index c.args.prefix.now in
      let byte = get_or c.args.prefix.now c.loop-byte.byte-index 0 in
      let stepped = c.step-edge.ensures.meaning (after_steps kind front pairs) (c.loop-byte.invariant.0 pairs lists) in
      rw (take_more c.args.prefix.now c.loop-byte.byte-index 0 (search rules)) (subst (λ left. ListsAt kind (cursor_at c.args.bytes.now c.step-edge.new.self) left)
      (ap (λ e. behind e (after_steps kind front pairs)) stepped.0 ∙ sym (after_steps-more kind front byte pairs)) stepped.1)
      ),
  c.step-edge.ensures.inside,
)

pub returns-clause-lists : goal.returns-clause-lists
returns-clause-lists g c pairs lists =
    let kind = g.K.ZeroTrieWithOptions.kind in
    subst (λ front. ListsAt kind (cursor_at c.args.bytes.now c.loop-byte.here) (after_steps kind front pairs))
    (take_all c.loop-byte.byte-index c.args.prefix.now (omega (arith, c.loop-byte-test.false))) (c.loop-byte.invariant.0 pairs lists)
