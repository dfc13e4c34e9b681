use Rattle.std.proofs.Common.{◌≡◌, ◌≤◌, refl, sym, subst, arith, length, Some, None}
use Rattle.std.proofs.lemmas.Bool.{ltb-false}
use Rattle.zerotrie_base.specs.Kind.{kind_with}
use Rattle.zerotrie_core.specs.Places.{ListsAt, IsStep}
use Rattle.zerotrie_core.specs.Prefixes.{along}
use Rattle.zerotrie_core.proofs.CursorLemmas.CommonPrefixes.{stays, found, passed, stepped, stopped, ended}
use Rattle.zerotrie_core.proofs.prefixes.next_front.Goals as goal

pub loop-value-init : goal.loop-value-init
loop-value-init c = record {
  inside = c.requires;
  forward = omega arith;
  once = λ is same. is;
  goes = stays (along (kind_with c.args.options) c.args.cursor.now c.args.text.now c.args.len.now c.args.looked.now);
}

pub returns-in-Some-clause-next : goal.returns-in-Some-clause-next
returns-in-Some-clause-next c =
    let kind = kind_with c.args.options in
    let start = along kind c.args.cursor.now c.args.text.now c.args.len.now c.args.looked.now in
    rw c.in-Some.ensures.looked
    (found kind c.args.text.now start c.loop-value.cursor c.value_here.new.cursor c.loop-value.len c.in-Some.value c.loop-value.looked c.loop-value.invariant.inside refl c.loop-value.invariant.goes (c.in-Some.ensures.take kind))

pub returns-in-Some-clause-less : goal.returns-in-Some-clause-less
returns-in-Some-clause-less c =
    let at = c.loop-value.invariant in
    let first = c.in-Some.ensures.first in (
      at.forward,
      c.in-Some.ensures.looked,
      λ is. (
          let other : c.loop-value.len ≡ c.args.len.now → ⊥ = λ same. (let was = at.once is same in cc) in
          let low = at.forward in
          omega arith
          ),
    )

pub returns-in_err-byte-clause-next : goal.returns-in_err-byte-clause-next
returns-in_err-byte-clause-next c =
    let kind = kind_with c.args.options in
    let start = along kind c.args.cursor.now c.args.text.now c.args.len.now c.args.looked.now in
    let at = passed kind c.args.text.now start c.loop-value.cursor c.value_here.new.cursor c.loop-value.len c.loop-value.looked c.loop-value.invariant.goes (c.in_default.ensures.take kind) in
    let end : length c.args.text.now ≤ c.loop-value.len = ltb-false c.loop-value.len (length c.args.text.now) (sym c.in_err-byte.ensures.lookup.0) in
    rw (c.from_residual.ensures, c.in_default.ensures.looked) (ended kind c.args.text.now start c.value_here.new.cursor c.loop-value.len at end)

pub returns-in_err-step_of-clause-next : goal.returns-in_err-step_of-clause-next
returns-in_err-step_of-clause-next c =
    let kind = kind_with c.args.options in
    let start = along kind c.args.cursor.now c.args.text.now c.args.len.now c.args.looked.now in
    let at = passed kind c.args.text.now start c.loop-value.cursor c.value_here.new.cursor c.loop-value.len c.loop-value.looked c.loop-value.invariant.goes (c.in_default.ensures.take kind) in
    let byte = c.in_ok-byte.ensures.lookup.3 in
    let step = subst (λ b. IsStep kind (ListsAt kind c.value_here.new.cursor) b None (ListsAt kind c.step_of.new.cursor)) (byte.1 0) c.in_err-step_of.ensures in
    rw c.from_residual-in_err-step_of.ensures
    (stopped kind c.args.text.now start c.value_here.new.cursor c.step_of.new.cursor c.loop-value.len c.value_here.new.looked at byte.0 step)

pub loop-value-preserved : goal.loop-value-preserved
loop-value-preserved c =
    let kind = kind_with c.args.options in
    let start = along kind c.args.cursor.now c.args.text.now c.args.len.now c.args.looked.now in
    let at = passed kind c.args.text.now start c.loop-value.cursor c.value_here.new.cursor c.loop-value.len c.loop-value.looked c.loop-value.invariant.goes (c.in_default.ensures.take kind) in
    let byte = c.in_ok-byte.ensures.lookup.3 in
    let edge = c.in_ok-step_of.field-0 in
    let step = subst (λ b. IsStep kind (ListsAt kind c.value_here.new.cursor) b (Some edge) (ListsAt kind c.step_of.new.cursor)) (byte.1 0) c.in_ok-step_of.ensures in
    let low = c.loop-value.invariant.forward in
    record {
      inside = omega (arith, byte.0);
      forward = omega arith;
      once = λ is same. absurd (omega arith);
      goes = stepped kind c.args.text.now start c.value_here.new.cursor c.step_of.new.cursor c.loop-value.len edge at byte.0 step;
    }
