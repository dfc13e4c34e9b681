use Rattle.std.proofs.Common.{◌≡◌, ◌∙◌, sym, ap, Some, get_or, ◌<◌, ◌≤◌, length}
use Rattle.std.proofs.lemmas.Bool.{ltb-true, ltb-false}
use Rattle.zerotrie_reverse.specs.Descent.{value_at}
use Rattle.zerotrie_reverse.proofs.TableLemmas.{found_at, none_past, none_at}
use Rattle.zerotrie_reverse.proofs.places.first_place_of.Goals as goal

pub returns-in_err-place : goal.returns-in_err-place
returns-in_err-place c = λ sorted.
    let past : length c.args.places.now ≤ c.first_from.result = ltb-false _ _ (sym c.in_err-place.ensures.lookup.0) in
    c.from_residual.ensures ∙ sym (none_past (value_at c.args.bytes.now) c.args.places.now c.args.value c.first_from.result (c.first_from.ensures sorted) past)

pub returns-then-value_at-value : goal.returns-then-value_at-value
returns-then-value_at-value c = λ sorted.
    let n = value_at c.args.bytes.now in
    let inside : c.first_from.result < length c.args.places.now = ltb-true _ _ (sym c.in_ok-place.ensures.lookup.0) in
    let is : c.in_ok-place.place.now ≡ get_or c.args.places.now c.first_from.result c.in_ok-place.place.now = c.in_ok-place.ensures.lookup.1 in
    ap Some is
    ∙ sym (found_at n c.args.places.now c.args.value c.first_from.result c.in_ok-place.place.now (c.first_from.ensures sorted) inside (sym (ap n is) ∙ sym c.value_at.ensures ∙ c.if-value_at-value.true))

pub returns-else-value_at-value : goal.returns-else-value_at-value
returns-else-value_at-value c = λ sorted.
    let n = value_at c.args.bytes.now in
    let inside : c.first_from.result < length c.args.places.now = ltb-true _ _ (sym c.in_ok-place.ensures.lookup.0) in
    let is : c.in_ok-place.place.now ≡ get_or c.args.places.now c.first_from.result c.in_ok-place.place.now = c.in_ok-place.ensures.lookup.1 in
    sym (none_at n c.args.places.now c.args.value c.first_from.result c.in_ok-place.place.now sorted (c.first_from.ensures sorted) inside
    (λ same. c.if-value_at-value.false (c.value_at.ensures ∙ ap n is ∙ same)))
