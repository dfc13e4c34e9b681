use Rattle.std.proofs.Common.{rules, false, ◌∙◌, ap, subst, sym}
use Rattle.std.specs.List.{before_first, after_first}
use Rattle.zerotrie_lines.specs.Lines.{is_feed, ended, IsPairLine}
use Rattle.zerotrie_lines.specs.Reads.{IsKeyOf}
use Rattle.zerotrie_lines.proofs.ItemLemmas.{at_tab, plain_pair, plain_key, no_stop, no_number, other_stop}
use Rattle.zerotrie_lines.proofs.items.take_plain.Goals as goal

pub returns-in_err-place-clause-not_plain : goal.returns-in_err-place-clause-not_plain
returns-in_err-place-clause-not_plain c = rw c.from_residual.ensures (no_stop c.args.end c.args.rest.now.now c.in_err-place.ensures)

pub returns-then-all-place-ne9-clause-not_plain : goal.returns-then-all-place-ne9-clause-not_plain
returns-then-all-place-ne9-clause-not_plain c =
    let found = c.in_ok-place.ensures in
    other_stop c.args.end c.args.rest.now.now c.in_ok-place.place found.0.high found.0.before found.1 c.if-all-place-ne9.true

pub returns-in_err-value-clause-not_plain : goal.returns-in_err-value-clause-not_plain
returns-in_err-value-clause-not_plain c =
    let all = c.args.rest.now.now in
    let place = c.in_ok-place.place in
    let found = c.in_ok-place.ensures in
    let stop = at_tab c.args.end all place found.0.high found.0.before (search rules) in
    rw c.from_residual-in_err-value.ensures (no_number c.args.end all place stop (rw c.split_at-2.ensures.back at c.in_err-value.ensures.none))

pub returns-clause-pair : goal.returns-clause-pair
returns-clause-pair c =
    let all = c.args.rest.now.now in
    let place = c.in_ok-place.place in
    let found = c.in_ok-place.ensures in
    let stop = at_tab c.args.end all place found.0.high found.0.before (search rules) in
    let number = rw c.split_at-2.ensures.back at c.in_ok-value.ensures.number in
    subst (λ key. IsPairLine false (ended c.args.end (before_first is_feed all)) (key, c.in_ok-value.value)) (sym c.split_at.ensures.front) (plain_pair c.args.end all place c.in_ok-value.value stop number)

pub returns-clause-key : goal.returns-clause-key
returns-clause-key c =
    let all = c.args.rest.now.now in
    let place = c.in_ok-place.place in
    let found = c.in_ok-place.ensures in
    let stop = at_tab c.args.end all place found.0.high found.0.before (search rules) in
    subst (λ key. IsKeyOf (ended c.args.end (before_first is_feed all)) key) (sym c.split_at.ensures.front) (plain_key c.args.end all place stop)

pub returns-clause-rest : goal.returns-clause-rest
returns-clause-rest c =
    let all = c.args.rest.now.now in
    let place = c.in_ok-place.place in
    let found = c.in_ok-place.ensures in
    let stop = at_tab c.args.end all place found.0.high found.0.before (search rules) in
    c.in_ok-value.ensures.rest ∙ ap (λ t. after_first is_feed t) c.split_at-2.ensures.back ∙ sym stop.after
