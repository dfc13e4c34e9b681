use Rattle.std.proofs.Common.{◌≡◌, ◌+◌, ◌-◌, length, take, drop, sym, ◌∙◌, ap, arith}
use Rattle.std.specs.List.{position_or_len}
use Rattle.std.proofs.lemmas.List.{take_all, length-drop}
use Rattle.std.proofs.Math.ListN.{drop_of_length-le}
use Rattle.zerotrie_lines.specs.Lines.{is_feed}
use Rattle.zerotrie_lines.proofs.LineLemmas.{place_is, no_place}
use Rattle.zerotrie_lines.proofs.lines.take_line.Goals as goal

pub returns-in-Some-clause-line : goal.returns-in-Some-clause-line
returns-in-Some-clause-line c =
    let all = c.args.rest.now.now in
    ap (λ n. take n all) (sym (place_is is_feed all c.in-Some.place c.in-Some.ensures.0.high c.in-Some.ensures.0.before c.in-Some.ensures.1))

pub returns-in-Some-clause-rest : goal.returns-in-Some-clause-rest
returns-in-Some-clause-rest c =
    let all = c.args.rest.now.now in
    let place = c.in-Some.place in
    take_all (length all - (place + 1)) (drop (place + 1) all) (omega (arith, length-drop (place + 1) all))
    ∙ ap (λ n. drop (n + 1) all) (sym (place_is is_feed all place c.in-Some.ensures.0.high c.in-Some.ensures.0.before c.in-Some.ensures.1))

pub returns-in-None-clause-line : goal.returns-in-None-clause-line
returns-in-None-clause-line c =
    let all = c.args.rest.now.now in
    let end : position_or_len is_feed all ≡ length all = no_place is_feed all c.in-None.ensures in
    sym (take_all (position_or_len is_feed all) all (omega (arith, end)))

pub returns-in-None-clause-rest : goal.returns-in-None-clause-rest
returns-in-None-clause-rest c =
    let all = c.args.rest.now.now in
    let end : position_or_len is_feed all ≡ length all = no_place is_feed all c.in-None.ensures in
    sym (drop_of_length-le all (omega (arith, end)))
