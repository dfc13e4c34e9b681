use Rattle.std.proofs.Common.{arith}
use Rattle.std.proofs.lemmas.Result.{IfOk-weaker}
use Rattle.zerotrie_lines.specs.Lines.{is_tab}
use Rattle.zerotrie_lines.proofs.LineLemmas.{place_is, no_place, front_is, behind_is, line_faults, line_pair}
use Rattle.zerotrie_lines.proofs.lines.read_pair.Goals as goal

pub without_tab-requires : goal.without_tab-requires
without_tab-requires c = λ h. omega (arith, h, no_place is_tab c.args.line.now c.in_default.ensures)

pub returns-clause-pair : goal.returns-clause-pair
returns-clause-pair c =
    let line = c.args.line.now in
    let place = c.in-Some.place in
    let found = c.in-Some.ensures in
    IfOk-weaker c.add_pair.result _ _ (λ bad h. line_pair c.args.raw line _ _ bad _ _
    (omega (arith, place_is is_tab line place found.0.high found.0.before found.1, found.0.high))
    (front_is is_tab line place found.0.high found.0.before found.1) (behind_is is_tab line place found.0.high found.0.before found.1) h) c.add_pair.ensures.pair

pub returns-clause-none : goal.returns-clause-none
returns-clause-none c =
    let line = c.args.line.now in
    let place = c.in-Some.place in
    let found = c.in-Some.ensures in
    IfOk-weaker c.add_pair.result _ _ (λ bad h. line_faults c.args.raw line _ _ bad
    (omega (arith, place_is is_tab line place found.0.high found.0.before found.1, found.0.high))
    (front_is is_tab line place found.0.high found.0.before found.1) (behind_is is_tab line place found.0.high found.0.before found.1) h) c.add_pair.ensures.none
