use Rattle.std.proofs.Common.{subst, sym, arith}
use Rattle.zerotrie_lines.specs.Numbers.{IsNumber}
use Rattle.zerotrie_lines.specs.Lines.{is_tab}
use Rattle.zerotrie_lines.proofs.LineLemmas.{place_is, no_place, front_is, behind_is}
use Rattle.zerotrie_lines.proofs.items.raw_pair.Goals as goal

pub returns-in_err-place-clause-none : goal.returns-in_err-place-clause-none
returns-in_err-place-clause-none c = rw c.from_residual.ensures (λ e h. omega (arith, h.0, no_place is_tab c.args.line.now c.in_err-place.ensures))

pub returns-in_err-value-clause-none : goal.returns-in_err-value-clause-none
returns-in_err-value-clause-none c =
    let line = c.args.line.now in
    let found = c.in_ok-place.ensures in
    let digits = behind_is is_tab line c.in_ok-place.place found.0.high found.0.before found.1 in
    rw c.from_residual-in_err-value.ensures (λ e h. c.in_err-value.ensures.none e.1 (subst (λ d. IsNumber d e.1) (sym digits) h.2))

pub returns-clause-pair : goal.returns-clause-pair
returns-clause-pair c =
    let line = c.args.line.now in
    let place = c.in_ok-place.place in
    let found = c.in_ok-place.ensures in (
      omega (arith, place_is is_tab line place found.0.high found.0.before found.1, found.0.high),
      front_is is_tab line place found.0.high found.0.before found.1,
      subst (λ d. IsNumber d c.in_ok-value.value) (behind_is is_tab line place found.0.high found.0.before found.1) c.in_ok-value.ensures.some,
    )
