use Rattle.std.proofs.Common.{rules, arith, sym, ◌∙◌}
use Rattle.std.proofs.lemmas.Bool.{false≢true}
use Rattle.zerotrie_index.proofs.ValidLemmas.{opened, not_opened, closed, is_none, some_not}
use Rattle.zerotrie_index.proofs.well_formed.+is_bucket.Goals as goal

pub returns-in_default : goal.returns-in_default
returns-in_default t c = (
  λ is. absurd (false≢true is),
  λ fits. absurd (not_opened c.args.place.seed c.args.place.count c.args.place.number c.args.place.entry c.args.left c.args.records.now c.in_default.ensures.first (search rules) fits),
)

pub returns-then-left-eq0 : goal.returns-then-left-eq0
returns-then-left-eq0 t c = (
  λ is. absurd (false≢true is),
  λ fits.
      let o = opened c.args.place.seed c.args.place.count c.args.place.number c.args.place.entry c.args.left c.args.records.now c.in-Some.record.key.now c.in-Some.record.rest.now c.in-Some.record.value c.in-Some.ensures.first (search rules) fits in
      absurd (let some = o.some_left in let none = c.if-left-eq0.true in omega arith),
)

pub returns-then-not-is_at : goal.returns-then-not-is_at
returns-then-not-is_at t c = (
  λ is. absurd (false≢true is),
  λ fits.
      let o = opened c.args.place.seed c.args.place.count c.args.place.number c.args.place.entry c.args.left c.args.records.now c.in-Some.record.key.now c.in-Some.record.rest.now c.in-Some.record.value c.in-Some.ensures.first (search rules) fits in
      absurd (false≢true (sym c.if-not-is_at.true ∙ c.is_at.ensures.1 o.at)),
)

pub returns-then-is_some : goal.returns-then-is_some
returns-then-is_some t c = (
  λ is. absurd (false≢true is),
  λ fits.
      let o = opened c.args.place.seed c.args.place.count c.args.place.number c.args.place.entry c.args.left c.args.records.now c.in-Some.record.key.now c.in-Some.record.rest.now c.in-Some.record.value c.in-Some.ensures.first (search rules) fits in
      absurd (some_not c.find_in.result (sym c.if-is_some.ensures) (c.find_in.ensures o.others o.are ∙ o.apart)),
)

pub returns : goal.returns
returns t c = (
  λ is. closed c.args.place.seed c.args.place.count c.args.place.number c.args.place.entry c.args.left c.args.records.now c.in-Some.record.key.now c.in-Some.record.rest.now c.in-Some.record.value
      c.in-Some.ensures.found (omega (arith, c.if-left-eq0.false)) (c.is_at.ensures.0 c.if-not-is_at.false)
      (λ pairs are. sym (c.find_in.ensures pairs are) ∙ is_none c.find_in.result (sym c.if-is_some.ensures)) (c.is_bucket.ensures.0 is),
  λ fits.
      let o = opened c.args.place.seed c.args.place.count c.args.place.number c.args.place.entry c.args.left c.args.records.now c.in-Some.record.key.now c.in-Some.record.rest.now c.in-Some.record.value c.in-Some.ensures.first (search rules) fits in
      c.is_bucket.ensures.1 o.fits,
)
