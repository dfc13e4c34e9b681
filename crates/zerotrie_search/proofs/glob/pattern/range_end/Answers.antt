use Rattle.std.proofs.Common.{◌∙◌, ap}
use Rattle.std.specs.Prelude.{not, ◌&&◌, ◌==◌}
use Rattle.zerotrie_search.specs.Globs.{class_at, with_letter}
use Rattle.zerotrie_search.specs.GlobMasks.{letters_in, class_has}
use Rattle.zerotrie_search.proofs.GlobLemmas.{alone_is, alone_before, not_dash, ranged}
use Rattle.zerotrie_search.proofs.glob.pattern.range_end.Goals as goal

pub returns-then-escaped-clause-has : goal.returns-then-escaped-clause-has
returns-then-escaped-clause-has c e b =
    let s = c.in-Some in
    alone_is (e, c.args.from) b (class_at (letters_in c.args.text)) (with_letter (s.escaped, s.dash) (class_at (letters_in s.after))) s.ensures.is
    (alone_before (s.escaped, s.dash) (class_at (letters_in s.after)) (ap (λ x. not x && (s.dash == 45)) c.if-escaped.true))

pub returns-then-dash-ne-DASH-clause-has : goal.returns-then-dash-ne-DASH-clause-has
returns-then-dash-ne-DASH-clause-has c e b =
    let s = c.in-Some in
    alone_is (e, c.args.from) b (class_at (letters_in c.args.text)) (with_letter (s.escaped, s.dash) (class_at (letters_in s.after))) s.ensures.is
    (alone_before (s.escaped, s.dash) (class_at (letters_in s.after)) (not_dash s.escaped s.dash c.if-dash-ne-DASH.true))

pub returns-in-Some-class_letter-clause-has : goal.returns-in-Some-class_letter-clause-has
returns-in-Some-class_letter-clause-has c e b =
    let s = c.in-Some in
    let t = c.in-Some-class_letter in
    ap (λ x. class_has b (with_letter (e, c.args.from) x)) (s.ensures.is ∙ ap (with_letter (s.escaped, s.dash)) t.ensures.is)
    ∙ ranged (e, c.args.from) (s.escaped, s.dash) (t._escaped, t.to) b (class_at (letters_in t.rest)) c.if-escaped.false c.if-dash-ne-DASH.false
