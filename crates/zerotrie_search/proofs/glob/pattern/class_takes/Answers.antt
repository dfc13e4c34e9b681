use Rattle.std.proofs.Common.{◌∙◌, ap, sym, arith}
use Rattle.std.specs.Prelude.{◌||◌}
use Rattle.std.proofs.lemmas.Bool.{lt-leb}
use Rattle.zerotrie_search.specs.Globs.{class_at}
use Rattle.zerotrie_search.specs.GlobMasks.{letters_in, class_has, or_found}
use Rattle.zerotrie_search.proofs.GlobLemmas.{none_found, found_more, no_range}
use Rattle.zerotrie_search.proofs.glob.pattern.class_takes.Goals as goal

pub loop-escaped-init : goal.loop-escaped-init
loop-escaped-init c = none_found (class_has c.args.letter (class_at (letters_in c.args.text)))

pub returns-then-to-from : goal.returns-then-to-from
returns-then-to-from c =
    let l = c.loop-escaped in
    let s = c.in-Some in
    let b = c.args.letter in
    let e = c.range_end-to in
    sym (l.invariant ∙ ap (or_found l.found) (ap (class_has b) s.ensures.is ∙ e.ensures.has s._escaped b)
    ∙ no_range l.found s.from e.result.0 b (class_has b (class_at (letters_in e.result.1))) (lt-leb s.from e.result.0 c.if-to-from.true))

pub loop-escaped-preserved : goal.loop-escaped-preserved
loop-escaped-preserved c =
    let l = c.loop-escaped in
    let s = c.in-Some in
    let b = c.args.letter in
    let e = c.range_end-to in
    l.invariant ∙ ap (or_found l.found) (ap (class_has b) s.ensures.is ∙ e.ensures.has s._escaped b)
    ∙ found_more l.found s.from e.result.0 b (class_has b (class_at (letters_in e.result.1))) (omega (arith, c.if-to-from.false))
    ∙ ap (λ x. or_found (l.found || x) (class_has b (class_at (letters_in e.result.1)))) (sym c.has_case-found.ensures)
