use Rattle.std.proofs.Common.{◌∙◌, [], ◌∷◌, ap, arith, refl, sym}
use Rattle.zerotrie_run.specs.Statuses.{ends_all, worst_of}
use Rattle.zerotrie_run.proofs.several.run_each.Goals as goal

pub loop-file-init : goal.loop-file-init
loop-file-init g c = λ rest runs. (rest, runs, refl)

pub returns-then-ends_all : goal.returns-then-ends_all
returns-then-ends_all g c =
    let all = c.loop-file.invariant (c.run.result ∷ []) (c.run.ensures, rw (ap ends_all (sym c.worse-worst.ensures) ∙ sym c.ends_all.ensures ∙ c.if-ends_all.true) refl) in
    (all.0, all.1, c.worse-worst.ensures ∙ all.2)

pub loop-file-preserved : goal.loop-file-preserved
loop-file-preserved g c = λ rest runs.
    let is = c.worse-worst.ensures in
    let all = c.loop-file.invariant (c.run.result ∷ rest) (c.run.ensures, rw (ap ends_all (sym is) ∙ sym c.ends_all.ensures ∙ c.if-ends_all.false) (rw is at runs)) in
    (all.0, all.1, ap (λ worst. worst_of worst rest) is ∙ all.2)

pub returns : goal.returns
returns g c = c.loop-file.invariant [] (omega (arith, c.loop-file.auto.file-end, c.loop-file-test.false))
