use Rattle.std.proofs.Common.{◌≡◌, ◌++◌, ◌∷◌, inr, ap, ◌∙◌, refl}
use Rattle.zerotrie_session.proofs.LineLemmas.{stripped, no_words, key_alone, other_key}
use Rattle.zerotrie_session.proofs.command.key_behind.Goals as goal

pub returns-in_err-rest-clause-none : goal.returns-in_err-rest-clause-none
returns-in_err-rest-clause-none c = rw c.from_residual.ensures
    (no_words c.args.line.now c.args.words.now c.in_err-rest.ensures.cases)

pub returns-in-None-clause-some : goal.returns-in-None-clause-some
returns-in-None-clause-some c =
    key_alone c.args.line.now c.args.words.now c.in_ok-rest.rest.now c.in_ok-rest.rest.now (stripped c.args.line.now c.args.words.now c.in_ok-rest.rest c.in_ok-rest.ensures.cases) c.in-None.ensures.cases refl

pub returns-then-first-eq32-clause-some : goal.returns-then-first-eq32-clause-some
returns-then-first-eq32-clause-some c =
    let e : c.in_ok-rest.rest.now ≡ 32 ∷ c.in-Some.key.now = c.in-Some.ensures.cases.0 ∙ ap (λ b. b ∷ c.in-Some.key.now) c.if-first-eq32.true in
    inr (stripped c.args.line.now c.args.words.now c.in_ok-rest.rest c.in_ok-rest.ensures.cases ∙ ap (λ r. c.args.words.now ++ r) e)

pub returns-else-first-eq32-clause-none : goal.returns-else-first-eq32-clause-none
returns-else-first-eq32-clause-none c =
    other_key c.args.line.now c.args.words.now c.in_ok-rest.rest.now c.in-Some.first.now c.in-Some.key.now (stripped c.args.line.now c.args.words.now c.in_ok-rest.rest c.in_ok-rest.ensures.cases) c.in-Some.ensures.cases.0 c.if-first-eq32.false
