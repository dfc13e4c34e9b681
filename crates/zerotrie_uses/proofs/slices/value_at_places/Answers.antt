use Rattle.std.proofs.Common.{inl, inr, refl, arith}
use Rattle.std.proofs.lemmas.Result.{MatchResult-weaker}
use Rattle.zerotrie_uses.proofs.slices.value_at_places.Goals as goal

pub returns-clause-found : goal.returns-clause-found
returns-clause-found c = MatchResult-weaker c.get_at.result c.get_at.ensures.found (λ found is pairs index. is c.args.index.now refl pairs index) (λ e any. any)

pub returns-clause-err : goal.returns-clause-err
returns-clause-err c = MatchResult-weaker c.get_at.result c.get_at.ensures.err (λ found any. any) (λ e why pairs index. elim why [
  | inl fails ↦ absurd (let inside = fails.2 c.args.index.now refl pairs index in let far = fails.3.1 in omega (arith, inside, far))
  | inr memory ↦ memory
])
