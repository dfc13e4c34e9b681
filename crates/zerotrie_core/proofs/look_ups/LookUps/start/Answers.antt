use Rattle.std.proofs.Common.{◌≡◌, ◌∷◌, rules, sym, subst}
use Rattle.zerotrie_core.specs.reader.Starts.{AnswersAs}
use Rattle.zerotrie_core.proofs.look_ups.LookUps.start.Goals as goal

pub returns-in-Some-target-clause-start : goal.returns-in-Some-target-clause-start
returns-in-Some-target-clause-start g c =
    let is : c.args.key.now ≡ c.in-Some.byte.now ∷ c.in-Some.left.now = search rules in
    subst (λ key. AnswersAs g.K.ZeroTrieWithOptions.kind c.args.self.now key c.in-Some-target.target.now c.in-Some.left.now) (sym is)
    (c.in-Some-target.ensures.some c.in-Some.left.now)
