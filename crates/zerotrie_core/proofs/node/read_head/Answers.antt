use Rattle.std.proofs.Common.{arith, subst, sym, ◌∷◌, ◌%◌, ◌*◌, ◌+◌, ◌≤◌}
use Rattle.std.proofs.lemmas.Bool.{ltb-true, ltb-false}
use Rattle.std.specs.Prelude.{ℕ, List, IfSome, IfNone}
use Rattle.zerotrie_base.specs.Numbers.{BeginsWith}
use Rattle.zerotrie_core.proofs.Chosen.{chosen}
use Rattle.zerotrie_base.proofs.NodeLemmas.Heads.{head_of_one, head_of_two, head_long}
use Rattle.zerotrie_core.proofs.node.read_head.Goals as goal

pub returns-then-lead-lt224-clause-found : goal.returns-then-lead-lt224-clause-found
returns-then-lead-lt224-clause-found c = head_of_one c.args.lead c.args.rest.now c.requires c.if-lead-lt224.true

pub returns-clause-found : goal.returns-clause-found
returns-clause-found c =
    chosen (λ r. IfSome r (λ r. BeginsWith 32 3 r.0 (c.args.lead ∷ c.args.rest.now) r.1.now)) _ _ c.then_some.result c.then_some.ensures
    (λ yes.
    subst (λ r. BeginsWith 32 3 (c.args.lead % 32 * 128 + c.in_ok-next.next.now + 32) (c.args.lead ∷ r) c.in_ok-next.behind.now) (sym c.in_ok-next.ensures.cases.0)
    (head_of_two c.args.lead c.in_ok-next.next.now c.in_ok-next.behind.now c.if-lead-lt224.false (omega arith) (ltb-true _ _ yes)))
    (λ no. tt)

pub returns-clause-none : goal.returns-clause-none
returns-clause-none c =
    chosen (λ r. IfNone r ((v : ℕ) (after : List ℕ) → BeginsWith 32 3 v (c.args.lead ∷ c.args.rest.now) after → 4128 ≤ v)) _ _ c.then_some.result c.then_some.ensures
    (λ yes. tt)
    (λ no v after b. head_long c.args.lead c.in_ok-next.next.now v c.in_ok-next.behind.now c.args.rest.now after c.if-lead-lt224.false (ltb-false _ _ no) c.in_ok-next.ensures.cases.0 b)
