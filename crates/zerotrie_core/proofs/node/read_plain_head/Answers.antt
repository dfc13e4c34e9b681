use Rattle.std.proofs.Common.{◌∷◌, ◌-◌, ◌*◌, ◌/◌, ◌%◌, ◌+◌, subst, sym, arith}
use Rattle.zerotrie_base.specs.Numbers.{BeginsWith}
use Rattle.zerotrie_base.proofs.NodeLemmas.Heads.{plain_of_one, plain_of_two}
use Rattle.zerotrie_core.proofs.node.read_plain_head.Goals as goal

pub returns-then-lead-lt224-clause-begins : goal.returns-then-lead-lt224-clause-begins
returns-then-lead-lt224-clause-begins c =
    subst (λ v. BeginsWith 32 3 v (c.args.lead ∷ c.args.rest.now) c.args.rest.now) (omega arith) (plain_of_one c.args.lead c.args.rest.now c.if-lead-lt194.false c.if-lead-lt224.true)

pub returns-then-next-lt128-clause-begins : goal.returns-then-next-lt128-clause-begins
returns-then-next-lt128-clause-begins c =
    subst (λ r. BeginsWith 32 3 (256 * (c.args.lead / 2 - 110 - 1) + (c.in_ok-next.next.now - 96) % 256) (c.args.lead ∷ r) c.in_ok-next.behind.now) (sym c.in_ok-next.ensures.cases.0)
    (plain_of_two c.args.lead c.in_ok-next.next.now c.in_ok-next.behind.now c.if-lead-lt224.false (omega arith) c.if-lead-eq1.true c.if-next-ge98.true c.if-next-lt128.true)
