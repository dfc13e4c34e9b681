use Rattle.std.proofs.Common.{◌≡◌, ◌∷◌, ◌+◌, ◌-◌, ◌*◌, ◌/◌, ◌%◌, subst, arith}
use Rattle.zerotrie_base.specs.Numbers.{BeginsWith}
use Rattle.zerotrie_base.proofs.NodeLemmas.Nodes.{small_head, none_by}
use Rattle.zerotrie_core.proofs.node.branch_at.Goals as goal
use Rattle.zerotrie_core.proofs.node.branch_at.Goals.{then-head-eq0, else-head-eq0}

pub returns-in_err-head-clause-none : goal.returns-in_err-head-clause-none
returns-in_err-head-clause-none g c = rw c.from_residual.ensures (λ edges width table behind b. (
    let large = c.in_err-head.ensures.none _ b.body b.begins in
    let small = small_head edges width table behind b in
    omega arith
    ))

pub returns-in-Some-clause-none : goal.returns-in-Some-clause-none
returns-in-Some-clause-none g c = none_by c.branch_in.result (λ none edges width table behind b. none _ table behind edges width c.in-Some.ensures.begins b) c.branch_in.ensures.none

pub returns-clause-none : goal.returns-clause-none
returns-clause-none g c =
    let is : c.in_ok-head.head ≡ 256 * (c.in_ok-head.head / 256 + 1 - 1) + c.if-head-eq0.edges % 256 = elim c.if-head-eq0.branch [
      | then-head-eq0 w ↦ let e = w.edges-is in let z = w.if-head-eq0.true in omega arith
      | else-head-eq0 w ↦ let e = w.edges-is in omega arith
    ] in
    let begins = subst (λ v. BeginsWith 32 3 v (c.args.lead ∷ c.args.rest.now) c.in_ok-head.body.now) is c.in_ok-head.ensures.found in
    none_by c.branch_in-2.result (λ none edges width table behind b. none _ table behind edges width begins b) c.branch_in-2.ensures.none
