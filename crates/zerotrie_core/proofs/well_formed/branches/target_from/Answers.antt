use Rattle.std.proofs.Common.{◌≡◌, length, arith, sym, ◌∙◌, None, Some, Option}
use Rattle.std.specs.Prelude.{IfNone}
use Rattle.std.proofs.lemmas.Bool.{eqb-true}
use Rattle.zerotrie_core.proofs.WellFormedLemmas.Parts.{target_long}
use Rattle.zerotrie_core.proofs.WellFormedLemmas.Targets.{no_target_there, target_there}
use Rattle.zerotrie_core.proofs.well_formed.branches.target_from.Goals as goal

if_none : {A B : Type 0} (r : Option A) → B → IfNone r B
if_none None b = b
if_none (Some x) b = tt

pub returns-in_err-target-clause-none : goal.returns-in_err-target-clause-none
returns-in_err-target-clause-none g c =
    let b = c.args.branch.now in
    if_none c.from_residual.result
    (no_target_there g.K.ZeroTrieWithOptions.kind b.edges b.width b.table.now b.behind.now c.args.index c.requires.index
    (λ low high. absurd (target_there b.edges b.width b.behind.now c.args.index None low high (rw (c.requires.targets, c.requires.begins, c.end_at.ensures) at c.in_err-target.ensures))))

pub returns-then-is_empty-clause-none : goal.returns-then-is_empty-clause-none
returns-then-is_empty-clause-none g c =
    let b = c.args.branch.now in
    let target = c.in_ok-target.target.rest in
    no_target_there g.K.ZeroTrieWithOptions.kind b.edges b.width b.table.now b.behind.now c.args.index c.requires.index (λ low high. (
    let is = target_there b.edges b.width b.behind.now c.args.index (Some target) low high (rw (c.requires.targets, c.requires.begins, c.end_at.ensures) at c.in_ok-target.ensures) in
    let long = target_long b.edges b.width b.behind.now c.args.index target.now (omega arith) high is in
    let none : length target.now ≡ 0 = eqb-true _ _ (sym c.is_empty.ensures ∙ c.if-is_empty.true) in
    omega arith))
