use Rattle.std.proofs.Common.{◌≡◌, subst, sym}
use Rattle.zerotrie_index.specs.Layout.{IsIndex}
use Rattle.zerotrie_core.specs.Maps.{Pairs}
use Rattle.zerotrie_run.proofs.open.open_index.Goals as goal

pub returns-in-Err-clause-none : goal.returns-in-Err-clause-none
returns-in-Err-clause-none c = λ bytes h. c.in-Err.ensures.none bytes h.1.1

pub returns-in-Full-clause-none : goal.returns-in-Full-clause-none
returns-in-Full-clause-none c = λ bytes h.
    let same : c.in-Ok.bytes.now ≡ bytes = (c.one_index.ensures c.in-Ok.bytes.now c.args.held.now c.in-Ok.ensures.ok).0 bytes h.1.1 in
    let yes = c.is_well_formed.ensures.1 (subst (λ b. (pairs : Pairs) × IsIndex pairs b) (sym same) (h.1.2 c.in-Full.is)) in
    let no = c.if-not-is_well_formed.true in
    absurd (cc)
