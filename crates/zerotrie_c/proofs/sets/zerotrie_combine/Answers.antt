use Rattle.std.proofs.Common.{inl, inr, refl, sym}
use Rattle.zerotrie_core.specs.Kinds.{kind_of as kind_that_is}
use Rattle.zerotrie_core.specs.Routes.{ascending}
use Rattle.zerotrie_c.proofs.sets.zerotrie_combine.Goals as goal

pub returns-in-Ok-clause-known : goal.returns-in-Ok-clause-known
returns-in-Ok-clause-known c =
    let h = c.in-Ok.ensures.ok in
    rw c.in-Some.ensures (rw (sym c.in-Some-plan_with.ensures)
    (inl (h.0, h.1, c.hand_out_trie.ensures ascending (kind_that_is c.in-Some.kind) h.0 (c.bytes_of_flat.ensures h.0 h.2))))

pub returns-in-Err-clause-known : goal.returns-in-Err-clause-known
returns-in-Err-clause-known c =
    rw c.in-Some.ensures (rw (sym c.in-Some-plan_with.ensures) (inr (c.in-Err.error, c.in-Err.ensures.err, c.set_status_of.ensures, refl, refl)))
