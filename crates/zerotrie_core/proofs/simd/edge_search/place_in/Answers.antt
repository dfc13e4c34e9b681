use Rattle.std.proofs.Common.{◌∙◌, ap, get_or, sym, arith}
use Rattle.std.proofs.lemmas.Bool.{eqb-false}
use Rattle.std.specs.Prelude.{IfNone, length}
use Rattle.zerotrie_base.specs.Kind.{fold_byte}
use Rattle.zerotrie_base.specs.reader.Reading.{AlwaysRises, HasNoPlace}
use Rattle.zerotrie_core.proofs.Chosen.{chosen}
use Rattle.zerotrie_base.proofs.NodeLemmas.Places.{bounded_place}
use Rattle.zerotrie_core.proofs.simd.edge_search.place_in.Goals as goal
use Rattle.zerotrie_core.proofs.simd.edge_search.place_in.Goals.{then-sought-first-via-then-sought-first, then-sought-first-via-else-sought-first+then-last-sought}

pub returns-then-sought-first-clause-none : goal.returns-then-sought-first-clause-none
returns-then-sought-first-clause-none g c up k h is =
    let bounds = bounded_place g.K.ZeroTrieWithOptions.kind c.args.table.now c.folded-sought.result k c.in_ok-end.end up (omega (arith, c.in_ok-end.ensures)) h (is ∙ sym c.folded-sought.ensures) in
    let first = c.folded-first.ensures in
    let last = c.folded-last.ensures in
    elim c.then-sought-first.branch [
      | then-sought-first-via-then-sought-first w ↦ let low = w.if-sought-first.true in absurd (omega arith)
      | then-sought-first-via-else-sought-first+then-last-sought w ↦ let high = w.if-last-sought.true in absurd (omega arith)
    ]

pub returns-then-left-eq0-clause-none : goal.returns-then-left-eq0-clause-none
returns-then-left-eq0-clause-none g c up k h is =
    let bounds = bounded_place g.K.ZeroTrieWithOptions.kind c.args.table.now c.folded-sought.result k c.in_ok-end.end up (omega (arith, c.in_ok-end.ensures)) h (is ∙ sym c.folded-sought.ensures) in
    let first = c.folded-first.ensures in
    let last = c.folded-last.ensures in
    omega arith

pub returns-clause-none : goal.returns-clause-none
returns-clause-none g c =
    let kind = g.K.ZeroTrieWithOptions.kind in
    let bytes = c.args.table.now in
    chosen (λ r. IfNone r (AlwaysRises kind bytes → HasNoPlace kind (length bytes) bytes c.args.byte)) _ _ c.then_some.result c.then_some.ensures
    (λ yes. tt)
    (λ no up k h is. (
    let found = is ∙ sym c.folded-sought.ensures in
    let bounds = bounded_place kind bytes c.folded-sought.result k c.in_ok-end.end up (omega (arith, c.in_ok-end.ensures)) h found in
    let first = c.folded-first.ensures in
    let last = c.folded-last.ensures in
    let at = c.place_in_window-place.ensures.only k up found (omega arith) (omega arith) in
    absurd (eqb-false _ _ no (c.folded.ensures ∙ ap (λ i. fold_byte kind (get_or bytes i 0)) (sym at) ∙ found))
    ))
