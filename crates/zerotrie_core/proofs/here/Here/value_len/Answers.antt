use Rattle.std.proofs.Common.{◌≡◌, Bool, true, false, leb, ltb, length, get_or, refl, arith}
use Rattle.std.specs.Prelude.{◌&&◌}
use Rattle.std.proofs.lemmas.Bool.{leb-true, ltb-true}
use Rattle.zerotrie_base.proofs.NumberLemmas.Spellings.{value_told}
use Rattle.zerotrie_core.proofs.here.Here.value_len.Goals as goal
use Rattle.zerotrie_core.proofs.here.Here.value_len.Goals.{then-lead-lt144, else-lead-lt144}

all_hold : (a b c d : Bool) → (((a && b) && c) && d) ≡ true → (a ≡ true) × (b ≡ true) × (c ≡ true) × (d ≡ true)
all_hold true true true true e = (refl, refl, refl, refl)
all_hold true true true false e = absurd (cc)
all_hold true true false d e = absurd (cc)
all_hold true false c d e = absurd (cc)
all_hold false b c d e = absurd (cc)

pub returns-then-lead-len-clause-value : goal.returns-then-lead-len-clause-value
returns-then-lead-len-clause-value c = λ some. (
    let here = c.args.self.now in
    let n = c.if-lead-lt144.len in
    let lead = get_or here.tail.now 0 0 in
    let told = all_hold (leb 128 lead) (ltb lead 160) (leb n 9) (leb n (length here.rest.now)) c.if-lead-len.true in
    value_told here.rest.now here.tail.now c.highs_in_16-highs.result n here.lies c.highs_in_16-highs.ensures.bytes (leb-true 128 lead told.0) (ltb-true lead 160 told.1) (leb-true n 9 told.2) some (leb-true n _ told.3)
    (λ short. elim c.if-lead-lt144.branch [ then-lead-lt144 w ↦ w.len-is | else-lead-lt144 w ↦ absurd (let not = w.if-lead-lt144.false in omega arith) ])
    (λ long. elim c.if-lead-lt144.branch [ then-lead-lt144 w ↦ absurd (let is = w.if-lead-lt144.true in omega arith) | else-lead-lt144 w ↦ w.len-is ])
    c.highs_in_16-highs.ensures.highs c.highs_in_16-highs.ensures.stops
    )
