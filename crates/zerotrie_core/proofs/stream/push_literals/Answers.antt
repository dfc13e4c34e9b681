use Rattle.std.proofs.Common.{◌≡◌, ◌<◌, ◌≤◌, ℕ, zero, suc, List, arith, inl, inr, slice_index}
use Rattle.std.proofs.lemmas.Bool.{cases_lt}
use Rattle.std.proofs.lemmas.Result.{IfOk-weaker}
use Rattle.zerotrie_core.proofs.ListingLemmas.Left.{moves_some}
use Rattle.zerotrie_core.proofs.stream.push_literals.Goals as goal

-- all bytes that are moved are literals: those that were counted, or the one that stands there
low_at : (bytes : List ℕ) (m n : ℕ) → (0 < m → n ≤ m) × (m ≡ 0 → n ≡ 1) → slice_index bytes 0 < 128 → ((k : ℕ) → k < m → slice_index bytes k < 128) → (k : ℕ) → k < n → slice_index bytes k < 128
low_at bytes m n is first low zero h = first
low_at bytes m n is first low (suc k) h = elim (cases_lt 0 m) [
  | inl some ↦ low (suc k) (let l = is.0 some in omega arith)
  | inr none ↦ absurd (let l = is.1 (omega arith) in omega arith)
]

pub returns : goal.returns
returns g c =
    let rest = c.args.here.rest.now in
    let n = c.max.result in
    let told = c.literals.ensures in
    let within = told.within in
    let some = c.requires.some in
    let low = low_at rest c.literals.result n (omega arith) c.requires.literal told.literals in
    IfOk-weaker _ _ _ (λ next. moves_some rest c.args.key.now.items next.rest.now c.push_some.new.key.items n (omega arith) (omega arith) low) c.push_some.ensures
