-- The parts that follow a node, in the order in which they lie.
use Rattle.std.proofs.Common.{◌≡◌, ℕ, zero, suc, ◌+◌, ◌-◌, ◌<◌, ◌≤◌, List, [], ◌∷◌, ◌++◌, length, drop, refl, sym, ◌∙◌, ap, subst, arith, All}
use Rattle.std.proofs.lemmas.List.{length-take-le, length-drop}
use Rattle.std.proofs.lemmas.List.Elements.{All-nil, All-cons, All-contains}
use Rattle.zerotrie_base.specs.Kind.{Kind}
use Rattle.zerotrie_base.specs.Nodes.{Shape, begin_of, end_of, targets_behind}
use Rattle.zerotrie_base.specs.Nodes.Shape.{value, literal, span, branch}
use Rattle.zerotrie_core.specs.Faults.{Before, FaultIn, after, Fault}
use Rattle.zerotrie_core.specs.Faults.FaultIn.{here, further}
use Rattle.zerotrie_core.specs.declared.well_formed.Expected.{Expected}
use Rattle.zerotrie_core.specs.well_formed.Branching.{InOrder}
use Rattle.zerotrie_core.specs.listing.Listed.{is_in_order, target_of}
use Rattle.zerotrie_core.specs.walk.Visits.{Part, after_node, target_part, target_parts, targets_place, parts_behind}
use Rattle.zerotrie_core.specs.fault_search.Rules.{Keeps}
use Rattle.zerotrie_core.proofs.NodeLemmas.Read.{Within, by_test}
use Rattle.zerotrie_core.proofs.ListingLemmas.Nodes.{is_order, next_begin}

-- the parts lie one after another from one place to another
abbrev pub InRow : ℕ → ℕ → List Part → Type 0
InRow from to [] = from ≤ to
InRow from to (p ∷ ps) = (from ≤ p.place) × InRow (p.place + length p.bytes) to ps

pub row_earlier : (from before to : ℕ) (ps : List Part) → before ≤ from → InRow from to ps → InRow before to ps
row_earlier from before to [] h row = omega arith
row_earlier from before to (p ∷ ps) h row = (let r = row.0 in omega arith, row.1)

pub row_more : (from middle to : ℕ) (ps qs : List Part) → InRow from middle ps → InRow middle to qs → InRow from to (ps ++ qs)
row_more from middle to [] qs row more = row_earlier middle from to qs row more
row_more from middle to (p ∷ ps) qs row more = (row.0, row_more (p.place + length p.bytes) middle to ps qs row.1 more)

pub row_within : (from to : ℕ) (ps : List Part) → InRow from to ps → from ≤ to
row_within from to [] row = row
row_within from to (p ∷ ps) row = let r = row_within (p.place + length p.bytes) to ps row.1 in let h = row.0 in omega arith

-- how many bytes the parts have, and one more each
abbrev pub work : List Part → ℕ
work [] = 0
work (p ∷ ps) = suc (length p.bytes) + work ps

pub work-append : (ps qs : List Part) → work (ps ++ qs) ≡ work ps + work qs
work-append [] qs = omega arith
work-append (p ∷ ps) qs = let e = work-append ps qs in omega arith

-- parts in a row have no more bytes than lie there
work_row : (from to : ℕ) (ps : List Part) → InRow from to ps → work ps ≤ to - from + length ps
work_row from to [] row = omega arith
work_row from to (p ∷ ps) row =
    let more = work_row (p.place + length p.bytes) to ps row.1 in
    let within = row_within (p.place + length p.bytes) to ps row.1 in
    let h = row.0 in
    omega arith

-- The targets of a branch whose offsets are in order.
module _ (at : Part) (n w : ℕ) (behind : List ℕ) (order : InOrder n w behind n) where
  -- each of them is there
  pub next_part : (k : ℕ) → suc k ≤ n → target_parts at n w behind (suc k) ≡ target_part at n w behind (n - suc k) ∷ target_parts at n w behind k
  next_part k h =
      let i = n - suc k in
      let o = order i (omega arith) in
      let low = o.0 in
      rw (is_order n w behind i (omega arith) o.1) refl

  -- where the last k of them begin
  abbrev from_place : ℕ → ℕ
  from_place zero = targets_place at n w behind + length (targets_behind n w behind)
  from_place (suc k) = targets_place at n w behind + begin_of n w behind (n - suc k)

  target_ends : (k : ℕ) → suc k ≤ n → from_place k ≡ from_place k → targets_place at n w behind + end_of n w behind (n - suc k) ≤ from_place k
  target_ends zero h e = let o = (order (n - 1) (omega arith)).1 in omega arith
  target_ends (suc k) h e =
      let i = n - suc (suc k) in
      let same : n - suc k ≡ suc i = omega arith in
      let next : begin_of n w behind (n - suc k) ≡ end_of n w behind i = ap (begin_of n w behind) same ∙ next_begin n w behind i (omega arith) in
      omega arith

  targets_row : (k : ℕ) → k ≤ n → InRow (from_place k) (from_place 0) (target_parts at n w behind k)
  targets_row zero h = omega arith
  targets_row (suc k) h =
      let i = n - suc k in
      let o = order i (omega arith) in
      let low = o.0 in
      let high = o.1 in
      let past = length-drop (begin_of n w behind i) (targets_behind n w behind) in
      let len : length (target_of n w behind i) ≡ end_of n w behind i - begin_of n w behind i = length-take-le (end_of n w behind i - begin_of n w behind i) (drop (begin_of n w behind i) (targets_behind n w behind)) (omega arith) in
      let end = target_ends k h refl in
      let p = target_part at n w behind i in
      subst (InRow (from_place (suc k)) (from_place 0)) (sym (next_part k h))
      (omega arith, row_earlier (from_place k) (p.place + length p.bytes) (from_place 0) (target_parts at n w behind k) (omega arith) (targets_row k (omega arith)))

  pub targets_count : (k : ℕ) → k ≤ n → length (target_parts at n w behind k) ≡ k
  targets_count zero h = refl
  targets_count (suc k) h = ap length (next_part k h) ∙ ap suc (targets_count k (omega arith))

-- what follows a node lies in a row after it
pub behind_row : (kind : Kind) (e : Expected) (at : Part) (s : Shape) → Within (length at.bytes) s → Keeps kind e s → InRow at.place (at.place + length at.bytes) (parts_behind at s)
behind_row kind e at (value v rest) h keeps = (omega arith, omega arith)
behind_row kind e at (literal c rest) h keeps = (omega arith, omega arith)
behind_row kind e at (span run rest) h keeps = (omega arith, omega arith)
behind_row kind e at (branch n w table behind) h keeps =
    row_to at.place (from_place at n w behind keeps.1 n) (from_place at n w behind keeps.1 0) (at.place + length at.bytes) (target_parts at n w behind n)
    (first_place n) (omega arith) (targets_row at n w behind keeps.1 n (omega arith))
  where
    row_to : (before from to after : ℕ) (ps : List Part) → before ≤ from → to ≤ after → InRow from to ps → InRow before after ps
    row_to before from to after [] low high row = omega arith
    row_to before from to after (p ∷ ps) low high row = (let r = row.0 in omega arith, row_to (p.place + length p.bytes) (p.place + length p.bytes) to after ps (omega arith) high row.1)

    first_place : (k : ℕ) → at.place ≤ from_place at n w behind keeps.1 k
    first_place zero = omega arith
    first_place (suc k) = omega arith

-- and has fewer bytes, with one more for each part
pub behind_work : (kind : Kind) (e : Expected) (at : Part) (s : Shape) → Within (length at.bytes) s → Keeps kind e s → work (parts_behind at s) < suc (length at.bytes)
behind_work kind e at (value v rest) h keeps = omega arith
behind_work kind e at (literal c rest) h keeps = omega arith
behind_work kind e at (span run rest) h keeps = omega arith
behind_work kind e at (branch n w table behind) h keeps =
    let row = targets_row at n w behind keeps.1 n (omega arith) in
    let count = targets_count at n w behind keeps.1 n (omega arith) in
    let most = work_row (from_place at n w behind keeps.1 n) (from_place at n w behind keeps.1 0) (target_parts at n w behind n) row in
    let low = from_low n in
    omega arith
  where
    from_low : (k : ℕ) → targets_place at n w behind ≤ from_place at n w behind keeps.1 k
    from_low zero = omega arith
    from_low (suc k) = omega arith

-- nothing that follows a node stands before it
targets_later : (at : Part) (n w : ℕ) (behind : List ℕ) (k : ℕ) → All (λ p. at.place ≤ p.place) (target_parts at n w behind k)
targets_later at n w behind zero = All-nil (λ p. at.place ≤ p.place)
targets_later at n w behind (suc k) =
    let i = n - suc k in
    let t = target_part at n w behind i in
    by_test (All (λ p. at.place ≤ p.place)) (is_in_order n w behind i) (t ∷ target_parts at n w behind k) []
    (λ _. All-cons (λ p. at.place ≤ p.place) t (target_parts at n w behind k) (omega arith) (targets_later at n w behind k))
    (λ _. All-nil (λ p. at.place ≤ p.place))

one_later : (at : Part) (rest : List ℕ) → All (λ p. at.place ≤ p.place) (after_node at rest ∷ [])
one_later at rest = All-cons (λ p. at.place ≤ p.place) (after_node at rest) [] (omega arith) (All-nil (λ p. at.place ≤ p.place))

behind_later : (at : Part) (s : Shape) → All (λ p. at.place ≤ p.place) (parts_behind at s)
behind_later at (value v rest) = one_later at rest
behind_later at (literal c rest) = one_later at rest
behind_later at (span run rest) = one_later at rest
behind_later at (branch n w table behind) = targets_later at n w behind n

-- so no fault of a part does
pub fault_later : {kind : Kind} {f : Fault} {before : Before} {at : Part} → FaultIn kind f before at → at.place ≤ f.place
fault_later (here place fails) = omega arith
fault_later {at = at} (further {next = next} s b there inner) =
    let here = All-contains (λ p. at.place ≤ p.place) (parts_behind at s) next (behind_later at s) there in
    let later = fault_later inner in
    omega arith
