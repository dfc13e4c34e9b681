-- Steps of a descent.
use Rattle.std.proofs.Common.{◌≡◌, ℕ, zero, suc, ◌+◌, ◌-◌, ◌<◌, ◌≤◌, ◌++◌, List, [], ◌∷◌, length, take, drop, get_or, refl, sym, ◌∙◌, ap, arith, append-nil, Some, None}
use Rattle.std.proofs.Math.Seq.{drop-cons}
use Rattle.std.proofs.lemmas.Bool.{lt-ltb, le-ltb, lt-leb, le-leb}
use Rattle.zerotrie_base.specs.Kind.{Kind}
use Rattle.zerotrie_reverse.specs.Descent.{edge_over, value_of, value_at, key_at, key_by, after_step, step_towards, Passed}

-- the next edge, whose target has the place
pub edge_here : (ends : ℕ → ℕ) (to i left : ℕ) → 0 < left → to < ends i → edge_over ends to i left ≡ i
edge_here ends to i zero h below = absurd (omega arith)
edge_here ends to i (suc left) h below = rw (lt-ltb to (ends i) below)

-- the next edge, whose target ends before the place
pub edge_past : (ends : ℕ → ℕ) (to i left m : ℕ) → left ≡ suc m → ends i ≤ to → edge_over ends to i left ≡ edge_over ends to (i + 1) m
edge_past ends to i zero m is past = absurd (omega arith)
edge_past ends to i (suc left) m is past = let same : left ≡ m = omega arith in rw (le-ltb to (ends i) past) (ap (edge_over ends to (i + 1)) same)

-- the byte at a place, as a list
pub one_byte : (bytes : List ℕ) (i : ℕ) → i < length bytes → take 1 (drop i bytes) ≡ get_or bytes i 0 ∷ []
one_byte bytes i h = rw (drop-cons bytes i 0 h)

-- the value at a place is that of the bytes from there on
pub value_from : (bytes : List ℕ) (place : ℕ) → value_at bytes place ≡ value_of (drop place bytes)
unfolding value_at
value_from bytes place = refl

-- the key at a place is that of a descent that has passed nothing yet
pub key_begun : (kind : Kind) (bytes : List ℕ) (place : ℕ) → key_at kind bytes place ≡ key_by place kind bytes place
unfolding key_at
key_begun kind bytes place = refl

-- at the place nothing follows
pub key_there : (n : ℕ) (kind : Kind) (bytes : List ℕ) → key_by n kind bytes 0 ≡ []
key_there zero kind bytes = refl
key_there (suc n) kind bytes = refl

-- one step
pub key_next : (n m : ℕ) (kind : Kind) (bytes : List ℕ) (to : ℕ) → n ≡ suc m → 0 < to → key_by n kind bytes to ≡ after_step (key_by m kind) bytes to (step_towards kind bytes to)
key_next zero m kind bytes to is some = absurd (omega arith)
key_next (suc n) m kind bytes to is some =
    let same : n ≡ m = omega arith in
    rw (lt-ltb 0 to some) (ap (λ k. after_step (key_by k kind) bytes to (step_towards kind bytes to)) same)

pub key_none : (n m : ℕ) (kind : Kind) (bytes : List ℕ) (to : ℕ) → n ≡ suc m → 0 < to → step_towards kind bytes to ≡ None → key_by n kind bytes to ≡ []
key_none n m kind bytes to is some none = key_next n m kind bytes to is some ∙ ap (after_step (key_by m kind) bytes to) none

pub key_past : (n m : ℕ) (kind : Kind) (bytes : List ℕ) (to : ℕ) (p : Passed) → n ≡ suc m → 0 < to → step_towards kind bytes to ≡ Some p → to < p.size → key_by n kind bytes to ≡ []
key_past n m kind bytes to p is some step far = key_next n m kind bytes to is some ∙ ap (after_step (key_by m kind) bytes to) step ∙ rw (lt-leb p.size to far)

pub key_more : (n m : ℕ) (kind : Kind) (bytes : List ℕ) (to : ℕ) (p : Passed) → n ≡ suc m → 0 < to → step_towards kind bytes to ≡ Some p → p.size ≤ to
    → key_by n kind bytes to ≡ p.run ++ key_by m kind (drop p.size bytes) (to - p.size)
key_more n m kind bytes to p is some step near = key_next n m kind bytes to is some ∙ ap (after_step (key_by m kind) bytes to) step ∙ rw (le-leb p.size to near)

-- a descent that passes no more has read the key
pub key_ended : (place n : ℕ) (kind : Kind) (bytes rest : List ℕ) (to : ℕ) (key : List ℕ) → key ++ key_by n kind rest to ≡ key_by place kind bytes place → key_by n kind rest to ≡ []
    → key ≡ key_at kind bytes place
key_ended place n kind bytes rest to key whole none =
    sym (ap (λ more. key ++ more) none ∙ append-nil key) ∙ whole ∙ sym (key_begun kind bytes place)

-- no step is left
pub key_over : (n : ℕ) (kind : Kind) (bytes : List ℕ) (to : ℕ) → n ≡ 0 → key_by n kind bytes to ≡ []
key_over zero kind bytes to over = refl
key_over (suc n) kind bytes to over = absurd (omega arith)
