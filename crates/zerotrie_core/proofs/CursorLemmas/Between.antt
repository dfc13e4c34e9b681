-- Cursors by numbers.
use Rattle.std.proofs.Common.{◌≡◌, ℕ, ◌-◌, ◌+◌, ◌≤◌, List, ◌++◌, length, refl, sym, ◌∙◌, ap, arith, take, drop, [], length-append, append_assoc, Bool, true, false}
use Rattle.std.specs.Prelude.{◌&&◌, nat_le}
use Rattle.std.proofs.lemmas.Bool.{le-leb, leb-true}
use Rattle.std.proofs.lemmas.List.{append-nil, take-append-drop, length-drop, length-take-le, drop-drop, take_at, drop_at}
use Rattle.std.proofs.Math.Seq.{take-add}
use Rattle.zerotrie_core.specs.Places.{Place}
use Rattle.zerotrie_core.specs.listing.Runs.{EndsWith, HasParts}
use Rattle.zerotrie_core.specs.CursorPlaces.{between, is_in, parts_at, cursor_at}
use Rattle.zerotrie_core.specs.declared.cursor_place.CursorPlace.{CursorPlace}

-- a part of bytes, by what is before and after it
cut : (bytes front part back : List ℕ) (first from to : ℕ) → drop first bytes ≡ front ++ (part ++ back) → from ≡ first + length front → to - from ≡ length part → between bytes from to ≡ part
cut bytes front part back first from to is begin len =
    let at : drop from bytes ≡ part ++ back = ap (λ n. drop n bytes) begin ∙ sym (drop-drop (length front) first bytes) ∙ ap (drop (length front)) is ∙ drop_at front (part ++ back) (length front) refl in
    ap (take (to - from)) at ∙ take_at part back (to - from) (sym len)

-- the parts between three numbers, one after the other
both_between : (bytes : List ℕ) (p : CursorPlace) → p.run ≤ p.trie → p.trie ≤ p.end → (parts_at bytes p).run ++ (parts_at bytes p).trie ≡ take (p.end - p.run) (drop p.run bytes)
both_between bytes p run trie =
    let rest = drop p.run bytes in
    let a = p.trie - p.run in
    let b = p.end - p.trie in
    let sum : p.end - p.run ≡ a + b = omega arith in
    let at : p.run + a ≡ p.trie = omega arith in
    sym (ap (λ n. take n rest) sum ∙ take-add a b rest ∙ ap (λ x. take a rest ++ take b x) (drop-drop a p.run bytes ∙ ap (λ n. drop n bytes) at))

-- what is_in tells
pub inside_is : (bytes : List ℕ) (p : CursorPlace) → is_in bytes p ≡ true → (p.run ≤ p.trie) × (p.trie ≤ p.end) × (p.end ≤ length bytes)
inside_is bytes p e =
    let outer = both_of (nat_le p.run p.trie && nat_le p.trie p.end) (nat_le p.end (length bytes)) e in
    let inner = both_of (nat_le p.run p.trie) (nat_le p.trie p.end) outer.0 in
    (leb-true _ _ inner.0, leb-true _ _ inner.1, leb-true _ _ outer.1)
  where
    both_of : (a b : Bool) → (a && b) ≡ true → (a ≡ true) × (b ≡ true)
    both_of true b e = (refl, e)
    both_of false b e = absurd (cc)

pub is_inside : (bytes : List ℕ) (p : CursorPlace) → p.run ≤ p.trie → p.trie ≤ p.end → p.end ≤ length bytes → is_in bytes p ≡ true
is_inside bytes p run trie end = rw (le-leb _ _ run, le-leb _ _ trie, le-leb _ _ end) refl

-- numbers in the bytes are the parts between them
pub cursor_inside : (bytes : List ℕ) (p : CursorPlace) → is_in bytes p ≡ true → cursor_at bytes p ≡ parts_at bytes p
cursor_inside bytes p e = rw e refl

-- all together, the parts have this many bytes
pub between_len : (bytes : List ℕ) (p : CursorPlace) → is_in bytes p ≡ true → length ((parts_at bytes p).run ++ (parts_at bytes p).trie) ≡ p.end - p.run
between_len bytes p e =
    let h = inside_is bytes p e in
    let len = length-drop p.run bytes in
    let low = h.0 in
    let mid = h.1 in
    let high = h.2 in
    ap length (both_between bytes p h.0 h.1) ∙ length-take-le (p.end - p.run) (drop p.run bytes) (omega arith)

-- what an edge leads to ends within the numbers
pub lies_fits : (bytes : List ℕ) (p : CursorPlace) (run trie : List ℕ) (n : ℕ) → is_in bytes p ≡ true → HasParts ((parts_at bytes p).run ++ (parts_at bytes p).trie) run trie n → length run + length trie + n ≤ p.end - p.run
lies_fits bytes p run trie n e l =
    let all = between_len bytes p e in
    let a = ap length l.2 ∙ length-append l.0 (run ++ (trie ++ l.1)) in
    let b = length-append run (trie ++ l.1) in
    let c = length-append trie l.1 in
    let d = l.3 in
    omega arith

abbrev place : List ℕ → List ℕ → Place
place run trie = record { run = run; trie = trie }

-- and is what lies between the new numbers
pub lies_between : (bytes : List ℕ) (p q : CursorPlace) (run trie : List ℕ) (n : ℕ) → is_in bytes p ≡ true → HasParts ((parts_at bytes p).run ++ (parts_at bytes p).trie) run trie n
    → q.end ≡ p.end - n → q.trie ≡ q.end - length trie → q.run ≡ q.trie - length run
    → (is_in bytes q ≡ true) × (parts_at bytes q ≡ record { run = run; trie = trie })
lies_between bytes p q run trie n e l end middle begin =
    let h = inside_is bytes p e in
    let low = h.0 in
    let mid = h.1 in
    let high = h.2 in
    let front = l.0 in
    let back = l.1 in
    let fits = lies_fits bytes p run trie n e l in
    let all = between_len bytes p e in
    let a = ap length l.2 ∙ length-append front (run ++ (trie ++ back)) in
    let b = length-append run (trie ++ back) in
    let c = length-append trie back in
    let d = l.3 in
    let rest = drop (p.end - p.run) (drop p.run bytes) in
    let first : q.run ≡ p.run + length front = omega arith in
    let second : q.trie ≡ p.run + length (front ++ run) = (let f = length-append front run in omega arith) in
    let whole : drop p.run bytes ≡ front ++ (run ++ ((trie ++ back) ++ rest)) =
    sym (take-append-drop (p.end - p.run) (drop p.run bytes))
    ∙ ap (λ x. x ++ rest) (sym (both_between bytes p h.0 h.1) ∙ l.2)
    ∙ append_assoc front (run ++ (trie ++ back)) rest
    ∙ ap (λ x. front ++ x) (append_assoc run (trie ++ back) rest) in
    let after : drop p.run bytes ≡ (front ++ run) ++ (trie ++ (back ++ rest)) =
    whole ∙ ap (λ x. front ++ (run ++ x)) (append_assoc trie back rest) ∙ sym (append_assoc front run (trie ++ (back ++ rest))) in
    let run_is : between bytes q.run q.trie ≡ run = cut bytes front run ((trie ++ back) ++ rest) p.run q.run q.trie whole first (omega arith) in
    let trie_is : between bytes q.trie q.end ≡ trie = cut bytes (front ++ run) trie (back ++ rest) p.run q.trie q.end after second (omega arith) in (
      is_inside bytes q (omega arith) (omega arith) (omega arith),
      ap (λ r. place r (between bytes q.trie q.end)) run_is ∙ ap (place run) trie_is,
    )

-- so the new numbers are the cursor after the edge
pub moved : (bytes : List ℕ) (p : CursorPlace) (at : Place) → (is_in bytes p ≡ true) × (parts_at bytes p ≡ at) → cursor_at bytes p ≡ at
moved bytes p at h = cursor_inside bytes p h.0 ∙ h.1

-- past a value, the trie is shorter, and ends where it did
pub past_value : (bytes : List ℕ) (p q : CursorPlace) (rest : List ℕ) → is_in bytes p ≡ true → EndsWith ((parts_at bytes p).run ++ (parts_at bytes p).trie) rest → q.end ≡ p.end → q.trie ≡ q.end - length rest → q.run ≡ q.trie
    → (is_in bytes q ≡ true) × (parts_at bytes q ≡ record { run = []; trie = rest })
past_value bytes p q rest e ends end middle begin =
    lies_between bytes p q [] rest 0 e (ends.0, [], ends.1 ∙ ap (λ x. ends.0 ++ x) (sym (append-nil rest)), refl) (omega arith) middle (omega arith)

-- outside of spans a cursor is its trie
pub plain_place : (at : Place) (trie : List ℕ) → at.run ≡ [] → at.trie ≡ trie → at ≡ record { run = []; trie = trie }
plain_place at trie none is = ap (λ r. place r at.trie) none ∙ ap (place []) is
