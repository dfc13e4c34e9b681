-- A walk from node to node, and the keys that it has still to come to.
use Rattle.std.proofs.Common.{◌≡◌, ℕ, zero, suc, ◌+◌, ◌-◌, ◌<◌, ◌≤◌, ◌⊎◌, List, [], ◌∷◌, ◌++◌, length, take, drop, refl, sym, ◌∙◌, ap, subst, arith, Option, Some, None, Bool, true, false, cond, inl, inr, append_assoc, length-append, length-drop, min, get_or, Less}
use Rattle.std.specs.Prelude.{◌≢◌, ◌==◌, ◌||◌, ◌&&◌, nat_le, not, is_some, reverse, slice_set}
use Rattle.std.specs.Borrow.{Bor}
use Rattle.std.specs.Option.{option_map_or}
use Rattle.std.specs.Cmp.{nat_cmp_total, nat_cmp_is, tied_itself}
use Rattle.std.specs.Cmp.Lexicographic.{slice_cmp}
use Rattle.std.specs.Ordering.{nat_cmp, is_lt, ordering_then}
use Rattle.std.proofs.lemmas.Bool.{eq-eqb, ne_eqb, cases_eq, cases_lt, le-leb, lt-leb}
use Rattle.std.proofs.lemmas.List.{append-nil, length-take, length-take-le, take_all, take_at, take-take, take-append-le, take-append-drop, drop_at, drop-append-le, reverse-append, set_split}
use Rattle.std.proofs.Math.Seq.{take-append-add}
use Rattle.zerotrie_base.specs.Kind.{Kind, simple_ascii}
use Rattle.zerotrie_base.specs.Maps.{Pairs, value_at, residual, behind_all, begins_some, after_run, with_run}
use Rattle.zerotrie_base.specs.Maps.{edges as edges_of}
use Rattle.zerotrie_base.specs.Texts.{Lists}
use Rattle.zerotrie_base.specs.Texts.Lists.{nothing}
use Rattle.zerotrie_base.specs.Nodes.{Begins}
use Rattle.zerotrie_base.specs.Nodes.Shape.{value}
use Rattle.zerotrie_base.proofs.CanonicalLemmas.Canonical as canonical
use Rattle.zerotrie_base.proofs.CanonicalLemmas.Canonical.{lists_some}
use Rattle.zerotrie_base.proofs.NodeLemmas.Opened.{value_opens}
use Rattle.zerotrie_core.proofs.CallerLemmas.{value_at-residual, value_at-run}
use Rattle.zerotrie_core.proofs.ForCallers.{listed_pairs}
use Rattle.zerotrie_core.specs.ByteSets.{is_in}
use Rattle.zerotrie_core.specs.Shapes.{branch_shape}
use Rattle.zerotrie_core.specs.listing.Listed.{listed, node_of}
use Rattle.zerotrie_core.specs.declared.branch.Branch.{Branch}
use Rattle.zerotrie_core.specs.declared.byte_set.ByteSet.{ByteSet}
use Rattle.zerotrie_search.specs.Paths.{is_from}
use Rattle.zerotrie_search.specs.Forks.{is_among, Clear, IsOpen, IsFork, IsOver, IsRun, AreForks, Stands, StandsOrEnds, bound_by, outer}
use Rattle.zerotrie_search.specs.Sorted.{begins_else, IsOutside}
use Rattle.zerotrie_search.specs.Walks.{goes_by, has_key, is_in_forks, is_to_come, rooms, IsAhead, AreOpen, Reads, ReadsOn, limit_at, Walks, SameKeys, IsNext, Keeps, KeepsFront, EntersEdge, Enters, Climbs, IsStart, NarrowsTo, Narrows}
use Rattle.zerotrie_search.specs.declared.sorted.fork.Fork.{Fork}
use Rattle.zerotrie_search.proofs.OrderLemmas.{some_none, from_low, from_high, from_same, one_from, value_exact, value_behind, behind_more}
use Rattle.zerotrie_search.proofs.ForkLemmas.{no_key, no_begin, fork_over, way_front, behind_is, same_value, none_there, and_no, and_yes, le_is, le_no, le_yes, or_none, yes_first}
use Rattle.zerotrie_search.proofs.RoomLemmas.{need_fewer}
use Rattle.zerotrie_search.proofs.StandLemmas.{fork_opened, branch_no_value, none_listed, value_front}

-- what a key has after two runs
abbrev runs_on : Option (List ℕ) → List ℕ → Option (List ℕ)
runs_on None run = None
runs_on (Some key) run = after_run run key

after_append : (p run q : List ℕ) → after_run (p ++ run) q ≡ runs_on (after_run p q) run
after_append [] run q = refl
after_append (b ∷ p) run [] = refl
after_append (b ∷ p) run (c ∷ q) = by (b == c) (after_append p run q)
  where
    by : (t : Bool) → after_run (p ++ run) q ≡ runs_on (after_run p q) run → cond t (after_run (p ++ run) q) None ≡ runs_on (cond t (after_run p q) None) run
    by true e = e
    by false e = refl

after_is : (p q rest : List ℕ) → after_run p q ≡ Some rest → q ≡ p ++ rest
after_is [] q rest e = cc
after_is (b ∷ p) [] rest e = absurd (cc)
after_is (b ∷ p) (c ∷ q) rest e = elim (cases_eq b c) [
  | inl same ↦ ap (λ x. x ∷ q) (sym same) ∙ ap (λ k. b ∷ k) (after_is p q rest (sym (ap (λ t. cond t (after_run p q) None) (eq-eqb b c same)) ∙ e))
  | inr other ↦ absurd (let no : after_run (b ∷ p) (c ∷ q) ≡ None = ap (λ t. cond t (after_run p q) None) (ne_eqb b c other) in cc)
]

after_itself : (p rest : List ℕ) → after_run p (p ++ rest) ≡ Some rest
after_itself [] rest = refl
after_itself (b ∷ p) rest = ap (λ t. cond t (after_run p (p ++ rest)) None) (eq-eqb b b refl) ∙ after_itself p rest

-- tests of either
both : (a b x y : Bool) → a ≡ x → b ≡ y → (a || b) ≡ (x || y)
both a b x y e f = ap (λ t. t || b) e ∙ ap (λ t. x || t) f

either : (a b : Bool) → (a || b) ≡ true → (a ≡ true) ⊎ (b ≡ true)
either true b e = inl refl
either false b e = inr e

-- the open branches, as the key grows
forks_grown : (kind : Kind) (pairs : Pairs) (key : List ℕ) (limit : ℕ) (forks : List Fork) (run q : List ℕ) → AreOpen kind pairs key limit forks → is_in_forks (key ++ run) forks q ≡ is_in_forks key forks q
forks_grown kind pairs key limit [] run q o = refl
forks_grown kind pairs key limit (f ∷ forks) run q o =
    both (goes_by f.left (after_run (take f.depth (key ++ run)) q)) (is_in_forks (key ++ run) forks q) (goes_by f.left (after_run (take f.depth key) q)) (is_in_forks key forks q)
    (ap (λ k. goes_by f.left (after_run k q)) (take-append-le f.depth key run o.0.within)) (forks_grown kind pairs key f.depth forks run q o.1)

ahead_grown : (c : ℕ) (xs ys : List ℕ) → 0 < length xs → IsAhead c xs → IsAhead c (xs ++ ys)
ahead_grown c [] ys some h = absurd (omega (arith, some))
ahead_grown c (x ∷ xs) ys some h = h

open_grown : (kind : Kind) (pairs : Pairs) (key : List ℕ) (limit : ℕ) (forks : List Fork) (run : List ℕ) → limit ≤ length key → AreOpen kind pairs key limit forks → AreOpen kind pairs (key ++ run) limit forks
open_grown kind pairs key limit [] run low o = tt
open_grown kind pairs key limit (f ∷ forks) run low o =
    let before = o.0.before in
    let within = o.0.within in
    let more = length-append key run in
    let left = length-drop f.depth key in (
      record {
        before = before;
        within = omega (arith, within, more);
        opens = subst (λ k. IsOpen kind (behind_all k pairs) f) (sym (take-append-le f.depth key run within)) o.0.opens;
        ahead = λ c h. subst (IsAhead c) (sym (drop-append-le f.depth key run within)) (ahead_grown c (drop f.depth key) run (omega (arith, before, low, left)) (o.0.ahead c h));
        some = o.0.some;
      },
      open_grown kind pairs key f.depth forks run within o.1,
    )

open_raised : (kind : Kind) (pairs : Pairs) (key : List ℕ) (low high : ℕ) (forks : List Fork) → low ≤ high → AreOpen kind pairs key low forks → AreOpen kind pairs key high forks
open_raised kind pairs key low high [] h o = tt
open_raised kind pairs key low high (f ∷ forks) h o = (
  record { before = (let before = o.0.before in omega (arith, before, h)); within = o.0.within; opens = o.0.opens; ahead = o.0.ahead; some = o.0.some },
  o.1,
)

-- and as it is cut off
ahead_cut : (c d n : ℕ) (key : List ℕ) → IsAhead c (drop d key) → IsAhead c (drop d (take n key))
ahead_cut c zero zero key h = tt
ahead_cut c zero (suc n) [] h = tt
ahead_cut c zero (suc n) (b ∷ key) h = h
ahead_cut c (suc d) zero key h = tt
ahead_cut c (suc d) (suc n) [] h = tt
ahead_cut c (suc d) (suc n) (b ∷ key) h = ahead_cut c d n key h

open_cut : (kind : Kind) (pairs : Pairs) (key : List ℕ) (limit n : ℕ) (forks : List Fork) → limit ≤ n → AreOpen kind pairs key limit forks → AreOpen kind pairs (take n key) limit forks
open_cut kind pairs key limit n [] low o = tt
open_cut kind pairs key limit n (f ∷ forks) low o =
    let before = o.0.before in
    let within = o.0.within in
    let len = length-take n key in (
      record {
        before = before;
        within = omega (arith, before, within, low, len);
        opens = subst (λ k. IsOpen kind (behind_all k pairs) f) (sym (take-take f.depth n key (omega (arith, before, low)))) o.0.opens;
        ahead = λ c h. ahead_cut c f.depth n key (o.0.ahead c h);
        some = o.0.some;
      },
      open_cut kind pairs key f.depth n forks (omega (arith, before, low)) o.1,
    )

-- keys that go on after a key, or differ from it by a greater byte, come after it
key_above : (key : List ℕ) (c : ℕ) (more : List ℕ) → is_lt (slice_cmp nat_cmp key (key ++ c ∷ more)) ≡ true
key_above [] c more = refl
key_above (b ∷ key) c more = ap (λ o. is_lt (ordering_then o (slice_cmp nat_cmp key (key ++ c ∷ more)))) (tied_itself nat_cmp_total b) ∙ key_above key c more

less_at : (p : List ℕ) (b : ℕ) (run : List ℕ) (c : ℕ) (more : List ℕ) → b < c → is_lt (slice_cmp nat_cmp (p ++ b ∷ run) (p ++ c ∷ more)) ≡ true
less_at [] b run c more h = ap (λ o. is_lt (ordering_then o (slice_cmp nat_cmp run more))) (sym (nat_cmp_is b c Less h))
less_at (x ∷ p) b run c more h = ap (λ o. is_lt (ordering_then o (slice_cmp nat_cmp (p ++ b ∷ run) (p ++ c ∷ more)))) (tied_itself nat_cmp_total x) ∙ less_at p b run c more h

-- the byte by which a key differs that is behind an edge that is left
record Differs (key q : List ℕ) : Type 0 where
  pub front : List ℕ
  pub byte : ℕ
  pub run : List ℕ
  pub edge : ℕ
  pub more : List ℕ
  pub key_is : key ≡ front ++ byte ∷ run
  pub q_is : q ≡ front ++ edge ∷ more
  pub less : byte < edge

goes_byte : (set : ByteSet) (x : Option (List ℕ)) → goes_by set x ≡ true → (c : ℕ) × (more : List ℕ) × (x ≡ Some (c ∷ more)) × (is_in set c ≡ true)
goes_byte set None e = absurd (cc)
goes_byte set (Some []) e = absurd (cc)
goes_byte set (Some (c ∷ more)) e = (c, more, refl, e)

ahead_byte : (c : ℕ) (xs : List ℕ) → 0 < length xs → IsAhead c xs → (b : ℕ) × (run : List ℕ) × (xs ≡ b ∷ run) × (b < c)
ahead_byte c [] some h = absurd (omega (arith, some))
ahead_byte c (b ∷ run) some h = (b, run, refl, h)

forks_differ : (kind : Kind) (pairs : Pairs) (key : List ℕ) (limit : ℕ) (forks : List Fork) (q : List ℕ) → limit ≤ length key → AreOpen kind pairs key limit forks → is_in_forks key forks q ≡ true → (d : Differs key q) × (length d.front < limit)
forks_differ kind pairs key limit [] q low o e = absurd (cc)
forks_differ kind pairs key limit (f ∷ forks) q low o e = elim (either (goes_by f.left (after_run (take f.depth key) q)) (is_in_forks key forks q) e) [
  | inl here ↦ (
      let before = o.0.before in
      let within = o.0.within in
      let left = length-drop f.depth key in
      let g = goes_byte f.left (after_run (take f.depth key) q) here in
      let a = ahead_byte g.0 (drop f.depth key) (omega (arith, before, low, left)) (o.0.ahead g.0 g.3) in
      let len = length-take-le f.depth key within in (
        record {
          front = take f.depth key;
          byte = a.0;
          run = a.1;
          edge = g.0;
          more = g.1;
          key_is = sym (take-append-drop f.depth key) ∙ ap (λ r. take f.depth key ++ r) a.2;
          q_is = after_is (take f.depth key) q (g.0 ∷ g.1) g.2;
          less = a.3;
        },
        omega (arith, len, before),
      )
      )
  | inr there ↦ (
      let d = forks_differ kind pairs key f.depth forks q o.0.within o.1 there in
      let before = o.0.before in
      let less = d.1 in
      (d.0, omega (arith, before, less))
      )
]

differs_above : (key q : List ℕ) → Differs key q → is_lt (slice_cmp nat_cmp key q) ≡ true
differs_above key q d = ap (λ k. is_lt (slice_cmp nat_cmp k q)) d.key_is ∙ ap (λ k. is_lt (slice_cmp nat_cmp (d.front ++ d.byte ∷ d.run) k)) d.q_is ∙ less_at d.front d.byte d.run d.edge d.more d.less

-- the first bytes of a key, as far as the byte by which another differs, do not begin that
other_byte : (b : ℕ) (run : List ℕ) (c : ℕ) (more : List ℕ) → b < c → after_run (b ∷ run) (c ∷ more) ≡ None
other_byte b run c more h = ap (λ t. cond t (after_run run more) None) (ne_eqb b c (λ e. omega (arith, h, e)))

differs_cut : (n : ℕ) (key q : List ℕ) → (d : Differs key q) → length d.front < n → after_run (take n key) q ≡ None
differs_cut n key q d h =
    let k = n - suc (length d.front) in
    let is : n ≡ length d.front + suc k = omega (arith, h) in
    ap (λ x. after_run (take n x) q) d.key_is ∙ ap (λ x. after_run (take n (d.front ++ d.byte ∷ d.run)) x) d.q_is
    ∙ ap (λ x. after_run x (d.front ++ d.edge ∷ d.more)) (ap (λ m. take m (d.front ++ d.byte ∷ d.run)) is ∙ take-append-add d.front (d.byte ∷ d.run) (suc k))
    ∙ after_append d.front (d.byte ∷ take k d.run) (d.front ++ d.edge ∷ d.more) ∙ ap (λ x. runs_on x (d.byte ∷ take k d.run)) (after_itself d.front (d.edge ∷ d.more)) ∙ other_byte d.byte (take k d.run) d.edge d.more d.less

-- what a key goes on with, after a bound
abbrev starts : List ℕ → Option (List ℕ) → Bool
starts y None = false
starts y (Some rest) = is_from y rest

clear_from : (key : List ℕ) (pairs : Pairs) (y : List ℕ) → Clear pairs key → (q : List ℕ) (v : ℕ) → value_at simple_ascii pairs q ≡ Some v → is_from (key ++ y) q ≡ starts y (after_run key q)
clear_from [] pairs y clear q v e = refl
clear_from (b ∷ key) pairs y clear [] v e = refl
clear_from (b ∷ key) pairs y clear (c ∷ q) v e = elim (cases_lt c b) [
  | inl low ↦ from_low b c (key ++ y) q low ∙ sym (ap (λ t. starts y (cond t (after_run key q) None)) (ne_eqb b c (λ s. omega (arith, low, s))))
  | inr high ↦ elim (cases_eq b c) [
    | inl same ↦ from_same b c (key ++ y) q same ∙ clear_from key (residual b pairs) y clear.1 q v (value_at-residual b pairs q ∙ ap (λ x. value_at simple_ascii pairs (x ∷ q)) same ∙ e) ∙ sym (ap (λ t. starts y (cond t (after_run key q) None)) (eq-eqb b c same))
    | inr other ↦ absurd (no_key pairs c q v (clear.0 c (omega (arith, high, other))) e)
  ]
]

begins_true : (pairs : Pairs) (c : ℕ) (more : List ℕ) (v : ℕ) → value_at simple_ascii pairs (c ∷ more) ≡ Some v → begins_some pairs c ≡ true
begins_true pairs c more v e = by (begins_some pairs c) refl
  where
    by : (t : Bool) → begins_some pairs c ≡ t → t ≡ true
    by true h = refl
    by false h = absurd (no_key pairs c more v (no_begin pairs c h) e)

-- from an edge of a branch on come what goes on with it, and the edges that are left
fork_from : (kind : Kind) (pairs : Pairs) (f : Fork) (byte : ℕ) (run y : List ℕ) → IsFork kind pairs f (suc byte) → Clear (residual byte pairs) run → (r : List ℕ) (v : ℕ) → value_at simple_ascii pairs r ≡ Some v
    → is_from (byte ∷ (run ++ y)) r ≡ (starts y (after_run (byte ∷ run) r) || goes_by f.left (Some r))
fork_from kind pairs f byte run y fork clear [] v e = refl
fork_from kind pairs f byte run y fork clear (c ∷ r) v e = elim (cases_lt c byte) [
  | inl low ↦
      from_low byte c (run ++ y) r low
      ∙ sym (both (starts y (after_run (byte ∷ run) (c ∷ r))) (is_in f.left c) false false (ap (λ t. starts y (cond t (after_run run r) None)) (ne_eqb byte c (λ s. omega (arith, low, s))))
      (fork.left c ∙ and_no (nat_le (suc byte) c) (begins_some pairs c) (le_no (suc byte) c (omega (arith, low)))))
  | inr high ↦ elim (cases_eq byte c) [
    | inl same ↦
        from_same byte c (run ++ y) r same ∙ clear_from run (residual byte pairs) y clear r v (value_at-residual byte pairs r ∙ ap (λ x. value_at simple_ascii pairs (x ∷ r)) same ∙ e)
        ∙ sym (or_none (starts y (after_run run r)))
        ∙ sym (both (starts y (after_run (byte ∷ run) (c ∷ r))) (is_in f.left c) (starts y (after_run run r)) false (ap (λ t. starts y (cond t (after_run run r) None)) (eq-eqb byte c same))
        (fork.left c ∙ and_no (nat_le (suc byte) c) (begins_some pairs c) (le_no (suc byte) c (omega (arith, same)))))
    | inr other ↦
        from_high byte c (run ++ y) r (omega (arith, high, other))
        ∙ sym (both (starts y (after_run (byte ∷ run) (c ∷ r))) (is_in f.left c) false true (ap (λ t. starts y (cond t (after_run run r) None)) (ne_eqb byte c other))
        (fork.left c ∙ and_yes (nat_le (suc byte) c) (begins_some pairs c) (le_yes (suc byte) c (omega (arith, high, other))) ∙ begins_true pairs c r v e))
  ]
]

-- the open branches on the way to a key that a bound led to
open_forks : (kind : Kind) (pairs : Pairs) (forks : List Fork) (key : List ℕ) → AreForks kind pairs key forks → AreOpen kind pairs key (length key) forks
open_forks kind pairs [] key on = tt
open_forks kind pairs (f ∷ forks) key on =
    let at = on.0 in
    let front = at.front in
    let len = at.depth in
    let whole = ap length at.key_is ∙ length-append front (at.byte ∷ at.run) in (
      record {
        before = omega (arith, len, whole);
        within = omega (arith, len, whole);
        opens = subst (λ k. IsOpen kind (behind_all k pairs) f) (sym (way_front kind pairs key f at)) at.left.opens;
        ahead = λ c h. subst (IsAhead c) (sym (ap (drop f.depth) at.key_is ∙ drop_at front (at.byte ∷ at.run) f.depth (sym at.depth)))
            (le_is (suc at.byte) c (yes_first (nat_le (suc at.byte) c) (begins_some (behind_all front pairs) c) (sym (at.left.left c) ∙ h)));
        some = at.some;
      },
      subst (λ k. AreOpen kind pairs k f.depth forks) (sym at.key_is)
          (subst (λ n. AreOpen kind pairs (front ++ at.byte ∷ at.run) n forks) (sym at.depth) (open_grown kind pairs front (length front) forks (at.byte ∷ at.run) (omega arith) (open_forks kind pairs forks front on.1))),
    )

or_assoc : (a b c : Bool) → ((a || b) || c) ≡ (a || (b || c))
or_assoc true b c = refl
or_assoc false b c = refl

walk_from : (kind : Kind) (pairs : Pairs) (forks : List Fork) (key y : List ℕ) → AreForks kind pairs key forks → (q : List ℕ) (v : ℕ) → value_at simple_ascii pairs q ≡ Some v → is_from (key ++ y) q ≡ (starts y (after_run key q) || is_in_forks key forks q)
walk_from kind pairs [] key y on q v e = clear_from key pairs y on q v e ∙ sym (or_none (starts y (after_run key q)))
walk_from kind pairs (f ∷ forks) key y on q v e =
    let at = on.0 in
    let front = at.front in
    let tail = at.byte ∷ at.run in
    ap (λ k. is_from (k ++ y) q) at.key_is ∙ ap (λ k. is_from k q) (append_assoc front tail y)
    ∙ walk_from kind pairs forks front (tail ++ y) on.1 q v e
    ∙ both (starts (tail ++ y) (after_run front q)) (is_in_forks front forks q) (starts y (runs_on (after_run front q) tail) || goes_by f.left (after_run front q)) (is_in_forks key forks q)
    (here (after_run front q) refl)
    (sym (ap (λ k. is_in_forks k forks q) at.key_is ∙ forks_grown kind pairs front (length front) forks tail q (open_forks kind pairs forks front on.1)))
    ∙ or_assoc (starts y (runs_on (after_run front q) tail)) (goes_by f.left (after_run front q)) (is_in_forks key forks q)
    ∙ both (starts y (runs_on (after_run front q) tail)) (goes_by f.left (after_run front q) || is_in_forks key forks q) (starts y (after_run key q)) (is_in_forks key (f ∷ forks) q)
    (ap (starts y) (sym (ap (λ k. after_run k q) at.key_is ∙ after_append front tail q)))
    (ap (λ k. goes_by f.left (after_run k q) || is_in_forks key forks q) (sym (way_front kind pairs key f at)))
  where
    here : (x : Option (List ℕ)) → after_run on.0.front q ≡ x → starts ((on.0.byte ∷ on.0.run) ++ y) x ≡ (starts y (runs_on x (on.0.byte ∷ on.0.run)) || goes_by f.left x)
    here None h = refl
    here (Some r) h = fork_from kind (behind_all on.0.front pairs) f on.0.byte on.0.run y on.0.left on.0.clear r v (value_front on.0.front r pairs ∙ ap (value_at simple_ascii pairs) (sym (after_is on.0.front q r h)) ∙ e)

-- what bytes list behind a key
no_keys : (kind : Kind) (x : Option (List ℕ)) → has_key (listed kind []) x ≡ false
no_keys kind None = refl
no_keys kind (Some more) = let text : Lists kind [] [] = nothing in ap (λ ps. is_some (value_at simple_ascii ps more)) (listed_pairs text)

some_is : (x : Option ℕ) (v : ℕ) → x ≡ Some v → is_some x ≡ true
some_is None v e = absurd (cc)
some_is (Some w) v e = refl

none_is : (x : Option ℕ) → x ≡ None → is_some x ≡ false
none_is None e = refl
none_is (Some w) e = absurd (cc)

module _ {kind : Kind} {pairs : Pairs} {key bytes : List ℕ} (r : Reads kind pairs key bytes) where
  reads_listed : (x : Option (List ℕ)) → has_key (listed kind bytes) x ≡ has_key r.below x
  reads_listed x = ap (λ ps. has_key ps x) (listed_pairs r.text)

  -- a key that goes on after the key is listed
  reads_key : (q : List ℕ) (v : ℕ) → value_at simple_ascii pairs q ≡ Some v → (c : ℕ) (more : List ℕ) → after_run key q ≡ Some (c ∷ more) → value_at simple_ascii r.below (c ∷ more) ≡ Some v
  reads_key q v e c more h = same_value r.below (behind_all key pairs) r.same c more ∙ value_front key (c ∷ more) pairs ∙ ap (value_at simple_ascii pairs) (sym (after_is key q (c ∷ more) h)) ∙ e

  -- over a run
  module _ (run after : List ℕ) (is : IsRun kind bytes run after) where
    run_all : (is r.below r.text).0 ≡ behind_all (key ++ run) pairs
    run_all = let i = is r.below r.text in behind_is run key i.0 pairs i.3 (λ c. ap (residual c) (sym i.2) ∙ r.same c)

    reads_run : Reads kind pairs (key ++ run) after
    reads_run = let i = is r.below r.text in record {
      below = i.0;
      text = i.1;
      same = λ c. ap (residual c) run_all;
      value = λ v e. sym (value_behind (key ++ run) pairs) ∙ ap (λ ps. value_at simple_ascii ps []) (sym run_all) ∙ e;
    }

    run_keys : (q : List ℕ) → has_key (listed kind bytes) (after_run key q) ≡ has_key (listed kind after) (after_run (key ++ run) q)
    run_keys q =
        let i = is r.below r.text in
        reads_listed (after_run key q) ∙ ap (λ ps. has_key ps (after_run key q)) i.2 ∙ by (after_run key q)
        ∙ ap (has_key i.0) (sym (after_append key run q)) ∙ ap (λ ps. has_key ps (after_run (key ++ run) q)) (sym (listed_pairs i.1))
      where
        one : (x : Option (List ℕ)) → is_some (option_map_or (λ more. value_at simple_ascii (is r.below r.text).0 more) x None) ≡ has_key (is r.below r.text).0 x
        one None = refl
        one (Some more) = refl

        by : (x : Option (List ℕ)) → has_key (with_run run (is r.below r.text).0) x ≡ has_key (is r.below r.text).0 (runs_on x run)
        by None = refl
        by (Some more) = ap is_some (value_at-run simple_ascii (λ b. refl) run (is r.below r.text).0 more) ∙ one (after_run run more)

walks_reads : (kind : Kind) (pairs : Pairs) (key bytes : List ℕ) (forks : List Fork) → bytes ≢ [] → Walks kind pairs key bytes forks → Reads kind pairs key bytes × AreOpen kind pairs key (length key) forks
walks_reads kind pairs key [] forks some w = absurd (some refl)
walks_reads kind pairs key (b ∷ bytes) forks some w = (w.reads, w.opens)

limit_within : (key rest : List ℕ) → length key ≤ limit_at key rest
limit_within key [] = omega arith
limit_within key (b ∷ rest) = omega arith

walks_is : (kind : Kind) (pairs : Pairs) (key bytes : List ℕ) (forks : List Fork) → Reads kind pairs key bytes → (limit : ℕ) → limit ≤ length key → AreOpen kind pairs key limit forks → Walks kind pairs key bytes forks
walks_is kind pairs key bytes forks r limit low o = record {
  reads = by bytes r;
  opens = (let within = limit_within key bytes in open_raised kind pairs key limit (limit_at key bytes) forks (omega (arith, low, within)) o);
}
  where
    by : (bytes : List ℕ) → Reads kind pairs key bytes → ReadsOn kind pairs key bytes
    by [] r = tt
    by (b ∷ bytes) r = r

-- what is to come of a key, by its value
abbrev y_of : Option ℕ → List ℕ
y_of None = 0 ∷ []
y_of (Some v) = []

-- where a walk begins
pub walk_starts : {kind : Kind} {pairs : Pairs} {bound key bytes : List ℕ} {forks : List Fork} → Stands kind pairs bound key bytes forks → Walks kind pairs key bytes forks × SameKeys pairs (is_from bound) (is_to_come kind key bytes forks)
walk_starts {kind} {pairs} {bound} {key} {bytes} {forks} s = (
  walks_is kind pairs key bytes forks reads (length key) (omega arith) (open_forks kind pairs forks key s.way),
  λ q v e. (s.from q v e ∙ at (value_at simple_ascii s.below []) refl q v e
      ∙ ap (λ t. t || is_in_forks key forks q) (first (value_at simple_ascii s.below []) refl q v e (after_run key q) refl ∙ sym (reads_listed reads (after_run key q)))),
)
  where
    reads : Reads kind pairs key bytes
    reads = record { below = s.below; text = s.text; same = s.same; value = s.value }

    at : (x : Option ℕ) → value_at simple_ascii s.below [] ≡ x → (q : List ℕ) (v : ℕ) → value_at simple_ascii pairs q ≡ Some v → is_from (bound_by key x) q ≡ (starts (y_of x) (after_run key q) || is_in_forks key forks q)
    at None h q v e = walk_from kind pairs forks key (0 ∷ []) s.way q v e
    at (Some w) h q v e = ap (λ k. is_from k q) (sym (append-nil key)) ∙ walk_from kind pairs forks key [] s.way q v e

    first : (x : Option ℕ) → value_at simple_ascii s.below [] ≡ x → (q : List ℕ) (v : ℕ) → value_at simple_ascii pairs q ≡ Some v → (rest : Option (List ℕ)) → after_run key q ≡ rest → starts (y_of x) rest ≡ has_key s.below rest
    first x h q v e None is = refl
    first None h q v e (Some []) is = sym (ap is_some h)
    first (Some w) h q v e (Some []) is = sym (ap is_some h)
    first None h q v e (Some (c ∷ more)) is = one_from 0 c more (omega arith) ∙ sym (some_is (value_at simple_ascii s.below (c ∷ more)) v (reads_key reads q v e c more is))
    first (Some w) h q v e (Some (c ∷ more)) is = sym (some_is (value_at simple_ascii s.below (c ∷ more)) v (reads_key reads q v e c more is))

pub nothing_starts : (kind : Kind) (pairs : Pairs) (key : List ℕ) → Walks kind pairs key [] []
nothing_starts kind pairs key = record { reads = tt; opens = tt }

pub nothing_comes : (kind : Kind) (key q : List ℕ) → is_to_come kind key [] [] q ≡ false
nothing_comes kind key q = or_none (has_key (listed kind []) (after_run key q)) ∙ no_keys kind (after_run key q)

-- the moves
module _ (kind : Kind) (pairs : Pairs) (key bytes : List ℕ) (forks : List Fork) (some : bytes ≢ []) (w : Walks kind pairs key bytes forks) where
  at : Reads kind pairs key bytes
  at = (walks_reads kind pairs key bytes forks some w).0

  opens : AreOpen kind pairs key (length key) forks
  opens = (walks_reads kind pairs key bytes forks some w).1

  -- over a run
  pub walks_run : (run after : List ℕ) → IsRun kind bytes run after → Walks kind pairs (key ++ run) after forks × SameKeys pairs (is_to_come kind key bytes forks) (is_to_come kind (key ++ run) after forks)
  walks_run run after is =
      let more = length-append key run in (
        walks_is kind pairs (key ++ run) after forks (reads_run at run after is) (length key) (omega (arith, more)) (open_grown kind pairs key (length key) forks run (omega arith) opens),
        λ q v e. both (has_key (listed kind bytes) (after_run key q)) (is_in_forks key forks q) (has_key (listed kind after) (after_run (key ++ run) q)) (is_in_forks (key ++ run) forks q)
            (run_keys at run after is q) (sym (forks_grown kind pairs key (length key) forks run q opens)),
      )

  -- to a value
  module _ (v : ℕ) (after : List ℕ) (begins : Begins kind bytes (value v after)) where
    abbrev behind : Pairs
    behind = (value_opens at.text v after begins).below

    behind_is_value : at.below ≡ ([], v) ∷ behind
    behind_is_value = (value_opens at.text v after begins).is

    no_other : value_at simple_ascii behind [] ≡ None
    no_other = let o = value_opens at.text v after begins in sym (value_exact kind o.below) ∙ canonical.no_value o.inner o.apart

    abbrev reads_value : Reads kind pairs key after
    reads_value = record {
      below = behind;
      text = (value_opens at.text v after begins).inner;
      same = λ c. ap (residual c) (sym behind_is_value) ∙ at.same c;
      value = λ x e. absurd (some_none x (sym e ∙ no_other));
    }

    others : (x : Option (List ℕ)) → (x ≡ Some [] → ⊥) → has_key at.below x ≡ has_key behind x
    others None h = refl
    others (Some []) h = absurd (h refl)
    others (Some (c ∷ more)) h = ap (λ ps. is_some (value_at simple_ascii ps (c ∷ more))) behind_is_value

    behind_above : (q : List ℕ) (x : Option (List ℕ)) → after_run key q ≡ x → has_key behind x ≡ true → is_lt (slice_cmp nat_cmp key q) ≡ true
    behind_above q None h e = absurd (cc)
    behind_above q (Some []) h e = absurd (let no = none_is (value_at simple_ascii behind []) no_other in cc)
    behind_above q (Some (c ∷ more)) h e = ap (λ k. is_lt (slice_cmp nat_cmp key k)) (after_is key q (c ∷ more) h) ∙ key_above key c more

    pub walks_value : Walks kind pairs key after forks × IsNext pairs (is_to_come kind key bytes forks) (is_to_come kind key after forks) key v
    walks_value = (
      walks_is kind pairs key after forks reads_value (length key) (omega arith) opens,
      record {
        value = at.value v (ap (λ ps. value_at simple_ascii ps []) behind_is_value);
        here = ap (λ t. t || is_in_forks key forks key)
            (reads_listed at (after_run key key) ∙ ap (has_key at.below) (ap (after_run key) (sym (append-nil key)) ∙ after_itself key []) ∙ ap (λ ps. is_some (value_at simple_ascii ps [])) behind_is_value);
        others = λ q x e differs. ap (λ t. t || is_in_forks key forks q)
            (reads_listed at (after_run key q) ∙ others (after_run key q) (λ h. differs (sym (append-nil key) ∙ sym (after_is key q [] h))) ∙ sym (reads_listed reads_value (after_run key q)));
        above = λ q t. elim (either (has_key (listed kind after) (after_run key q)) (is_in_forks key forks q) t) [
          | inl here ↦ behind_above q (after_run key q) refl (sym (reads_listed reads_value (after_run key q)) ∙ here)
          | inr there ↦ differs_above key q (forks_differ kind pairs key (length key) forks q (omega arith) opens there).0
        ];
      },
    )

  -- to the targets of a branch
  module _ (b : Branch) (begins : Begins kind bytes (branch_shape b)) (f : Fork) (branch : f.branch ≡ b) (room : f.room ≡ length b.behind.now) (depth : f.depth ≡ length key)
      (left : (c : ℕ) → is_in f.left c ≡ (nat_le 0 c && is_among c (take b.edges b.behind.now))) where
    whole_key : take f.depth key ≡ key
    whole_key = ap (λ n. take n key) depth ∙ take_all (length key) key (omega arith)

    fork : IsFork kind (behind_all key pairs) f 0
    fork = fork_opened at.text b begins (behind_all key pairs) at.same f 0 branch room left

    edges_some : IsOver f → ⊥
    edges_some over = lists_some at.text some (none_there at.below (branch_no_value at.text b begins) (λ c h. at.same c ∙ fork_over fork over c h))

    edge_keys : (q : List ℕ) (v : ℕ) → value_at simple_ascii pairs q ≡ Some v → (x : Option (List ℕ)) → after_run key q ≡ x → has_key at.below x ≡ goes_by f.left x
    edge_keys q v e None h = refl
    edge_keys q v e (Some []) h = none_is (value_at simple_ascii at.below []) (branch_no_value at.text b begins)
    edge_keys q v e (Some (c ∷ more)) h =
        let here = reads_key at q v e c more h in
        some_is (value_at simple_ascii at.below (c ∷ more)) v here
        ∙ sym (fork.left c ∙ and_yes (nat_le 0 c) (begins_some (behind_all key pairs) c) (le_yes 0 c (omega arith)) ∙ begins_true (behind_all key pairs) c more v (sym (same_value at.below (behind_all key pairs) at.same c more) ∙ here))

    pub walks_branch : Walks kind pairs key [] (f ∷ forks) × SameKeys pairs (is_to_come kind key bytes forks) (is_to_come kind key [] (f ∷ forks))
    walks_branch = (
      record {
        reads = tt;
        opens = (
          record {
            before = omega (arith, depth);
            within = omega (arith, depth);
            opens = subst (λ k. IsOpen kind (behind_all k pairs) f) (sym whole_key) fork.opens;
            ahead = λ c h. subst (IsAhead c) (sym (ap (λ n. drop n key) depth ∙ all_dropped key)) tt;
            some = edges_some;
          },
          subst (λ n. AreOpen kind pairs key n forks) (sym depth) opens,
        );
      },
      λ q v e. ap (λ t. t || is_in_forks key forks q) (reads_listed at (after_run key q) ∙ edge_keys q v e (after_run key q) refl ∙ ap (λ k. goes_by f.left (after_run k q)) (sym whole_key))
          ∙ ap (λ t. t || is_in_forks key (f ∷ forks) q) (sym (no_keys kind (after_run key q))),
    )
      where
        all_dropped : (xs : List ℕ) → drop (length xs) xs ≡ []
        all_dropped [] = refl
        all_dropped (x ∷ xs) = all_dropped xs

  -- some node begins
  pub walks_node : node_of kind bytes ≡ None → ⊥
  walks_node none = lists_some at.text some (none_listed at.text none)

-- into the next target
over_none : (f : Fork) (x : Option (List ℕ)) → IsOver f → goes_by f.left x ≡ false
over_none f None over = refl
over_none f (Some []) over = refl
over_none f (Some (c ∷ more)) over = over c

module _ (kind : Kind) (pairs : Pairs) (key : List ℕ) (limit : ℕ) (f : Fork) (forks : List Fork) (o : AreOpen kind pairs key limit (f ∷ forks)) (key' : List ℕ) (forks' : List Fork) (target : Bor (List ℕ))
    (e : EntersEdge kind (behind_all (take f.depth key) pairs) f (take f.depth key) forks key' forks' target) where
  abbrev front : List ℕ
  front = take f.depth key

  length_front : length front ≡ f.depth
  length_front = length-take-le f.depth key o.0.within

  all_behind : residual e.edge (behind_all front pairs) ≡ behind_all key' pairs
  all_behind = sym (behind_more front e.edge pairs) ∙ ap (λ k. behind_all k pairs) (sym e.key_is)

  abbrev reads_target : Reads kind pairs key' target.now
  reads_target = record {
    below = residual e.edge (behind_all front pairs);
    text = e.takes.2;
    same = λ c. ap (residual c) all_behind;
    value = λ v h. sym (value_behind key' pairs) ∙ ap (λ ps. value_at simple_ascii ps []) (sym all_behind) ∙ h;
  }

  outer_front : AreOpen kind pairs front f.depth forks
  outer_front = open_cut kind pairs key f.depth f.depth forks (omega arith) o.1

  outer_key : AreOpen kind pairs key' f.depth forks
  outer_key = subst (λ k. AreOpen kind pairs k f.depth forks) (sym e.key_is) (open_grown kind pairs front f.depth forks (e.edge ∷ []) (omega (arith, length_front)) outer_front)

  outer_same : (q : List ℕ) → is_in_forks key forks q ≡ is_in_forks key' forks q
  outer_same q =
      ap (λ k. is_in_forks k forks q) (sym (take-append-drop f.depth key)) ∙ forks_grown kind pairs front f.depth forks (drop f.depth key) q outer_front
      ∙ sym (ap (λ k. is_in_forks k forks q) e.key_is ∙ forks_grown kind pairs front f.depth forks (e.edge ∷ []) q outer_front)

  front_key : take e.after.depth key' ≡ front
  front_key = ap (take e.after.depth) e.key_is ∙ take_at front (e.edge ∷ []) e.after.depth (sym (e.depth ∙ sym length_front))

  long_key : length key' ≡ suc f.depth
  long_key = let more = length-append front (e.edge ∷ []) in ap length e.key_is ∙ omega (arith, more, length_front)

  edge_ahead : (c : ℕ) → is_in e.after.left c ≡ true → e.edge < c
  edge_ahead c h = elim (cases_lt c e.edge) [
    | inl low ↦ absurd (let out = e.takes.1 c low in let is = e.takes.4 c in by (c == e.edge) (is_in f.left c) out (sym is ∙ h))
    | inr high ↦ elim (cases_eq c e.edge) [
      | inl same ↦ absurd (let yes : false ≡ true = sym (ap (λ t. not t && is_in f.left c) (eq-eqb c e.edge same)) ∙ sym (e.takes.4 c) ∙ h in cc)
      | inr other ↦ omega (arith, high, other)
    ]
  ]
    where
      by : (t u : Bool) → u ≡ false → (not t && u) ≡ true → ⊥
      by true u out here = absurd (cc)
      by false true out here = absurd (cc)
      by false false out here = absurd (cc)

  fork_on_key : (IsOver e.after → ⊥) → AreOpen kind pairs key' (length key') (e.after ∷ forks)
  fork_on_key some = (
    record {
      before = (let depth = e.depth in omega (arith, long_key, depth));
      within = (let depth = e.depth in omega (arith, long_key, depth));
      opens = subst (λ k. IsOpen kind (behind_all k pairs) e.after) (sym front_key) e.takes.3;
      ahead = λ c h. subst (IsAhead c) (sym (ap (drop e.after.depth) e.key_is ∙ drop_at front (e.edge ∷ []) e.after.depth (sym (e.depth ∙ sym length_front)))) (edge_ahead c h);
      some = some;
    },
    subst (λ n. AreOpen kind pairs key' n forks) (sym e.depth) outer_key,
  )

  opens_kept : Keeps e.after forks forks' → AreOpen kind pairs key' (length key') forks'
  opens_kept (inl k) = subst (AreOpen kind pairs key' (length key')) (sym k.0) (fork_on_key k.1)
  opens_kept (inr k) = subst (AreOpen kind pairs key' (length key')) (sym k.0) (open_raised kind pairs key' f.depth (length key') forks (omega (arith, long_key)) outer_key)

  kept_keys : (q : List ℕ) → Keeps e.after forks forks' → is_in_forks key' forks' q ≡ (goes_by e.after.left (after_run front q) || is_in_forks key' forks q)
  kept_keys q (inl k) = ap (λ fs. is_in_forks key' fs q) k.0 ∙ ap (λ p. goes_by e.after.left (after_run p q) || is_in_forks key' forks q) front_key
  kept_keys q (inr k) = ap (λ fs. is_in_forks key' fs q) k.0 ∙ ap (λ t. t || is_in_forks key' forks q) (sym (over_none e.after (after_run front q) k.1))

  edge_split : (q : List ℕ) (v : ℕ) → value_at simple_ascii pairs q ≡ Some v → (x : Option (List ℕ)) → after_run front q ≡ x
      → goes_by f.left x ≡ (has_key (residual e.edge (behind_all front pairs)) (runs_on x (e.edge ∷ [])) || goes_by e.after.left x)
  edge_split q v h None is = refl
  edge_split q v h (Some []) is = refl
  edge_split q v h (Some (c ∷ more)) is = elim (cases_eq e.edge c) [
    | inl same ↦
        let there : value_at simple_ascii (residual e.edge (behind_all front pairs)) more ≡ Some v =
        value_at-residual e.edge (behind_all front pairs) more ∙ ap (λ x. value_at simple_ascii (behind_all front pairs) (x ∷ more)) same ∙ value_front front (c ∷ more) pairs ∙ ap (value_at simple_ascii pairs) (sym (after_is front q (c ∷ more) is)) ∙ h in
        ap (is_in f.left) (sym same) ∙ e.takes.0
        ∙ sym (ap (λ t. t || is_in e.after.left c) (ap (λ t. has_key (residual e.edge (behind_all front pairs)) (cond t (Some more) None)) (eq-eqb e.edge c same) ∙ some_is (value_at simple_ascii (residual e.edge (behind_all front pairs)) more) v there))
    | inr other ↦
        sym (ap (λ t. t || is_in e.after.left c) (ap (λ t. has_key (residual e.edge (behind_all front pairs)) (cond t (Some more) None)) (ne_eqb e.edge c other))
        ∙ e.takes.4 c ∙ ap (λ t. not t && is_in f.left c) (ne_eqb c e.edge (λ s. other (sym s))))
  ]

  pub walks_entered : Walks kind pairs key' target.now forks' × SameKeys pairs (is_in_forks key (f ∷ forks)) (is_to_come kind key' target.now forks')
  walks_entered = (
    walks_is kind pairs key' target.now forks' reads_target (length key') (omega arith) (opens_kept e.keeps),
    λ q v h. (
        let x = after_run front q in
        let goes = goes_by f.left x in
        let here = has_key (residual e.edge (behind_all front pairs)) (runs_on x (e.edge ∷ [])) in
        let later = goes_by e.after.left x in
        both goes (is_in_forks key forks q) (here || later) (is_in_forks key' forks q) (edge_split q v h x refl) (outer_same q)
        ∙ or_assoc here later (is_in_forks key' forks q)
        ∙ both here (later || is_in_forks key' forks q) (has_key (listed kind target.now) (after_run key' q)) (is_in_forks key' forks' q)
        (sym (reads_listed reads_target (after_run key' q) ∙ ap (has_key (residual e.edge (behind_all front pairs))) (ap (λ k. after_run k q) e.key_is ∙ after_append front (e.edge ∷ []) q)))
        (sym (kept_keys q e.keeps))
        ),
  )

pub climbs_to : (kind : Kind) (pairs : Pairs) (key : List ℕ) (limit : ℕ) (forks : List Fork) (f : Fork) (outer : List Fork) → forks ≡ f ∷ outer → AreOpen kind pairs key limit forks → (key1 : List ℕ) → key1 ≡ take f.depth key
    → (key' : List ℕ) (forks' : List Fork) (found : Option (Bor (List ℕ))) → (IsOpen kind (behind_all (take f.depth key) pairs) f → Enters kind (behind_all (take f.depth key) pairs) f key1 outer key' forks' found) → Climbs kind pairs key forks key' forks' found
climbs_to kind pairs key limit forks f outer is o key1 front key' forks' found enters =
    let on = subst (AreOpen kind pairs key limit) is o in
    subst (λ fs. Climbs kind pairs key fs key' forks' found) (sym is)
    (by on found (subst (λ k. Enters kind (behind_all (take f.depth key) pairs) f k outer key' forks' found) front (enters on.0.opens)))
  where
    by : AreOpen kind pairs key limit (f ∷ outer) → (found : Option (Bor (List ℕ))) → Enters kind (behind_all (take f.depth key) pairs) f (take f.depth key) outer key' forks' found → Climbs kind pairs key (f ∷ outer) key' forks' found
    by on None over = absurd (on.0.some over)
    by on (Some target) e = walks_entered kind pairs key limit f outer on key' forks' target e

-- on any bytes
front_itself : (d : ℕ) (xs : List ℕ) → take (length (take d xs)) xs ≡ take d xs
front_itself zero xs = refl
front_itself (suc d) [] = refl
front_itself (suc d) (x ∷ xs) = ap (λ ys. x ∷ ys) (front_itself d xs)

pub keeps_front : (key : List ℕ) (d : ℕ) (key1 key' : List ℕ) (edge : ℕ) → key1 ≡ take d key → key' ≡ key1 ++ edge ∷ [] → KeepsFront key key'
keeps_front key d key1 key' edge front is =
    let long = ap length is ∙ length-append key1 (edge ∷ []) in
    let shorter : length key' - 1 ≡ length key1 = omega (arith, long) in
    ap (λ n. take n key') shorter ∙ ap (take (length key1)) is ∙ take_at key1 (edge ∷ []) (length key1) refl ∙ front ∙ sym (front_itself d key) ∙ ap (λ k. take (length k) key) (sym front) ∙ ap (λ n. take n key) (sym shorter)

pub walks_over : (kind : Kind) (pairs : Pairs) (key : List ℕ) (forks : List Fork) → forks ≡ [] → (rest : List ℕ) → rest ≡ [] → SameKeys pairs (is_to_come kind key rest forks) (λ q. false)
walks_over kind pairs key forks none rest over q v e = ap (λ fs. is_to_come kind key rest fs q) none ∙ ap (λ r. is_to_come kind key r [] q) over ∙ nothing_comes kind key q

pub walks_open : (kind : Kind) (pairs : Pairs) (key rest : List ℕ) (forks : List Fork) → rest ≡ [] → Walks kind pairs key rest forks → AreOpen kind pairs key (suc (length key)) forks
walks_open kind pairs key [] forks over w = w.opens
walks_open kind pairs key (b ∷ rest) forks over w = absurd (cc)

pub over_keys : (kind : Kind) (key rest : List ℕ) (forks : List Fork) (q : List ℕ) → rest ≡ [] → is_to_come kind key rest forks q ≡ is_in_forks key forks q
over_keys kind key rest forks q over = ap (λ r. is_to_come kind key r forks q) over ∙ ap (λ t. t || is_in_forks key forks q) (no_keys kind (after_run key q))

-- past the keys that begin with the first bytes of the key
open_outer : (kind : Kind) (pairs : Pairs) (key : List ℕ) (limit high n : ℕ) (forks : List Fork) → n ≤ high → AreOpen kind pairs key limit forks → AreOpen kind pairs key high (outer n forks)
open_outer kind pairs key limit high n [] h o = tt
open_outer kind pairs key limit high n (f ∷ forks) h o = elim (cases_lt f.depth n) [
  | inl low ↦ subst (λ t. AreOpen kind pairs key high (cond t (outer n forks) (f ∷ forks))) (sym (lt-leb n f.depth low))
      (record { before = omega (arith, low, h); within = o.0.within; opens = o.0.opens; ahead = o.0.ahead; some = o.0.some }, o.1)
  | inr deep ↦ subst (λ t. AreOpen kind pairs key high (cond t (outer n forks) (f ∷ forks))) (sym (le-leb n f.depth deep)) (open_outer kind pairs key f.depth high n forks h o.1)
]

-- a key that begins with a key begins with its first bytes
begins_part : (n : ℕ) (key q rest : List ℕ) → after_run key q ≡ Some rest → begins_else (take n key) q ≡ false
begins_part n key q rest e = by (after_run (take n key) q) (sym (after_append (take n key) (drop n key) q) ∙ ap (λ k. after_run k q) (take-append-drop n key))
  where
    by : (x : Option (List ℕ)) → runs_on x (drop n key) ≡ after_run key q → not (is_some x) ≡ false
    by None h = absurd (let no : Some rest ≡ None = sym e ∙ sym h in cc)
    by (Some more) h = refl

and_none : (a : Bool) → (a && false) ≡ false
and_none true = refl
and_none false = refl

and_all : (a : Bool) → (a && true) ≡ a
and_all true = refl
and_all false = refl

only_if : (a b : Bool) → (a ≡ true → b ≡ true) → a ≡ (a && b)
only_if true b h = sym (h refl)
only_if false b h = refl

either_and : (a b c : Bool) → ((a || b) && c) ≡ ((a && c) || (b && c))
either_and true b true = refl
either_and true b false = sym (and_none b)
either_and false b c = refl

kept_else : (kind : Kind) (pairs : Pairs) (key : List ℕ) (limit n : ℕ) (forks : List Fork) (q : List ℕ) → limit ≤ n → n ≤ length key → AreOpen kind pairs key limit forks → is_in_forks key forks q ≡ true → begins_else (take n key) q ≡ true
kept_else kind pairs key limit n forks q low within o e =
    let d = forks_differ kind pairs key limit forks q (omega (arith, low, within)) o e in
    let less = d.1 in
    ap (λ x. not (is_some x)) (differs_cut n key q d.0 (omega (arith, less, low)))

forks_left : (kind : Kind) (pairs : Pairs) (key : List ℕ) (limit n : ℕ) (forks : List Fork) (q : List ℕ) → n ≤ length key → AreOpen kind pairs key limit forks → is_in_forks key (outer n forks) q ≡ (is_in_forks key forks q && begins_else (take n key) q)
forks_left kind pairs key limit n [] q h o = refl
forks_left kind pairs key limit n (f ∷ forks) q h o = elim (cases_lt f.depth n) [
  | inl low ↦
      ap (λ t. is_in_forks key (cond t (outer n forks) (f ∷ forks)) q) (lt-leb n f.depth low)
      ∙ only_if (is_in_forks key (f ∷ forks) q) (begins_else (take n key) q)
      (kept_else kind pairs key n n (f ∷ forks) q (omega arith) h (record { before = low; within = o.0.within; opens = o.0.opens; ahead = o.0.ahead; some = o.0.some }, o.1))
  | inr deep ↦
      ap (λ t. is_in_forks key (cond t (outer n forks) (f ∷ forks)) q) (le-leb n f.depth deep)
      ∙ forks_left kind pairs key f.depth n forks q h o.1
      ∙ sym (either_and (goes_by f.left (after_run (take f.depth key) q)) (is_in_forks key forks q) (begins_else (take n key) q)
      ∙ ap (λ t. t || (is_in_forks key forks q && begins_else (take n key) q)) (by deep (after_run (take f.depth key) q) refl))
]
  where
    by : n ≤ f.depth → (x : Option (List ℕ)) → after_run (take f.depth key) q ≡ x → (goes_by f.left x && begins_else (take n key) q) ≡ false
    by deep None e = refl
    by deep (Some rest) e =
        ap (λ t. goes_by f.left (Some rest) && t) (ap (λ k. begins_else k q) (sym (take-take n f.depth key deep)) ∙ begins_part n (take f.depth key) q rest e)
        ∙ and_none (goes_by f.left (Some rest))

module _ (kind : Kind) (pairs : Pairs) (key rest : List ℕ) (forks : List Fork) (n : ℕ) (within : n ≤ length key) (w : Walks kind pairs key rest forks) where
  pub walks_left : Walks kind pairs key [] (outer n forks)
  walks_left = record { reads = tt; opens = open_outer kind pairs key (limit_at key rest) (suc (length key)) n forks (omega (arith, within)) w.opens }

  pub left_keys : (q : List ℕ) → is_to_come kind key [] (outer n forks) q ≡ (is_to_come kind key rest forks q && begins_else (take n key) q)
  left_keys q =
      over_keys kind key [] (outer n forks) q refl ∙ forks_left kind pairs key (limit_at key rest) n forks q within w.opens
      ∙ sym (either_and (has_key (listed kind rest) (after_run key q)) (is_in_forks key forks q) (begins_else (take n key) q)
      ∙ ap (λ t. t || (is_in_forks key forks q && begins_else (take n key) q)) (by (after_run key q) refl))
    where
      by : (x : Option (List ℕ)) → after_run key q ≡ x → (has_key (listed kind rest) x && begins_else (take n key) q) ≡ false
      by None e = refl
      by (Some more) e = ap (λ t. has_key (listed kind rest) (Some more) && t) (begins_part n key q more e) ∙ and_none (has_key (listed kind rest) (Some more))

-- the edges of a set alone
abbrev is_kept : ByteSet → ByteSet → Option (List ℕ) → Bool
is_kept left wanted None = true
is_kept left wanted (Some []) = true
is_kept left wanted (Some (c ∷ more)) = not (is_in left c) || is_in wanted c

pub record NarrowsKeys (kind : Kind) (pairs : Pairs) (key rest : List ℕ) (forks : List Fork) (wanted : ByteSet) (forks' : List Fork) : Type 0 where
  pub walks : Walks kind pairs key rest forks'
  pub keeps : List ℕ → Bool
  pub keys : (q : List ℕ) → is_to_come kind key rest forks' q ≡ (is_to_come kind key rest forks q && keeps q)
  pub outside : (q : List ℕ) → keeps q ≡ false → IsOutside key wanted q

narrow_bits : (a w b : Bool) → b ≡ false → ((a && w) || b) ≡ ((a || b) && (not a || w))
narrow_bits true w true e = absurd (cc)
narrow_bits true w false e = or_none w
narrow_bits false w true e = absurd (cc)
narrow_bits false w false e = refl

module _ (kind : Kind) (pairs : Pairs) (key : List ℕ) (f : Fork) (forks : List Fork) (o : AreOpen kind pairs key (suc (length key)) (f ∷ forks)) (depth : f.depth ≡ length key) (wanted : ByteSet) (f' : Fork) (to : NarrowsTo wanted f f') where
  narrow_front : take f.depth key ≡ key
  narrow_front = ap (λ n. take n key) depth ∙ take_all (length key) key (omega arith)

  narrow_front' : take f'.depth key ≡ key
  narrow_front' = ap (λ n. take n key) to.depth ∙ narrow_front

  no_outer : (q more : List ℕ) → after_run key q ≡ Some more → is_in_forks key forks q ≡ false
  no_outer q more e = by (is_in_forks key forks q) refl
    where
      by : (t : Bool) → is_in_forks key forks q ≡ t → t ≡ false
      by false h = refl
      by true h = absurd (
          let d = forks_differ kind pairs key f.depth forks q o.0.within o.1 h in
          let less = d.1 in
          let none = ap (λ k. after_run k q) (sym (take_all (length key) key (omega arith))) ∙ differs_cut (length key) key q d.0 (omega (arith, less, depth)) in
          let no : Some more ≡ None = sym e ∙ none in cc
          )

  narrow_key : (q : List ℕ) (x : Option (List ℕ)) → after_run key q ≡ x → (goes_by f'.left x || is_in_forks key forks q) ≡ ((goes_by f.left x || is_in_forks key forks q) && is_kept f.left wanted x)
  narrow_key q None e = sym (and_all (is_in_forks key forks q))
  narrow_key q (Some []) e = sym (and_all (is_in_forks key forks q))
  narrow_key q (Some (c ∷ more)) e = ap (λ t. t || is_in_forks key forks q) (to.left c) ∙ narrow_bits (is_in f.left c) (is_in wanted c) (is_in_forks key forks q) (no_outer q (c ∷ more) e)

  kept_out : (q : List ℕ) (x : Option (List ℕ)) → after_run key q ≡ x → is_kept f.left wanted x ≡ false → IsOutside key wanted q
  kept_out q None e h = absurd (cc)
  kept_out q (Some []) e h = absurd (cc)
  kept_out q (Some (c ∷ more)) e h =
      let b = bits (is_in f.left c) (is_in wanted c) h in
      (c, more, (o.0.opens.edges c b.0).0, b.1, after_is key q (c ∷ more) e)
    where
      bits : (a w : Bool) → (not a || w) ≡ false → (a ≡ true) × (w ≡ false)
      bits true true e = absurd (cc)
      bits true false e = (refl, refl)
      bits false w e = absurd (cc)

  yes_first_in : (c : ℕ) → is_in f'.left c ≡ true → is_in f.left c ≡ true
  yes_first_in c h = yes_first (is_in f.left c) (is_in wanted c) (sym (to.left c) ∙ h)

  narrowed_open : (IsOver f' → ⊥) → AreOpen kind pairs key (suc (length key)) (f' ∷ forks)
  narrowed_open some =
      let p = o.0.opens in
      let same_depth = to.depth in (
        record {
          before = omega (arith, same_depth, depth);
          within = omega (arith, same_depth, depth);
          opens = subst (λ n. IsOpen kind (behind_all (take n key) pairs) f') (sym to.depth) (record {
            bytes = p.bytes;
            below = p.below;
            text = p.text;
            begins = subst (λ x. Begins kind p.bytes (branch_shape x)) (sym to.branch) p.begins;
            same = p.same;
            edges = λ c h. p.edges c (yes_first_in c h);
            room = (let fewer = need_fewer kind p.below f.left f'.left (edges_of p.below) yes_first_in in let enough = p.room in let same_room = to.room in omega (arith, fewer, enough, same_room));
          });
          ahead = λ c h. subst (λ n. IsAhead c (drop n key)) (sym to.depth) (o.0.ahead c (yes_first_in c h));
          some = some;
        },
        subst (λ n. AreOpen kind pairs key n forks) (sym to.depth) o.1,
      )

  narrowed : (forks' : List Fork) → Keeps f' forks forks' → NarrowsKeys kind pairs key [] (f ∷ forks) wanted forks'
  narrowed forks' k = record {
    walks = record { reads = tt; opens = opened k };
    keeps = λ q. is_kept f.left wanted (after_run key q);
    keys = λ q. over_keys kind key [] forks' q refl ∙ kept_in q k ∙ narrow_key q (after_run key q) refl
        ∙ sym (ap (λ t. t && is_kept f.left wanted (after_run key q)) (over_keys kind key [] (f ∷ forks) q refl ∙ ap (λ p. goes_by f.left (after_run p q) || is_in_forks key forks q) narrow_front));
    outside = λ q h. kept_out q (after_run key q) refl h;
  }
    where
      opened : Keeps f' forks forks' → AreOpen kind pairs key (suc (length key)) forks'
      opened (inl k) = subst (AreOpen kind pairs key (suc (length key))) (sym k.0) (narrowed_open k.1)
      opened (inr k) = subst (AreOpen kind pairs key (suc (length key))) (sym k.0) (open_raised kind pairs key f.depth (suc (length key)) forks (omega (arith, depth)) o.1)

      kept_in : (q : List ℕ) → Keeps f' forks forks' → is_in_forks key forks' q ≡ (goes_by f'.left (after_run key q) || is_in_forks key forks q)
      kept_in q (inl k) = ap (λ fs. is_in_forks key fs q) k.0 ∙ ap (λ p. goes_by f'.left (after_run p q) || is_in_forks key forks q) narrow_front'
      kept_in q (inr k) = ap (λ fs. is_in_forks key fs q) k.0 ∙ ap (λ t. t || is_in_forks key forks q) (sym (over_none f' (after_run key q) k.1))

pub unchanged : (kind : Kind) (pairs : Pairs) (key rest : List ℕ) (forks : List Fork) (wanted : ByteSet) (forks' : List Fork) → forks' ≡ forks → Walks kind pairs key rest forks → NarrowsKeys kind pairs key rest forks wanted forks'
unchanged kind pairs key rest forks wanted forks' same w = record {
  walks = subst (Walks kind pairs key rest) (sym same) w;
  keeps = λ q. true;
  keys = λ q. ap (λ fs. is_to_come kind key rest fs q) same ∙ sym (and_all (is_to_come kind key rest forks q));
  outside = λ q h. absurd (cc);
}

pub narrows_keys : (kind : Kind) (pairs : Pairs) (key rest : List ℕ) (forks : List Fork) (wanted : ByteSet) (forks' : List Fork) → Narrows (length key) wanted forks forks' → Walks kind pairs key rest forks → NarrowsKeys kind pairs key rest forks wanted forks'
narrows_keys kind pairs key rest [] wanted forks' same w = unchanged kind pairs key rest [] wanted forks' same w
narrows_keys kind pairs key rest (f ∷ forks) wanted forks' (inl same) w = unchanged kind pairs key rest (f ∷ forks) wanted forks' same w
narrows_keys kind pairs key [] (f ∷ forks) wanted forks' (inr n) w = narrowed kind pairs key f forks w.opens n.0 wanted n.1.0 n.1.1 forks' n.1.2
narrows_keys kind pairs key (b ∷ rest) (f ∷ forks) wanted forks' (inr n) w = absurd (let before = w.opens.0.before in let depth = n.0 in omega (arith, before, depth))

-- how many bytes are left to read
pub rooms_outer : (n : ℕ) (forks : List Fork) → rooms (outer n forks) ≤ rooms forks
rooms_outer n [] = omega arith
rooms_outer n (f ∷ forks) = by (nat_le n f.depth) (rooms_outer n forks)
  where
    by : (t : Bool) → rooms (outer n forks) ≤ rooms forks → rooms (cond t (outer n forks) (f ∷ forks)) ≤ f.room + rooms forks
    by true less = omega (arith, less)
    by false less = omega arith

pub rooms_kept : (f : Fork) (before after : List Fork) → Keeps f before after → rooms after ≤ f.room + rooms before
rooms_kept f before after (inl k) = let is = ap rooms k.0 in omega (arith, is)
rooms_kept f before after (inr k) = let is = ap rooms k.0 in omega (arith, is)

pub rooms_narrow : (depth : ℕ) (wanted : ByteSet) (forks forks' : List Fork) → Narrows depth wanted forks forks' → rooms forks' ≤ rooms forks
rooms_narrow depth wanted [] forks' same = let is = ap rooms same in omega (arith, is)
rooms_narrow depth wanted (f ∷ forks) forks' (inl same) = let is = ap rooms same in omega (arith, is)
rooms_narrow depth wanted (f ∷ forks) forks' (inr n) = let kept = rooms_kept n.1.0 forks forks' n.1.2 in let same = n.1.1.room in omega (arith, kept, same)

-- where a listing begins
pub start_walks : (kind : Kind) (pairs : Pairs) (bound key rest : List ℕ) (found : Option (Bor (List ℕ))) (forks forks' : List Fork) → StandsOrEnds kind pairs bound key (reverse forks) found → IsStart found rest forks forks'
    → Walks kind pairs key rest (reverse forks') × SameKeys pairs (is_from bound) (is_to_come kind key rest (reverse forks'))
start_walks kind pairs bound key rest None forks forks' none is =
    subst (λ r. Walks kind pairs key r (reverse forks') × SameKeys pairs (is_from bound) (is_to_come kind key r (reverse forks'))) (sym is.0)
    (subst (λ fs. Walks kind pairs key [] (reverse fs) × SameKeys pairs (is_from bound) (is_to_come kind key [] (reverse fs))) (sym is.1)
    (nothing_starts kind pairs key, λ q v e. none q v e ∙ sym (nothing_comes kind key q)))
start_walks kind pairs bound key rest (Some found) forks forks' s is =
    subst (λ r. Walks kind pairs key r (reverse forks') × SameKeys pairs (is_from bound) (is_to_come kind key r (reverse forks'))) (sym is.0)
    (subst (λ fs. Walks kind pairs key found.now (reverse fs) × SameKeys pairs (is_from bound) (is_to_come kind key found.now (reverse fs))) (sym is.1) (walk_starts s))

pub least_taken : (n : ℕ) (key : List ℕ) → take (min n (length key)) key ≡ take n key
least_taken n key = elim (cases_lt n (length key)) [
  | inl low ↦ (let is : min n (length key) ≡ n = omega (arith, low) in ap (λ m. take m key) is)
  | inr high ↦ (
      let is : min n (length key) ≡ length key = omega (arith, high) in
      ap (λ m. take m key) is ∙ take_all (length key) key (omega arith) ∙ sym (take_all n key (omega (arith, high)))
      )
]

-- the innermost branch is the last in memory
split_end : (xs : List Fork) (n : ℕ) (d : Fork) → length xs ≡ suc n → xs ≡ take n xs ++ get_or xs n d ∷ []
split_end [] n d h = absurd (omega (arith, h))
split_end (x ∷ []) zero d h = refl
split_end (x ∷ y ∷ xs) zero d h = absurd (omega (arith, h))
split_end (x ∷ xs) (suc n) d h = ap (λ ys. x ∷ ys) (split_end xs n d (omega (arith, h)))

all_past : (xs : List Fork) (n : ℕ) → length xs ≡ n → drop n xs ≡ []
all_past [] zero h = refl
all_past [] (suc n) h = refl
all_past (x ∷ xs) zero h = absurd (omega (arith, h))
all_past (x ∷ xs) (suc n) h = all_past xs n (omega (arith, h))

pub last_first : (xs : List Fork) (n : ℕ) (f : Fork) → length xs ≡ suc n → f ≡ get_or xs n f → reverse xs ≡ f ∷ reverse (take n xs)
last_first xs n f long last = ap reverse (split_end xs n f long) ∙ reverse-append (take n xs) (get_or xs n f ∷ []) ∙ ap (λ x. x ∷ reverse (take n xs)) (sym last)

pub set_first : (xs : List Fork) (n : ℕ) (f : Fork) → length xs ≡ suc n → reverse (slice_set xs n f) ≡ f ∷ reverse (take n xs)
set_first xs n f long = ap reverse (set_split xs n f (omega (arith, long)) ∙ ap (λ ys. take n xs ++ f ∷ ys) (all_past xs (suc n) long)) ∙ reverse-append (take n xs) (f ∷ [])

module _ (depth : ℕ) (wanted : ByteSet) (xs : List Fork) (n : ℕ) (long : length xs ≡ suc n) (f f' : Fork) (last : f ≡ get_or xs n f) (deep : f.depth ≡ depth) (to : NarrowsTo wanted f f') where
  narrows_by : (after : List Fork) → Keeps f' (reverse (take n xs)) after → Narrows depth wanted (reverse xs) after
  narrows_by after keeps = subst (λ ys. Narrows depth wanted ys after) (sym (last_first xs n f long last)) (inr (deep, (f', to, keeps)))

  pub narrows_over : IsOver f' → Narrows depth wanted (reverse xs) (reverse (take n xs))
  narrows_over over = narrows_by (reverse (take n xs)) (inr (refl, over))

  pub narrows_set : (IsOver f' → ⊥) → Narrows depth wanted (reverse xs) (reverse (slice_set xs n f'))
  narrows_set some = narrows_by (reverse (slice_set xs n f')) (inl (set_first xs n f' long, some))
