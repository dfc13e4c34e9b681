-- Open branches, and the keys beyond a key.
use Rattle.std.proofs.Common.{◌≡◌, ℕ, suc, ◌+◌, ◌<◌, ◌≤◌, List, [], ◌∷◌, ◌++◌, length, take, refl, sym, ◌∙◌, ap, subst, arith, Option, Some, None, Bool, true, false, cond, inl, inr, append_assoc}
use Rattle.std.specs.Prelude.{◌≢◌, ◌==◌, ◌||◌, ◌&&◌, nat_le, not, slice_index}
use Rattle.std.specs.Borrow.{Bor}
use Rattle.std.proofs.lemmas.Bool.{eq-eqb, ne_eqb, cases_eq, cases_lt, le-leb, lt-leb}
use Rattle.std.proofs.lemmas.List.{append-nil, take_at}
use Rattle.zerotrie_base.specs.Kind.{Kind, simple_ascii}
use Rattle.zerotrie_base.specs.Maps.{Pairs, value_at, residual, behind_all, begins_some, edges, with_run}
use Rattle.zerotrie_base.specs.Texts.{Lists}
use Rattle.zerotrie_base.specs.Nodes.{Begins}
use Rattle.zerotrie_core.proofs.CallerLemmas.{value_at-residual, begins_behind, listed_size, some_pair}
use Rattle.zerotrie_base.proofs.MapLemmas.Spans.{with_run-none, residual-run, residual-run_other, value_at-no_run}
use Rattle.zerotrie_core.specs.ByteSets.{is_in}
use Rattle.zerotrie_core.specs.Shapes.{branch_shape}
use Rattle.zerotrie_search.specs.Paths.{SameFrom, NoneFrom, is_from}
use Rattle.zerotrie_search.specs.Forks.{is_among, need, IsOpen, NoEdge, NoneBetween, SameEdges, Clear, IsFork, IsOver, TakesLeast, TakesEdge, IsOnWay, AreForks, Arrives, ArrivesOrEnds, EntersLeast, Stands, bound_by}
use Rattle.zerotrie_search.specs.declared.sorted.fork.Fork.{Fork}
use Rattle.zerotrie_search.proofs.RoomLemmas.{leads_member, need_without}
use Rattle.zerotrie_search.proofs.OrderLemmas.{some_none, from_low, from_high, from_same, from_none, one_from, lift, same_more, no_value, value_behind, behind_more, take_more}

-- no key begins with a byte that leads nowhere
pub no_key : (pairs : Pairs) (c : ℕ) (key : List ℕ) (v : ℕ) → residual c pairs ≡ [] → value_at simple_ascii pairs (c ∷ key) ≡ Some v → ⊥
no_key pairs c key v none e = some_none v (sym e ∙ sym (value_at-residual c pairs key) ∙ ap (λ ps. value_at simple_ascii ps key) none)

-- from one edge to the next
pub next_edge : (pairs : Pairs) (n b : ℕ) → n ≤ b → NoneBetween pairs n b → SameFrom pairs (n ∷ []) (b ∷ [])
next_edge pairs n b low none [] v e = refl
next_edge pairs n b low none (c ∷ key) v e = elim (cases_lt c n) [
  | inl below ↦ from_low n c [] key below ∙ sym (from_low b c [] key (omega (arith, below, low)))
  | inr high ↦ elim (cases_lt c b) [
    | inl between ↦ absurd (no_key pairs c key v (none c high between) e)
    | inr above ↦ one_from n c key high ∙ sym (one_from b c key above)
  ]
]

-- past a byte after which no key comes
pub past_byte : (pairs : Pairs) (c : ℕ) (x : List ℕ) → NoneFrom (residual c pairs) x → SameFrom pairs (c ∷ x) (suc c ∷ [])
past_byte pairs c x none [] v e = refl
past_byte pairs c x none (d ∷ key) v e = elim (cases_lt d c) [
  | inl low ↦ from_low c d x key low ∙ sym (from_low (suc c) d [] key (omega (arith, low)))
  | inr high ↦ elim (cases_eq c d) [
    | inl same ↦ from_same c d x key same ∙ none key v (value_at-residual c pairs key ∙ ap (λ y. value_at simple_ascii pairs (y ∷ key)) same ∙ e) ∙ sym (from_low (suc c) d [] key (omega (arith, same)))
    | inr other ↦ from_high c d x key (omega (arith, high, other)) ∙ sym (one_from (suc c) d key (omega (arith, high, other)))
  ]
]

-- runs without greater edges
pub clear_more : (run : List ℕ) (pairs : Pairs) (c : ℕ) → Clear pairs run → NoEdge (behind_all run pairs) (suc c) → Clear pairs (run ++ c ∷ [])
clear_more [] pairs c clear none = (none, tt)
clear_more (b ∷ run) pairs c clear none = (clear.0, clear_more run (residual b pairs) c clear.1 none)

pub clear_past : (run : List ℕ) (pairs : Pairs) (x : List ℕ) → Clear pairs run → NoneFrom (behind_all run pairs) x → NoneFrom pairs (run ++ x)
clear_past [] pairs x clear none key v e = none key v e
clear_past (c ∷ run) pairs x clear none [] v e = refl
clear_past (c ∷ run) pairs x clear none (d ∷ key) v e = elim (cases_lt d c) [
  | inl low ↦ from_low c d (run ++ x) key low
  | inr high ↦ elim (cases_eq c d) [
    | inl same ↦ from_same c d (run ++ x) key same ∙ clear_past run (residual c pairs) x clear.1 none key v (value_at-residual c pairs key ∙ ap (λ y. value_at simple_ascii pairs (y ∷ key)) same ∙ e)
    | inr other ↦ absurd (no_key pairs d key v (clear.0 d (omega (arith, high, other))) e)
  ]
]

pub behind_append : (p q : List ℕ) (pairs : Pairs) → behind_all (p ++ q) pairs ≡ behind_all q (behind_all p pairs)
behind_append [] q pairs = refl
behind_append (b ∷ p) q pairs = behind_append p q (residual b pairs)

-- tests of edges
no_pair : (pairs : Pairs) → some_pair pairs ≡ false → pairs ≡ []
no_pair [] e = refl
no_pair (x ∷ pairs) e = absurd (cc)

a_pair : (pairs : Pairs) → some_pair pairs ≡ true → pairs ≢ []
a_pair [] e none = absurd (cc)
a_pair (x ∷ pairs) e none = absurd (cc)

pub no_begin : (pairs : Pairs) (c : ℕ) → begins_some pairs c ≡ false → residual c pairs ≡ []
no_begin pairs c e = no_pair (residual c pairs) (sym (begins_behind pairs c) ∙ e)

pub a_begin : (pairs : Pairs) (c : ℕ) → begins_some pairs c ≡ true → residual c pairs ≢ []
a_begin pairs c e = a_pair (residual c pairs) (sym (begins_behind pairs c) ∙ e)

pub same_begin : (p q : Pairs) → SameEdges p q → (c : ℕ) → begins_some p c ≡ begins_some q c
same_begin p q same c = begins_behind p c ∙ ap some_pair (same c) ∙ sym (begins_behind q c)

pub and_yes : (a b : Bool) → a ≡ true → (a && b) ≡ b
and_yes true b e = refl
and_yes false b e = absurd (cc)

pub and_no : (a b : Bool) → a ≡ false → (a && b) ≡ false
and_no true b e = absurd (cc)
and_no false b e = refl

pub yes_first : (a b : Bool) → (a && b) ≡ true → a ≡ true
yes_first true b e = refl
yes_first false b e = e

pub yes_second : (a b : Bool) → (a && b) ≡ true → b ≡ true
yes_second true b e = e
yes_second false b e = absurd (cc)

pub le_no : (n c : ℕ) → c < n → nat_le n c ≡ false
le_no n c h = lt-leb n c h

pub le_yes : (n c : ℕ) → n ≤ c → nat_le n c ≡ true
le_yes n c h = le-leb n c h

pub le_is : (n c : ℕ) → nat_le n c ≡ true → n ≤ c
le_is n c e = elim (cases_lt c n) [ inl low ↦ absurd (let no = le_no n c low in cc) | inr high ↦ high ]

module _ {kind : Kind} {pairs : Pairs} {fork : Fork} {from : ℕ} (f : IsFork kind pairs fork from) where
  -- with no edge left there is none
  pub fork_over : IsOver fork → NoEdge pairs from
  fork_over over c h = no_begin pairs c (sym (and_yes (nat_le from c) (begins_some pairs c) (le_yes from c h)) ∙ sym (f.left c) ∙ over c)

  -- before the least edge there is none
  pub fork_between : (b : ℕ) → ((c : ℕ) → c < b → is_in fork.left c ≡ false) → NoneBetween pairs from b
  fork_between b least c h l = no_begin pairs c (sym (and_yes (nat_le from c) (begins_some pairs c) (le_yes from c h)) ∙ sym (f.left c) ∙ least c l)

  pub fork_from : (b : ℕ) → is_in fork.left b ≡ true → from ≤ b
  fork_from b here = le_is from b (yes_first (nat_le from b) (begins_some pairs b) (sym (f.left b) ∙ here))

  pub fork_leads : (b : ℕ) → is_in fork.left b ≡ true → residual b pairs ≢ []
  fork_leads b here = a_begin pairs b (yes_second (nat_le from b) (begins_some pairs b) (sym (f.left b) ∙ here))

  -- without its least edge
  fork_after : (b : ℕ) (new : Fork) → is_in fork.left b ≡ true → ((c : ℕ) → c < b → is_in fork.left c ≡ false) → ((c : ℕ) → is_in new.left c ≡ (not (c == b) && is_in fork.left c)) → (c : ℕ) → is_in new.left c ≡ (nat_le (suc b) c && begins_some pairs c)
  fork_after b new here least removed c = elim (cases_lt c b) [
    | inl low ↦ removed c ∙ ap (λ t. not (c == b) && t) (least c low) ∙ no_last (not (c == b)) ∙ sym (and_no (nat_le (suc b) c) (begins_some pairs c) (le_no (suc b) c (omega (arith, low))))
    | inr high ↦ elim (cases_eq c b) [
      | inl same ↦ removed c ∙ ap (λ t. not t && is_in fork.left c) (eq-eqb c b same) ∙ sym (and_no (nat_le (suc b) c) (begins_some pairs c) (le_no (suc b) c (omega (arith, same))))
      | inr other ↦ (
          let low = fork_from b here in
          removed c ∙ ap (λ t. not t && is_in fork.left c) (ne_eqb c b other) ∙ f.left c ∙ and_yes (nat_le from c) (begins_some pairs c) (le_yes from c (omega (arith, low, high)))
          ∙ sym (and_yes (nat_le (suc b) c) (begins_some pairs c) (le_yes (suc b) c (omega (arith, high, other))))
          )
    ]
  ]
    where
      no_last : (t : Bool) → (t && false) ≡ false
      no_last true = refl
      no_last false = refl

  pub takes_edge : (new : Fork) (r : Option (ℕ × Bor (List ℕ))) → TakesLeast kind pairs fork new r → TakesEdge kind pairs from new r
  takes_edge new None over = fork_over over
  takes_edge new (Some r) t = (fork_from r.0 t.0, fork_between r.0 t.1, t.2, fork_leads r.0 t.0, record { opens = t.3; left = fork_after r.0 new t.0 t.1 t.4 })

-- an edge is taken off, for whose target there is room
module _ (kind : Kind) (pairs : Pairs) (old new : Fork) (e : ℕ) (f : IsOpen kind pairs old) (here : is_in old.left e ≡ true) (removed : (c : ℕ) → is_in new.left c ≡ (not (c == e) && is_in old.left c)) (target : List ℕ) (text : Lists kind target (residual e f.below)) where
  need_taken : suc (length target) + need kind f.below new.left (edges f.below) ≤ old.room
  need_taken =
      let less = need_without kind f.below old.left new.left e (edges f.below) (leads_member f.below e (f.edges e here).0 (λ none. (f.edges e here).1 (sym (f.same e) ∙ none))) here removed in
      let size = listed_size text in
      let enough = f.room in
      omega (arith, less, size, enough)

  pub has_room : old.room < suc (length target) → ⊥
  has_room small = let enough = need_taken in omega (arith, small, enough)

  pub taken_open : new.branch ≡ old.branch → suc (length target) + new.room ≡ old.room → IsOpen kind pairs new
  taken_open branch room = record {
    bytes = f.bytes;
    below = f.below;
    text = f.text;
    begins = subst (λ x. Begins kind f.bytes (branch_shape x)) (sym branch) f.begins;
    same = f.same;
    edges = λ c h. f.edges c (yes_second (not (c == e)) (is_in old.left c) (sym (removed c) ∙ h));
    room = let enough = need_taken in omega (arith, enough, room);
  }

-- the key goes on by its only edge from one byte on, or by an edge of a branch that is kept
pub forks_more : (kind : Kind) (pairs : Pairs) (forks : List Fork) (key : List ℕ) (c : ℕ) → AreForks kind pairs key forks → NoEdge (behind_all key pairs) (suc c) → AreForks kind pairs (key ++ c ∷ []) forks
forks_more kind pairs [] key c forks none = clear_more key pairs c forks none
forks_more kind pairs (f ∷ outer) key c forks none =
    let at = forks.0 in
    let behind : behind_all key pairs ≡ behind_all at.run (residual at.byte (behind_all at.front pairs)) = ap (λ k. behind_all k pairs) at.key_is ∙ behind_append at.front (at.byte ∷ at.run) pairs in (
      record {
        front = at.front;
        byte = at.byte;
        run = at.run ++ c ∷ [];
        key_is = ap (λ k. k ++ c ∷ []) at.key_is ∙ append_assoc at.front (at.byte ∷ at.run) (c ∷ []);
        depth = at.depth;
        left = at.left;
        some = at.some;
        clear = clear_more at.run (residual at.byte (behind_all at.front pairs)) c at.clear (subst (λ ps. NoEdge ps (suc c)) behind none);
      },
      forks.1,
    )

pub forks_open : (kind : Kind) (pairs : Pairs) (forks : List Fork) (key : List ℕ) (c : ℕ) (f : Fork) → AreForks kind pairs key forks → f.depth ≡ length key → IsFork kind (behind_all key pairs) f (suc c) → (IsOver f → ⊥) → AreForks kind pairs (key ++ c ∷ []) (f ∷ forks)
forks_open kind pairs forks key c f on depth fork some = (record { front = key; byte = c; run = []; key_is = refl; depth = depth; left = fork; some = some; clear = tt }, on)

-- a run that all keys continue with
run_edge : (b : ℕ) (run : List ℕ) (below : Pairs) → NoEdge (with_run (b ∷ run) below) (suc b)
run_edge b run below c h = residual-run_other c b run below (λ e. omega (arith, h, e))

same_run : (b : ℕ) (run key : List ℕ) (below pairs : Pairs) → SameEdges (with_run (b ∷ run) below) (behind_all key pairs) → with_run run below ≡ behind_all (key ++ b ∷ []) pairs
same_run b run key below pairs same = sym (residual-run b run below) ∙ same b ∙ sym (behind_more key b pairs)

pub forks_run : (kind : Kind) (pairs : Pairs) (forks : List Fork) (run key : List ℕ) (below : Pairs) → SameEdges (with_run run below) (behind_all key pairs) → AreForks kind pairs key forks → AreForks kind pairs (key ++ run) forks
forks_run kind pairs forks [] key below same on = subst (λ k. AreForks kind pairs k forks) (sym (append-nil key)) on
forks_run kind pairs forks (b ∷ run) key below same on =
    subst (λ k. AreForks kind pairs k forks) (append_assoc key (b ∷ []) run)
    (forks_run kind pairs forks run (key ++ b ∷ []) below (λ c. ap (residual c) (same_run b run key below pairs same))
    (forks_more kind pairs forks key b on (λ c h. sym (same c) ∙ run_edge b run below c h)))

-- what remains after a run
pub behind_is : (run key : List ℕ) (below pairs : Pairs) → run ≢ [] → SameEdges (with_run run below) (behind_all key pairs) → below ≡ behind_all (key ++ run) pairs
behind_is [] key below pairs some same = absurd (some refl)
behind_is (b ∷ []) key below pairs some same = sym (with_run-none below) ∙ same_run b [] key below pairs same
behind_is (b ∷ c ∷ run) key below pairs some same =
    behind_is (c ∷ run) (key ++ b ∷ []) below pairs (λ e. absurd (cc)) (λ d. ap (residual d) (same_run b (c ∷ run) key below pairs same))
    ∙ ap (λ k. behind_all k pairs) (append_assoc key (b ∷ []) (c ∷ run))

-- keys that go on with a run are at least the run, and begin with it
pub run_key : (run : List ℕ) (below : Pairs) (key : List ℕ) (v : ℕ) → value_at simple_ascii (with_run run below) key ≡ Some v → (more : List ℕ) × (key ≡ run ++ more)
run_key [] below key v e = (key, refl)
run_key (b ∷ run) below [] v e = absurd (some_none v (sym e ∙ value_at-no_run simple_ascii (b ∷ run) below (λ n. absurd (cc))))
run_key (b ∷ run) below (c ∷ key) v e = elim (cases_eq b c) [
  | inl same ↦ (
      let r = run_key run below key v (ap (λ ps. value_at simple_ascii ps key) (sym (residual-run b run below)) ∙ value_at-residual b (with_run (b ∷ run) below) key ∙ ap (λ x. value_at simple_ascii (with_run (b ∷ run) below) (x ∷ key)) same ∙ e) in
      (r.0, ap (λ x. x ∷ key) (sym same) ∙ ap (λ k. b ∷ k) r.1)
      )
  | inr other ↦ absurd (no_key (with_run (b ∷ run) below) c key v (residual-run_other c b run below other) e)
]

pub front_from : (run more : List ℕ) → is_from run (run ++ more) ≡ true
front_from [] more = from_none more
front_from (b ∷ run) more = from_same b b run (run ++ more) refl ∙ front_from run more

pub same_value : (p q : Pairs) → SameEdges p q → (c : ℕ) (key : List ℕ) → value_at simple_ascii p (c ∷ key) ≡ value_at simple_ascii q (c ∷ key)
same_value p q same c key = sym (value_at-residual c p key) ∙ ap (λ ps. value_at simple_ascii ps key) (same c) ∙ value_at-residual c q key

-- from behind a value to the run that comes next
pub to_run : (run : List ℕ) (below pairs : Pairs) → run ≢ [] → SameEdges (with_run run below) pairs → SameFrom pairs (0 ∷ []) run
to_run [] below pairs some same key v e = absurd (some refl)
to_run (b ∷ run) below pairs some same [] v e = refl
to_run (b ∷ run) below pairs some same (c ∷ key) v e =
    let r = run_key (b ∷ run) below (c ∷ key) v (same_value (with_run (b ∷ run) below) pairs same c key ∙ e) in
    one_from 0 c key (omega arith) ∙ sym (ap (is_from (b ∷ run)) r.1 ∙ front_from (b ∷ run) r.0)

-- up to an open branch, past keys that have nothing more
module _ (kind : Kind) (pairs : Pairs) (key bound : List ℕ) (none : NoneFrom (behind_all key pairs) bound) where
  pub climb_none : AreForks kind pairs key [] → NoneFrom pairs (key ++ bound)
  climb_none clear = clear_past key pairs bound clear none

  pub climb_same : (f : Fork) (outer : List Fork) → (forks : AreForks kind pairs key (f ∷ outer)) → SameFrom pairs (key ++ bound) (forks.0.front ++ suc forks.0.byte ∷ [])
  climb_same f outer forks =
      let at = forks.0 in
      let inner = residual at.byte (behind_all at.front pairs) in
      let behind : behind_all key pairs ≡ behind_all at.run inner = ap (λ k. behind_all k pairs) at.key_is ∙ behind_append at.front (at.byte ∷ at.run) pairs in
      subst (λ k. SameFrom pairs k (at.front ++ suc at.byte ∷ [])) (sym (append_assoc at.front (at.byte ∷ at.run) bound) ∙ ap (λ k. k ++ bound) (sym at.key_is))
      (lift pairs at.front (at.byte ∷ (at.run ++ bound)) (suc at.byte ∷ [])
      (past_byte (behind_all at.front pairs) at.byte (at.run ++ bound) (clear_past at.run inner bound at.clear (subst (λ ps. NoneFrom ps bound) behind none))))

pub way_front : (kind : Kind) (pairs : Pairs) (key : List ℕ) (f : Fork) → (at : IsOnWay kind pairs key f) → take f.depth key ≡ at.front
way_front kind pairs key f at = ap (take f.depth) at.key_is ∙ take_at at.front (at.byte ∷ at.run) f.depth (sym at.depth)

-- after the least edge was entered
pub entered : (kind : Kind) (pairs : Pairs) (key : List ℕ) (from edge : ℕ) (target key' : List ℕ) (forks' : List Fork) → from ≤ edge → NoneBetween (behind_all key pairs) from edge → Lists kind target (residual edge (behind_all key pairs))
    → residual edge (behind_all key pairs) ≢ [] → key' ≡ key ++ edge ∷ [] → AreForks kind pairs key' forks' → Arrives kind pairs (key ++ from ∷ []) key' target forks'
entered kind pairs key from edge target key' forks' low none text some key_is on =
    let all : residual edge (behind_all key pairs) ≡ behind_all key' pairs = sym (behind_more key edge pairs) ∙ ap (λ k. behind_all k pairs) (sym key_is) in
    record {
      text = subst (Lists kind target) all text;
      some = λ e. some (all ∙ e);
      way = on;
      from = subst (SameFrom pairs (key ++ from ∷ [])) (sym key_is) (lift pairs key (from ∷ []) (edge ∷ []) (next_edge (behind_all key pairs) from edge low none));
    }

fork_none : {kind : Kind} {pairs : Pairs} {fork : Fork} {from : ℕ} → IsFork kind pairs fork from → NoEdge pairs from → IsOver fork
fork_none {pairs = pairs} {from = from} f none c = elim (cases_lt c from) [
  | inl low ↦ f.left c ∙ and_no (nat_le from c) (begins_some pairs c) (le_no from c low)
  | inr high ↦ f.left c ∙ ap (λ t. nat_le from c && t) (begins_behind pairs c ∙ ap some_pair (none c high)) ∙ and_last (nat_le from c)
]
  where
    and_last : (t : Bool) → (t && false) ≡ false
    and_last true = refl
    and_last false = refl

pub climbed : (kind : Kind) (pairs : Pairs) (key bound : List ℕ) → NoneFrom (behind_all key pairs) bound → (f : Fork) (outer : List Fork) → (forks : AreForks kind pairs key (f ∷ outer)) → (key' : List ℕ) (forks' : List Fork) (found : Option (Bor (List ℕ)))
    → EntersLeast kind pairs (suc forks.0.byte) forks.0.front key' forks' found → ArrivesOrEnds kind pairs (key ++ bound) key' forks' found
climbed kind pairs key bound none f outer forks key' forks' None ends = absurd (forks.0.some (fork_none forks.0.left ends.0))
climbed kind pairs key bound none f outer forks key' forks' (Some target) a = record {
  text = a.text;
  some = a.some;
  way = a.way;
  from = same_more pairs (key ++ bound) (forks.0.front ++ suc forks.0.byte ∷ []) key' (climb_same kind pairs key bound none f outer forks) a.from;
}

-- edges that are gathered
among_append : (c : ℕ) (xs ys : List ℕ) → is_among c (xs ++ ys) ≡ (is_among c xs || is_among c ys)
among_append c [] ys = refl
among_append c (x ∷ xs) ys = ap (λ t. (c == x) || t) (among_append c xs ys) ∙ or_assoc (c == x) (is_among c xs) (is_among c ys)
  where
    or_assoc : (a b d : Bool) → (a || (b || d)) ≡ ((a || b) || d)
    or_assoc true b d = refl
    or_assoc false b d = refl

pub or_none : (t : Bool) → (t || false) ≡ t
or_none true = refl
or_none false = refl

pub among_taken : (c i : ℕ) (xs : List ℕ) → i < length xs → is_among c (take (i + 1) xs) ≡ (is_among c (take i xs) || (c == slice_index xs i))
among_taken c i xs h =
    let next : i + 1 ≡ suc i = omega arith in
    ap (λ n. is_among c (take n xs)) next ∙ ap (is_among c) (take_more xs i h) ∙ among_append c (take i xs) (slice_index xs i ∷ []) ∙ ap (λ t. is_among c (take i xs) || t) (or_none (c == slice_index xs i))

pub fill_more : (from e c : ℕ) (old among : Bool) → old ≡ (nat_le from c && among) → from ≤ e → ((c == e) || old) ≡ (nat_le from c && (among || (c == e)))
fill_more from e c old among is h = elim (cases_eq c e) [
  | inl same ↦ ap (λ t. t || old) (eq-eqb c e same) ∙ sym (and_yes (nat_le from c) (among || (c == e)) (le_yes from c (omega (arith, h, same))) ∙ ap (λ t. among || t) (eq-eqb c e same) ∙ or_last among)
  | inr other ↦ ap (λ t. t || old) (ne_eqb c e other) ∙ is ∙ ap (λ t. nat_le from c && t) (sym (ap (λ t. among || t) (ne_eqb c e other) ∙ or_none among))
]
  where
    or_last : (t : Bool) → (t || true) ≡ true
    or_last true = refl
    or_last false = refl

pub fill_less : (from e c : ℕ) (old among : Bool) → old ≡ (nat_le from c && among) → e < from → old ≡ (nat_le from c && (among || (c == e)))
fill_less from e c old among is h = elim (cases_eq c e) [
  | inl same ↦ is ∙ and_no (nat_le from c) among (le_no from c (omega (arith, h, same))) ∙ sym (and_no (nat_le from c) (among || (c == e)) (le_no from c (omega (arith, h, same))))
  | inr other ↦ is ∙ ap (λ t. nat_le from c && t) (sym (ap (λ t. among || t) (ne_eqb c e other) ∙ or_none among))
]

-- where the listing stands after it came to a key
pub stands_whole : {kind : Kind} {pairs : Pairs} {bound key bytes : List ℕ} {forks : List Fork} → Lists kind bytes (behind_all key pairs) → AreForks kind pairs key forks → SameFrom pairs bound key → Stands kind pairs bound key bytes forks
stands_whole {kind} {pairs} {bound} {key} {bytes} {forks} text on from = record {
  below = behind_all key pairs;
  text = text;
  same = λ c. refl;
  value = λ v e. sym (value_behind key pairs) ∙ e;
  way = on;
  from = by (value_at simple_ascii (behind_all key pairs) []) refl;
}
  where
    by : (x : Option ℕ) → value_at simple_ascii (behind_all key pairs) [] ≡ x → SameFrom pairs bound (bound_by key x)
    by None e = same_more pairs bound key (key ++ 0 ∷ []) from (no_value pairs key e)
    by (Some v) e = from

pub arrived : {kind : Kind} {pairs : Pairs} {bound key bytes : List ℕ} {forks : List Fork} → Arrives kind pairs bound key bytes forks → Stands kind pairs bound key bytes forks
arrived a = stands_whole a.text a.way a.from

-- with no value and no edge there is no pair
pub none_there : (pairs : Pairs) → value_at simple_ascii pairs [] ≡ None → NoEdge pairs 0 → pairs ≡ []
none_there [] none edges = refl
none_there (([], v) ∷ pairs) none edges = absurd (some_none v none)
none_there ((c ∷ key, v) ∷ pairs) none edges = absurd (let e : cond true ((key, v) ∷ residual c pairs) (residual c pairs) ≡ [] = subst (λ t. cond t ((key, v) ∷ residual c pairs) (residual c pairs) ≡ []) (eq-eqb c c refl) (edges c (omega arith)) in cc)
