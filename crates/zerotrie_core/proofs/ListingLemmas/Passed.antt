-- Going down to a key, and past it.
use Rattle.std.proofs.Common.{◌≡◌, ℕ, zero, suc, ◌+◌, ◌-◌, ◌<◌, ◌≤◌, List, [], ◌∷◌, ◌++◌, length, refl, sym, ◌∙◌, ap, subst, arith, Option, Some, None, Bool, true, false, cond, take, drop, get_or, append_assoc}
use Rattle.std.specs.Prelude.{slice_index, filter, ◌&&◌}
use Rattle.std.specs.Borrow.{Bor}
use Rattle.std.specs.List.{AllByRecursion}
use Rattle.std.proofs.lemmas.List.{append-nil, take_all, take-append-drop, drop_more, take_more}
use Rattle.std.proofs.lemmas.Bool.{eq-eqb, ne_eqb}
use Rattle.zerotrie_base.specs.Kind.{Kind, fold_byte, same_byte}
use Rattle.zerotrie_base.specs.Maps.{Pairs, with_front, with_run, same_key, value_at, beginning}
use Rattle.zerotrie_base.specs.Texts.{Lists}
use Rattle.zerotrie_base.specs.Nodes.{Shape, Begins, IsTargetResult, targets_behind, begin_of}
use Rattle.zerotrie_base.specs.Nodes as shapes
use Rattle.zerotrie_core.specs.Listings.{Left, to_come, rest_after}
use Rattle.zerotrie_core.specs.Places.{ListsBehind}
use Rattle.zerotrie_base.specs.reader.Reading.{Comes, AlwaysFinds, AlwaysComes}
use Rattle.zerotrie_core.specs.reader.Going.{AlwaysGoes}
use Rattle.zerotrie_core.specs.reader.Descending.{NodeEnds}
use Rattle.zerotrie_core.specs.listing.Listed.{listed, of_targets, node_of, is_in_order, target_of}
use Rattle.zerotrie_core.specs.listing.Opened.{pairs_behind, pairs_open, pairs_left, IsOpen, Nested, Stands, still_open, work_open, work_left}
use Rattle.zerotrie_core.specs.listing.Passed.{IsAfterEdge, LeavesAfter, IsPast, GoesInto, LeadsOn}
use Rattle.zerotrie_core.specs.declared.stream.opened.OpenBranch.{OpenBranch}
use Rattle.zerotrie_base.proofs.MapLemmas.Spans.{with_run-none, with_run-front}
use Rattle.zerotrie_base.proofs.MapLemmas.Cases.{OtherKey, Apart, lists_apart, same_equiv}
use Rattle.zerotrie_core.proofs.NodeLemmas.Read.{node_begun}
use Rattle.zerotrie_core.proofs.ReaderLemmas.Edges.{literal_along, literal_past}
use Rattle.zerotrie_base.proofs.NodeLemmas.Opened.{branch_opens}
use Rattle.zerotrie_base.proofs.NodeLemmas.Offsets.{in_order}
use Rattle.zerotrie_core.proofs.ReaderLemmas.LookUps.{value_goes, span_goes, literal_ends, node_ends, comes_nowhere, comes_more, finds_at_end, finds_nothing}
use Rattle.zerotrie_core.proofs.ListingLemmas.Nodes.{listed_behind, listed_pairs, is_order, length-target}
use Rattle.zerotrie_core.specs.listing.Grouped.{AreEntered, AreGrouped}
use Rattle.zerotrie_core.proofs.ListingLemmas.Grouped.{after_value, after_literal, after_span, opens_grouped}
use Rattle.zerotrie_core.proofs.ListingLemmas.Left.{first_open, stands_run, fresh_left, still_nested, still_pairs, still_less, left_most, entered, target_ends, run_append, read_shorter, at_value, at_literal, at_span, opened, target_says, at_next}

both_of : (a b : Bool) → (a && b) ≡ true → (a ≡ true) × (b ≡ true)
both_of true b e = (refl, e)
both_of false b e = absurd (cc)

-- keys after fronts that are one to the kind
pub same_behind : (kind : Kind) (p q k l : List ℕ) → same_key kind p q ≡ true → same_key kind (p ++ k) (q ++ l) ≡ same_key kind k l
same_behind kind [] [] k l e = refl
same_behind kind [] (c ∷ q) k l e = absurd (cc)
same_behind kind (b ∷ p) [] k l e = absurd (cc)
same_behind kind (b ∷ p) (c ∷ q) k l e = let parts = both_of (same_byte kind b c) (same_key kind p q) e in rw parts.0 (same_behind kind p q k l parts.1)

-- if no pair has the key, none stands after it
pub rest_none : (kind : Kind) (key : List ℕ) (pairs : Pairs) → value_at kind pairs key ≡ None → rest_after kind key pairs ≡ []
rest_none kind key [] none = refl
rest_none kind key (e ∷ pairs) none = by (same_key kind e.0 key) e.1 (value_at kind pairs key) pairs (rest_after kind key pairs) none (rest_none kind key pairs)
  where
    by : (t : Bool) (v : ℕ) (o : Option ℕ) (ps rest : Pairs) → cond t (Some v) o ≡ None → (o ≡ None → rest ≡ []) → cond t ps rest ≡ []
    by true v o ps rest h f = absurd (cc)
    by false v o ps rest h f = f h

every_at : (P : List ℕ × ℕ → Type 0) (before : Pairs) (e : List ℕ × ℕ) (left : Pairs) → AllByRecursion P (before ++ e ∷ left) → P e
every_at P [] e left all = all.0
every_at P (d ∷ before) e left all = every_at P before e left all.1

-- those after the one pair that has the key
rest_at : (kind : Kind) (key own : List ℕ) (v : ℕ) (before left : Pairs) → Apart kind (before ++ (own, v) ∷ left) → same_key kind own key ≡ true → rest_after kind key (before ++ (own, v) ∷ left) ≡ left
rest_at kind key own v [] left apart same = rw same refl
rest_at kind key own v (e ∷ before) left apart same =
    let laws = same_equiv kind in
    let own_other : same_key kind e.0 own ≡ false = every_at (OtherKey kind e.0) before (own, v) left apart.0 in
    let other : same_key kind e.0 key ≡ false = laws.symm e.0 key ∙ sym (laws.congr own key e.0 same) ∙ laws.symm own e.0 ∙ own_other in
    rw other (rest_at kind key own v before left apart.1 same)

rest_left : (kind : Kind) (key : List ℕ) (pairs left : Pairs) → Apart kind pairs → LeavesAfter kind key pairs left → rest_after kind key pairs ≡ left
rest_left kind key pairs left apart l =
    ap (rest_after kind key) l.parts ∙ rest_at kind key l.own l.value l.before left (subst (Apart kind) l.parts apart) l.same

every_kept : (P : List ℕ × ℕ → Type 0) (test : List ℕ × ℕ → Bool) (pairs : Pairs) → AllByRecursion P pairs → AllByRecursion P (filter test pairs)
every_kept P test [] all = tt
every_kept P test (e ∷ pairs) all = by (test e) (every_kept P test pairs all.1)
  where
    by : (t : Bool) → AllByRecursion P (filter test pairs) → AllByRecursion P (cond t (e ∷ filter test pairs) (filter test pairs))
    by true more = (all.0, more)
    by false more = more

apart_kept : (kind : Kind) (test : List ℕ × ℕ → Bool) (pairs : Pairs) → Apart kind pairs → Apart kind (filter test pairs)
apart_kept kind test [] apart = tt
apart_kept kind test (e ∷ pairs) apart = by (test e) (apart_kept kind test pairs apart.1)
  where
    by : (t : Bool) → Apart kind (filter test pairs) → Apart kind (cond t (e ∷ filter test pairs) (filter test pairs))
    by true more = (every_kept (OtherKey kind e.0) test pairs apart.0, more)
    by false more = more

-- what was left past a key, of the pairs of a prefix
pub past_left : {kind : Kind} {bytes : List ℕ} {pairs : Pairs} → Lists kind bytes pairs → (prefix key : List ℕ) (found : Pairs) (left : Left) → beginning kind prefix pairs ≡ found → IsPast kind key found (Some left)
    → left ≡ to_come (rest_after kind key (beginning kind prefix pairs))
past_left {kind = kind} {pairs = pairs} text prefix key found left is past =
    let apart = subst (Apart kind) is (apart_kept kind _ pairs (lists_apart text)) in
    past.0 ∙ ap to_come (sym (rest_left kind key found left.pairs apart past.1)) ∙ ap (λ ps. to_come (rest_after kind key ps)) (sym is)

-- a key after a front
value_behind : (kind : Kind) (front taken key : List ℕ) (pairs : Pairs) → same_key kind front taken ≡ true → value_at kind (with_run front pairs) (taken ++ key) ≡ value_at kind pairs key
value_behind kind front taken key [] same = refl
value_behind kind front taken key (e ∷ pairs) same = rw (same_behind kind front taken e.0 key same) (ap (cond (same_key kind e.0 key) (Some e.1)) (value_behind kind front taken key pairs same))

-- none of the keys after a front that the key does not begin with
pub value_elsewhere : (kind : Kind) (front key : List ℕ) (pairs : Pairs) → ((more : List ℕ) → same_key kind (front ++ more) key ≡ false) → value_at kind (with_run front pairs) key ≡ None
value_elsewhere kind front key [] other = refl
value_elsewhere kind front key (e ∷ pairs) other = rw (other e.0) (value_elsewhere kind front key pairs other)

-- what a key has after a front, edge by edge
edge_other : (kind : Kind) (edge : ℕ) (more left : List ℕ) → IsAfterEdge kind edge left None → same_key kind (edge ∷ more) left ≡ false
edge_other kind edge more [] other = refl
edge_other kind edge more (c ∷ left) other = rw (ne_eqb (fold_byte kind edge) (fold_byte kind c) (other c left refl)) refl

pub front_none : (kind : Kind) (front key left taken : List ℕ) (i : ℕ) → i < length front → key ≡ taken ++ left → same_key kind (take i front) taken ≡ true → IsAfterEdge kind (get_or front i 0) left None
    → (more : List ℕ) → same_key kind (front ++ more) key ≡ false
front_none kind front key left taken i inside is same other more =
    let e = get_or front i 0 in
    let split : front ++ more ≡ take i front ++ (e ∷ (drop (i + 1) front ++ more)) =
    ap (λ f. f ++ more) (sym (take-append-drop i front) ∙ ap (λ f. take i front ++ f) (drop_more front i 0 inside)) ∙ append_assoc (take i front) (e ∷ drop (i + 1) front) more in
    ap (λ f. same_key kind f key) split
    ∙ ap (same_key kind (take i front ++ (e ∷ (drop (i + 1) front ++ more)))) is
    ∙ same_behind kind (take i front) taken (e ∷ (drop (i + 1) front ++ more)) left same
    ∙ edge_other kind e (drop (i + 1) front ++ more) left other

pub front_more : (kind : Kind) (front key left taken : List ℕ) (i : ℕ) (more : List ℕ) → i < length front → key ≡ taken ++ left → same_key kind (take i front) taken ≡ true → IsAfterEdge kind (get_or front i 0) left (Some more)
    → (taken' : List ℕ) × (key ≡ taken' ++ more) × (same_key kind (take (i + 1) front) taken' ≡ true)
front_more kind front key left taken i more inside is same h =
    let e = get_or front i 0 in (
      taken ++ h.0 ∷ [],
      is ∙ ap (λ l. taken ++ l) h.1 ∙ sym (append_assoc taken (h.0 ∷ []) more),
      ap (λ f. same_key kind f (taken ++ h.0 ∷ [])) (take_more front i 0 inside) ∙ same_behind kind (take i front) taken (e ∷ []) (h.0 ∷ []) same ∙ rw (eq-eqb _ _ h.2) refl,
    )

-- what a place lists are the pairs of its text, after its run
pub place_below : (kind : Kind) (run trie : List ℕ) (pairs : Pairs) → ListsBehind kind run trie pairs → (below : Pairs) × Lists kind trie below × (pairs ≡ with_run run below)
place_below kind [] trie pairs lists = (pairs, lists, sym (with_run-none pairs))
place_below kind (b ∷ run) trie pairs lists =
    let inner = place_below kind run trie lists.0 lists.3 in
    (inner.0, inner.1, lists.2 ∙ ap (with_front b) inner.2 ∙ sym (with_run-front b run inner.0))

comes_into : (kind : Kind) (s : Shape) (c b : ℕ) (bytes key after rest : List ℕ) → key ≡ c ∷ after → AlwaysGoes kind s c b rest → Begins kind bytes s → AlwaysComes kind bytes key rest after 1
comes_into kind s c b bytes key after rest e goes begins pairs text =
    let g = goes bytes pairs text begins in
    subst (λ k. Comes text k rest after 1) (sym e) (record { below = g.below; inner = g.inner; answers = g.answers after; counts = g.counts after })

-- a literal that the key does not go on with
pub literal_none : (kind : Kind) (edge : ℕ) (rest left : List ℕ) → IsAfterEdge kind edge left None → NodeEnds kind (shapes.Shape.literal edge rest) left None
literal_none kind edge rest [] other = literal_ends kind edge rest [] refl
literal_none kind edge rest (c ∷ left) other = node_ends kind (shapes.Shape.literal edge rest) c (c ∷ left) left refl (literal_past kind edge c rest (other c left refl))

no_more : (n : ℕ) → n ≡ n - 0
no_more n = omega arith

-- the pairs after the edges from number i on are the last of a branch whose offsets rise
skip : (f : List ℕ → Pairs) (n w : ℕ) (behind : List ℕ) (i : ℕ) → i ≤ n → ((j : ℕ) → j < i → is_in_order n w behind j ≡ true)
    → (before : Pairs) × (of_targets f n w behind n ≡ before ++ of_targets f n w behind (n - i))
skip f n w behind zero h ordered = ([], ap (of_targets f n w behind) (no_more n))
skip f n w behind (suc i) h ordered =
    let s = skip f n w behind i (omega arith) (λ j less. ordered j (omega arith)) in
    let own = with_front (slice_index behind i) (f (target_of n w behind i)) in
    let one : of_targets f n w behind (n - i) ≡ own ++ of_targets f n w behind (n - suc i) = opened f n w behind i h ∙ rw (ordered i (omega arith)) refl in
    (s.0 ++ own, s.1 ∙ ap (λ ps. s.0 ++ ps) one ∙ sym (append_assoc s.0 own (of_targets f n w behind (n - suc i))))

-- Into the target of an edge of a branch.
module _ {kind : Kind} {bytes : List ℕ} {pairs : Pairs} (text : Lists kind bytes pairs) (n w : ℕ) (table behind : List ℕ) (begins : Begins kind bytes (shapes.Shape.branch n w table behind)) (place : ℕ) (inside : place < n) where
  last_targets : (before : Pairs) × (listed kind bytes ≡ before ++ of_targets (listed kind) n w behind (n - place))
  last_targets =
      let targets = (branch_opens text n w table behind begins).holds.has_targets in
      let s = skip (listed kind) n w behind place (omega arith) (λ j less. (let o = in_order targets j (omega arith) in is_order n w behind j o.0 o.1)) in
      (s.0, listed_behind kind bytes (shapes.Shape.branch n w table behind) begins ∙ s.1)

  pub branch_last : (key : List ℕ) (branches : List OpenBranch) (o p : OpenBranch) (target : Bor (List ℕ)) → Stands (length key) branches
      → o.edges ≡ n → o.width ≡ w → o.behind.now ≡ behind → o.next ≡ place → o.depth ≡ length key
      → p.edges ≡ o.edges → p.width ≡ o.width → p.behind.now ≡ o.behind.now → p.next ≡ suc o.next → p.depth ≡ o.depth
      → IsTargetResult o.edges o.width o.behind.now o.next (Some target)
      → (before : Pairs) × (pairs_left kind key bytes branches ≡ before ++ pairs_left kind (key ++ slice_index behind place ∷ []) target.now (p ∷ still_open branches))
  branch_last key branches o p target stands edges width behind_is next depth edges' width' behind' next' depth' got =
      let s = last_targets in
      let outer = still_open branches in
      let own : of_targets (listed kind) n w behind (n - place) ≡ pairs_behind kind o = rw (edges, width, behind_is, next) refl in
      let front : take o.depth key ≡ key = take_all o.depth key (omega arith) in
      let edge : slice_index o.behind.now o.next ≡ slice_index behind place = rw (behind_is, next) refl in
      let says = target_says kind o (Some target) (omega arith) got in
      let into = at_next kind key outer o target.now (omega arith) says p edges' width' behind' next' depth' in
      let later = pairs_open kind key outer in (
        with_run key s.0,
        ap (λ ps. with_run key (listed kind bytes) ++ ps) (sym (still_pairs kind key branches stands))
            ∙ ap (λ ps. with_run key ps ++ later) (s.1 ∙ ap (λ ps. s.0 ++ ps) own)
            ∙ ap (λ ps. ps ++ later) (run_append key s.0 (pairs_behind kind o))
            ∙ append_assoc (with_run key s.0) (with_run key (pairs_behind kind o)) later
            ∙ ap (λ k. with_run key s.0 ++ (with_run k (pairs_behind kind o) ++ pairs_open kind k outer)) (sym front)
            ∙ ap (λ ps. with_run key s.0 ++ ps) (sym into)
            ∙ ap (λ k. with_run key s.0 ++ pairs_left kind (k ++ slice_index o.behind.now o.next ∷ []) target.now (p ∷ outer)) front
            ∙ ap (λ e. with_run key s.0 ++ pairs_left kind (key ++ e ∷ []) target.now (p ∷ outer)) edge,
      )

-- A branch is opened, and the target of an edge that is the byte entered.
module _ (kind : Kind) (bytes : List ℕ) (n w : ℕ) (table behind : List ℕ) (begins : Begins kind bytes (shapes.Shape.branch n w table behind)) (place : ℕ) (inside : place < n) (byte : ℕ)
    (same : fold_byte kind (slice_index behind place) ≡ fold_byte kind byte) (key : List ℕ) (branches : List OpenBranch) (stands : Stands (length key) branches)
    (o : OpenBranch) (edges : o.edges ≡ n) (width : o.width ≡ w) (behind_is : o.behind.now ≡ behind) (next : o.next ≡ place) (begin : o.begin ≡ begin_of o.edges o.width o.behind.now o.next) (depth : o.depth ≡ length key)
    (target : Bor (List ℕ)) (got : IsTargetResult o.edges o.width o.behind.now o.next (Some target)) where
  shorter_target : length target.now < length bytes
  shorter_target =
      let short = read_shorter kind bytes _ (node_begun kind bytes (shapes.Shape.branch n w table behind) begins) in
      let is : targets_behind o.edges o.width o.behind.now ≡ targets_behind n w behind = rw (edges, width, behind_is) refl in
      let len : length target.now ≤ length (targets_behind n w behind) =
      subst (λ ts. length target.now ≤ length ts) is (subst (λ t. length t ≤ length (targets_behind o.edges o.width o.behind.now)) (sym got.0.2) (length-target o.edges o.width o.behind.now o.next)) in
      omega arith

  target_work : (p : OpenBranch) → p.edges ≡ o.edges → p.width ≡ o.width → p.behind.now ≡ o.behind.now → p.next ≡ suc o.next → p.begin ≡ o.begin + length target.now
      → work_left target.now (still_open (p ∷ still_open branches)) ≤ work_left bytes (still_open branches)
  target_work p edges' width' behind' next' begin' =
      let outer = still_open branches in
      let short = read_shorter kind bytes _ (node_begun kind bytes (shapes.Shape.branch n w table behind) begins) in
      let is : targets_behind p.edges p.width p.behind.now ≡ targets_behind n w behind = rw (edges', width', behind', edges, width, behind_is) refl in
      let own : targets_behind o.edges o.width o.behind.now ≡ targets_behind n w behind = rw (edges, width, behind_is) refl in
      let len = ap length is in
      let same = ap length own in
      let ends = target_ends o target begin got in
      let less = still_less (p ∷ outer) in
      omega (arith, ends.1, less)

  pub opens_into : (p : OpenBranch) → p.edges ≡ o.edges → p.width ≡ o.width → p.behind.now ≡ o.behind.now → p.next ≡ suc o.next → p.begin ≡ o.begin + length target.now → p.depth ≡ o.depth
      → AlwaysGoes kind (shapes.Shape.branch n w table behind) byte (slice_index behind place) target.now
      → GoesInto kind (shapes.Shape.branch n w table behind) byte bytes key branches target.now (key ++ slice_index behind place ∷ []) (p ∷ still_open branches)
  opens_into p edges' width' behind' next' begin' depth' goes =
      let outer = still_open branches in
      let edge = slice_index behind place in
      let front : take o.depth key ≡ key = take_all o.depth key (omega arith) in
      let is_open : IsOpen (length key) o = record { low = omega arith; inside = omega arith; begins = λ _. begin } in
      record {
        edge = edge;
        key_is = refl;
        same = same;
        goes = goes;
        shorter = shorter_target;
        work = target_work p edges' width' behind' next' begin';
        grouped = λ at. opens_grouped kind key bytes n w table behind branches begins o p target edges width behind_is place next inside depth got edges' width' behind' next' depth' at;
        stands = subst (λ k. Stands (length (k ++ edge ∷ [])) (p ∷ outer)) front
            (entered key outer o p target edge is_open (omega arith) got edges' width' behind' next' begin' depth' (subst (λ d. Nested d outer) (sym depth) (still_nested (length key) branches stands)));
        last = λ pairs text. branch_last text n w table behind begins place inside key branches o p target stands edges width behind_is next depth edges' width' behind' next' depth' got;
      }

-- Where a walk stands that goes down to a key: at these bytes, with the rest of the key, and with these branches open.
pub record Passing (kind : Kind) (bytes front whole at left key : List ℕ) (branches : List OpenBranch) : Type 0 where
  pub first : List ℕ
  pub sought : List ℕ
  pub whole_first : whole ≡ first ++ sought
  pub same_first : same_key kind front first ≡ true
  pub count : ℕ
  pub came : AlwaysComes kind bytes sought at left count
  pub taken : List ℕ
  pub whole_is : whole ≡ taken ++ left
  pub same : same_key kind key taken ≡ true
  pub stands : Stands (length key) branches
  pub work : work_left at (still_open branches) ≤ length bytes
  pub grouped : (pairs : Pairs) → Lists kind bytes pairs → AreGrouped kind key at branches
  pub last : (pairs : Pairs) → Lists kind bytes pairs → (before : Pairs) × (with_run front pairs ≡ before ++ pairs_left kind key at branches)

pub pass_starts : (kind : Kind) (bytes front whole left first : List ℕ) (branches : List OpenBranch) → Stands (length front) branches → still_open branches ≡ [] → ((kind : Kind) (key : List ℕ) (depth : ℕ) → AreEntered kind key depth branches) → whole ≡ first ++ left → same_key kind front first ≡ true
    → Passing kind bytes front whole bytes left front branches
pass_starts kind bytes front whole left first branches stands none are is same = record {
  first = first;
  sought = left;
  whole_first = is;
  same_first = same;
  count = 0;
  came = comes_nowhere kind bytes left;
  taken = first;
  whole_is = is;
  same = same;
  stands = stands;
  grouped = λ pairs text. ((pairs, text), are kind front (length front));
  work = (let all : work_open (still_open branches) ≡ 0 = ap work_open none in omega arith);
  last = λ pairs text. ([], sym (fresh_left kind front bytes branches stands none ∙ ap (with_run front) (listed_pairs text)));
}

module _ {kind : Kind} {bytes front whole at left key : List ℕ} {branches : List OpenBranch} (p : Passing kind bytes front whole at left key branches) where
  -- a walk goes on
  pub pass_on : {rest after key' : List ℕ} {branches' : List OpenBranch} → LeadsOn kind at left key branches rest after key' branches' → Passing kind bytes front whole rest after key' branches'
  pass_on {rest} {after} {key'} {branches'} on = record {
    first = p.first;
    sought = p.sought;
    whole_first = p.whole_first;
    same_first = p.same_first;
    count = p.count + on.count;
    came = comes_more kind bytes p.sought at left rest after p.count on.count p.came on.comes;
    taken = p.taken ++ on.taken;
    whole_is = p.whole_is ∙ ap (λ l. p.taken ++ l) on.left_is ∙ sym (append_assoc p.taken on.taken after);
    same = ap (λ k. same_key kind k (p.taken ++ on.taken)) on.key_is ∙ same_behind kind key p.taken on.run on.taken p.same ∙ on.same;
    stands = on.stands;
    work = (let a = on.work in let b = p.work in omega arith);
    grouped = λ pairs text. on.grouped (p.grouped pairs text);
    last = λ pairs text. (
        let all = p.last pairs text in
        let m = p.came pairs text in
        let b = on.last m.below m.inner in
        (all.0 ++ b.0, all.1 ∙ ap (λ ps. all.0 ++ ps) b.1 ∙ sym (append_assoc all.0 b.0 (pairs_left kind key' rest branches')))
        );
  }

  -- it comes to the value of the key
  pub pass_found : (v : ℕ) (rest : List ℕ) → Begins kind at (shapes.Shape.value v rest) → left ≡ [] → (pairs : Pairs) → Lists kind bytes pairs
      → LeavesAfter kind whole (with_run front pairs) (pairs_left kind key rest branches)
  pass_found v rest begins none pairs text =
      let all = p.last pairs text in
      let is : whole ≡ p.taken = p.whole_is ∙ ap (λ l. p.taken ++ l) none ∙ append-nil p.taken in
      record {
        before = all.0;
        own = key;
        value = v;
        parts = all.1 ∙ ap (λ ps. all.0 ++ ps) (at_value kind key at rest v branches (node_begun kind at _ begins));
        same = ap (same_key kind key) is ∙ p.same;
      }

  -- after it there are at most as many pairs as bytes
  pub pass_most : (v : ℕ) (rest : List ℕ) → Begins kind at (shapes.Shape.value v rest) → length (pairs_left kind key rest branches) ≤ length bytes
  pass_most v rest begins =
      let short : length rest < length at = read_shorter kind at (shapes.Shape.value v rest) (node_begun kind at _ begins) in
      let most = left_most kind key rest branches p.stands in
      let work = p.work in
      omega arith

  -- it finds nothing
  pub pass_none : AlwaysFinds kind at left None 1 → (pairs : Pairs) → Lists kind bytes pairs → value_at kind (with_run front pairs) whole ≡ None
  pass_none ends pairs text =
      ap (value_at kind (with_run front pairs)) p.whole_first
      ∙ value_behind kind front p.first p.sought pairs p.same_first
      ∙ (finds_at_end kind bytes p.sought at left None p.count p.came ends pairs text).answers

  pub pass_nowhere : node_of kind at ≡ None → (pairs : Pairs) → Lists kind bytes pairs → value_at kind (with_run front pairs) whole ≡ None
  pass_nowhere none pairs text =
      ap (value_at kind (with_run front pairs)) p.whole_first
      ∙ value_behind kind front p.first p.sought pairs p.same_first
      ∙ (finds_nothing kind bytes p.sought at left p.count p.came (λ s b. (let is = node_begun kind at s b in absurd (cc))) pairs text).answers

-- past a node, or along an edge
module _ (kind : Kind) {at left key : List ℕ} {branches : List OpenBranch} (stands : Stands (length key) branches) where
  pub leads_value : (v : ℕ) (rest : List ℕ) → Begins kind at (shapes.Shape.value v rest) → (length left ≡ 0 → ⊥) → LeadsOn kind at left key branches rest left key branches
  leads_value v rest begins some = let read = node_begun kind at _ begins in record {
    run = [];
    taken = [];
    key_is = sym (append-nil key);
    left_is = refl;
    same = refl;
    count = 1;
    comes = (value_goes kind v rest left some at begins).2;
    shorter = read_shorter kind at _ read;
    work = (let less = read_shorter kind at _ read in omega arith);
    grouped = λ at. after_value kind key _ rest v branches begins at;
    stands = stands;
    last = λ pairs text. ((key, v) ∷ [], at_value kind key at rest v branches read);
  }

  pub leads_literal : (edge : ℕ) (rest after : List ℕ) → Begins kind at (shapes.Shape.literal edge rest) → IsAfterEdge kind edge left (Some after)
      → LeadsOn kind at left key branches rest after (key ++ edge ∷ []) branches
  leads_literal edge rest after begins h = let read = node_begun kind at _ begins in record {
    run = edge ∷ [];
    taken = h.0 ∷ [];
    key_is = refl;
    left_is = h.1;
    same = rw (eq-eqb _ _ h.2) refl;
    count = 1;
    comes = comes_into kind (shapes.Shape.literal edge rest) h.0 edge at left after rest h.1 (literal_along kind edge h.0 rest h.2) begins;
    shorter = read_shorter kind at _ read;
    work = (let less = read_shorter kind at _ read in omega arith);
    grouped = λ at. after_literal kind key _ rest edge branches begins at;
    stands = stands_run key (edge ∷ []) branches stands;
    last = λ pairs text. ([], at_literal kind key at rest edge branches (first_open (length key) branches stands) read);
  }

  pub leads_span : (run rest after : List ℕ) → Begins kind at (shapes.Shape.span run rest) → left ≡ run ++ after
      → LeadsOn kind at left key branches rest after (key ++ run) branches
  leads_span run rest after begins is = let read = node_begun kind at _ begins in record {
    run = run;
    taken = run;
    key_is = refl;
    left_is = is;
    same = (same_equiv kind).refl run;
    count = 1;
    comes = (span_goes kind run rest left after is at begins).2;
    shorter = read_shorter kind at _ read;
    work = (let less = read_shorter kind at _ read in omega arith);
    grouped = λ at. after_span kind key _ run rest branches begins at;
    stands = stands_run key run branches stands;
    last = λ pairs text. ([], at_span kind key at run rest branches (first_open (length key) branches stands) read);
  }

-- into a target of a branch
pub leads_branch : {kind : Kind} {at left key : List ℕ} {branches : List OpenBranch} (node : Shape) (byte : ℕ) (rest after key' : List ℕ) (branches' : List OpenBranch) → Begins kind at node → left ≡ byte ∷ after
    → GoesInto kind node byte at key branches rest key' branches' → LeadsOn kind at left key branches rest after key' branches'
leads_branch {kind} {at} {left} node byte rest after key' branches' begins is g = record {
  run = g.edge ∷ [];
  taken = byte ∷ [];
  key_is = g.key_is;
  left_is = is;
  same = rw (eq-eqb _ _ g.same) refl;
  count = 1;
  comes = comes_into kind node byte g.edge at left after rest is g.goes begins;
  shorter = g.shorter;
  stands = g.stands;
  work = g.work;
  grouped = g.grouped;
  last = g.last;
}
