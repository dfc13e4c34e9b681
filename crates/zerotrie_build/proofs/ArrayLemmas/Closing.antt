-- One level after another is closed.
use Rattle.std.proofs.Common.{◌≡◌, ℕ, zero, suc, ◌+◌, ◌/◌, ◌^◌, ◌<◌, ◌≤◌, inl, inr, List, [], ◌∷◌, ◌++◌, length, refl, sym, ◌∙◌, ap, subst, arith, map, take, get_or, append_assoc, length-append, All, cond, ltb}
use Rattle.std.specs.List.{concat}
use Rattle.std.proofs.lemmas.Bool.{cond_both}
use Rattle.std.proofs.lemmas.List.{append-nil}
use Rattle.std.proofs.Math.Seq.{take-length}
use Rattle.std.proofs.Math.Nat.{eq-or-lt_of_le}
use Rattle.zerotrie_base.specs.Kind.{Kind, simple_ascii, ignore_case, perfect_hash, extended_capacity, IsAscii, fold_byte, ordered, greatest_width}
use Rattle.zerotrie_base.specs.Numbers.{value_form, SpellsAs}
use Rattle.zerotrie_base.specs.Maps.{Pairs, with_front, with_run, behind_all, edges}
use Rattle.zerotrie_base.specs.Texts.{Lists, ListEach}
use Rattle.zerotrie_base.specs.Texts.Lists.{nothing, value, literal}
use Rattle.zerotrie_base.specs.Texts.ListEach.{no_edge, edge}
use Rattle.zerotrie_base.specs.Branches.{total, branch_front}
use Rattle.zerotrie_base.specs.Canonical.{node}
use Rattle.zerotrie_base.specs.Fits.{OverflowsAt}
use Rattle.zerotrie_base.specs.Stack.{branch_need, stack_of}
use Rattle.zerotrie_base.proofs.CallerLemmas.{greatest_width_is, fold_ascii, Rises, lists_some, node_many, node_lists, not_empty_text, rises_distinct, bytes_all, targets_each, edges_count, edges_listed, stack_none, stack_value, stack_literal, stack_branch, stack_edges, above_edge, above_edges}
use Rattle.zerotrie_build.specs.declared.array.text.Sibling.{Sibling}
use Rattle.zerotrie_build.specs.array.Texts.{Counts, bytes_of, lens_of}
use Rattle.zerotrie_build.specs.array.Growing.{DepthsBelow, NoneAt, AllAt, ComesBefore, Aside, ReadyFor, ClosedTo, SomeBegins, AreAmong}
use Rattle.zerotrie_build.proofs.Runs.{with_run-nil, behind_all-run, take_one_more}
use Rattle.zerotrie_build.proofs.ArrayLemmas.Text.{total_first}
use Rattle.zerotrie_build.proofs.ArrayLemmas.Runs.{run_step, with_run-append, behind_all-append, among_left, among_right, leads_run, leads_edge, leads_key, need_behind}
use Rattle.zerotrie_build.proofs.ArrayLemmas.Parting.{Parted}
use Rattle.zerotrie_build.proofs.ArrayLemmas.Asides.{next_below, below_here, moved, nothing_aside, FirstFrom, counts_more, counts_same, each_low, need_more, gather, waiting, AboveAt}

-- a value node in front
pub with_value : (kind : Kind) (k : ℕ) (key : List ℕ) (v : ℕ) (spelling : List ℕ) (siblings : List Sibling) (front front' : ℕ) (bytes : List ℕ) (listed : Pairs) → SpellsAs value_form v spelling
    → ((m : ℕ) → Counts front m → Counts front' (length spelling + m)) → ReadyFor kind k key siblings front bytes listed
    → ClosedTo kind k key (length key) siblings front' (spelling ++ bytes) ((key, v) ∷ listed)
with_value kind k key v spelling siblings front front' bytes listed s more h = record {
  text = spelling ++ h.text;
  rest = h.rest;
  inner = ([], v) ∷ h.inner;
  others = h.others;
  is_front = (λ z. let e = ap (λ x. x ++ h.text) (sym s.bytes_are) ∙ z in absurd (cc), λ l. absurd (omega arith));
  lists = value s h.is_front h.lists;
  counts = counts_same _ _ _ (sym (length-append spelling h.text)) (more (length h.text) h.counts);
  enough = let e = stack_value kind v h.inner in let n = h.enough in omega arith;
  aside = h.aside;
  below = h.below;
  bytes_are = ap (λ x. spelling ++ x) h.bytes_are ∙ sym (append_assoc spelling h.text h.rest);
  pairs_are =
      ap (λ x. (key, v) ∷ x) h.pairs_are
      ∙ ap (λ x. (x, v) ∷ (with_run (take (length key) key) h.inner ++ h.others)) (sym (append-nil (take (length key) key) ∙ take-length key));
}

-- a literal in front
pub with_literal : (kind : Kind) (k : ℕ) (key : List ℕ) (d b : ℕ) (siblings : List Sibling) (front front' : ℕ) (bytes : List ℕ) (listed : Pairs) → d < length key → b ≡ get_or key d 0 → b < 128 → NoneAt d siblings
    → ((m : ℕ) → Counts front m → Counts front' (1 + m)) → ClosedTo kind k key (suc d) siblings front bytes listed → ClosedTo kind k key d siblings front' (b ∷ bytes) listed
with_literal kind k key d b siblings front front' bytes listed within is low none more h = record {
  text = b ∷ h.text;
  rest = h.rest;
  inner = with_front b h.inner;
  others = h.others;
  is_front = (λ z. absurd (cc), λ l four. let f : b / 32 ≡ 4 = four in omega arith);
  lists = literal low h.is_front.0 h.lists;
  counts = counts_same front' _ _ (let e : 1 + length h.text ≡ length (b ∷ h.text) = omega arith in e) (more (length h.text) h.counts);
  enough = let e = stack_literal kind b h.inner (omega arith) (lists_some h.lists h.is_front.0) in let n = h.enough in omega arith;
  aside = h.aside;
  below = below_here d siblings none h.below;
  bytes_are = ap (λ x. b ∷ x) h.bytes_are;
  pairs_are = h.pairs_are ∙ ap (λ x. x ++ h.others) (run_step key d h.inner within ∙ ap (λ c. with_run (take d key) (with_front c h.inner)) (sym is));
}

-- The targets of a branch stand in front.
pub record Opens (kind : Kind) (k : ℕ) (key : List ℕ) (d : ℕ) (taken after : List Sibling) (bytes : List ℕ) (listed : Pairs) : Type 0 where
  pub targets : List (List ℕ)
  pub node_pairs : Pairs
  pub rest : List ℕ
  pub others : Pairs
  pub each : ListEach kind (bytes_of taken) targets node_pairs
  pub rises : Rises kind (bytes_of taken)
  pub ascii : (i e : ℕ) → i < length (bytes_of taken) → get_or (bytes_of taken) i e < 128
  pub two : 2 ≤ length (bytes_of taken)
  pub count : length targets ≡ length (bytes_of taken)
  pub counts : Counts (total (lens_of taken)) (length (concat targets))
  pub lens : total (lens_of taken) < 2 ^ 32 → map length targets ≡ lens_of taken
  pub enough : length after + branch_need (stack_of kind) node_pairs (bytes_of taken) ≤ k
  pub aside : Aside kind k key after rest others
  pub below : DepthsBelow d after
  pub bytes_are : bytes ≡ concat targets ++ rest
  pub pairs_are : listed ≡ with_run (take d key) node_pairs ++ others

first_above : (kind : Kind) (k : ℕ) (key : List ℕ) (d : ℕ) (taken after : List Sibling) (rest : List ℕ) (others : Pairs) → AllAt d taken → Aside kind k key (taken ++ after) rest others → FirstFrom kind (fold_byte kind (get_or key d 0)) taken
first_above kind k key d [] after rest others level aside = tt
first_above kind k key d (s ∷ taken) after rest others level aside =
    let h : fold_byte kind (get_or key s.depth 0) < fold_byte kind s.byte = aside.1.above in
    subst (λ j. fold_byte kind (get_or key j 0) < fold_byte kind s.byte) level.0 h

at_least_two : (b : ℕ) (taken : List Sibling) → (taken ≡ [] → ⊥) → 2 ≤ length (b ∷ bytes_of taken)
at_least_two b [] h = absurd (h refl)
at_least_two b (s ∷ taken) h = omega arith

bytes-length : (ss : List Sibling) → length (bytes_of ss) ≡ length ss
bytes-length [] = refl
bytes-length (s ∷ ss) = ap suc (bytes-length ss)

below_after : (kind : Kind) (e k : ℕ) (key : List ℕ) (taken last : List Sibling) (rest : List ℕ) (others : Pairs) → DepthsBelow (suc e) (taken ++ last) → Aside kind k key (taken ++ last) rest others → DepthsBelow (suc e) last
below_after kind e k key [] last rest others below aside = below
below_after kind e k key (s ∷ taken) last rest others below aside = below_after kind e k key taken last aside.1.rest aside.1.others (next_below kind (suc e) s (taken ++ last) below aside.0) aside.1.behind

-- the text in front is the first target, and the siblings that are taken with it are the others
opens_with : (kind : Kind) (k : ℕ) (key : List ℕ) (d front : ℕ) (taken after : List Sibling) (bytes : List ℕ) (listed : Pairs)
    → d < length key → get_or key d 0 < 128 → AllAt d taken → NoneAt d after → (taken ≡ [] → ⊥) → length (taken ++ after) < k
    → ClosedTo kind k key (suc d) (taken ++ after) front bytes listed
    → Opens kind k key d (record { depth = d; byte = get_or key d 0; len = front } ∷ taken) after bytes listed
opens_with kind k key d front taken after bytes listed within low level none some room h =
    let b = get_or key d 0 in
    let g = gather kind k key d (fold_byte kind b) taken after h.rest h.others level (first_above kind k key d taken after h.rest h.others level h.aside) h.aside in
    let sum = total_first front (lens_of taken) in
    record {
      targets = h.text ∷ g.targets;
      node_pairs = with_front b h.inner ++ g.node;
      rest = g.rest_after;
      others = g.others_after;
      each = edge h.is_front.0 h.lists g.each;
      rises = (g.above, g.rises);
      ascii = each_low (bytes_of taken) low g.ascii;
      two = at_least_two b taken some;
      count = ap suc g.count;
      counts = subst (λ x. Counts x (length (h.text ++ concat g.targets))) (sym sum)
          (counts_same _ _ _ (sym (length-append h.text (concat g.targets))) (counts_more front (total (lens_of taken)) (length h.text) (length (concat g.targets)) h.counts g.counts));
      lens = λ l.
          ap (λ n. n ∷ map length g.targets) (let e : front < 2 ^ 32 = omega arith in sym (h.counts.small e))
          ∙ ap (λ ns. front ∷ ns) (g.lens (omega arith));
      enough =
          need_more kind b h.inner (length after) k g.each g.above
          (let c = bytes-length taken in let e = length-append taken after in omega arith)
          (let c = bytes-length taken in let e = length-append taken after in let n = h.enough in omega arith)
          (g.enough (omega arith));
      aside = g.aside;
      below = below_here d after none (below_after kind d k key taken after h.rest h.others h.below h.aside);
      bytes_are = h.bytes_are ∙ ap (λ r. h.text ++ r) g.rest_is ∙ sym (append_assoc h.text (concat g.targets) g.rest_after);
      pairs_are =
          h.pairs_are
          ∙ ap (λ x. x ++ h.others) (run_step key d h.inner within)
          ∙ ap (λ o. with_run (take d key) (with_front b h.inner) ++ o) g.others_are
          ∙ sym (append_assoc (with_run (take d key) (with_front b h.inner)) (with_run (take d key) g.node) g.others_after)
          ∙ ap (λ x. x ++ g.others_after) (sym (with_run-append (take d key) (with_front b h.inner) g.node));
    }

some_taken : (d : ℕ) (taken before after : List Sibling) → before ≡ taken ++ after → (NoneAt d before → ⊥) → NoneAt d after → taken ≡ [] → ⊥
some_taken d taken before after split some none e = some (subst (NoneAt d) (sym (split ∙ ap (λ t. t ++ after) e)) none)

-- the siblings that are taken, with the text in front first among them
pub opens : (kind : Kind) (k : ℕ) (key : List ℕ) (d front : ℕ) (before taken after : List Sibling) (bytes : List ℕ) (listed : Pairs)
    → d < length key → get_or key d 0 < 128 → (NoneAt d before → ⊥) → length before < k
    → record { depth = d; byte = get_or key d 0; len = front } ∷ before ≡ taken ++ after → AllAt d taken → NoneAt d after
    → ClosedTo kind k key (suc d) before front bytes listed → Opens kind k key d taken after bytes listed
opens kind k key d front before [] (t ∷ after) bytes listed within low some room split level none h =
    absurd (none (let e : record { depth = d; byte = get_or key d 0; len = front } ≡ t = cc in sym (ap (λ s. s.depth) e)))
opens kind k key d front before [] [] bytes listed within low some room split level none h = absurd (cc)
opens kind k key d front before (t ∷ taken) after bytes listed within low some room split level none h =
    let first : record { depth = d; byte = get_or key d 0; len = front } ≡ t = cc in
    let later : before ≡ taken ++ after = cc in
    subst (λ s. Opens kind k key d (s ∷ taken) after bytes listed) first
    (opens_with kind k key d front taken after bytes listed within low level.1 none (some_taken d taken before after later some none) (let e = ap length later in omega arith)
    (subst (λ x. ClosedTo kind k key (suc d) x front bytes listed) later h))

front_none : (b : ℕ) (pairs more : Pairs) → with_front b pairs ++ more ≡ [] → pairs ≡ []
front_none b [] more e = refl
front_none b (x ∷ pairs) more e = absurd (cc)

each_pairs : {kind : Kind} {es : List ℕ} {targets : List (List ℕ)} {pairs : Pairs} → ListEach kind es targets pairs → 2 ≤ length es → pairs ≡ [] → ⊥
each_pairs no_edge two none = omega arith
each_pairs (edge {e = e} {pairs = p} {more = m} n text each) two none = lists_some text n (front_none e p m none)

-- the branch in front of its targets
pub closed : (kind : Kind) (k : ℕ) (key : List ℕ) (d front : ℕ) (taken after : List Sibling) (bytes : List ℕ) (listed : Pairs) → IsAscii kind → Opens kind k key d taken after bytes listed → total (lens_of taken) < 2 ^ 32
    → Counts front (length (branch_front (bytes_of taken) (lens_of taken)) + total (lens_of taken))
    → ClosedTo kind k key d after front (branch_front (bytes_of taken) (lens_of taken) ++ bytes) listed
closed kind k key d front taken after bytes listed is_ascii o narrow counts =
    let es = bytes_of taken in
    let exact = o.counts.small narrow in
    let made = node_lists {kind = kind} is_ascii o.each o.rises o.ascii o.count (λ two. omega arith) in
    let some : o.node_pairs ≡ [] → ⊥ = each_pairs o.each o.two in
    let here : node es o.targets ≡ branch_front es (lens_of taken) ++ concat o.targets = node_many es o.targets o.two ∙ ap (λ n. branch_front es n ++ concat o.targets) (o.lens narrow) in
    let edges_are : ordered kind (edges o.node_pairs) ≡ es = edges_listed o.each o.rises (bytes_all es (λ i e h. let l = o.ascii i e h in omega arith)) in
    record {
      text = node es o.targets;
      rest = o.rest;
      inner = o.node_pairs;
      others = o.others;
      is_front = (not_empty_text made.lists some, λ l. made.no_value);
      lists = made.lists;
      counts = counts_same _ _ _ (ap (λ n. length (branch_front es (lens_of taken)) + n) exact ∙ sym (ap length here ∙ length-append (branch_front es (lens_of taken)) (concat o.targets))) counts;
      enough = let e = stack_branch kind o.node_pairs es edges_are o.two in let n = o.enough in omega arith;
      aside = o.aside;
      below = o.below;
      bytes_are =
          ap (λ x. branch_front es (lens_of taken) ++ x) o.bytes_are
          ∙ sym (append_assoc (branch_front es (lens_of taken)) (concat o.targets) o.rest)
          ∙ ap (λ x. x ++ o.rest) (sym here);
      pairs_are = o.pairs_are;
    }

-- targets of 2 ^ 32 bytes or more
pub too_wide : (kind : Kind) (k : ℕ) (key : List ℕ) (d : ℕ) (taken after : List Sibling) (bytes : List ℕ) (listed : Pairs) → IsAscii kind → Opens kind k key d taken after bytes listed → d ≤ length key
    → 2 ^ 32 ≤ total (lens_of taken) → OverflowsAt kind (take d key) listed
too_wide kind k key d taken after bytes listed is_ascii o within large =
    let behind : behind_all (take d key) listed ≡ o.node_pairs =
    ap (behind_all (take d key)) o.pairs_are ∙ behind_all-append (take d key) (with_run (take d key) o.node_pairs) o.others
    ∙ ap (λ x. x ++ behind_all (take d key) o.others) (behind_all-run (take d key) o.node_pairs)
    ∙ ap (λ x. o.node_pairs ++ x) (nothing_aside kind k key d after o.rest o.others within o.below o.aside) ∙ append-nil o.node_pairs in
    let bytes = bytes_all (bytes_of taken) (λ i e h. let l = o.ascii i e h in omega arith) in
    let apart = rises_distinct kind (bytes_of taken) o.rises in
    let sum = targets_each o.each apart bytes in
    let count = edges_count o.each apart bytes in
    let long = o.counts.large large in
    let two = o.two in
    let reach : 256 ^ (greatest_width kind + 1) ≡ 2 ^ 32 = ap (λ w. 256 ^ (w + 1)) (greatest_width_is kind is_ascii) in
    subst (OverflowsAt kind []) (sym behind) (omega arith, omega arith)

-- If siblings wait at this depth or below it and the text in front has to wait with them, a stack of this many is too small.
pub too_many : (kind : Kind) (k : ℕ) (key : List ℕ) (d : ℕ) (siblings : List Sibling) (front : ℕ) (bytes : List ℕ) (listed all : Pairs) → d < length key → All (λ b. b < 128) key
    → ClosedTo kind k key (suc d) siblings front bytes listed → k ≤ length siblings → AreAmong listed all → 2 ≤ length (edges (behind_all (take d key) all)) → k < stack_of kind all
too_many kind k key d siblings front bytes listed all within ascii h full among two =
    let b = get_or key d 0 in
    let p = behind_all (take d key) all in
    let low : b < 128 = ascii d 0 within in
    let some : h.inner ≡ [] → ⊥ = lists_some h.lists h.is_front.0 in
    let here : SomeBegins all (take d key) b =
    among (take d key) b (subst (λ q. SomeBegins q (take d key) b) (sym h.pairs_are)
    (among_left (with_run (take (suc d) key) h.inner) h.others (take d key) b
    (subst (λ r. SomeBegins (with_run r h.inner) (take d key) b) (sym (take_one_more key d within)) (leads_run (take d key) b h.inner some)))) in
    let there = leads_edge all (take d key) b (omega arith) here in
    let wait = waiting kind k key d b siblings h.rest h.others all within (above_at siblings h.rest h.others h.below h.aside) h.aside
    (λ f c l. among f c (subst (λ q. SomeBegins q f c) (sym h.pairs_are) (among_right (with_run (take (suc d) key) h.inner) h.others f c l))) in
    let itself = above_edges kind p b there in
    let need = stack_edges kind p two in
    let whole = need_behind kind (take d key) b all (low_front key d ascii) here in
    omega arith
  where
    above_at : (ss : List Sibling) (rest : List ℕ) (others : Pairs) → DepthsBelow (suc d) ss → Aside kind k key ss rest others → AboveAt kind d (get_or key d 0) ss
    above_at [] rest others below aside = tt
    above_at (s ∷ ss) rest others below aside =
        let le : s.depth ≤ d = omega arith in
        elim (eq-or-lt_of_le le) [
          | inl same ↦ inl (same, subst (λ j. fold_byte kind (get_or key j 0) < fold_byte kind s.byte) same aside.1.above)
          | inr less ↦ inr less
        ]

    low_front : (xs : List ℕ) (n : ℕ) → All (λ b. b < 128) xs → (i e : ℕ) → i < length (take n xs) → get_or (take n xs) i e < 128
    low_front [] zero low i e h = absurd (let g : i < 0 = h in omega arith)
    low_front [] (suc n) low i e h = absurd (let g : i < 0 = h in omega arith)
    low_front (x ∷ xs) zero low i e h = absurd (let g : i < 0 = h in omega arith)
    low_front (x ∷ xs) (suc n) low zero e h = low 0 0 (omega arith)
    low_front (x ∷ xs) (suc n) low (suc i) e h = low_front xs n (λ j f l. low (suc j) f (let g : suc j < suc (length xs) = omega arith in g)) i e (let g : suc i < suc (length (take n xs)) = h in omega arith)

-- two edges, of which one is a sibling's
pub two_aside : (kind : Kind) (k : ℕ) (key : List ℕ) (d : ℕ) (siblings : List Sibling) (front : ℕ) (bytes : List ℕ) (listed all : Pairs) → d < length key → All (λ b. b < 128) key
    → ClosedTo kind k key (suc d) siblings front bytes listed → (NoneAt d siblings → ⊥) → AreAmong listed all → 2 ≤ length (edges (behind_all (take d key) all))
two_aside kind k key d [] front bytes listed all within ascii h there among = absurd (there tt)
two_aside kind k key d (s ∷ siblings) front bytes listed all within ascii h there among =
    let b = get_or key d 0 in
    let low : b < 128 = ascii d 0 within in
    let some : h.inner ≡ [] → ⊥ = lists_some h.lists h.is_front.0 in
    let a = h.aside.1 in
    let more : a.inner ≡ [] → ⊥ = lists_some a.lists a.some in
    let here : SomeBegins all (take d key) b =
    among (take d key) b (subst (λ q. SomeBegins q (take d key) b) (sym h.pairs_are)
    (among_left (with_run (take (suc d) key) h.inner) h.others (take d key) b
    (subst (λ r. SomeBegins (with_run r h.inner) (take d key) b) (sym (take_one_more key d within)) (leads_run (take d key) b h.inner some)))) in
    let aside : SomeBegins all (take s.depth key) s.byte =
    among (take s.depth key) s.byte (subst (λ q. SomeBegins q (take s.depth key) s.byte) (sym h.pairs_are)
    (among_right (with_run (take (suc d) key) h.inner) h.others (take s.depth key) s.byte
    (subst (λ q. SomeBegins q (take s.depth key) s.byte) (sym a.pairs_are)
    (among_left (with_run (take s.depth key ++ s.byte ∷ []) a.inner) a.others (take s.depth key) s.byte (leads_run (take s.depth key) s.byte a.inner more))))) in
    let level : (s.depth ≡ d → ⊥) → ⊥ = λ ne. there ne in
    elim (eq-or-lt_of_le (let le : s.depth ≤ d = (let g = h.below in omega arith) in le)) [
      | inl same ↦
          let p = behind_all (take d key) all in
          let low_byte = a.low in
          let first = leads_edge all (take d key) b (omega arith) here in
          let other = leads_edge all (take d key) s.byte (omega arith) (subst (λ j. SomeBegins all (take j key) s.byte) same aside) in
          let up : fold_byte kind b < fold_byte kind s.byte = subst (λ j. fold_byte kind (get_or key j 0) < fold_byte kind s.byte) same a.above in
          let one = above_edge kind p b s.byte up other in
          let within_all = above_edges kind p b first in
          omega arith
      | inr less ↦ absurd (level (λ e. omega arith))
    ]

-- a byte is no higher than its fold
fold_least : (kind : Kind) (b : ℕ) → b ≤ fold_byte kind b
fold_least simple_ascii b = omega arith
fold_least ignore_case b =
    cond_both (ltb b 65) b (cond (ltb b 91) (b + 32) b) (λ n. b ≤ n) (λ h. omega arith) (λ h. cond_both (ltb b 91) (b + 32) b (λ n. b ≤ n) (λ i. omega arith) (λ i. omega arith))
fold_least perfect_hash b = omega arith
fold_least extended_capacity b = omega arith

-- two edges, of which one is that of the key before
pub two_before : (kind : Kind) (k : ℕ) (before key : List ℕ) (v d : ℕ) (siblings : List Sibling) (front : ℕ) (bytes : List ℕ) (listed all : Pairs) → d < length key → All (λ b. b < 128) key
    → Parted kind before key d → d < length before → ClosedTo kind k key (suc d) siblings front bytes listed → AreAmong ((before, v) ∷ listed) all → 2 ≤ length (edges (behind_all (take d key) all))
two_before kind k before key v d siblings front bytes listed all within ascii parts longer h among =
    let b = get_or key d 0 in
    let low : b < 128 = ascii d 0 within in
    let some : h.inner ≡ [] → ⊥ = lists_some h.lists h.is_front.0 in
    let here : SomeBegins all (take d key) b =
    among (take d key) b (among_right ((before, v) ∷ []) listed (take d key) b (subst (λ q. SomeBegins q (take d key) b) (sym h.pairs_are)
    (among_left (with_run (take (suc d) key) h.inner) h.others (take d key) b
    (subst (λ r. SomeBegins (with_run r h.inner) (take d key) b) (sym (take_one_more key d within)) (leads_run (take d key) b h.inner some))))) in
    let lower = parts.less longer in
    let other : SomeBegins all (take d key) (get_or before d 0) = subst (λ f. SomeBegins all f (get_or before d 0)) (parts.same d (omega arith)) (among (take d before) (get_or before d 0) (leads_key before d v listed longer)) in
    let p = behind_all (take d key) all in
    let first = leads_edge all (take d key) b (omega arith) here in
    let most = fold_ascii kind b low in
    let least = fold_least kind (get_or before d 0) in
    let second = leads_edge all (take d key) (get_or before d 0) (omega arith) other in
    let one = above_edge kind p (get_or before d 0) b lower first in
    let within_all = above_edges kind p (get_or before d 0) second in
    omega arith

comes_first : (kind : Kind) (k : ℕ) (key : List ℕ) (c b len : ℕ) (siblings : List Sibling) (bytes : List ℕ) (pairs : Pairs) → b ≡ get_or key c 0 → DepthsBelow (suc c) siblings → Aside kind k key siblings bytes pairs
    → ComesBefore kind (record { depth = c; byte = b; len = len }) siblings
comes_first kind k key c b len [] bytes pairs is below aside = tt
comes_first kind k key c b len (t ∷ siblings) bytes pairs is below aside =
    let le : t.depth ≤ c = omega arith in
    elim (eq-or-lt_of_le le) [
      | inl same ↦
          let h : fold_byte kind (get_or key t.depth 0) < fold_byte kind t.byte = aside.1.above in
          let g : fold_byte kind (get_or key c 0) < fold_byte kind t.byte = subst (λ j. fold_byte kind (get_or key j 0) < fold_byte kind t.byte) same h in
          inr (same, subst (λ x. fold_byte kind x < fold_byte kind t.byte) (sym is) g)
      | inr less ↦ inl less
    ]

low_enough : (kind : Kind) (before key : List ℕ) (c : ℕ) → Parted kind before key c → c < length before → (j : ℕ) → j < suc c → fold_byte kind (get_or before j 0) ≤ fold_byte kind (get_or key j 0)
low_enough kind before key c p more j h =
    let le : j ≤ c = omega arith in
    elim (eq-or-lt_of_le le) [
      | inl same ↦ let l = p.less more in rw same (omega arith)
      | inr less ↦ let e = ap (fold_byte kind) (p.equal j less) in omega arith
    ]

-- the text is set aside, and the key before has none yet
pub set_aside : (kind : Kind) (k : ℕ) (before key : List ℕ) (c b front : ℕ) (siblings : List Sibling) (bytes : List ℕ) (listed : Pairs) → Parted kind before key c → c < length before → b ≡ get_or key c 0 → b < 128
    → length siblings < k → ClosedTo kind k key (suc c) siblings front bytes listed → ReadyFor kind k before (record { depth = c; byte = b; len = front } ∷ siblings) 0 bytes listed
set_aside kind k before key c b front siblings bytes listed p more is low room h = record {
  text = [];
  rest = bytes;
  inner = [];
  others = listed;
  is_front = tt;
  lists = nothing;
  counts = record { small = λ l. refl; large = λ l. l };
  enough = let e = stack_none kind in omega arith;
  aside = (
    comes_first kind k key c b front siblings h.rest h.others is h.below h.aside,
    record {
      text = h.text;
      rest = h.rest;
      inner = h.inner;
      others = h.others;
      within = more;
      above = subst (λ x. fold_byte kind (get_or before c 0) < fold_byte kind x) (sym is) (p.less more);
      low = low;
      some = h.is_front.0;
      lists = h.lists;
      counts = h.counts;
      enough = h.enough;
      behind = moved kind k key before (suc c) siblings h.rest h.others (omega arith) (λ j l. p.same j (omega arith)) (low_enough kind before key c p more) h.below h.aside;
      bytes_are = h.bytes_are;
      pairs_are =
          h.pairs_are
          ∙ ap (λ run. with_run run h.inner ++ h.others) (take_one_more key c p.room ∙ ap (λ x. take c key ++ x ∷ []) (sym is) ∙ ap (λ x. x ++ b ∷ []) (sym (p.same c (omega arith))));
    },
  );
  below = more;
  bytes_are = refl;
  pairs_are = refl;
}

-- the key before is a front of the key
pub goes_on : (kind : Kind) (k : ℕ) (before key : List ℕ) (c : ℕ) (siblings : List Sibling) (front : ℕ) (bytes : List ℕ) (listed : Pairs) → Parted kind before key c → c ≡ length before
    → ClosedTo kind k key c siblings front bytes listed → ReadyFor kind k before siblings front bytes listed
goes_on kind k before key c siblings front bytes listed p ends h = record {
  text = h.text;
  rest = h.rest;
  inner = h.inner;
  others = h.others;
  is_front = h.is_front.1 p.room;
  lists = h.lists;
  counts = h.counts;
  enough = h.enough;
  aside = moved kind k key before c siblings h.rest h.others p.upto (λ j l. p.same j (omega arith)) (λ j l. let e = ap (fold_byte kind) (p.equal j l) in omega arith) h.below h.aside;
  below = subst (λ n. DepthsBelow n siblings) ends h.below;
  bytes_are = h.bytes_are;
  pairs_are = h.pairs_are ∙ ap (λ run. with_run run h.inner ++ h.others) (sym (p.same c (omega arith)) ∙ ap (λ n. take n before) ends);
}

-- at depth 0 nothing is set aside
pub whole : (kind : Kind) (k : ℕ) (key : List ℕ) (siblings : List Sibling) (front : ℕ) (bytes : List ℕ) (listed : Pairs) → ClosedTo kind k key 0 siblings front bytes listed → Lists kind bytes listed × (stack_of kind listed ≤ k)
whole kind k key [] front bytes listed h =
    let bytes_is : bytes ≡ h.text = h.bytes_are ∙ ap (λ r. h.text ++ r) h.aside.0 ∙ append-nil h.text in
    let pairs_is : listed ≡ h.inner = h.pairs_are ∙ ap (λ o. with_run [] h.inner ++ o) h.aside.1 ∙ append-nil (with_run [] h.inner) ∙ with_run-nil h.inner in
    (subst (λ x. Lists kind x listed) (sym bytes_is) (subst (Lists kind h.text) (sym pairs_is) h.lists), let e = ap (stack_of kind) pairs_is in let n = h.enough in omega arith)
whole kind k key (s ∷ siblings) front bytes listed h = absurd (let g : s.depth < 0 = h.below in omega arith)
