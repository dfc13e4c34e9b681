-- Where a sorted listing stands, node by node.
use Rattle.std.proofs.Common.{◌≡◌, ℕ, suc, ◌<◌, ◌≤◌, List, [], ◌∷◌, ◌++◌, length, take, refl, sym, ◌∙◌, ap, subst, arith, Option, Some, None, Bool, true, false, cond, inl, inr, append_assoc, Ordering, Less, Equal, Greater, length-append}
use Rattle.std.specs.Prelude.{◌≢◌, ◌||◌, ◌&&◌, nat_le}
use Rattle.std.specs.Borrow.{Bor}
use Rattle.std.specs.Cmp.{nat_cmp_is, tied_itself, nat_cmp_total}
use Rattle.std.specs.Cmp.Lexicographic.{slice_cmp}
use Rattle.std.specs.Ordering.{nat_cmp, is_le, is_lt, ordering_then}
use Rattle.std.proofs.lemmas.Bool.{eq-eqb, ne_eqb, cases_eq, cases_lt}
use Rattle.std.proofs.lemmas.List.{append-nil, length-drop}
use Rattle.zerotrie_base.specs.Kind.{Kind, simple_ascii}
use Rattle.zerotrie_base.specs.Maps.{Pairs, value_at, residual, behind_all, begins_some, edges, with_front, with_run}
use Rattle.zerotrie_base.specs.Branches.{before_edges}
use Rattle.zerotrie_base.specs.Texts.{Lists, ListEach}
use Rattle.zerotrie_base.specs.Texts.ListEach.{no_edge, edge}
use Rattle.zerotrie_base.specs.Nodes.{Begins, BeginsSpan}
use Rattle.zerotrie_base.specs.Numbers.{BeginsWith}
use Rattle.zerotrie_base.specs.Nodes.Shape.{value, literal, span, branch}
use Rattle.zerotrie_base.proofs.MapLemmas.Edges.{member}
use Rattle.zerotrie_base.proofs.MapLemmas.Values.{behind_none}
use Rattle.zerotrie_base.proofs.MapLemmas.Spans.{with_run-front, with_run-none, value_at-no_run}
use Rattle.zerotrie_base.proofs.CanonicalLemmas.Canonical as canonical
use Rattle.zerotrie_base.proofs.CanonicalLemmas.Canonical.{begins_each, lists_some, nil_end}
use Rattle.zerotrie_base.proofs.NodeLemmas.Opened.{value_opens, literal_opens, span_opens, branch_opens}
use Rattle.zerotrie_core.specs.ByteSets.{is_in}
use Rattle.zerotrie_core.specs.Shapes.{branch_shape}
use Rattle.zerotrie_core.specs.listing.Listed.{listed, listed_to, of_node, node_of}
use Rattle.zerotrie_core.specs.declared.branch.Branch.{Branch}
use Rattle.zerotrie_core.proofs.ForCallers.{listed_pairs}
use Rattle.zerotrie_search.specs.Paths.{SameFrom, NoneFrom, is_from}
use Rattle.zerotrie_search.specs.Forks.{is_among, NoEdge, SameEdges, IsFork, IsRun, AreForks, Arrives, ArrivesOrEnds, Stands, StandsOrEnds, Follows, IsPastValue, bound_by, need}
use Rattle.zerotrie_search.specs.declared.sorted.fork.Fork.{Fork}
use Rattle.zerotrie_search.proofs.OrderLemmas.{some_none, from_low, from_same, one_from, lift, same_more, value_exact, behind_more}
use Rattle.zerotrie_core.proofs.CallerLemmas.{value_at-residual}
use Rattle.zerotrie_search.proofs.ForkLemmas.{yes_second, a_begin, forks_run, behind_is, to_run, run_key, same_value, none_there, no_key, past_byte, arrived, stands_whole, front_from, same_begin}
use Rattle.zerotrie_search.proofs.RoomLemmas.{need_opened, edge_byte}
use Rattle.zerotrie_search.proofs.LeftLemmas.{le_more, above_other}

-- the edges of a branch are the first bytes of its keys
among_member : (c : ℕ) (edges : List ℕ) → is_among c edges ≡ member c edges
among_member c [] = refl
among_member c (e ∷ edges) = elim (cases_eq c e) [
  | inl same ↦ ap (λ t. t || is_among c edges) (eq-eqb c e same) ∙ sym (ap (λ t. t || member c edges) (eq-eqb e c (sym same)))
  | inr other ↦ ap (λ t. t || is_among c edges) (ne_eqb c e other) ∙ among_member c edges ∙ sym (ap (λ t. t || member c edges) (ne_eqb e c (λ s. other (sym s))))
]

module _ {kind : Kind} {bytes : List ℕ} {below : Pairs} (text : Lists kind bytes below) (b : Branch) (begins : Begins kind bytes (branch_shape b)) where
  -- the edges from some byte on are left
  pub fork_left : (pairs : Pairs) → SameEdges below pairs → (f : Fork) (from : ℕ) → ((c : ℕ) → is_in f.left c ≡ (nat_le from c && is_among c (take b.edges b.behind.now))) → (c : ℕ) → is_in f.left c ≡ (nat_le from c && begins_some pairs c)
  fork_left pairs same f from left c =
      let o = branch_opens text b.edges b.width b.table.now b.behind.now begins in
      left c ∙ ap (λ t. nat_le from c && t) (among_member c (take b.edges b.behind.now) ∙ ap (member c) o.holds.edges_are ∙ sym (begins_each o.opens.each c) ∙ ap (λ ps. begins_some ps c) (sym o.opens.same) ∙ same_begin below pairs same c)

  pub fork_opened : (pairs : Pairs) → SameEdges below pairs → (f : Fork) (from : ℕ) → f.branch ≡ b → f.room ≡ length b.behind.now → ((c : ℕ) → is_in f.left c ≡ (nat_le from c && is_among c (take b.edges b.behind.now))) → IsFork kind pairs f from
  fork_opened pairs same f from is room left =
      let are = fork_left pairs same f from left in
      record {
        opens = record {
          bytes = bytes;
          below = below;
          text = text;
          begins = subst (λ x. Begins kind bytes (branch_shape x)) (sym is) begins;
          same = same;
          edges = λ c here. (
              let begun = yes_second (nat_le from c) (begins_some pairs c) (sym (are c) ∙ here) in
              (edge_byte text b.edges b.width b.table.now b.behind.now begins c (same_begin below pairs same c ∙ begun), a_begin pairs c begun)
              );
          room = subst (λ n. need kind below f.left (edges below) ≤ n) (sym room) (need_opened text b.edges b.width b.table.now b.behind.now begins f.left);
        };
        left = are;
      }

  pub branch_no_value : value_at simple_ascii below [] ≡ None
  branch_no_value =
      let o = branch_opens text b.edges b.width b.table.now b.behind.now begins in
      sym (value_exact kind below) ∙ ap (λ ps. value_at kind ps []) o.opens.same ∙ behind_none o.opens.each

-- where no node begins nothing is listed
nothing_there : (kind : Kind) (bytes : List ℕ) → node_of kind bytes ≡ None → listed kind bytes ≡ []
unfolding listed
nothing_there kind [] e = refl
nothing_there kind (b ∷ bytes) e = ap (of_node (listed_to (length bytes) kind)) e

pub none_listed : {kind : Kind} {bytes : List ℕ} {pairs : Pairs} → Lists kind bytes pairs → node_of kind bytes ≡ None → pairs ≡ []
none_listed {kind = kind} {bytes = bytes} text none = sym (listed_pairs text) ∙ nothing_there kind bytes none

-- runs: a literal, and a span
one_run : {kind : Kind} {b : ℕ} {rest : List ℕ} {pairs : Pairs} → ListEach kind (b ∷ []) (rest ∷ []) pairs → (below : Pairs) × Lists kind rest below × (pairs ≡ with_run (b ∷ []) below) × (b ∷ [] ≢ []) × (rest ≢ [])
one_run {b = b} (edge {pairs = below} some text no_edge) =
    (below, text, nil_end (with_front b below) ∙ sym (with_run-front b [] below ∙ ap (with_front b) (with_run-none below)), (λ e. absurd (cc)), some)

pub literal_run : (kind : Kind) (bytes : List ℕ) (b : ℕ) (rest : List ℕ) → Begins kind bytes (literal b rest) → IsRun kind bytes (b ∷ []) rest
literal_run kind bytes b rest begins pairs text =
    let o = literal_opens text b rest begins.0 begins.1 in
    let r = one_run o.each in
    (r.0, r.1, o.same ∙ r.2, r.3, r.4)

pub span_run : (kind : Kind) (bytes run rest : List ℕ) → Begins kind bytes (span run rest) → IsRun kind bytes run rest
span_run kind bytes run rest begins pairs text = let s = span_opens text run rest begins.1 in (s.below, s.inner, s.is, s.some, s.more)

module _ {kind : Kind} {pairs : Pairs} {bound key bytes : List ℕ} {forks : List Fork} (s : Stands kind pairs bound key bytes forks) where
  from_behind : value_at simple_ascii s.below [] ≡ None → SameFrom pairs bound (key ++ 0 ∷ [])
  from_behind none = subst (λ x. SameFrom pairs bound (bound_by key x)) none s.from

  -- over a run
  pub stands_run : (run after : List ℕ) → IsRun kind bytes run after → Stands kind pairs bound (key ++ run) after forks × (after ≢ [])
  stands_run run after is =
      let r = is s.below s.text in
      let same : SameEdges (with_run run r.0) (behind_all key pairs) = λ c. ap (residual c) (sym r.2) ∙ s.same c in
      let none : value_at simple_ascii s.below [] ≡ None = ap (λ ps. value_at simple_ascii ps []) r.2 ∙ value_at-no_run simple_ascii run r.0 r.3 in
      let all = behind_is run key r.0 pairs r.3 same in (
        arrived (record {
          text = subst (Lists kind after) all r.1;
          some = λ e. lists_some r.1 r.4 (all ∙ e);
          way = forks_run kind pairs forks run key r.0 same s.way;
          from = same_more pairs bound (key ++ 0 ∷ []) (key ++ run) (from_behind none) (lift pairs key (0 ∷ []) run (to_run run r.0 (behind_all key pairs) r.3 same));
        }),
        r.4,
      )

  -- some edge is left as long as there are bytes without a value
  pub stands_some : bytes ≢ [] → value_at simple_ascii s.below [] ≡ None → NoEdge (behind_all key pairs) 0 → ⊥
  stands_some some none edges = lists_some s.text some (none_there s.below none (λ c h. s.same c ∙ edges c h))

  pub stands_node : bytes ≢ [] → node_of kind bytes ≡ None → ⊥
  stands_node some none = lists_some s.text some (none_listed s.text none)

-- the value of a key is that of its rest behind its front
pub value_front : (p q : List ℕ) (pairs : Pairs) → value_at simple_ascii (behind_all p pairs) q ≡ value_at simple_ascii pairs (p ++ q)
value_front [] q pairs = refl
value_front (b ∷ p) q pairs = value_front p q (residual b pairs) ∙ value_at-residual b pairs (p ++ q)

-- keys that go on with a run that is below the rest of a bound
past_run : (run left more : List ℕ) → (slice_cmp nat_cmp left run ≡ Less → ⊥) → ((rest : List ℕ) → left ≡ run ++ rest → ⊥) → is_from left (run ++ more) ≡ false
past_run [] left more low other = absurd (other left refl)
past_run (b ∷ run) [] more low other = absurd (low refl)
past_run (b ∷ run) (a ∷ left) more low other = elim (cases_lt b a) [
  | inl under ↦ from_low a b left (run ++ more) under
  | inr high ↦ elim (cases_eq a b) [
    | inl same ↦ from_same a b left (run ++ more) same ∙ past_run run left more
        (λ e. low (ap (λ o. ordering_then o (slice_cmp nat_cmp left run)) (ap (nat_cmp a) (sym same) ∙ tied_itself nat_cmp_total a) ∙ e))
        (λ rest e. other rest (ap (λ x. x ∷ left) same ∙ ap (λ k. b ∷ k) e))
    | inr differs ↦ absurd (low (ap (λ o. ordering_then o (slice_cmp nat_cmp left run)) (sym (nat_cmp_is a b Less (omega (arith, high, differs))))))
  ]
]

-- past a byte that leads nowhere, and all that are above it
none_from : (pairs : Pairs) (byte : ℕ) (more : List ℕ) → residual byte pairs ≡ [] → NoEdge pairs (suc byte) → NoneFrom pairs (byte ∷ more)
none_from pairs byte more none edges [] v e = refl
none_from pairs byte more none edges (d ∷ key) v e = elim (cases_lt d byte) [
  | inl low ↦ from_low byte d more key low
  | inr high ↦ elim (cases_eq d byte) [
    | inl same ↦ absurd (no_key pairs d key v (ap (λ x. residual x pairs) same ∙ none) e)
    | inr other ↦ absurd (no_key pairs d key v (edges d (omega (arith, high, other))) e)
  ]
]

-- a bound that is no key, or what comes behind it
pub behind_bound : (pairs : Pairs) (bound : List ℕ) → value_at simple_ascii pairs bound ≡ None → SameFrom pairs (bound ++ 0 ∷ []) bound
behind_bound pairs bound none q v e = above_other bound q (λ same. some_none v (sym e ∙ ap (value_at simple_ascii pairs) (sym same) ∙ none))

none_value : (pairs : Pairs) (key : List ℕ) → ((v : ℕ) → value_at simple_ascii pairs key ≡ Some v → ⊥) → value_at simple_ascii pairs key ≡ None
none_value pairs key h = by (value_at simple_ascii pairs key) refl
  where
    by : (x : Option ℕ) → value_at simple_ascii pairs key ≡ x → x ≡ None
    by None e = refl
    by (Some v) e = absurd (h v e)

module _ {kind : Kind} {pairs : Pairs} {bound left key bytes : List ℕ} {forks : List Fork} (f : Follows kind pairs bound left key bytes forks) where
  bound_value : value_at simple_ascii (behind_all key pairs) left ≡ value_at simple_ascii pairs bound
  bound_value = value_front key left pairs ∙ ap (value_at simple_ascii pairs) (sym f.is)

  no_bound : ((v : ℕ) → value_at simple_ascii (behind_all key pairs) left ≡ Some v → ⊥) → value_at simple_ascii pairs bound ≡ None
  no_bound h = sym bound_value ∙ none_value (behind_all key pairs) left h

  from_left : (x : List ℕ) → SameFrom (behind_all key pairs) left x → SameFrom pairs bound (key ++ x)
  from_left x same = subst (λ b. SameFrom pairs b (key ++ x)) (sym f.is) (lift pairs key left x same)

  -- past a value in front of a byte
  pub follows_value : (v : ℕ) (after : List ℕ) → left ≢ [] → Begins kind bytes (value v after) → Follows kind pairs bound left key after forks
  follows_value v after some begins =
      let o = value_opens f.text v after begins in
      record {
        below = o.below;
        text = o.inner;
        same = λ c. ap (residual c) (sym o.is) ∙ f.same c;
        whole = λ e. absurd (some e);
        way = f.way;
        is = f.is;
      }

  -- along a run, before it, and past it
  module _ (run after : List ℕ) (is : IsRun kind bytes run after) where
    same_run : SameEdges (with_run run (is f.below f.text).0) (behind_all key pairs)
    same_run c = ap (residual c) (sym (is f.below f.text).2) ∙ f.same c

    pub follows_run : (more : List ℕ) → left ≡ run ++ more → Follows kind pairs bound more (key ++ run) after forks
    follows_run more begins =
        let r = is f.below f.text in
        let all = behind_is run key r.0 pairs r.3 same_run in
        record {
          below = r.0;
          text = r.1;
          same = λ c. ap (residual c) all;
          whole = λ e. all;
          way = forks_run kind pairs forks run key r.0 same_run f.way;
          is = f.is ∙ ap (λ k. key ++ k) begins ∙ sym (append_assoc key run more);
        }

    module _ (byte : ℕ) (more : List ℕ) (left_is : left ≡ byte ∷ more) (other : (rest : List ℕ) → left ≡ run ++ rest → ⊥) where
      -- each key there goes on with the run
      with_it : (c : ℕ) (q : List ℕ) (v : ℕ) → value_at simple_ascii (behind_all key pairs) (c ∷ q) ≡ Some v → (rest : List ℕ) × (c ∷ q ≡ run ++ rest)
      with_it c q v e = run_key run (is f.below f.text).0 (c ∷ q) v (same_value (with_run run (is f.below f.text).0) (behind_all key pairs) same_run c q ∙ e)

      pub run_no_bound : value_at simple_ascii pairs bound ≡ None
      run_no_bound = no_bound (λ v e. (let r = with_it byte more v (ap (value_at simple_ascii (behind_all key pairs)) (sym left_is) ∙ e) in other r.0 (left_is ∙ r.1)))

      before_run : slice_cmp nat_cmp left run ≡ Less → SameFrom (behind_all key pairs) left (0 ∷ [])
      before_run low [] v e = ap (λ x. is_from x []) left_is
      before_run low (c ∷ q) v e =
          let r = with_it c q v e in
          le_more left run (c ∷ q) (ap is_le low) (ap (is_from run) r.1 ∙ front_from run r.0) ∙ sym (one_from 0 c q (omega arith))

      pub stands_before : slice_cmp nat_cmp left run ≡ Less → Stands kind pairs bound key bytes forks
      stands_before low =
          let r = is f.below f.text in
          let none : value_at simple_ascii f.below [] ≡ None = ap (λ ps. value_at simple_ascii ps []) r.2 ∙ value_at-no_run simple_ascii run r.0 r.3 in
          record {
            below = f.below;
            text = f.text;
            same = f.same;
            value = λ w e. absurd (some_none w (sym e ∙ none));
            way = f.way;
            from = subst (λ x. SameFrom pairs bound (bound_by key x)) (sym none) (from_left (0 ∷ []) (before_run low));
          }

      pub run_past : (slice_cmp nat_cmp left run ≡ Less → ⊥) → NoneFrom (behind_all key pairs) left
      run_past low [] v e = ap (λ x. is_from x []) left_is
      run_past low (c ∷ q) v e = let r = with_it c q v e in ap (is_from left) r.1 ∙ past_run run left r.0 low other

  -- along an edge, to the next one, and past all
  pub follows_edge : (byte : ℕ) (more key' target : List ℕ) (forks' : List Fork) → left ≡ byte ∷ more → Lists kind target (residual byte f.below) → key' ≡ key ++ byte ∷ [] → AreForks kind pairs key' forks' → Follows kind pairs bound more key' target forks'
  follows_edge byte more key' target forks' left_is text key_is on =
      let all : residual byte f.below ≡ behind_all key' pairs = f.same byte ∙ sym (behind_more key byte pairs) ∙ ap (λ k. behind_all k pairs) (sym key_is) in
      record {
        below = residual byte f.below;
        text = text;
        same = λ c. ap (residual c) all;
        whole = λ e. all;
        way = on;
        is = f.is ∙ ap (λ k. key ++ k) left_is ∙ sym (append_assoc key (byte ∷ []) more) ∙ ap (λ k. k ++ more) (sym key_is);
      }

  module _ (byte : ℕ) (more : List ℕ) (left_is : left ≡ byte ∷ more) (gone : residual byte f.below ≡ []) where
    gone_behind : residual byte (behind_all key pairs) ≡ []
    gone_behind = sym (f.same byte) ∙ gone

    pub edge_no_bound : value_at simple_ascii pairs bound ≡ None
    edge_no_bound = no_bound (λ v e. no_key (behind_all key pairs) byte more v gone_behind (ap (value_at simple_ascii (behind_all key pairs)) (sym left_is) ∙ e))

    pub stands_above : (key' target : List ℕ) (forks' : List Fork) → Arrives kind pairs (key ++ suc byte ∷ []) key' target forks' → Stands kind pairs bound key' target forks'
    stands_above key' target forks' a = arrived (record {
      text = a.text;
      some = a.some;
      way = a.way;
      from = same_more pairs bound (key ++ suc byte ∷ []) key' (from_left (suc byte ∷ []) (subst (λ x. SameFrom (behind_all key pairs) x (suc byte ∷ [])) (sym left_is)
          (past_byte (behind_all key pairs) byte more (λ q v e. absurd (some_none v (sym e ∙ ap (λ ps. value_at simple_ascii ps q) gone_behind)))))) a.from;
    })

    pub edges_past : NoEdge (behind_all key pairs) (suc byte) → NoneFrom (behind_all key pairs) left
    edges_past none = subst (NoneFrom (behind_all key pairs)) (sym left_is) (none_from (behind_all key pairs) byte more gone_behind none)

  -- where no node begins
  module _ (byte : ℕ) (more : List ℕ) (left_is : left ≡ byte ∷ more) (nothing : node_of kind bytes ≡ None) where
    nowhere : (c : ℕ) → residual c f.below ≡ []
    nowhere c = ap (residual c) (none_listed f.text nothing)

    pub node_no_bound : value_at simple_ascii pairs bound ≡ None
    node_no_bound = edge_no_bound byte more left_is (nowhere byte)

    pub node_past : NoneFrom (behind_all key pairs) left
    node_past = edges_past byte more left_is (nowhere byte) (λ c h. sym (f.same c) ∙ nowhere c)

  -- after a climb
  pub ends_climbed : (key' : List ℕ) (forks' : List Fork) (found : Option (Bor (List ℕ))) → ArrivesOrEnds kind pairs (key ++ left) key' forks' found → StandsOrEnds kind pairs bound key' forks' found
  ends_climbed key' forks' None none = subst (NoneFrom pairs) (sym f.is) none
  ends_climbed key' forks' (Some target) a = arrived (subst (λ b. Arrives kind pairs b key' target.now forks') (sym f.is) a)

  -- at the end of the bound
  module _ (over : left ≡ []) where
    at_key : bound ≡ key
    at_key = f.is ∙ ap (λ k. key ++ k) over ∙ append-nil key

    pub follows_whole : Stands kind pairs bound key bytes forks
    follows_whole = stands_whole (subst (Lists kind bytes) (f.whole over) f.text) f.way (λ q v e. ap (λ b. is_from b q) at_key)

    pub follows_past : (after : List ℕ) → IsPastValue kind f.below after → Stands kind pairs (bound ++ 0 ∷ []) key after forks
    follows_past after p = record {
      below = p.below;
      text = p.text;
      same = λ c. p.same c ∙ f.same c;
      value = λ w e. absurd (some_none w (sym e ∙ p.none));
      way = f.way;
      from = subst (λ x. SameFrom pairs (bound ++ 0 ∷ []) (bound_by key x)) (sym p.none) (λ q v e. ap (λ b. is_from (b ++ 0 ∷ []) q) at_key);
    }

-- a bound that was not a key, without it
pub found_behind : (kind : Kind) (pairs : Pairs) (bound key : List ℕ) (forks : List Fork) (found : Option (Bor (List ℕ))) → value_at simple_ascii pairs bound ≡ None → StandsOrEnds kind pairs bound key forks found → StandsOrEnds kind pairs (bound ++ 0 ∷ []) key forks found
found_behind kind pairs bound key forks None none ends = λ q v e. behind_bound pairs bound none q v e ∙ ends q v e
found_behind kind pairs bound key forks (Some bytes) none s = record {
  below = s.below;
  text = s.text;
  same = s.same;
  value = s.value;
  way = s.way;
  from = same_more pairs (bound ++ 0 ∷ []) bound (bound_by key (value_at simple_ascii s.below [])) (behind_bound pairs bound none) s.from;
}

-- past a value, if there is one
pub past_value_is : (kind : Kind) (pairs : Pairs) (bytes after : List ℕ) (v : ℕ) → Begins kind bytes (value v after) → Lists kind bytes pairs → IsPastValue kind pairs after
past_value_is kind pairs bytes after v begins text =
    let o = value_opens text v after begins in
    record { below = o.below; text = o.inner; same = λ c. ap (residual c) (sym o.is); none = sym (value_exact kind o.below) ∙ canonical.no_value o.inner o.apart }

pub no_value_there : (kind : Kind) (pairs : Pairs) (bytes : List ℕ) → Lists kind bytes pairs → value_at simple_ascii pairs [] ≡ None → IsPastValue kind pairs bytes
no_value_there kind pairs bytes text none = record { below = pairs; text = text; same = λ c. refl; none = none }

pub run_no_value : (kind : Kind) (pairs : Pairs) (bytes run after : List ℕ) → IsRun kind bytes run after → Lists kind bytes pairs → value_at simple_ascii pairs [] ≡ None
run_no_value kind pairs bytes run after is text = let r = is pairs text in ap (λ ps. value_at simple_ascii ps []) r.2 ∙ value_at-no_run simple_ascii run r.0 r.3

-- a target is shorter than the bytes of its branch
pub behind_shorter : (kind : Kind) (bytes : List ℕ) (n w : ℕ) (table behind : List ℕ) → Begins kind bytes (branch n w table behind) → length behind < length bytes
behind_shorter kind bytes n w table behind b =
    let len = ap length b.behind_is in
    let dropped = length-drop (before_edges kind n) b.body in
    let all = ap length b.begins.bytes_are in
    let lead = ap length b.begins.spells.bytes_are in
    let parts = length-append b.begins.spelling b.body in
    omega (arith, len, dropped, all, lead, parts)

pub value_shorter : (bytes : List ℕ) (v : ℕ) (after : List ℕ) → BeginsWith 16 4 v bytes after → length after < length bytes
value_shorter bytes v after b =
    let all = ap length b.bytes_are in
    let lead = ap length b.spells.bytes_are in
    let parts = length-append b.spelling after in
    omega (arith, all, lead, parts)

pub span_shorter : (bytes run after : List ℕ) → BeginsSpan bytes run after → length after < length bytes
span_shorter bytes run after b =
    let all = ap length b.bytes_are in
    let lead = ap length b.spells.bytes_are in
    let parts = length-append b.spelling (run ++ after) in
    let both = length-append run after in
    omega (arith, all, lead, parts, both)

pub parts_of : (xs : List ℕ) → xs ≢ [] → (x : ℕ) × (more : List ℕ) × (xs ≡ x ∷ more)
parts_of [] some = absurd (some refl)
parts_of (x ∷ xs) some = (x, xs, refl)

pub found_for : (with_it : Bool) (kind : Kind) (pairs : Pairs) (bound key : List ℕ) (forks : List Fork) (found : Option (Bor (List ℕ))) → (value_at simple_ascii pairs bound ≡ None) × StandsOrEnds kind pairs bound key forks found
    → StandsOrEnds kind pairs (cond with_it bound (bound ++ 0 ∷ [])) key forks found
found_for true kind pairs bound key forks found h = h.1
found_for false kind pairs bound key forks found h = found_behind kind pairs bound key forks found h.0 h.1

pub lt_is : (o : Ordering) → is_lt o ≡ true → o ≡ Less
lt_is Less e = refl
lt_is Equal e = absurd (cc)
lt_is Greater e = absurd (cc)

pub not_lt : (o : Ordering) → is_lt o ≡ false → o ≡ Less → ⊥
not_lt Less e f = absurd (cc)
not_lt Equal e f = absurd (cc)
not_lt Greater e f = absurd (cc)

pub not_nothing : (x : ℕ) (more xs : List ℕ) → xs ≡ x ∷ more → xs ≢ []
not_nothing x more xs is none = absurd (cc)
