-- Listings of encodings, in which the pairs that begin alike come one after another.
use Rattle.std.proofs.Common.{◌≡◌, ℕ, zero, suc, ◌+◌, ◌-◌, ◌<◌, ◌≤◌, List, [], ◌∷◌, ◌++◌, length, refl, sym, ◌∙◌, ap, subst, arith, Some, None, Bool, true, false, take, inl, inr, get_or, length-append}
use Rattle.std.specs.Prelude.{slice_index, nat_lt}
use Rattle.std.specs.Borrow.{Bor}
use Rattle.std.proofs.lemmas.Bool.{cases_lt, ltb-true, ltb-false}
use Rattle.std.proofs.lemmas.List.{take_all, length-take, length-take-le, get_or-take, get_or_append_left}
use Rattle.std.proofs.Math.Seq.{get_or-append_seam}
use Rattle.zerotrie_base.specs.Kind.{Kind, fold_byte}
use Rattle.zerotrie_base.specs.Maps.{Pairs, with_front, with_run}
use Rattle.zerotrie_base.specs.Texts.{Lists, ListEach}
use Rattle.zerotrie_base.specs.Texts.Lists.{nothing}
use Rattle.zerotrie_base.specs.Texts.ListEach.{no_edge, edge}
use Rattle.zerotrie_base.specs.Nodes.{Shape, Begins, IsTargetResult}
use Rattle.zerotrie_base.specs.Nodes as shapes
use Rattle.zerotrie_core.specs.Skips.{NoneBegins}
use Rattle.zerotrie_core.specs.listing.Listed.{listed, of_targets, node_of, is_in_order, target_of}
use Rattle.zerotrie_core.specs.listing.Opened.{pairs_behind, pairs_open, left_in, Leaves, Nested, Stands, still_open}
use Rattle.zerotrie_core.specs.listing.Grouped.{IsText, IsSound, HasEntered, AreEntered, CanEnter, IsFresh, AreGrouped, GoesGrouped, StandsBelow}
use Rattle.zerotrie_core.specs.listing.Runs.{MovesLiterals, MovesAny}
use Rattle.zerotrie_core.specs.declared.stream.opened.OpenBranch.{OpenBranch}
use Rattle.zerotrie_base.proofs.NodeLemmas.Tables.{Distinct, at-Each}
use Rattle.zerotrie_base.proofs.NodeLemmas.Opened.{value_opens, literal_opens, span_opens, branch_opens, held_edge}
use Rattle.zerotrie_base.proofs.NodeLemmas.Offsets.{target_between}
use Rattle.zerotrie_core.proofs.NodeLemmas.Read.{by_test, node_begun}
use Rattle.zerotrie_core.proofs.ListingLemmas.Left.{run_append, run_front, open_shorter, none_behind, at_nothing, FirstLow}

-- Of a branch in an encoding.
text_at : {kind : Kind} {edges : List ℕ} {targets : List (List ℕ)} {pairs : Pairs} → ListEach kind edges targets pairs → (i : ℕ) → i < length targets → IsText kind (get_or targets i [])
text_at no_edge i h = absurd (omega arith)
text_at (edge n text each) zero h = (_, text)
text_at (edge n text each) (suc i) h = text_at each i (omega arith)

apart : (kind : Kind) (es : List ℕ) (i j : ℕ) → Distinct kind es → i < j → j < length es → get_or es i 0 ≡ get_or es j 0 → ⊥
apart kind [] i j distinct h inside same = absurd (omega arith)
apart kind (e ∷ es) zero zero distinct h inside same = absurd (omega arith)
apart kind (e ∷ es) zero (suc j) distinct h inside same = at-Each _ es distinct.0 j (omega arith) (ap (fold_byte kind) same)
apart kind (e ∷ es) (suc i) zero distinct h inside same = absurd (omega arith)
apart kind (e ∷ es) (suc i) (suc j) distinct h inside same = apart kind es i j distinct.1 (omega arith) (omega arith) same

pub sound_branch : (kind : Kind) (bytes : List ℕ) (n w : ℕ) (table behind : List ℕ) → IsText kind bytes → Begins kind bytes (shapes.Shape.branch n w table behind) → IsSound kind n w behind
sound_branch kind bytes n w table behind text begins =
    let b = branch_opens text.1 n w table behind begins in
    let held = b.holds in
    record {
      distinct = λ i j h inside same. apart kind b.edges i j b.opens.distinct h (let count = held.count in omega arith)
          (held_edge held i (omega arith) ∙ same ∙ sym (held_edge held j inside));
      targets = λ i inside. subst (IsText kind) (sym (target_between held.has_targets i inside)) (text_at b.opens.each i (let count = held.has_targets.count in omega arith));
    }

-- What is entered stays so after a longer beginning, and with the same bytes in it.
pub entered_longer : (kind : Kind) (key : List ℕ) (d e : ℕ) (branches : List OpenBranch) → d ≤ e → AreEntered kind key d branches → AreEntered kind key e branches
entered_longer kind key d e [] h are = tt
entered_longer kind key d e (o ∷ branches) h are = (
  (let a = are.0 in omega arith),
  λ left. (let is = are.1 left in let low = is.low in record { sound = is.sound; low = omega arith; place = is.place; some = is.some; edge = is.edge }),
  are.2,
)

entered_same : (kind : Kind) (key key' : List ℕ) (d : ℕ) (branches : List OpenBranch) → ((i : ℕ) → i < d → get_or key' i 0 ≡ get_or key i 0) → AreEntered kind key d branches → AreEntered kind key' d branches
entered_same kind key key' d [] same are = tt
entered_same kind key key' d (o ∷ branches) same are = (
  are.0,
  λ left. (let is = are.1 left in record { sound = is.sound; low = is.low; place = is.place; some = is.some; edge = same o.depth is.low ∙ is.edge }),
  entered_same kind key key' o.depth branches (λ i h. (let a = are.0 in same i (omega arith))) are.2,
)

pub entered_run : (kind : Kind) (key run : List ℕ) (branches : List OpenBranch) → AreEntered kind key (length key) branches → AreEntered kind (key ++ run) (length (key ++ run)) branches
entered_run kind key run branches are =
    let len = length-append key run in
    entered_longer kind (key ++ run) (length key) (length (key ++ run)) branches (omega arith)
    (entered_same kind key (key ++ run) (length key) branches (λ i h. get_or_append_left key run 0 i h) are)

pub entered_still : (kind : Kind) (key : List ℕ) (d : ℕ) (branches : List OpenBranch) → AreEntered kind key d branches → AreEntered kind key d (still_open branches)
entered_still kind key d [] are = tt
entered_still kind key d (o ∷ branches) are = by_test (AreEntered kind key d) (nat_lt o.next o.edges) (o ∷ branches) branches (λ some. are) (λ none. entered_longer kind key o.depth d branches are.0 are.2)

-- On the way to the next pair.
not_fresh : (kind : Kind) (key rest : List ℕ) (branches : List OpenBranch) → (rest ≡ [] → ⊥) → GoesGrouped kind key rest branches → AreGrouped kind key rest branches
not_fresh kind key rest branches some goes = elim goes.1 [
  | inl are ↦ (goes.0, are)
  | inr fresh ↦ absurd (never branches fresh)
]
  where
    never : (branches : List OpenBranch) → IsFresh kind key rest branches → ⊥
    never [] fresh = fresh
    never (o ∷ branches) fresh = some fresh.0

-- bytes that begin with a node are some
begun_some : (kind : Kind) (bytes : List ℕ) (s : Shape) → Begins kind bytes s → bytes ≡ [] → ⊥
begun_some kind bytes s begins none = let is : None ≡ Some s = sym (ap (node_of kind) none) ∙ node_begun kind bytes s begins in absurd (cc)

pub goes_value : (kind : Kind) (key bytes rest : List ℕ) (v : ℕ) (branches : List OpenBranch) → Begins kind bytes (shapes.Shape.value v rest) → GoesGrouped kind key bytes branches → AreGrouped kind key rest branches
goes_value kind key bytes rest v branches begins goes =
    let at = not_fresh kind key bytes branches (begun_some kind bytes (shapes.Shape.value v rest) begins) goes in
    let has = value_opens at.0.1 v rest begins in
    ((has.below, has.inner), at.1)

pub goes_span : (kind : Kind) (key bytes run rest : List ℕ) (branches : List OpenBranch) → Begins kind bytes (shapes.Shape.span run rest) → GoesGrouped kind key bytes branches → GoesGrouped kind (key ++ run) rest branches
goes_span kind key bytes run rest branches begins goes =
    let at = not_fresh kind key bytes branches (begun_some kind bytes (shapes.Shape.span run rest) begins) goes in
    let has = span_opens at.0.1 run rest begins.1 in
    ((has.below, has.inner), inl (entered_run kind key run branches at.1))

text_literals : (kind : Kind) (run rest : List ℕ) → ((k : ℕ) → k < length run → slice_index run k < 128) → IsText kind (run ++ rest) → IsText kind rest
text_literals kind [] rest low text = text
text_literals kind (b ∷ run) rest low text =
    text_literals kind run rest (λ k h. low (suc k) (omega arith)) (text_at (literal_opens text.1 b (run ++ rest) (low 0 (omega arith)) refl).each 0 (omega arith))

moved_literals : (kind : Kind) (key rest key' rest' : List ℕ) (branches : List OpenBranch) → MovesLiterals rest key rest' key' → AreGrouped kind key rest branches → AreGrouped kind key' rest' branches
moved_literals kind key rest key' rest' branches moves at = (
  text_literals kind moves.run rest' moves.literal (subst (IsText kind) moves.rest_is at.0),
  subst (λ k. AreEntered kind k (length k) branches) (sym moves.key_is) (entered_run kind key moves.run branches at.1),
)

pub moved_any : (kind : Kind) (key rest key' rest' : List ℕ) (branches : List OpenBranch) → MovesAny rest key rest' key' → AreGrouped kind key rest branches → AreGrouped kind key' rest' branches
moved_any kind key rest key' rest' branches moves at = elim moves [
  | inl same ↦ rw (same.0, same.1) at
  | inr some ↦ moved_literals kind key rest key' rest' branches some at
]

pub goes_literals : (kind : Kind) (key rest key' rest' : List ℕ) (branches : List OpenBranch) → MovesLiterals rest key rest' key' → GoesGrouped kind key rest branches → GoesGrouped kind key' rest' branches
goes_literals kind key rest key' rest' branches moves goes =
    let some = moves.some in
    let len : length rest ≡ length moves.run + length rest' = ap length moves.rest_is ∙ length-append moves.run rest' in
    let after = moved_literals kind key rest key' rest' branches moves (not_fresh kind key rest branches (λ none. (let zero = ap length none in omega arith)) goes) in
    (after.0, inl after.1)

-- a branch is opened
pub goes_branch : (kind : Kind) (key bytes : List ℕ) (n w : ℕ) (table behind : List ℕ) (branches : List OpenBranch) (o : OpenBranch) → Begins kind bytes (shapes.Shape.branch n w table behind)
    → o.edges ≡ n → o.width ≡ w → o.behind.now ≡ behind → o.next < o.edges → o.depth ≡ length key → GoesGrouped kind key bytes branches → GoesGrouped kind key [] (o ∷ still_open branches)
goes_branch kind key bytes n w table behind branches o begins edges width same some depth goes =
    let s = shapes.Shape.branch n w table behind in
    let at = not_fresh kind key bytes branches (begun_some kind bytes s begins) goes in (
      ([], nothing),
      inr (
        refl,
        some,
        (
          rw (edges, width, same) (sound_branch kind bytes n w table behind at.0 begins),
          subst (λ d. AreEntered kind key d (still_open branches)) (sym depth) (entered_still kind key (length key) branches at.1),
        ),
        depth,
      ),
    )

-- at the end of the bytes the next target can be entered
pub goes_next : (kind : Kind) (key rest : List ℕ) (branches : List OpenBranch) → Stands (length key) branches → GoesGrouped kind key rest branches → CanEnter kind key (still_open branches)
goes_next kind key rest branches stands goes = elim goes.1 [
  | inl are ↦ by_entered branches (length key) stands are
  | inr fresh ↦ by_fresh branches fresh
]
  where
    nested : (branches : List OpenBranch) (d e : ℕ) → Nested d branches → AreEntered kind key e branches → CanEnter kind key branches
    nested [] d e nest are = tt
    nested (o ∷ branches) d e nest are = ((are.1 nest.1).sound, are.2)

    by_entered : (branches : List OpenBranch) (d : ℕ) → Stands d branches → AreEntered kind key d branches → CanEnter kind key (still_open branches)
    by_entered [] d stands are = tt
    by_entered (o ∷ branches) d stands are = by_test (CanEnter kind key) (nat_lt o.next o.edges) (o ∷ branches) branches
        (λ some. ((are.1 (ltb-true o.next o.edges some)).sound, are.2))
        (λ none. nested branches o.depth o.depth stands.1 are.2)

    by_fresh : (branches : List OpenBranch) → IsFresh kind key rest branches → CanEnter kind key (still_open branches)
    by_fresh [] fresh = absurd fresh
    by_fresh (o ∷ branches) fresh = by_test (CanEnter kind key) (nat_lt o.next o.edges) (o ∷ branches) branches
        (λ some. fresh.2)
        (λ none. absurd (let a = ltb-false o.next o.edges none in let b = fresh.1 in omega arith))

-- The next target is entered.
module _ (kind : Kind) (key : List ℕ) (outer : List OpenBranch) (o p : OpenBranch) (low : o.depth ≤ length key) (can : CanEnter kind key (o ∷ outer)) (depth : p.depth ≡ o.depth) where
  abbrev before_edge : List ℕ
  before_edge = take o.depth key

  front_len : length before_edge ≡ o.depth
  front_len = length-take-le o.depth key low

  -- or its offsets fall
  pub enters_none : p.edges ≤ p.next → AreGrouped kind before_edge [] (p ∷ outer)
  enters_none over = (
    ([], nothing),
    (
      omega (arith, front_len),
      λ left. absurd (omega arith),
      subst (λ d. AreEntered kind before_edge d outer) (sym depth) (entered_same kind key before_edge o.depth outer (λ i h. get_or-take o.depth key i 0 h) can.1),
    ),
  )

  pub enters : (t : Bor (List ℕ)) → o.next < o.edges → IsTargetResult o.edges o.width o.behind.now o.next (Some t) → p.edges ≡ o.edges → p.width ≡ o.width → p.behind.now ≡ o.behind.now → p.next ≡ suc o.next
      → AreGrouped kind (before_edge ++ slice_index o.behind.now o.next ∷ []) t.now (p ∷ outer)
  enters t some got edges width behind next =
      let e = slice_index o.behind.now o.next in
      let len = length-append before_edge (e ∷ []) in
      let seam : get_or (before_edge ++ e ∷ []) (length before_edge) 0 ≡ e = get_or-append_seam before_edge e [] 0 in
      let here : get_or (before_edge ++ e ∷ []) p.depth 0 ≡ e = ap (λ d. get_or (before_edge ++ e ∷ []) d 0) (depth ∙ sym front_len) ∙ seam in
      let before : slice_index p.behind.now o.next ≡ e = rw behind refl in (
        subst (IsText kind) (sym got.0.2) (can.0.targets o.next some),
        (
          omega (arith, front_len),
          λ left. record {
            sound = rw (edges, width, behind) can.0;
            low = omega (arith, front_len);
            place = o.next;
            some = omega arith;
            edge = here ∙ sym before;
          },
          subst (λ d. AreEntered kind (before_edge ++ e ∷ []) d outer) (sym depth)
              (entered_same kind key (before_edge ++ e ∷ []) o.depth outer (λ i h. get_or_append_left before_edge (e ∷ []) 0 i (omega (arith, front_len)) ∙ get_or-take o.depth key i 0 h) can.1),
        ),
      )

-- Along a key.
pub after_value : (kind : Kind) (key bytes rest : List ℕ) (v : ℕ) (branches : List OpenBranch) → Begins kind bytes (shapes.Shape.value v rest) → AreGrouped kind key bytes branches → AreGrouped kind key rest branches
after_value kind key bytes rest v branches begins at = let has = value_opens at.0.1 v rest begins in ((has.below, has.inner), at.1)

pub after_literal : (kind : Kind) (key bytes rest : List ℕ) (b : ℕ) (branches : List OpenBranch) → Begins kind bytes (shapes.Shape.literal b rest) → AreGrouped kind key bytes branches → AreGrouped kind (key ++ b ∷ []) rest branches
after_literal kind key bytes rest b branches begins at = (text_at (literal_opens at.0.1 b rest begins.0 begins.1).each 0 (omega arith), entered_run kind key (b ∷ []) branches at.1)

pub after_span : (kind : Kind) (key bytes run rest : List ℕ) (branches : List OpenBranch) → Begins kind bytes (shapes.Shape.span run rest) → AreGrouped kind key bytes branches → AreGrouped kind (key ++ run) rest branches
after_span kind key bytes run rest branches begins at = let has = span_opens at.0.1 run rest begins.1 in ((has.below, has.inner), entered_run kind key run branches at.1)

pub opens_grouped : (kind : Kind) (key bytes : List ℕ) (n w : ℕ) (table behind : List ℕ) (branches : List OpenBranch) → Begins kind bytes (shapes.Shape.branch n w table behind) → (o p : OpenBranch) (t : Bor (List ℕ))
    → o.edges ≡ n → o.width ≡ w → o.behind.now ≡ behind → (place : ℕ) → o.next ≡ place → place < n → o.depth ≡ length key → IsTargetResult o.edges o.width o.behind.now o.next (Some t)
    → p.edges ≡ o.edges → p.width ≡ o.width → p.behind.now ≡ o.behind.now → p.next ≡ suc o.next → p.depth ≡ o.depth
    → AreGrouped kind key bytes branches → AreGrouped kind (key ++ slice_index behind place ∷ []) t.now (p ∷ still_open branches)
opens_grouped kind key bytes n w table behind branches begins o p t edges width same place next inside depth got edges' width' behind' next' depth' at =
    let outer = still_open branches in
    let front : take o.depth key ≡ key = take_all o.depth key (omega arith) in
    let can : CanEnter kind key (o ∷ outer) = (
      rw (edges, width, same) (sound_branch kind bytes n w table behind at.0 begins),
      subst (λ d. AreEntered kind key d outer) (sym depth) (entered_still kind key (length key) branches at.1),
    ) in
    let into = enters kind key outer o p (omega arith) can depth' t (omega arith) got edges' width' behind' next' in
    let edge : slice_index o.behind.now o.next ≡ slice_index behind place = rw (same, next) refl in
    subst (λ k. AreGrouped kind k t.now (p ∷ outer)) (ap (λ f. f ++ slice_index o.behind.now o.next ∷ []) front ∙ ap (λ e. key ++ e ∷ []) edge) into

-- No key that is left begins with the front.
none_append : (front : List ℕ) (xs ys : Pairs) → NoneBegins front xs → NoneBegins front ys → NoneBegins front (xs ++ ys)
none_append front [] ys none more = more
none_append front (e ∷ xs) ys none more = (none.0, none_append front xs ys none.1 more)

-- keys that differ from it at a place
none_run : (front run : List ℕ) (pairs : Pairs) (i : ℕ) → i < length front → i < length run → (get_or run i 0 ≡ get_or front i 0 → ⊥) → NoneBegins front (with_run run pairs)
none_run front run [] i inside low other = tt
none_run front run (e ∷ pairs) i inside low other = (
  λ more is. other (sym (get_or_append_left run e.0 0 i low) ∙ ap (λ k. get_or k i 0) is ∙ get_or_append_left front more 0 i inside),
  none_run front run pairs i inside low other,
)

none_targets : (f : List ℕ → Pairs) (front run : List ℕ) (n w : ℕ) (behind : List ℕ) (k : ℕ) → k ≤ n → length run < length front → ((j : ℕ) → n - k ≤ j → j < n → slice_index behind j ≡ get_or front (length run) 0 → ⊥)
    → NoneBegins front (with_run run (of_targets f n w behind k))
none_targets f front run n w behind zero h inside other = tt
none_targets f front run n w behind (suc k) h inside other =
    let i = n - suc k in
    let b = slice_index behind i in
    let t = target_of n w behind i in
    let len = length-append run (b ∷ []) in
    by_test (λ ps. NoneBegins front (with_run run ps)) (is_in_order n w behind i) (with_front b (f t) ++ of_targets f n w behind k) []
    (λ _. subst (NoneBegins front) (sym (run_append run (with_front b (f t)) (of_targets f n w behind k)))
    (none_append front (with_run run (with_front b (f t))) (with_run run (of_targets f n w behind k))
    (subst (NoneBegins front) (sym (run_front run b (f t)))
    (none_run front (run ++ b ∷ []) (f t) (length run) inside (omega arith) (λ same. other i (omega arith) (omega arith) (sym (get_or-append_seam run b [] 0) ∙ same))))
    (none_targets f front run n w behind k (omega arith) inside (λ j low. other j (omega arith)))))
    (λ _. tt)

none_of : (kind : Kind) (key : List ℕ) (d e : ℕ) (o : OpenBranch) → e ≤ length key → o.depth < d → o.next < o.edges → HasEntered kind key e o.depth o.edges o.width o.behind.now o.next → NoneBegins (take d key) (with_run (take o.depth key) (pairs_behind kind o))
none_of kind key d e o within low left is =
    let some = is.some in
    let short = is.low in
    let len = length-take d key in
    let run = length-take-le o.depth key (omega arith) in
    let k = o.edges - o.next in
    none_targets (listed kind) (take d key) (take o.depth key) o.edges o.width o.behind.now k (omega arith) (omega arith)
    (λ j least inside same. is.sound.distinct is.place j (omega arith) inside
    (sym is.edge ∙ sym (get_or-take d key o.depth 0 low) ∙ ap (λ i. get_or (take d key) i 0) (sym run) ∙ sym same))

first_low : (kind : Kind) (key : List ℕ) (d : ℕ) (branches : List OpenBranch) → AreEntered kind key d branches → FirstLow d branches
first_low kind key d [] are = tt
first_low kind key d (o ∷ branches) are = are.0

below_around : (kind : Kind) (key : List ℕ) (d e : ℕ) (branches : List OpenBranch) → AreEntered kind key e branches → e < d → StandsBelow d branches
below_around kind key d e [] are h = tt
below_around kind key d e (o ∷ branches) are h = inl (let low = are.0 in omega arith)

none_open : (kind : Kind) (key : List ℕ) (d e : ℕ) (branches : List OpenBranch) → e ≤ length key → AreEntered kind key e branches → StandsBelow d branches → NoneBegins (take d key) (pairs_open kind key branches)
none_open kind key d e [] within are below = tt
none_open kind key d e (o ∷ branches) within are below =
    let low = are.0 in
    let front = take d key in
    let same = open_shorter kind key o.depth branches (omega arith) (first_low kind key o.depth branches are.2) in
    elim below [
      | inl deep ↦ none_append front (with_run (take o.depth key) (pairs_behind kind o)) (pairs_open kind (take o.depth key) branches) (own deep)
          (subst (NoneBegins front) (sym same) (none_open kind key d o.depth branches (omega arith) are.2 (below_around kind key d o.depth branches are.2 deep)))
      | inr over ↦ rw (none_behind kind o over.0, over.1) tt
    ]
  where
    own : o.depth < d → NoneBegins (take d key) (with_run (take o.depth key) (pairs_behind kind o))
    own deep = elim (cases_lt o.next o.edges) [
      | inl some ↦ none_of kind key d e o within deep some (are.1 some)
      | inr none ↦ rw (none_behind kind o none) tt
    ]

pub skips_all : (ended : Bool) (kind : Kind) (key rest : List ℕ) (old new : List OpenBranch) (d : ℕ) → d ≤ length key → ((left_in ended kind key rest old).ended ≡ false → AreGrouped kind key rest old) → Leaves d old new → StandsBelow d new
    → NoneBegins (take d key) (left_in ended kind key [] new).pairs
skips_all true kind key rest old new d low grouped leaves below = tt
skips_all false kind key rest old new d low grouped leaves below =
    subst (NoneBegins (take d key)) (sym (at_nothing kind key new)) (none_open kind key d (length key) new (omega arith) (leaves.entered kind key (length key) (grouped refl).1) below)

pub skips_grouped : (ended : Bool) (kind : Kind) (key rest : List ℕ) (old new : List OpenBranch) (d : ℕ) → ((left_in ended kind key rest old).ended ≡ false → AreGrouped kind key rest old) → Leaves d old new
    → (left_in ended kind key [] new).ended ≡ false → AreGrouped kind key [] new
skips_grouped true kind key rest old new d grouped leaves going = absurd (cc)
skips_grouped false kind key rest old new d grouped leaves going = (([], nothing), leaves.entered kind key (length key) (grouped refl).1)

-- at the start of an encoding no branch is open
pub starts_grouped : (kind : Kind) (key bytes : List ℕ) (pairs : Pairs) (branches : List OpenBranch) → Lists kind bytes pairs → AreEntered kind key (length key) branches → AreGrouped kind key bytes branches
starts_grouped kind key bytes pairs branches text are = ((pairs, text), are)
