-- What lies after a branch, target by target.
use Rattle.std.proofs.Common.{◌≡◌, ℕ, zero, suc, ◌+◌, ◌-◌, ◌*◌, ◌^◌, ◌<◌, ◌≤◌, List, [], length, ◌∷◌, refl, sym, ◌∙◌, ap, subst, arith, get_or, take, drop, inl, inr, Option}
use Rattle.std.specs.Prelude.{max, ◌⊎◌}
use Rattle.std.specs.Option.{IsSomeAnd}
use Rattle.std.specs.Borrow.{Bor}
use Rattle.std.proofs.lemmas.List.{length-take-le, length-drop}
use Rattle.std.proofs.lemmas.Bool.{cases_lt}
use Rattle.std.proofs.lemmas.Bool.Decides.{eqb_tells}
use Rattle.zerotrie_base.specs.Kind.{Kind}
use Rattle.zerotrie_base.specs.Maps.{Pairs, map_of}
use Rattle.zerotrie_base.specs.Texts.{Lists, ListEach, Means}
use Rattle.zerotrie_base.specs.Texts.Lists.{branch}
use Rattle.zerotrie_base.specs.Nodes.{Shape, BeginsBranch, targets_behind, begin_of, end_of, IsTargetResult}
use Rattle.zerotrie_base.specs.Nodes as shapes
use Rattle.zerotrie_core.specs.WellFormed.{IsWellFormed, deep, deeps, greatest, one_more_but, IsShallow}
use Rattle.zerotrie_core.specs.listing.Listed.{target_of}
use Rattle.zerotrie_core.specs.well_formed.Branching.{extent, InOrder, IsLongest, HasFront, IsTarget, IsSound}
use Rattle.zerotrie_core.specs.well_formed.Testing.{IsText, HasRest, IsFirstLonger, AlwaysNoText, AlwaysReducesTo}
use Rattle.zerotrie_core.specs.declared.well_formed.Expected.TheVariants.{Something}
use Rattle.zerotrie_base.proofs.NodeLemmas.Offsets.{HasTargets, got}
use Rattle.zerotrie_core.proofs.WellFormedLemmas.Depth.{deep_some, at_place, at_other, greatest_at, length-one_more_but, length-deeps, each_at, each_from, shallow_one, shallow_max, shallow_more}
use Rattle.zerotrie_core.proofs.WellFormedLemmas.Pieces.{pieces, length-pieces, get_or-pieces, piece_is, extent_is, longest_is, begins_at_end}
use Rattle.zerotrie_core.proofs.WellFormedLemmas.Parts.{order_more, target_long}
use Rattle.zerotrie_core.proofs.WellFormedLemmas.Branches.{opens_on, no_order, sound_targets, sound_is}

-- a text of fewer than 2 ^ 64 bytes means the map of what it lists
abbrev pub text_means : {kind : Kind} {bytes : List ℕ} {pairs : Pairs} → length bytes < 2 ^ 64 → Lists kind bytes pairs → Means kind bytes (map_of pairs)
text_means {pairs = pairs} short text = record { short = short; pairs = pairs; lists = text; is = refl }

pub text_well : {kind : Kind} {bytes : List ℕ} → length bytes < 2 ^ 64 → IsText kind bytes → IsWellFormed kind bytes
text_well short text = (map_of text.0, text_means short text.1)

pub well_text : {kind : Kind} {bytes : List ℕ} → IsWellFormed kind bytes → IsText kind bytes
well_text well = (well.1.pairs, well.1.lists)

-- a target that lies in order is read
pub target_there : (n w : ℕ) (behind : List ℕ) (i : ℕ) (r : Option (Bor (List ℕ))) → begin_of n w behind i < end_of n w behind i → end_of n w behind i ≤ length (targets_behind n w behind) → IsTargetResult n w behind i r → IsSomeAnd r (λ x. x.now ≡ target_of n w behind i)
target_there n w behind i r low high g = got r (targets_behind n w behind) (begin_of n w behind i) (end_of n w behind i) g (omega arith) high

-- a target that is not there makes the branch none
pub no_target_there : (kind : Kind) (n w : ℕ) (table behind : List ℕ) (index : ℕ) → index < n → (begin_of n w behind index < end_of n w behind index → end_of n w behind index ≤ length (targets_behind n w behind) → ⊥) → AlwaysNoText kind (shapes.Shape.branch n w table behind)
no_target_there kind n w table behind index inside wrong = no_order kind n w table behind (λ order. (let here = order index inside in wrong here.0 here.1))

-- Of some numbers each but the one at the place is less than the greatest, which is 1 or one more than one of them.
pub record Reaches (ds : List ℕ) (index place most : ℕ) : Type 0 where
  pub least : (i : ℕ) → i < index → (i ≡ place → ⊥) → 1 + get_or ds i 0 ≤ most
  pub reached : (most ≡ 1) ⊎ ((i : ℕ) × (i < index) × (i ≡ place → ⊥) × (1 + get_or ds i 0 ≡ most))

greatest_below : (ns : List ℕ) (m : ℕ) → ((i : ℕ) → i < length ns → get_or ns i 0 ≤ m) → greatest ns ≤ m
greatest_below [] m h = omega arith
greatest_below (n ∷ ns) m h = let first = h 0 (omega arith) in let more = greatest_below ns m (λ i l. h (suc i) (omega arith)) in omega arith

pub greatest_reached : (ds : List ℕ) (place most : ℕ) → place < length ds → 1 ≤ get_or ds place 0 → Reaches ds (length ds) place most → greatest (one_more_but place ds) ≡ max most (get_or ds place 0)
greatest_reached ds place most inside some is =
    let ns = one_more_but place ds in
    let len = length-one_more_but place ds in
    let here = at_place place ds in
    let upper = greatest_below ns (max most (get_or ds place 0)) (λ i h. elim (eqb_tells i place) [
      | inl same ↦ (let e : get_or ns i 0 ≡ get_or ds place 0 = ap (λ k. get_or ns k 0) same.1 ∙ here in omega arith)
      | inr other ↦ (let e = at_other place i ds (omega arith) other.1 in let l = is.least i (omega arith) other.1 in omega arith)
    ]) in
    let lower = greatest_at ns place (omega arith) in
    let most_in : most ≤ greatest ns = elim is.reached [
      | inl one ↦ omega arith
      | inr at ↦ (let e = at_other place at.0 ds at.1 at.2 in let l = greatest_at ns at.0 (let h = at.1 in omega arith) in let f = at.3 in omega arith)
    ] in
    omega arith

-- targets in order have no byte in common
ends_before : (n w : ℕ) (behind : List ℕ) (m : ℕ) → m ≤ n → InOrder n w behind m → (i d : ℕ) → suc (i + d) < m → end_of n w behind i ≤ begin_of n w behind (suc (i + d))
ends_before n w behind m le order i zero h =
    let e : suc (i + 0) ≡ suc i = omega arith in
    let next = begins_at_end n w behind i (omega arith) in
    subst (λ k. end_of n w behind i ≤ begin_of n w behind k) (sym e) (omega arith)
ends_before n w behind m le order i (suc d) h =
    let e : suc (i + suc d) ≡ suc (suc (i + d)) = omega arith in
    let so_far = ends_before n w behind m le order i d (omega arith) in
    let here = (order (suc (i + d)) (omega arith)).0 in
    let next = begins_at_end n w behind (suc (i + d)) (omega arith) in
    subst (λ k. end_of n w behind i ≤ begin_of n w behind k) (sym e) (omega arith)

ends_first : (n w : ℕ) (behind : List ℕ) (m : ℕ) → m ≤ n → InOrder n w behind m → (i j : ℕ) → i < j → j < m → extent n w behind i + extent n w behind j ≤ length (targets_behind n w behind)
ends_first n w behind m le order i j less inside =
    let d = j - suc i in
    let e : suc (i + d) ≡ j = omega arith in
    let before : end_of n w behind i ≤ begin_of n w behind j = subst (λ k. end_of n w behind i ≤ begin_of n w behind k) e (ends_before n w behind m le order i d (omega arith)) in
    let a = order i (omega arith) in
    let b = order j inside in
    let low = a.0 in
    let high = b.0 in
    let end = b.1 in
    omega arith

pub apart : (n w : ℕ) (behind : List ℕ) (m : ℕ) → m ≤ n → InOrder n w behind m → (i j : ℕ) → i < m → j < m → (i ≡ j → ⊥) → extent n w behind i + extent n w behind j ≤ length (targets_behind n w behind)
apart n w behind m le order i j inside inside' other = elim (cases_lt i j) [
  | inl less ↦ ends_first n w behind m le order i j less inside'
  | inr more ↦ (let r = ends_first n w behind m le order j i (omega arith) inside in omega arith)
]

-- the targets are shorter than all bytes from the edges on
pub targets_shorter : (n w : ℕ) (behind : List ℕ) → n + w * (n - 1) ≤ length behind → 2 ≤ n → length (targets_behind n w behind) < length behind
targets_shorter n w behind long two =
    let a = length-drop (w * (n - 1)) (drop n behind) in
    let b = length-drop n behind in
    omega arith

-- What is known of the first targets, when all but the longest were tested.
pub record Passed (kind : Kind) (n w : ℕ) (behind : List ℕ) (index : ℕ) (longest : List ℕ) (most : ℕ) : Type 0 where
  pub order : InOrder n w behind index
  pub place : ℕ
  pub is_longest : IsLongest n w behind index place
  pub is : longest ≡ target_of n w behind place
  pub texts : (i : ℕ) → i < index → (i ≡ place → ⊥) → IsText kind (target_of n w behind i)
  pub shallow : IsShallow behind most
  pub counts : (edges : List ℕ) (targets : List (List ℕ)) (pairs : Pairs) (each : ListEach kind edges targets pairs) → HasTargets targets n w behind → Reaches (deeps each) index place most

pub passed_first : (kind : Kind) (n w : ℕ) (behind target : List ℕ) → IsTarget n w behind 0 target → Passed kind n w behind 1 target 1
passed_first kind n w behind target t = record {
  order = λ i h. (let same : 0 ≡ i = omega arith in subst (λ k. (begin_of n w behind k < end_of n w behind k) × (end_of n w behind k ≤ length (targets_behind n w behind))) same (t.some, t.within));
  place = 0;
  is_longest = record {
    inside = omega arith;
    most = λ i h. (let same : 0 ≡ i = omega arith in subst (λ k. extent n w behind k ≤ extent n w behind 0) same (omega arith));
    first = λ i h. absurd (omega arith);
  };
  is = t.is;
  texts = λ i h other. absurd (other (omega arith));
  shallow = shallow_one behind;
  counts = λ edges targets pairs each has. record { least = λ i h other. absurd (other (omega arith)); reached = inl refl };
}

-- how long a target is
pub target_len : (n w : ℕ) (behind : List ℕ) (index : ℕ) (target : List ℕ) → IsTarget n w behind index target → length target ≡ extent n w behind index
target_len n w behind index target t = let low = t.some in target_long n w behind index target (omega arith) t.within t.is

-- and not empty
pub target_some : (n w : ℕ) (behind : List ℕ) (index : ℕ) (target : List ℕ) → IsTarget n w behind index target → target ≡ [] → ⊥
target_some n w behind index target t none =
    let long = target_len n w behind index target t in
    let short = ap length none in
    let some = t.some in
    omega arith

pub both_some : (first next shorter longer : List ℕ) → IsFirstLonger first next shorter longer → (first ≡ [] → ⊥) → (next ≡ [] → ⊥) → (shorter ≡ [] → ⊥) × (longer ≡ [] → ⊥)
both_some first next shorter longer by one two = elim by [
  | inl is ↦ (λ none. one (sym is.1 ∙ none), λ none. two (sym is.2 ∙ none))
  | inr is ↦ (λ none. two (sym is.1 ∙ none), λ none. one (sym is.2 ∙ none))
]

-- where the next one begins
pub next_begin : (n w : ℕ) (behind : List ℕ) (index begin : ℕ) (target : List ℕ) → IsTarget n w behind index target → begin ≡ begin_of n w behind index → suc index < n → begin + length target ≡ begin_of n w behind (suc index)
next_begin n w behind index begin target t here inside =
    let len = target_len n w behind index target t in
    let next = begins_at_end n w behind index inside in
    let low = t.some in
    omega arith

-- One more target: of it and the longest so far, the one at j was tested, and the one at k is the longest now.
module _ (kind : Kind) (n w : ℕ) (behind : List ℕ) (index : ℕ) (longest target : List ℕ) (most : ℕ) (inside : index < n) (long : n + w * (n - 1) ≤ length behind) (two : 2 ≤ n) (so_far : Passed kind n w behind index longest most) (t : IsTarget n w behind index target) where
  abbrev order' : InOrder n w behind (index + 1)
  order' = order_more n w behind index so_far.order t.some t.within

  piece_len : (i : ℕ) → i < index + 1 → length (target_of n w behind i) ≡ extent n w behind i
  piece_len i h = let o = order' i h in let low = o.0 in target_long n w behind i (target_of n w behind i) (omega arith) o.1 refl

  passed_by : (j k : ℕ) (shorter longer : List ℕ) (count : ℕ) → j < index + 1 → (j ≡ k → ⊥) → extent n w behind j ≤ extent n w behind k
      → ((i : ℕ) → i < index + 1 → (i ≡ k → ⊥) → (i ≡ j) ⊎ ((i < index) × (i ≡ so_far.place → ⊥))) → ((i : ℕ) → i < index → (i ≡ so_far.place → ⊥) → i ≡ k → ⊥)
      → shorter ≡ target_of n w behind j → longer ≡ target_of n w behind k → IsLongest n w behind (index + 1) k
      → IsText kind shorter → ((pairs : Pairs) (text : Lists kind shorter pairs) → count ≡ deep text) → IsShallow shorter count → Passed kind n w behind (index + 1) longer (max most (count + 1))
  passed_by j k shorter longer count j_in other less split join j_is k_is is_longest text counted shallow = record {
    order = order';
    place = k;
    is_longest = is_longest;
    is = k_is;
    texts = λ i h apart_k. (elim (split i h apart_k) [
      | inl same ↦ subst (IsText kind) (j_is ∙ ap (target_of n w behind) (sym same)) text
      | inr before ↦ so_far.texts i before.0 before.1
    ]);
    shallow = (
        let k_in = is_longest.inside in
        let len = ap length j_is ∙ piece_len j j_in in
        let both = apart n w behind (index + 1) (omega arith) order' j k j_in k_in other in
        let low = (order' j j_in).0 in
        let all = targets_shorter n w behind long two in
        shallow_max behind most (count + 1) so_far.shallow (shallow_more shorter behind count shallow (omega arith) (omega arith))
        );
    counts = λ edges targets pairs each has. (
        let ds = deeps each in
        let before = so_far.counts edges targets pairs each has in
        let at = each_at each j (let c = has.count in omega arith) in
        let same : get_or targets j [] ≡ shorter = sym (piece_is has j (omega arith)) ∙ sym j_is in
        let deep_here : count ≡ get_or ds j 0 = subst (λ x. (ps : Pairs) (y : Lists kind x ps) → count ≡ deep y) (sym same) counted at.below at.inner ∙ sym at.deep_is in
        record {
          least = λ i h apart_k. (elim (split i h apart_k) [
            | inl eq ↦ (let e : get_or ds i 0 ≡ get_or ds j 0 = ap (λ x. get_or ds x 0) eq in omega arith)
            | inr old ↦ (let l = before.least i old.0 old.1 in omega arith)
          ]);
          reached = elim (cases_lt most (count + 1)) [
            | inl more ↦ inr (j, j_in, other, omega arith)
            | inr not ↦ (let m : max most (count + 1) ≡ most = omega arith in elim before.reached [
              | inl one ↦ inl (m ∙ one)
              | inr old ↦ inr (old.0, (let h = old.1 in omega arith), join old.0 old.1 old.2, old.3 ∙ sym m)
            ])
          ];
        }
        );
  }

  pub passed_more : (shorter longer : List ℕ) (count : ℕ) → IsFirstLonger longest target shorter longer
      → IsText kind shorter → ((pairs : Pairs) (text : Lists kind shorter pairs) → count ≡ deep text) → IsShallow shorter count → Passed kind n w behind (index + 1) longer (max most (count + 1))
  passed_more shorter longer count by text counted shallow =
      let place = so_far.place in
      let was = so_far.is_longest in
      let place_in = was.inside in
      let first_len : length longest ≡ extent n w behind place = ap length so_far.is ∙ piece_len place (omega arith) in
      let next_len = target_len n w behind index target t in
      elim by [
        | inl is ↦
            let less = is.0 in
            passed_by place index shorter longer count (omega arith) (λ e. omega arith) (omega arith)
            (λ i h other. (elim (eqb_tells i place) [
              | inl same ↦ inl same.1
              | inr apart_p ↦ inr (below_or i index h other, apart_p.1)
            ])) (λ i h other e. omega arith)
            (is.1 ∙ so_far.is) (is.2 ∙ t.is)
            (record {
              inside = omega arith;
              most = λ i h. (elim (cases_lt i index) [
                | inl before ↦ (let m = was.most i before in omega arith)
                | inr past ↦ (let same : index ≡ i = omega arith in subst (λ x. extent n w behind x ≤ extent n w behind index) same (omega arith))
              ]);
              first = λ i h. (let m = was.most i h in omega arith);
            })
            text counted shallow
        | inr is ↦
            let le = is.0 in
            passed_by index place shorter longer count (omega arith) (λ e. omega arith) (omega arith)
            (λ i h other. (elim (cases_lt i index) [
              | inl before ↦ inr (before, other)
              | inr past ↦ inl (omega arith)
            ])) (λ i h other. other)
            (is.1 ∙ t.is) (is.2 ∙ so_far.is)
            (record {
              inside = omega arith;
              most = λ i h. (elim (cases_lt i index) [
                | inl before ↦ was.most i before
                | inr past ↦ (let same : index ≡ i = omega arith in subst (λ x. extent n w behind x ≤ extent n w behind place) same (omega arith))
              ]);
              first = was.first;
            })
            text counted shallow
      ]
    where
      below_or : (i p : ℕ) → i < p + 1 → (i ≡ p → ⊥) → i < p
      below_or i p h other = omega arith

-- of the longest target so far and the next one, the shorter one is a target, and shorter than all bytes from the edges on
pub shorter_there : (kind : Kind) (n w : ℕ) (behind : List ℕ) (index : ℕ) (longest target : List ℕ) (most : ℕ) → index < n → n + w * (n - 1) ≤ length behind → 2 ≤ n
    → Passed kind n w behind index longest most → IsTarget n w behind index target → (shorter longer : List ℕ) → IsFirstLonger longest target shorter longer
    → (i : ℕ) × (i < n) × (shorter ≡ target_of n w behind i) × (length shorter < length behind)
shorter_there kind n w behind index longest target most inside long two so_far t shorter longer by =
    let all = targets_shorter n w behind long two in
    let size = target_len n w behind index target t in
    let within = t.within in
    elim by [
      | inl is ↦
          let place_in = so_far.is_longest.inside in
          let less = is.0 in
          let same = ap length is.1 in
          (so_far.place, omega arith, is.1 ∙ so_far.is, omega arith)
      | inr is ↦
          let same = ap length is.1 in
          (index, inside, is.1 ∙ t.is, omega arith)
    ]

-- a target that is no text makes the branch none
pub no_target : (kind : Kind) (n w : ℕ) (table behind : List ℕ) (index : ℕ) (target : List ℕ) → index < n → target ≡ target_of n w behind index → (IsText kind target → ⊥) → AlwaysNoText kind (shapes.Shape.branch n w table behind)
no_target kind n w table behind index target inside is wrong bytes b text =
    let o = opens_on text.1 n w table behind b in
    let has = o.holds.has_targets in
    let at = each_at o.each index (let c = has.count in omega arith) in
    wrong (subst (IsText kind) (sym (piece_is has index inside) ∙ sym is) (at.below, at.inner))

-- targets that were all tested but the longest
module _ {kind : Kind} {n w place : ℕ} {table behind : List ℕ} (sound : IsSound kind n w table behind place) (long : n + w * (n - 1) ≤ length behind) (two : 2 ≤ n) (some : 1 ≤ w) where
  has_all : HasTargets (pieces n w behind) n w behind
  has_all = sound_targets sound.front sound.in_order long two some

  pub piece_long : (i : ℕ) → i < n → length (target_of n w behind i) ≡ extent n w behind i
  piece_long i h = ap length (piece_is has_all i h) ∙ sym (extent_is has_all i h)

  pub goes_on : (longest : List ℕ) (most : ℕ) → longest ≡ target_of n w behind place → ((i : ℕ) → i < n → (i ≡ place → ⊥) → IsText kind (target_of n w behind i))
      → ((edges : List ℕ) (targets : List (List ℕ)) (pairs : Pairs) (each : ListEach kind edges targets pairs) → HasTargets targets n w behind → Reaches (deeps each) n place most)
      → AlwaysReducesTo kind (shapes.Shape.branch n w table behind) longest Something most
  goes_on longest most is texts counts bytes b =
      let inside = sound.is_longest.inside in
      record {
        there = λ pairs text. (
            let o = opens_on text n w table behind b in
            let has = o.holds.has_targets in
            let ds = deeps o.each in
            let len : length ds ≡ n = length-deeps o.each ∙ has.count in
            let at = each_at o.each place (let c = has.count in omega arith) in
            let same : get_or o.targets place [] ≡ longest = sym (piece_is has place inside) ∙ sym is in
            let deepest : deep text ≡ greatest (one_more_but place ds) = o.deep_is ∙ ap (λ p. greatest (one_more_but p ds)) (longest_is has place sound.is_longest) in
            let deep_here = at.deep_is in
            let some = deep_some at.inner in
            let all = greatest_reached ds place most (omega arith) (omega arith) (subst (λ k. Reaches ds k place most) (sym len) (counts o.edges o.targets pairs o.each has)) in
            subst (λ t. HasRest text t Something most) same (record { allowed = at.some; below = at.below; inner = at.inner; counts = omega arith })
            );
        back = λ allowed text. (
            let each = each_from kind (take n behind) (pieces n w behind) (length-pieces n w behind ∙ sym (length-take-le n behind (omega arith))) (λ i l. (
            let h : i < n = (let k = length-pieces n w behind in omega arith) in
            let at = get_or-pieces n w behind i h in
            let order = sound.in_order i h in
            let size = piece_long i h in (
              (λ none. (let none_long = ap length (sym at ∙ none) in omega arith)),
              subst (IsText kind) (sym at) (elim (eqb_tells i place) [
                | inl same ↦ subst (λ k. IsText kind (target_of n w behind k)) (sym same.1) (subst (IsText kind) is text)
                | inr other ↦ texts i h other.1
              ]),
            ))) in
            (each.0, branch (sound_is sound.front sound.in_order long two some b) each.1)
            );
      }

-- when all but the longest were tested, the text goes on with it
pub passed_all : (kind : Kind) (n w : ℕ) (table behind longest : List ℕ) (most : ℕ) → HasFront kind n w table behind → n + w * (n - 1) ≤ length behind → 2 ≤ n → 1 ≤ w
    → Passed kind n w behind n longest most → AlwaysReducesTo kind (shapes.Shape.branch n w table behind) longest Something most
passed_all kind n w table behind longest most front long two some passed =
    goes_on {place = passed.place} (record { front = front; in_order = passed.order; is_longest = passed.is_longest }) long two some longest most passed.is passed.texts passed.counts

-- a target is shorter than all bytes from the edges on
pub target_shorter : (n w : ℕ) (behind : List ℕ) (index : ℕ) (target : List ℕ) → n + w * (n - 1) ≤ length behind → 2 ≤ n → IsTarget n w behind index target → length target < length behind
target_shorter n w behind index target long two t =
    let len = target_len n w behind index target t in
    let within = t.within in
    let all = targets_shorter n w behind long two in
    omega arith

pub longest_shorter : (kind : Kind) (n w : ℕ) (behind : List ℕ) (index : ℕ) (longest : List ℕ) (most : ℕ) → n + w * (n - 1) ≤ length behind → 2 ≤ n → Passed kind n w behind index longest most → length longest < length behind
longest_shorter kind n w behind index longest most long two passed =
    let o = passed.order passed.place passed.is_longest.inside in
    target_shorter n w behind passed.place longest long two (record { some = o.0; within = o.1; is = passed.is })
