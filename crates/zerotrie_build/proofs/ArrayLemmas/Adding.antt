-- One item after another is added.
use Rattle.std.proofs.Common.{◌≡◌, ℕ, zero, suc, ◌-◌, ◌<◌, ◌≤◌, inl, inr, List, [], ◌∷◌, ◌++◌, length, refl, sym, ◌∙◌, ap, subst, arith, take, drop, get_or, All, Some, slice_get}
use Rattle.std.proofs.lemmas.List.{take-append-drop, drop_all}
use Rattle.std.proofs.lemmas.Option.{slice_get_within}
use Rattle.zerotrie_base.specs.Kind.{Kind}
use Rattle.zerotrie_base.specs.Numbers.{value_form, SpellsAs, spelled_as}
use Rattle.zerotrie_base.specs.Maps.{Pairs, residual, behind_all}
use Rattle.zerotrie_base.specs.Texts.{Lists}
use Rattle.zerotrie_base.specs.Texts.Lists.{nothing}
use Rattle.zerotrie_base.specs.Fits.{OverflowsAt}
use Rattle.zerotrie_base.specs.Stack.{stack_of}
use Rattle.zerotrie_base.specs.declared.error.ZeroTrieBuildError.{ZeroTrieBuildError}
use Rattle.zerotrie_base.proofs.CallerLemmas.{residual-append, stack_none}
use Rattle.zerotrie_build.specs.declared.array.text.Sibling.{Sibling}
use Rattle.zerotrie_build.specs.declared.array.text.Text.{Text}
use Rattle.zerotrie_build.specs.Order.{Before, Ordered}
use Rattle.zerotrie_build.specs.array.Texts.{Counts, Has, Prepends, newest_first}
use Rattle.zerotrie_build.specs.array.Growing.{IsClosedTo, IsReady, BuiltFrom, AtMost, AreAmong, RefusedFrom, RefusedBefore, IsRefusedBuild}
use Rattle.zerotrie_build.proofs.ItemLemmas.{got, each_ordered}
use Rattle.zerotrie_build.proofs.Overflow.{same_edges, same_targets_size, exceeds}
use Rattle.zerotrie_build.proofs.ArrayLemmas.Runs.{behind_all-append, among_right}
use Rattle.zerotrie_build.proofs.ArrayLemmas.Parting.{nothing_before}
use Rattle.zerotrie_build.proofs.ArrayLemmas.Closing.{with_value, whole}

drop_at : (all : Pairs) (i : ℕ) (a : List ℕ × ℕ) → slice_get all i ≡ Some a → a ∷ drop (suc i) all ≡ drop i all
drop_at [] i a h = absurd (let g : i < 0 = slice_get_within [] i a h in omega arith)
drop_at (e ∷ all) zero a h = let g : Some e ≡ Some a = h in cc
drop_at (e ∷ all) (suc i) a h = drop_at all i a h

-- the value is in front
pub stands_at : (kind : Kind) (k : ℕ) (all : Pairs) (i : ℕ) (key : List ℕ) (v : ℕ) (old new : Text) (siblings : List Sibling) → slice_get all i ≡ Some (key, v)
    → SpellsAs value_form v (spelled_as value_form v) → Prepends old new (spelled_as value_form v) → BuiltFrom kind k (suc i) all old siblings → IsClosedTo kind k key (length key) new siblings (drop i all)
stands_at kind k all i key v old new siblings at spells p built =
    let waiting : IsReady kind k key old siblings (drop (suc i) all) = subst (λ e. IsReady kind k e.0 old siblings (drop (suc i) all)) (got all i ([], 0) (key, v) at) built in
    subst (IsClosedTo kind k key (length key) new siblings) (drop_at all i (key, v) at)
    (spelled_as value_form v ++ waiting.0, p.has waiting.0 waiting.1, with_value kind k key v (spelled_as value_form v) (newest_first siblings) old.front new.front waiting.0 (drop (suc i) all) spells (λ m c. p.counts m c) waiting.2)

pub built_at_start : (kind : Kind) (k : ℕ) (all : Pairs) (i : ℕ) (key : List ℕ) (text : Text) (siblings : List Sibling) → i ≡ 0 → IsClosedTo kind k key 0 text siblings (drop i all) → BuiltFrom kind k i all text siblings
built_at_start kind k all i key text siblings e standing =
    let w = whole kind k key (newest_first siblings) text.front standing.0 (drop i all) standing.2 in
    let lists : Lists kind standing.0 all = subst (λ j. Lists kind standing.0 (drop j all)) e w.0 in
    let enough : stack_of kind all ≤ k = subst (λ j. stack_of kind (drop j all) ≤ k) e w.1 in
    subst (λ j. BuiltFrom kind k j all text siblings) (sym e) (standing.0, standing.1, lists, enough)

pub built_before : (kind : Kind) (k : ℕ) (all : Pairs) (j i : ℕ) (before : List ℕ) (v : ℕ) (text : Text) (siblings : List Sibling) → suc j ≡ i → slice_get all j ≡ Some (before, v) → IsReady kind k before text siblings (drop i all)
    → BuiltFrom kind k i all text siblings
built_before kind k all j i before v text siblings e at waits =
    let moved : IsReady kind k (get_or all j ([], 0)).0 text siblings (drop i all) = subst (λ a. IsReady kind k a.0 text siblings (drop i all)) (sym (got all j ([], 0) (before, v) at)) waits in
    let next : BuiltFrom kind k (suc j) all text siblings = subst (λ m. IsReady kind k (get_or all j ([], 0)).0 text siblings (drop m all)) (sym e) moved in
    subst (λ m. BuiltFrom kind k m all text siblings) e next

pub built_nothing : (kind : Kind) (k : ℕ) (all : Pairs) (i : ℕ) (text : Text) → i ≡ length all → text.len ≡ 0 → text.front ≡ 0 → BuiltFrom kind k i all text []
built_nothing kind k all i text e len front = subst (λ j. BuiltFrom kind k j all text []) (sym e) (start all)
  where
    past : (pairs : Pairs) → drop (length pairs) pairs ≡ []
    past [] = refl
    past (f ∷ pairs) = past pairs

    has : Has text []
    has = record {
      exact = λ l. len;
      capped = λ l. absurd (omega arith);
      written = λ l. drop_all (length text.buffer.now - 0) text.buffer.now (omega arith);
    }

    start : (pairs : Pairs) → BuiltFrom kind k (length pairs) pairs text []
    start [] = ([], has, nothing, let s = stack_none kind in omega arith)
    start (f ∷ pairs) = (
      [],
      has,
      record {
        text = [];
        rest = [];
        inner = [];
        others = [];
        is_front = tt;
        lists = nothing;
        counts = subst (λ c. Counts c 0) (sym front) (record { small = λ l. refl; large = λ l. l });
        enough = let s = stack_none kind in omega arith;
        aside = (refl, refl);
        below = tt;
        bytes_are = refl;
        pairs_are = past pairs;
      },
    )

pub rising_at : (kind : Kind) (all : Pairs) (j i : ℕ) (a b : List ℕ × ℕ) → suc j ≡ i → slice_get all j ≡ Some a → slice_get all i ≡ Some b → Ordered kind all → Before kind a.0 b.0
rising_at kind all j i a b e p q up =
    let within : i < length all = slice_get_within all i b q in
    let here = each_ordered kind all j up (omega arith) in
    let at_i : get_or all (suc j) ([], 0) ≡ b = ap (λ n. get_or all n ([], 0)) e ∙ got all i ([], 0) b q in
    subst (λ y. Before kind a.0 y.0) at_i (subst (λ x. Before kind x.0 (get_or all (suc j) ([], 0)).0) (got all j ([], 0) a p) here)

pub ascii_at : (all : Pairs) (i : ℕ) (a : List ℕ × ℕ) → slice_get all i ≡ Some a → All (λ e. All (λ b. b < 128) e.0) all → All (λ b. b < 128) a.0
ascii_at all i a at ascii = subst (λ x. All (λ b. b < 128) x.0) (got all i a a at) (ascii i a (slice_get_within all i a at))

-- What overflows among the last pairs overflows among all, if nothing before them stands strictly after the front.
overflows_all : (kind : Kind) (front : List ℕ) (all before listed : Pairs) → all ≡ before ++ listed → ((b : ℕ) → residual b (behind_all front before) ≡ []) → OverflowsAt kind front listed → OverflowsAt kind front all
overflows_all kind front all before listed is none over =
    let same : (b : ℕ) → residual b (behind_all front listed) ≡ residual b (behind_all front all) =
    λ b. sym (ap (λ p. residual b (behind_all front p)) is ∙ ap (residual b) (behind_all-append front before listed)
    ∙ residual-append b (behind_all front before) (behind_all front listed) ∙ ap (λ x. x ++ residual b (behind_all front listed)) (none b)) in
    let e = ap length (same_edges (behind_all front listed) (behind_all front all) same) in
    let t = same_targets_size kind (behind_all front listed) (behind_all front all) same in
    let a = over.0 in
    let b = over.1 in
    (omega arith, omega arith)

-- the last pairs are among all
among_last : (all : Pairs) (i : ℕ) → AreAmong (drop i all) all
among_last all i front b h = subst (λ p. AreAmong (drop i all) p) (take-append-drop i all) (among_right (take i all) (drop i all)) front b h

pub stuck_at_start : (kind : Kind) (k : ℕ) (all : Pairs) (i : ℕ) (key : List ℕ) (e : ZeroTrieBuildError) → i ≡ 0 → RefusedFrom kind k key 0 (drop i all) e → IsRefusedBuild kind k all e
stuck_at_start kind k all i key e is stuck = elim stuck.3 [
  | inl wide ↦ inl (wide.0, exceeds kind (take stuck.0 key) all (subst (λ j. OverflowsAt kind (take stuck.0 key) (drop j all)) is wide.1))
  | inr many ↦ inr (many.0, many.1 all (among_last all i))
]

pub stuck_before_last : (kind : Kind) (k : ℕ) (all : Pairs) (j i : ℕ) (before : List ℕ) (v : ℕ) (e : ZeroTrieBuildError) → suc j ≡ i → slice_get all j ≡ Some (before, v) → Ordered kind all → RefusedBefore kind k before (drop i all) e → IsRefusedBuild kind k all e
stuck_before_last kind k all j i before v e is at up stuck = elim stuck [
  | inl wide ↦
      let front = wide.1.0 in
      let most : AtMost kind front (get_or all j ([], 0)).0 = subst (λ a. AtMost kind front a.0) (sym (got all j ([], 0) (before, v) at)) wide.1.1 in
      let none : (b : ℕ) → residual b (behind_all front (take i all)) ≡ [] =
      subst (λ m. (b : ℕ) → residual b (behind_all front (take m all)) ≡ []) is (λ b. nothing_before kind front all j b up (slice_get_within all j (before, v) at) most) in
      inl (wide.0, exceeds kind front all (overflows_all kind front all (take i all) (drop i all) (sym (take-append-drop i all)) none wide.1.2))
  | inr many ↦
      let cut : (before, v) ∷ drop i all ≡ drop j all = ap (λ m. (before, v) ∷ drop m all) (sym is) ∙ drop_at all j (before, v) at in
      inr (many.0, many.1 v all (subst (λ p. AreAmong p all) (sym cut) (among_last all j)))
]
