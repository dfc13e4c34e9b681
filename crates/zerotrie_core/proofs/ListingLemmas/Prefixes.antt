-- The pairs whose keys begin with a prefix, found by steps.
use Rattle.std.proofs.Common.{◌≡◌, ℕ, ◌+◌, ◌≤◌, List, [], ◌∷◌, ◌++◌, refl, sym, ◌∙◌, ap, subst, Option, Some, None, Bool, true, false, cond, inl, inr, drop, get_or, length}
use Rattle.std.specs.Prelude.{filter, not, ◌==◌}
use Rattle.std.specs.List.{AllByRecursion}
use Rattle.std.proofs.lemmas.Bool.{eq-eqb, ne_eqb, cases_eq}
use Rattle.std.proofs.Math.ListN.{drop_of_length-le}
use Rattle.zerotrie_base.specs.Kind.{Kind, fold_byte, same_byte}
use Rattle.zerotrie_base.specs.Maps.{Pairs, residual, with_front, with_run, begins_with, beginning}
use Rattle.zerotrie_base.specs.Texts.{Lists}
use Rattle.zerotrie_base.specs.Cursors.{met, edge_like}
use Rattle.zerotrie_core.specs.Machine.{behind}
use Rattle.zerotrie_core.specs.Places.{Place, ListsAt}
use Rattle.zerotrie_base.proofs.NodeLemmas.Tables.{NoneLike, Distinct}
use Rattle.zerotrie_base.proofs.MapLemmas.Spans.{with_run-none}
use Rattle.zerotrie_core.proofs.ListingLemmas.Left.{run_front}
use Rattle.zerotrie_core.proofs.CursorLemmas.Laws.{place_has}

-- What holds of each edge that pairs meet holds of the first byte of each key.
abbrev AllFirst : (ℕ → Type 0) → Pairs → Type 0
AllFirst Fact [] = Unit {0}
AllFirst Fact (([], v) ∷ pairs) = AllFirst Fact pairs
AllFirst Fact ((b ∷ key, v) ∷ pairs) = Fact b × AllFirst Fact pairs

unfiltered_at : (Fact : ℕ → Type 0) (d x : ℕ) (xs : List ℕ) → Fact d → AllByRecursion Fact (filter (λ c. not (c == d)) (x ∷ xs)) → Fact x × AllByRecursion Fact (filter (λ c. not (c == d)) xs)
unfiltered_at Fact d x xs here all = elim (cases_eq x d) [
  | inl same ↦ (subst Fact (sym same) here, rw (eq-eqb x d same) at all)
  | inr other ↦ (let kept = rw (ne_eqb x d other) at all in kept)
]

unfiltered : (Fact : ℕ → Type 0) (d : ℕ) (xs : List ℕ) → Fact d → AllByRecursion Fact (filter (λ c. not (c == d)) xs) → AllByRecursion Fact xs
unfiltered Fact d [] here all = tt
unfiltered Fact d (x ∷ xs) here all = let at = unfiltered_at Fact d x xs here all in (at.0, unfiltered Fact d xs here at.1)

all_first : (Fact : ℕ → Type 0) (pairs : Pairs) → AllByRecursion Fact (met pairs) → AllFirst Fact pairs
all_first Fact [] all = tt
all_first Fact (([], v) ∷ pairs) all = all_first Fact pairs all
all_first Fact ((b ∷ key, v) ∷ pairs) all = (all.0, all_first Fact pairs (unfiltered Fact b (met pairs) all.0 all.1))

-- among distinct edges, the one that a byte goes along is the only one that is the byte to the kind
abbrev Only : Kind → ℕ → Option ℕ → ℕ → Type 0
Only kind c None b = same_byte kind b c ≡ false
Only kind c (Some e) b = same_byte kind b c ≡ (b == e)

not_like : (kind : Kind) (c d : ℕ) (es : List ℕ) → fold_byte kind d ≡ fold_byte kind c → NoneLike kind d es → AllByRecursion (Only kind c (Some d)) es
not_like kind c d [] same none = tt
not_like kind c d (e ∷ es) same none = (
  ne_eqb (fold_byte kind e) (fold_byte kind c) (λ h. none.0 (same ∙ sym h)) ∙ sym (ne_eqb e d (λ h. none.0 (ap (fold_byte kind) (sym h)))),
  not_like kind c d es same none.1,
)

only_here : (kind : Kind) (c d : ℕ) → fold_byte kind d ≡ fold_byte kind c → Only kind c (Some d) d
only_here kind c d same = eq-eqb (fold_byte kind d) (fold_byte kind c) same ∙ sym (eq-eqb d d refl)

-- the edge d is not the byte, and the one that is stands among the others
other_edge : (kind : Kind) (c d : ℕ) (o : Option ℕ) (es : List ℕ) → (fold_byte kind d ≡ fold_byte kind c → ⊥) → edge_like kind c es ≡ o → Only kind c o d
other_edge kind c d None es other is = ne_eqb (fold_byte kind d) (fold_byte kind c) other
other_edge kind c d (Some e) es other is = ne_eqb (fold_byte kind d) (fold_byte kind c) other ∙ sym (ne_eqb d e (λ h. other (ap (fold_byte kind) h ∙ found es is)))
  where
    found : (es : List ℕ) → edge_like kind c es ≡ Some e → fold_byte kind e ≡ fold_byte kind c
    found [] is = absurd (cc)
    found (x ∷ xs) is = elim (cases_eq (fold_byte kind x) (fold_byte kind c)) [
      | inl same ↦ (let here : Some x ≡ Some e = rw (eq-eqb (fold_byte kind x) (fold_byte kind c) same) at is in let one : x ≡ e = cc in ap (fold_byte kind) (sym one) ∙ same)
      | inr none ↦ found xs (rw (ne_eqb (fold_byte kind x) (fold_byte kind c) none) at is)
    ]

only_edge : (kind : Kind) (c : ℕ) (es : List ℕ) (o : Option ℕ) → edge_like kind c es ≡ o → Distinct kind es → AllByRecursion (Only kind c o) es
only_edge kind c [] o is distinct = tt
only_edge kind c (d ∷ es) o is distinct = elim (cases_eq (fold_byte kind d) (fold_byte kind c)) [
  | inl same ↦ (
      let here : Some d ≡ o = rw (eq-eqb (fold_byte kind d) (fold_byte kind c) same) at is in
      subst (λ o. AllByRecursion (Only kind c o) (d ∷ es)) here (only_here kind c d same, not_like kind c d es same distinct.0)
      )
  | inr other ↦ (
      let later : edge_like kind c es ≡ o = rw (ne_eqb (fold_byte kind d) (fold_byte kind c) other) at is in
      (other_edge kind c d o es other later, only_edge kind c es o later distinct.1)
      )
]

-- the pairs after the edge that a byte goes along are those whose keys go on with it
step_none : (kind : Kind) (c : ℕ) (front : List ℕ) (pairs : Pairs) → AllFirst (Only kind c None) pairs → beginning kind (c ∷ front) pairs ≡ []
step_none kind c front [] all = refl
step_none kind c front (([], v) ∷ pairs) all = step_none kind c front pairs all
step_none kind c front ((b ∷ key, v) ∷ pairs) all = rw all.0 (step_none kind c front pairs all.1)

kept_or_not : (e : ℕ) (t : Bool) (key : List ℕ) (v : ℕ) (xs ys : Pairs) → xs ≡ with_front e ys → cond t ((e ∷ key, v) ∷ xs) xs ≡ with_front e (cond t ((key, v) ∷ ys) ys)
kept_or_not e true key v xs ys is = ap (λ ps. (e ∷ key, v) ∷ ps) is
kept_or_not e false key v xs ys is = is

step_along : (kind : Kind) (c e : ℕ) (front : List ℕ) (pairs : Pairs) → AllFirst (Only kind c (Some e)) pairs
    → beginning kind (c ∷ front) pairs ≡ with_front e (beginning kind front (residual e pairs))
step_along kind c e front [] all = refl
step_along kind c e front (([], v) ∷ pairs) all = step_along kind c e front pairs all
step_along kind c e front ((b ∷ key, v) ∷ pairs) all = elim (cases_eq b e) [
  | inl same ↦ rw (all.0, eq-eqb b e same)
      (ap (λ x. cond (begins_with kind front key) ((x ∷ key, v) ∷ beginning kind (c ∷ front) pairs) (beginning kind (c ∷ front) pairs)) same
      ∙ kept_or_not e (begins_with kind front key) key v (beginning kind (c ∷ front) pairs) (beginning kind front (residual e pairs)) (step_along kind c e front pairs all.1))
  | inr other ↦ rw (all.0, ne_eqb b e other) (step_along kind c e front pairs all.1)
]

-- What a prefix is, with its first byte stepped.
abbrev pub front_of : Option ℕ → Pairs → Pairs
front_of None pairs = []
front_of (Some e) pairs = with_front e pairs

by_step : (kind : Kind) (c : ℕ) (front : List ℕ) (pairs : Pairs) (o : Option ℕ) → AllFirst (Only kind c o) pairs → beginning kind (c ∷ front) pairs ≡ front_of o (beginning kind front (behind o pairs))
by_step kind c front pairs None all = step_none kind c front pairs all
by_step kind c front pairs (Some e) all = step_along kind c e front pairs all

pub beginning_step : (kind : Kind) (place : Place) (pairs : Pairs) → ListsAt kind place pairs → (c : ℕ) (front : List ℕ)
    → beginning kind (c ∷ front) pairs ≡ front_of (edge_like kind c (met pairs)) (beginning kind front (behind (edge_like kind c (met pairs)) pairs))
beginning_step kind place pairs lists c front =
    let h = place_has kind place pairs lists in
    let distinct = subst (Distinct kind) (sym h.parts.met_is) h.parts.distinct in
    by_step kind c front pairs (edge_like kind c (met pairs)) (all_first (Only kind c (edge_like kind c (met pairs))) pairs (only_edge kind c (met pairs) (edge_like kind c (met pairs)) refl distinct))

-- every key begins with nothing
pub beginning_all : (kind : Kind) (pairs : Pairs) → beginning kind [] pairs ≡ pairs
beginning_all kind [] = refl
beginning_all kind (e ∷ pairs) = ap (λ ps. e ∷ ps) (beginning_all kind pairs)

-- Where steps by the first bytes of a prefix lead: what is left of the prefix, of the pairs there, is what all of it is of all pairs.
pub record Stepped (kind : Kind) (all : Pairs) (prefix front : List ℕ) (i : ℕ) (place : Place) : Type 0 where
  pub pairs : Pairs
  pub lists : ListsAt kind place pairs
  pub same : with_run front (beginning kind (drop i prefix) pairs) ≡ beginning kind prefix all

pub starts : (kind : Kind) (bytes : List ℕ) (all : Pairs) (prefix : List ℕ) → Lists kind bytes all → Stepped kind all prefix [] 0 (record { run = []; trie = bytes })
starts kind bytes all prefix text = record { pairs = all; lists = text; same = with_run-none (beginning kind prefix all) }

-- the next byte leads along an edge
pub goes_on : (kind : Kind) (all : Pairs) (prefix front : List ℕ) (i : ℕ) (before after : Place) (e : ℕ) → (s : Stepped kind all prefix front i before) → drop i prefix ≡ get_or prefix i 0 ∷ drop (i + 1) prefix
    → (Some e ≡ edge_like kind (get_or prefix i 0) (met s.pairs)) × ListsAt kind after (residual e s.pairs)
    → Stepped kind all prefix (front ++ e ∷ []) (i + 1) after
goes_on kind all prefix front i before after e s more step =
    let c = get_or prefix i 0 in
    let rest = drop (i + 1) prefix in record {
      pairs = residual e s.pairs;
      lists = step.1;
      same = sym (run_front front e (beginning kind rest (residual e s.pairs)))
          ∙ ap (λ o. with_run front (front_of o (beginning kind rest (behind o s.pairs)))) step.0
          ∙ ap (with_run front) (sym (beginning_step kind before s.pairs s.lists c rest))
          ∙ ap (λ x. with_run front (beginning kind x s.pairs)) (sym more)
          ∙ s.same;
    }

-- or along none
pub stops : (kind : Kind) (all : Pairs) (prefix front : List ℕ) (i : ℕ) (before : Place) → (s : Stepped kind all prefix front i before) → drop i prefix ≡ get_or prefix i 0 ∷ drop (i + 1) prefix
    → None ≡ edge_like kind (get_or prefix i 0) (met s.pairs) → [] ≡ beginning kind prefix all
stops kind all prefix front i before s more none =
    let c = get_or prefix i 0 in
    let rest = drop (i + 1) prefix in
    ap (λ o. with_run front (front_of o (beginning kind rest (behind o s.pairs)))) none
    ∙ ap (with_run front) (sym (beginning_step kind before s.pairs s.lists c rest))
    ∙ ap (λ x. with_run front (beginning kind x s.pairs)) (sym more)
    ∙ s.same

-- after all bytes of the prefix
pub all_stepped : (kind : Kind) (all : Pairs) (prefix front : List ℕ) (i : ℕ) (place : Place) → (s : Stepped kind all prefix front i place) → length prefix ≤ i → with_run front s.pairs ≡ beginning kind prefix all
all_stepped kind all prefix front i place s end =
    ap (with_run front) (sym (beginning_all kind s.pairs) ∙ ap (λ x. beginning kind x s.pairs) (sym (drop_of_length-le prefix end))) ∙ s.same
