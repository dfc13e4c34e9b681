-- What lies after each edge of a list of targets.
use Rattle.std.proofs.Common.{◌≡◌, ℕ, zero, suc, ◌<◌, List, [], ◌∷◌, ◌++◌, length, refl, sym, ◌∙◌, ap, arith, Some, None, Bool, true, false, get_or, inl, inr, ◌⊎◌}
use Rattle.std.specs.Prelude.{filter, not, ◌==◌}
use Rattle.std.proofs.lemmas.Bool.{eq-eqb, ne_eqb}
use Rattle.zerotrie_base.specs.Kind.{Kind, fold_byte}
use Rattle.zerotrie_base.specs.Maps.{Pairs, value_at, with_front, residual}
use Rattle.zerotrie_base.specs.Texts.{Lists, ListEach, nodes, nodes_behind}
use Rattle.zerotrie_base.specs.Texts.ListEach.{no_edge, edge}
use Rattle.zerotrie_base.specs.Cursors.{met, edge_like}
use Rattle.zerotrie_base.proofs.MapLemmas.Kinds.{one_fold, two_folds}
use Rattle.zerotrie_base.proofs.NodeLemmas.Tables.{NoneLike, Distinct, at-Each, none_member}
use Rattle.zerotrie_base.proofs.MapLemmas.Values.{value_at-front, value_at-other, value_at-append, value_at-some}
use Rattle.zerotrie_base.proofs.CanonicalLemmas.Canonical.{lists_some, residual_first, residual_later}

-- the first edge that is c to the kind
pub like_none : (kind : Kind) (c : ℕ) (edges : List ℕ) → NoneLike kind c edges → edge_like kind c edges ≡ None
like_none kind c [] none = refl
like_none kind c (e ∷ edges) none = rw (two_folds kind e c (λ s. none.0 (sym s))) (like_none kind c edges none.1)

-- an edge is like none of those before it
other_edge : (kind : Kind) (e i : ℕ) (edges : List ℕ) → NoneLike kind e edges → i < length edges → fold_byte kind e ≡ fold_byte kind (get_or edges i 0) → ⊥
other_edge kind e i edges none h = at-Each (λ f. fold_byte kind e ≡ fold_byte kind f → ⊥) edges none i h

pub like_some : (kind : Kind) (c i : ℕ) (edges : List ℕ) → Distinct kind edges → i < length edges → fold_byte kind (get_or edges i 0) ≡ fold_byte kind c → edge_like kind c edges ≡ Some (get_or edges i 0)
like_some kind c i [] apart h is = absurd (omega arith)
like_some kind c zero (e ∷ edges) apart h is = rw (one_fold kind e c is) refl
like_some kind c (suc i) (e ∷ edges) apart h is =
    rw (two_folds kind e c (λ s. other_edge kind e i edges apart.0 (omega arith) (s ∙ sym is))) (like_some kind c i edges apart.1 (omega arith) is)

-- no pair goes on by a byte that is no edge
pub each_none : {kind : Kind} {edges : List ℕ} {targets : List (List ℕ)} {pairs : Pairs} (each : ListEach kind edges targets pairs) (c : ℕ) → NoneLike kind c edges
    → ((key : List ℕ) → value_at kind pairs (c ∷ key) ≡ None) × ((key : List ℕ) → nodes_behind each c key ≡ 0)
each_none no_edge c none = (λ key. refl, λ key. refl)
each_none {kind = kind} (edge {e = e} {pairs = pairs} {more = more} n text each) c none =
    let other = two_folds kind e c (λ s. none.0 (sym s)) in
    let rest = each_none each c none.1 in
    (λ key. value_at-append kind (c ∷ key) (with_front e pairs) more (value_at-other kind e c key pairs other) ∙ rest.0 key, λ key. rw other (rest.1 key))

-- The target lists the pairs after the edge b.
pub record BehindEdge {kind : Kind} {edges : List ℕ} {targets : List (List ℕ)} {pairs : Pairs} (each : ListEach kind edges targets pairs) (b : ℕ) (target : List ℕ) : Type 0 where
  pub below : Pairs
  pub inner : Lists kind target below
  pub is : below ≡ residual b pairs
  pub answers : (c : ℕ) → fold_byte kind b ≡ fold_byte kind c → (key : List ℕ) → value_at kind pairs (c ∷ key) ≡ value_at kind below key
  pub counts : (c : ℕ) → fold_byte kind b ≡ fold_byte kind c → (key : List ℕ) → nodes_behind each c key ≡ nodes inner key

none_of_fold : (kind : Kind) (e c : ℕ) (edges : List ℕ) → fold_byte kind e ≡ fold_byte kind c → NoneLike kind e edges → NoneLike kind c edges
none_of_fold kind e c [] same none = tt
none_of_fold kind e c (f ∷ edges) same none = (λ s. none.0 (same ∙ s), none_of_fold kind e c edges same none.1)

-- target number i lists the pairs after edge number i
pub each_behind : {kind : Kind} {edges : List ℕ} {targets : List (List ℕ)} {pairs : Pairs} (each : ListEach kind edges targets pairs) → Distinct kind edges → (i : ℕ) → i < length edges
    → BehindEdge each (get_or edges i 0) (get_or targets i [])
each_behind no_edge apart i h = absurd (omega arith)
each_behind {kind = kind} (edge {e = e} {edges = edges} {pairs = pairs} {more = more} n text each) apart zero h = record {
  below = pairs;
  inner = text;
  is = sym (residual_first e pairs each (none_member kind e edges apart.0));
  answers = λ c same key. (
      let none = (each_none each c (none_of_fold kind e c edges same apart.0)).0 key in
      value_at-some kind (c ∷ key) (with_front e pairs) more none ∙ value_at-front kind e c key pairs (one_fold kind e c same)
      );
  counts = λ c same key. rw (one_fold kind e c same) refl;
}
each_behind {kind = kind} (edge {e = e} {edges = edges} {targets = targets} {pairs = pairs} {more = more} n text each) apart (suc i) h =
    let f = each_behind each apart.1 i (omega arith) in
    let b = get_or edges i 0 in
    let other = other_edge kind e i edges apart.0 (omega arith) in
    record {
      below = f.below;
      inner = f.inner;
      is = f.is ∙ sym (residual_later b e pairs more (λ s. other (ap (fold_byte kind) s)));
      answers = λ c same key. (
          let apart_folds = two_folds kind e c (λ s. other (s ∙ sym same)) in
          value_at-append kind (c ∷ key) (with_front e pairs) more (value_at-other kind e c key pairs apart_folds) ∙ f.answers c same key
          );
      counts = λ c same key. rw (two_folds kind e c (λ s. other (s ∙ sym same))) (f.counts c same key);
    }

-- whether a byte is another than e
abbrev differs : ℕ → ℕ → Bool
differs e c = not (c == e)

not_itself : (e : ℕ) → differs e e ≡ false
not_itself e = rw (eq-eqb e e refl) refl

is_other : (e c : ℕ) → (c ≡ e → ⊥) → differs e c ≡ true
is_other e c h = rw (ne_eqb c e h) refl

either : (b : Bool) → (b ≡ true) ⊎ (b ≡ false)
either true = inl refl
either false = inr refl

kept : (p : ℕ → Bool) (x : ℕ) (xs : List ℕ) → p x ≡ true → filter p (x ∷ xs) ≡ x ∷ filter p xs
kept p x xs h = rw h refl

left_out : (p : ℕ → Bool) (x : ℕ) (xs : List ℕ) → p x ≡ false → filter p (x ∷ xs) ≡ filter p xs
left_out p x xs h = rw h refl

filter-filter : (p : ℕ → Bool) (xs : List ℕ) → filter p (filter p xs) ≡ filter p xs
filter-filter p [] = refl
filter-filter p (x ∷ xs) = elim (either (p x)) [
  | inl h ↦ ap (filter p) (kept p x xs h) ∙ kept p x (filter p xs) h ∙ ap (λ ys. x ∷ ys) (filter-filter p xs) ∙ sym (kept p x xs h)
  | inr h ↦ ap (filter p) (left_out p x xs h) ∙ filter-filter p xs ∙ sym (left_out p x xs h)
]

-- the pairs after e make no further edge
met_more : (e : ℕ) (pairs more : Pairs) → filter (differs e) (met (with_front e pairs ++ more)) ≡ filter (differs e) (met more)
met_more e [] more = refl
met_more e (x ∷ pairs) more =
    left_out (differs e) e (filter (differs e) (met (with_front e pairs ++ more))) (not_itself e)
    ∙ filter-filter (differs e) (met (with_front e pairs ++ more))
    ∙ met_more e pairs more

pub met_front : (e : ℕ) (pairs more : Pairs) → (pairs ≡ [] → ⊥) → met (with_front e pairs ++ more) ≡ e ∷ filter (differs e) (met more)
met_front e [] more some = absurd (some refl)
met_front e (x ∷ pairs) more some = ap (λ es. e ∷ es) (met_more e pairs more)

all_differ : (kind : Kind) (e : ℕ) (edges : List ℕ) → NoneLike kind e edges → filter (differs e) edges ≡ edges
all_differ kind e [] none = refl
all_differ kind e (b ∷ edges) none =
    kept (differs e) b edges (is_other e b (λ is. none.0 (ap (fold_byte kind) (sym is)))) ∙ ap (λ es. b ∷ es) (all_differ kind e edges none.1)

-- the listing meets the edges, in their order
pub met_each : {kind : Kind} {edges : List ℕ} {targets : List (List ℕ)} {pairs : Pairs} → ListEach kind edges targets pairs → Distinct kind edges → met pairs ≡ edges
met_each no_edge apart = refl
met_each {kind = kind} (edge {e = e} {edges = edges} {pairs = pairs} {more = more} n text each) apart =
    met_front e pairs more (lists_some text n)
    ∙ ap (λ es. e ∷ filter (differs e) es) (met_each each apart.1)
    ∙ ap (λ es. e ∷ es) (all_differ kind e edges apart.0)
