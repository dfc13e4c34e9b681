-- What a build of all that an iterator gives says of the list that the iterator goes over.
use Rattle.std.proofs.Common.{◌≡◌, ℕ, List, Option, Result, Ok, Err, Iter, inl, inr, length, ap, subst, ◌∙◌}
use Rattle.std.specs.Borrow.{Bor}
use Rattle.std.specs.Prelude.{◌<◌, ◌^◌, IfOk}
use Rattle.std.specs.Iterator.Runs.{SomeRun, WholeRun, EachRunFrom, EveryRun, IsCopiedRun, ItemsMapTo, ItemsAre, ItemsAreReversed}
use Rattle.std.specs.Array.Iter.{array_into_iter_items, array_steps, array_steps_back}
use Rattle.std.specs.declared.array.IntoIter.{IntoIter as ArrayIter}
use Rattle.std.specs.Vec.{vec_len}
use Rattle.std.specs.Vec.Iter.{into_iter_items, into_iter_len, into_iter_steps}
use Rattle.std.specs.declared.vec.IntoIter.{IntoIter as VecIter}
use Rattle.std.specs.declared.vec.Vec.{Vec}
use Rattle.std.specs.Slice.Iter.{iter_rest, iter_steps}
use Rattle.zerotrie_core.specs.Items.{keyed}
use Rattle.zerotrie_core.specs.Kind.{Kind}
use Rattle.zerotrie_core.specs.Maps.{Pairs}
use Rattle.zerotrie_core.specs.Routes.{any_order, HasCause, IsBuild, HoldsOfItsPairs, IsBuildOfAll}
use Rattle.zerotrie_core.specs.declared.ZeroTrieBuildError.{ZeroTrieBuildError}
use Rattle.zerotrie_any.specs.Auto.{auto_kind, IsAutoBuildOfAll}
pub use Rattle.zerotrie_any.proofs.Elements.{of_elements}

-- A build of all that an iterator gives is one of the pairs, if what holds of all that it gives holds of the pairs.
pub build_of : {B : Type 0} {OfAll : (Pairs → Type 0) → Type 0} (kind : Kind) (bytes : B → List ℕ) (pairs : Pairs) (r : Result B ZeroTrieBuildError)
    → ((Fact : Pairs → Type 0) → OfAll Fact → Fact pairs) → IsBuildOfAll OfAll kind bytes r → IsBuild any_order kind bytes pairs r
build_of kind bytes pairs (Ok b) gives build = gives (λ p. IsBuild any_order kind bytes p (Ok b)) build
build_of kind bytes pairs (Err e) gives refusal = elim refusal [ inl memory ↦ inl memory | inr cause ↦ inr (gives (λ p. HasCause any_order kind p e) cause) ]

-- What holds of the items of a whole run over copies, as `iter().copied()` gives them, holds of the list that is copied.
pub of_copies : {S T A : Type 0} {steps : S → Option A → S → Type 0} {source : T → Option (Bor A) → T → Type 0} (rest : T → List A) (Fact : List A → Type 0) (i s : S) (t : T)
    → EachRunFrom steps s (λ p. SomeRun source t (λ q. IsCopiedRun p q (λ y. y.now))) → EveryRun source (λ q. ItemsMapTo q (λ y. y.now) (rest q.from))
    → i ≡ s → WholeRun steps i (λ p. Fact p.items) → Fact (rest t)
of_copies rest Fact i s t copied all is h =
    let run = copied h.0 h.0.seen (h.1 ∙ is) in
    subst Fact (run.2.2 ∙ (all run.0 run.0.seen).4 (run.2.0 ∙ h.2) ∙ ap rest run.1) h.3

-- A build of what `items.iter().copied()` gives is one of the items: `is` and `all` are the clauses `rest` and `runs` of the first call, `copied` is `runs` of the second.
pub build_of_copies : {B S K : Type 0} {steps : S → Option (K × ℕ) → S → Type 0} (key : K → List ℕ) (kind : Kind) (bytes : B → List ℕ) (r : Result B ZeroTrieBuildError)
    (items : List (K × ℕ)) (iter : Iter (K × ℕ)) (copies : S) (is : iter_rest iter ≡ items) (all : EveryRun (iter_steps {A = K × ℕ}) (λ q. ItemsMapTo q (λ y. y.now) (iter_rest q.from)))
    (copied : EachRunFrom steps copies (λ p. SomeRun (iter_steps {A = K × ℕ}) iter (λ q. IsCopiedRun p q (λ y. y.now)))) → IsBuildOfAll (HoldsOfItsPairs (λ given it. it ≡ given) steps key copies) kind bytes r
    → IsBuild any_order kind bytes (keyed key items) r
build_of_copies {S = S} {steps = steps} key kind bytes r items iter copies is all copied build =
    build_of {OfAll = HoldsOfItsPairs (λ (given it : S). it ≡ given) steps key copies} kind bytes (keyed key items) r
    (λ Fact h. subst (λ xs. Fact (keyed key xs)) is (of_copies iter_rest (λ xs. Fact (keyed key xs)) h.0 copies iter copied all h.1 h.2)) build

-- The same for a build into the kind that is taken for the items, and that it is of this kind.
pub auto_build_of_copies : {B S K : Type 0} {steps : S → Option (K × ℕ) → S → Type 0} (key : K → List ℕ) (kind_of : B → Kind) (bytes : B → List ℕ) (r : Result B ZeroTrieBuildError)
    (items : List (K × ℕ)) (iter : Iter (K × ℕ)) (copies : S) (is : iter_rest iter ≡ items) (all : EveryRun (iter_steps {A = K × ℕ}) (λ q. ItemsMapTo q (λ y. y.now) (iter_rest q.from)))
    (copied : EachRunFrom steps copies (λ p. SomeRun (iter_steps {A = K × ℕ}) iter (λ q. IsCopiedRun p q (λ y. y.now)))) → IsAutoBuildOfAll (HoldsOfItsPairs (λ given it. it ≡ given) steps key copies) kind_of bytes r
    → IfOk r (λ b. kind_of b ≡ auto_kind (keyed key items)) × IsBuild any_order (auto_kind (keyed key items)) bytes (keyed key items) r
auto_build_of_copies key kind_of bytes (Ok b) items iter copies is all copied h =
    subst (λ xs. (kind_of b ≡ auto_kind (keyed key xs)) × IsBuild any_order (auto_kind (keyed key xs)) bytes (keyed key xs) (Ok b)) is
    (of_copies iter_rest (λ xs. (kind_of b ≡ auto_kind (keyed key xs)) × IsBuild any_order (auto_kind (keyed key xs)) bytes (keyed key xs) (Ok b)) h.0 copies iter copied all h.1 h.2)
auto_build_of_copies key kind_of bytes (Err e) items iter copies is all copied refusal = elim refusal [
  | inl memory ↦ (tt, inl memory)
  | inr h ↦ (
    tt,
    inr (subst (λ xs. HasCause any_order (auto_kind (keyed key xs)) (keyed key xs) e) is
        (of_copies iter_rest (λ xs. HasCause any_order (auto_kind (keyed key xs)) (keyed key xs) e) h.0 copies iter copied all h.1 h.2)),
  )
]

-- A build of what an iterator over the elements of a list gives is one of the list.
pub build_of_elements : {B U S K : Type 0} (gives : U → S → Type 0) (steps : S → Option (K × ℕ) → S → Type 0) (rest : S → List (K × ℕ)) (key : K → List ℕ) (kind : Kind) (bytes : B → List ℕ)
    (items : List (K × ℕ)) (given : U) (r : Result B ZeroTrieBuildError) → ((it : S) → gives given it → (rest it ≡ items) × EveryRun steps (λ p. ItemsAre p (rest p.from)))
    → IsBuildOfAll (HoldsOfItsPairs gives steps key given) kind bytes r → IsBuild any_order kind bytes (keyed key items) r
build_of_elements gives steps rest key kind bytes items given r all build =
    build_of {OfAll = HoldsOfItsPairs gives steps key given} kind bytes (keyed key items) r
    (λ Fact h. let a = all h.0 h.1 in of_elements rest (λ xs. Fact (keyed key xs)) items h.0 a.0 a.1 h.2) build

-- what std says of an array of n items and an iterator over it
abbrev pub GivesArray : {A : Type 0} (n : ℕ) → List A → ArrayIter A n → Type 0
GivesArray {A = A} n xs it =
    (array_into_iter_items it ≡ xs) × (length (array_into_iter_items it) ≡ n) × EveryRun (array_steps {A = A} {n = n}) (λ p. ItemsAre p (array_into_iter_items p.from))
    × EveryRun (array_steps_back {A = A} {n = n}) (λ p. ItemsAreReversed p (array_into_iter_items p.from))

-- A build of an array of n items is one of these items.
pub build_of_array : {B K : Type 0} (n : ℕ) (key : K → List ℕ) (kind : Kind) (bytes : B → List ℕ) (items : List (K × ℕ)) (r : Result B ZeroTrieBuildError)
    → IsBuildOfAll (HoldsOfItsPairs (GivesArray {A = K × ℕ} n) (array_steps {A = K × ℕ} {n = n}) key items) kind bytes r → IsBuild any_order kind bytes (keyed key items) r
build_of_array {K = K} n key kind bytes items r build =
    build_of_elements (GivesArray {A = K × ℕ} n) (array_steps {A = K × ℕ} {n = n}) array_into_iter_items key kind bytes items items r (λ it g. (g.0, g.2)) build

-- what std says of a Vec and an iterator over its elements
abbrev pub GivesVec : {A Z : Type 0} → Vec A Z → VecIter A Z → Type 0
GivesVec {A = A} {Z = Z} v it =
    (into_iter_items it ≡ v.items) × (into_iter_len it ≡ vec_len v) × (into_iter_len it < 2 ^ 64) × EveryRun (into_iter_steps {X = A} {Z = Z}) (λ p. ItemsAre p (into_iter_items p.from))

-- A build of a Vec is one of its elements.
pub build_of_vec : {B K Z : Type 0} (key : K → List ℕ) (kind : Kind) (bytes : B → List ℕ) (items : Vec (K × ℕ) Z) (r : Result B ZeroTrieBuildError)
    → IsBuildOfAll (HoldsOfItsPairs (GivesVec {A = K × ℕ} {Z = Z}) (into_iter_steps {X = K × ℕ} {Z = Z}) key items) kind bytes r → IsBuild any_order kind bytes (keyed key items.items) r
build_of_vec {K = K} {Z = Z} key kind bytes items r build =
    build_of_elements (GivesVec {A = K × ℕ} {Z = Z}) (into_iter_steps {X = K × ℕ} {Z = Z}) into_iter_items key kind bytes items.items items r (λ it g. (g.0, g.3)) build
