-- The keys that a text begins with, found one after another.
use Rattle.std.proofs.Common.{◌≡◌, ℕ, ◌+◌, ◌<◌, ◌≤◌, List, [], ◌∷◌, ◌++◌, length, drop, get_or, refl, sym, ◌∙◌, ap, subst, Option, Some, None, Bool, true, false}
use Rattle.std.specs.Option.{option_map, option_to_list}
use Rattle.std.proofs.lemmas.List.{append-nil, drop_more}
use Rattle.std.proofs.Math.ListN.{drop_of_length-le}
use Rattle.zerotrie_base.specs.Kind.{Kind}
use Rattle.zerotrie_base.specs.Maps.{Pairs, value_at}
use Rattle.zerotrie_base.specs.Cursors.{met, edge_like}
use Rattle.zerotrie_core.specs.Machine.{behind, without_value}
use Rattle.zerotrie_core.specs.Places.{Place, ListsAt, IsStep, IsTake}
use Rattle.zerotrie_core.specs.Prefixes.{fronts, Along, along, LeavesAt, Leaves, fronts_left, NextFront}
use Rattle.zerotrie_core.proofs.CursorLemmas.Laws.{steps_answer, no_second}
use Rattle.zerotrie_core.proofs.CursorLemmas.Longest.{others_stay}

-- what the empty key gives
abbrev here : Option ℕ → ℕ → List (ℕ × ℕ)
here o len = option_to_list (option_map (λ v. (len, v)) o)

-- keys that are answered alike
fronts_same : (f g : List ℕ → Option ℕ) (len : ℕ) (text : List ℕ) → ((key : List ℕ) → f key ≡ g key) → fronts f len text ≡ fronts g len text
fronts_same f g len [] same = ap (λ o. here o len) (same [])
fronts_same f g len (c ∷ text) same =
    ap (λ o. here o len ++ fronts (λ key. f (c ∷ key)) (len + 1) text) (same [])
    ∙ ap (λ more. here (g []) len ++ more) (fronts_same (λ key. f (c ∷ key)) (λ key. g (c ∷ key)) (len + 1) text (λ key. same (c ∷ key)))

-- once the value of the empty key is taken, the others are left
fronts_taken : (f g : List ℕ → Option ℕ) (o : Option ℕ) (len : ℕ) (text : List ℕ) → o ≡ f [] → g [] ≡ None → ((c : ℕ) (key : List ℕ) → g (c ∷ key) ≡ f (c ∷ key))
    → fronts f len text ≡ here o len ++ fronts g len text
fronts_taken f g o len [] is none same = ap (λ x. here x len) (sym is) ∙ sym (append-nil (here o len)) ∙ ap (λ x. here o len ++ here x len) (sym none)
fronts_taken f g o len (c ∷ text) is none same =
    ap (λ x. here x len ++ fronts (λ key. f (c ∷ key)) (len + 1) text) (sym is)
    ∙ ap (λ more. here o len ++ more) (fronts_same (λ key. f (c ∷ key)) (λ key. g (c ∷ key)) (len + 1) text (λ key. sym (same c key)))
    ∙ ap (λ x. here o len ++ (here x len ++ fronts (λ key. g (c ∷ key)) (len + 1) text)) (sym none)

-- with no value here the keys that go on are left
fronts_on : (f g : List ℕ → Option ℕ) (len c : ℕ) (text : List ℕ) → f [] ≡ None → ((key : List ℕ) → g key ≡ f (c ∷ key)) → fronts f len (c ∷ text) ≡ fronts g (len + 1) text
fronts_on f g len c text none same =
    ap (λ x. here x len ++ fronts (λ key. f (c ∷ key)) (len + 1) text) none ∙ fronts_same (λ key. f (c ∷ key)) g (len + 1) text (λ key. sym (same key))

-- no key at all
fronts_none : (len : ℕ) (text : List ℕ) → fronts (λ key. None) len text ≡ []
fronts_none len [] = refl
fronts_none len (c ∷ text) = fronts_none (len + 1) text

-- pairs that have no value of the empty key
pub without_none : (kind : Kind) (pairs : Pairs) → value_at kind pairs [] ≡ None → without_value pairs ≡ pairs
without_none kind [] none = refl
without_none kind (([], v) ∷ pairs) none = absurd (cc)
without_none kind ((b ∷ key, v) ∷ pairs) none = ap (λ ps. (b ∷ key, v) ∷ ps) (without_none kind pairs none)

-- looked for before, no value is there
pub looked_take : (kind : Kind) (place : Place) (looked : Bool) → looked ≡ true → IsTake kind (LeavesAt kind place looked) None (ListsAt kind place)
looked_take kind place looked is pairs leaves =
    let none = leaves.1 is in
    (sym none, subst (ListsAt kind place) (sym (without_none kind pairs none)) leaves.0)

-- From one standing to another the keys to come stay.
pub record GoesOn (before now : Along) : Type 0 where
  pub leads : (pairs : Pairs) → Leaves before pairs → (left : Pairs) × Leaves now left × (fronts_left before pairs ≡ fronts_left now left)

pub stays : (before : Along) → GoesOn before before
stays before = record { leads = λ pairs leaves. (pairs, leaves, refl) }

module _ (kind : Kind) (text : List ℕ) where
  -- a take that finds a value
  pub found : (before : Along) (place after : Place) (len v : ℕ) (looked : Bool) → len ≤ length before.text → text ≡ before.text → GoesOn before (along kind place text len looked)
      → IsTake kind (LeavesAt kind place looked) (Some v) (ListsAt kind after) → NextFront before (Some (len, v)) (along kind after text len true)
  found before place after len v looked within same goes take = (
    within,
    same,
    λ pairs leaves. (
        let g = goes.leads pairs leaves in
        let t = take g.0 g.1 in
        let none = no_second kind place g.0 g.1.0 in (
          without_value g.0,
          (t.1, λ _. none),
          g.2 ∙ fronts_taken (value_at kind g.0) (value_at kind (without_value g.0)) (Some v) len (drop len text) t.0 none (others_stay kind g.0),
        )
        ),
  )

  -- and one that finds none
  pub passed : (before : Along) (place after : Place) (len : ℕ) (looked : Bool) → GoesOn before (along kind place text len looked)
      → IsTake kind (LeavesAt kind place looked) None (ListsAt kind after) → GoesOn before (along kind after text len true)
  passed before place after len looked goes take = record {
    leads = λ pairs leaves. (
        let g = goes.leads pairs leaves in
        let t = take g.0 g.1 in
        let none = no_second kind place g.0 g.1.0 in (
          without_value g.0,
          (t.1, λ _. none),
          g.2 ∙ fronts_taken (value_at kind g.0) (value_at kind (without_value g.0)) None len (drop len text) t.0 none (others_stay kind g.0),
        )
        );
  }

  -- a step along an edge
  pub stepped : (before : Along) (place after : Place) (len e : ℕ) → GoesOn before (along kind place text len true) → len < length text
      → IsStep kind (ListsAt kind place) (get_or text len 0) (Some e) (ListsAt kind after) → GoesOn before (along kind after text (len + 1) false)
  stepped before place after len e goes inside step = record {
    leads = λ pairs leaves. (
        let g = goes.leads pairs leaves in
        let s = step g.0 g.1.0 in
        let c = get_or text len 0 in
        let left = behind (edge_like kind c (met g.0)) g.0 in (
          left,
          (subst (λ o. ListsAt kind after (behind o g.0)) s.0 s.1, λ is. absurd (cc)),
          g.2 ∙ ap (fronts (value_at kind g.0) len) (drop_more text len 0 inside)
              ∙ fronts_on (value_at kind g.0) (value_at kind left) len c (drop (len + 1) text) (g.1.1 refl) (steps_answer kind place g.0 g.1.0 (c ∷ [])),
        )
        );
  }

  -- or along none
  pub stopped : (before : Along) (place after : Place) (len : ℕ) (looked : Bool) → GoesOn before (along kind place text len true) → len < length text
      → IsStep kind (ListsAt kind place) (get_or text len 0) None (ListsAt kind after) → NextFront before None (along kind after text len looked)
  stopped before place after len looked goes inside step pairs leaves =
      let g = goes.leads pairs leaves in
      let s = step g.0 g.1.0 in
      let c = get_or text len 0 in
      let rest = drop (len + 1) text in (
        g.2 ∙ ap (fronts (value_at kind g.0) len) (drop_more text len 0 inside)
            ∙ fronts_on (value_at kind g.0) (λ key. None) len c rest (g.1.1 refl)
            (λ key. ap (λ o. value_at kind (behind o g.0) key) s.0 ∙ steps_answer kind place g.0 g.1.0 (c ∷ []) key)
            ∙ fronts_none (len + 1) rest,
        [],
        (s.1, λ _. refl),
        fronts_same (value_at kind []) (λ key. None) len (drop len text) (λ key. refl) ∙ fronts_none len (drop len text),
      )

  -- at the end of the text
  pub ended : (before : Along) (place : Place) (len : ℕ) → GoesOn before (along kind place text len true) → length text ≤ len → NextFront before None (along kind place text len true)
  ended before place len goes end pairs leaves =
      let g = goes.leads pairs leaves in
      let none = ap (fronts (value_at kind g.0) len) (drop_of_length-le text end) ∙ ap (λ o. here o len) (g.1.1 refl) in
      (g.2 ∙ none, g.0, g.1, none)
