-- The last of the keys that a text begins with, among those that end at a border of the text.
use Rattle.std.proofs.Common.{◌≡◌, ℕ, zero, suc, ◌+◌, ◌<◌, ◌≤◌, ◌⊎◌, inl, inr, List, [], ◌∷◌, ◌++◌, length, take, refl, sym, ◌∙◌, ap, subst, arith, Bool, true, false, cond, Option, Some, None}
use Rattle.std.proofs.lemmas.List.{length-take-le}
use Rattle.std.specs.Option.{option_map, option_to_list}
use Rattle.zerotrie_base.specs.Kind.{Kind}
use Rattle.zerotrie_base.specs.Maps.{Pairs, Map, look, value_at}
use Rattle.zerotrie_base.specs.Texts.{Lists, Means}
use Rattle.zerotrie_base.proofs.MapLemmas.Maps.{look-map_of}
use Rattle.zerotrie_core.specs.Prefixes.{IsLongest, Along, fronts, at_front, Leaves, fronts_left, NextFront}
use Rattle.zerotrie_core.specs.Borders.{is_border, at_borders, IsLongestPrefixAt}

-- the last of some keys whose length counts, or what was found before
abbrev pub last_of : (ℕ → Bool) → Option (ℕ × ℕ) → List (ℕ × ℕ) → Option (ℕ × ℕ)
last_of counts found [] = found
last_of counts found (f ∷ fronts) = last_of counts (cond (counts f.0) (Some f) found) fronts

-- Of the prefixes of a rest of a text whose length counts, with `len` bytes before it, the longest that has a value; or none has.
abbrev IsLastFrom : (ℕ → Bool) → ℕ → (List ℕ → Option ℕ) → List ℕ → Option (ℕ × ℕ) → Type 0
IsLastFrom counts len at text None = (n : ℕ) → n ≤ length text → counts (len + n) ≡ true → at (take n text) ≡ None
IsLastFrom counts len at text (Some r) = (n : ℕ) × (r.0 ≡ len + n) × (n ≤ length text) × (counts (len + n) ≡ true) × (at (take n text) ≡ Some r.1)
    × ((k : ℕ) → n < k → k ≤ length text → counts (len + k) ≡ true → at (take k text) ≡ None)

-- the same, or what was found before if none has a value
Picked : (ℕ → Bool) → ℕ → Option (ℕ × ℕ) → (List ℕ → Option ℕ) → List ℕ → Option (ℕ × ℕ) → Type 0
Picked counts len found at text answer =
    ((r : ℕ × ℕ) × (answer ≡ Some r) × IsLastFrom counts len at text (Some r)) ⊎ ((answer ≡ found) × IsLastFrom counts len at text None)

-- the key that ends here
abbrev here : Option ℕ → ℕ → List (ℕ × ℕ)
here o len = option_to_list (option_map (λ v. (len, v)) o)

take_none : (n : ℕ) → take {A = ℕ} n [] ≡ []
take_none zero = refl
take_none (suc n) = refl

last_of_one : (counts : ℕ → Bool) (found : Option (ℕ × ℕ)) (o : Option ℕ) (len : ℕ) (more : List (ℕ × ℕ))
    → last_of counts found (here o len ++ more) ≡ last_of counts (last_of counts found (here o len)) more
last_of_one counts found None len more = refl
last_of_one counts found (Some v) len more = refl

picked : (counts : ℕ → Bool) (len : ℕ) (found : Option (ℕ × ℕ)) (at : List ℕ → Option ℕ) (text : List ℕ) → Picked counts len found at text (last_of counts found (fronts at len text))
unfolding Picked
picked counts len found at [] = by (at []) refl (counts len) refl
  where
    by : (o : Option ℕ) → at [] ≡ o → (b : Bool) → counts len ≡ b → Picked counts len found at [] (last_of counts found (here (at []) len))
    by None none b test = inr (ap (λ o. last_of counts found (here o len)) none, λ n l c. ap at (take_none n) ∙ none)
    by (Some v) is true test = inl (
      (len, v),
      ap (λ o. last_of counts found (here o len)) is ∙ ap (λ b. cond b (Some (len, v)) found) test,
      (0, omega arith, omega arith, subst (λ n. counts n ≡ true) (omega arith) test, is, λ k l m c. absurd (omega arith)),
    )
    by (Some v) is false test = inr (
      ap (λ o. last_of counts found (here o len)) is ∙ ap (λ b. cond b (Some (len, v)) found) test,
      λ n l c. no_more n l c,
    )
      where
        no_more : (n : ℕ) → n ≤ 0 → counts (len + n) ≡ true → at (take n []) ≡ None
        no_more n l c = let same : len + n ≡ len = omega arith in let holds = subst (λ k. counts k ≡ true) same c in absurd (cc)
picked counts len found at (c ∷ text) = elim (picked counts (len + 1) next (λ key. at (c ∷ key)) text) [
  | inl h ↦ inl (h.0, whole ∙ h.1, (suc h.2.0, h.2.1 ∙ omega arith, omega (arith, h.2.2), up h.2.0 h.2.3, h.2.4, longer h.2.0 h.2.5))
  | inr h ↦ by (at []) refl (counts len) refl h.0 h.1
]
  where
    next : Option (ℕ × ℕ)
    next = last_of counts found (here (at []) len)

    whole : last_of counts found (fronts at len (c ∷ text)) ≡ last_of counts next (fronts (λ key. at (c ∷ key)) (len + 1) text)
    whole = last_of_one counts found (at []) len (fronts (λ key. at (c ∷ key)) (len + 1) text)

    up : (n : ℕ) → counts (len + 1 + n) ≡ true → counts (len + suc n) ≡ true
    up n holds = subst (λ k. counts k ≡ true) (omega arith) holds

    down : (n : ℕ) → counts (len + suc n) ≡ true → counts (len + 1 + n) ≡ true
    down n holds = subst (λ k. counts k ≡ true) (omega arith) holds

    longer : (n : ℕ) → ((k : ℕ) → n < k → k ≤ length text → counts (len + 1 + k) ≡ true → at (c ∷ take k text) ≡ None)
        → (k : ℕ) → suc n < k → k ≤ length (c ∷ text) → counts (len + k) ≡ true → at (take k (c ∷ text)) ≡ None
    longer n none zero l m holds = absurd (omega arith)
    longer n none (suc k) l m holds = none k (omega arith) (omega arith) (down k holds)

    beyond : IsLastFrom counts (len + 1) (λ key. at (c ∷ key)) text None → (k : ℕ) → 0 < k → k ≤ length (c ∷ text) → counts (len + k) ≡ true → at (take k (c ∷ text)) ≡ None
    beyond none zero l m holds = absurd (omega arith)
    beyond none (suc k) l m holds = none k (omega arith) (down k holds)

    by : (o : Option ℕ) → at [] ≡ o → (b : Bool) → counts len ≡ b
        → last_of counts next (fronts (λ key. at (c ∷ key)) (len + 1) text) ≡ next → IsLastFrom counts (len + 1) (λ key. at (c ∷ key)) text None
        → Picked counts len found at (c ∷ text) (last_of counts found (fronts at len (c ∷ text)))
    by None lacks b test is none = inr (whole ∙ is ∙ ap (λ o. last_of counts found (here o len)) lacks, every)
      where
        every : (n : ℕ) → n ≤ length (c ∷ text) → counts (len + n) ≡ true → at (take n (c ∷ text)) ≡ None
        every zero l holds = lacks
        every (suc n) l holds = beyond none (suc n) (omega arith) l holds
    by (Some v) has true test is none = inl (
      (len, v),
      whole ∙ is ∙ ap (λ o. last_of counts found (here o len)) has ∙ ap (λ b. cond b (Some (len, v)) found) test,
      (0, omega arith, omega arith, subst (λ n. counts n ≡ true) (omega arith) test, has, beyond none),
    )
    by (Some v) has false test is none = inr (
      whole ∙ is ∙ ap (λ o. last_of counts found (here o len)) has ∙ ap (λ b. cond b (Some (len, v)) found) test,
      every,
    )
      where
        every : (n : ℕ) → n ≤ length (c ∷ text) → counts (len + n) ≡ true → at (take n (c ∷ text)) ≡ None
        every zero l holds = let same : len + 0 ≡ len = omega arith in let t = subst (λ k. counts k ≡ true) same holds in absurd (cc)
        every (suc n) l holds = beyond none (suc n) (omega arith) l holds

module _ (delimiters text : List ℕ) where
  -- at a border a key has its value
  at_one : (at : List ℕ → Option ℕ) (n : ℕ) → n ≤ length text → is_border delimiters text n ≡ true → at_borders delimiters text at (take n text) ≡ at (take n text)
  at_one at n low holds =
      ap (λ l. cond (is_border delimiters text l) (at (take n text)) None) (length-take-le n text low) ∙ ap (λ b. cond b (at (take n text)) None) holds

  -- and none anywhere else
  at_none : (at : List ℕ → Option ℕ) (n : ℕ) → n ≤ length text → (is_border delimiters text n ≡ true → at (take n text) ≡ None) → at_borders delimiters text at (take n text) ≡ None
  at_none at n low none = by (is_border delimiters text n) refl
    where
      by : (b : Bool) → is_border delimiters text n ≡ b → at_borders delimiters text at (take n text) ≡ None
      by true is = at_one at n low is ∙ none is
      by false is = ap (λ l. cond (is_border delimiters text l) (at (take n text)) None) (length-take-le n text low) ∙ ap (λ b. cond b (at (take n text)) None) is

  -- the last key that ends at a border is the longest of them
  last_is_longest : (at look : List ℕ → Option ℕ) → ((key : List ℕ) → look key ≡ at key)
      → IsLongest (at_borders delimiters text look) text (length text) (last_of (is_border delimiters text) None (fronts at 0 text))
  unfolding Picked
  last_is_longest at look same = elim (picked (is_border delimiters text) 0 None at text) [
    | inl h ↦ subst (IsLongest (at_borders delimiters text look) text (length text)) (sym h.1) (some h.0 h.2)
    | inr h ↦ subst (IsLongest (at_borders delimiters text look) text (length text)) (sym h.0)
        (λ n low. at_none look n low (λ holds. same (take n text) ∙ h.1 n low (whole n holds)))
  ]
    where
      whole : (n : ℕ) → is_border delimiters text n ≡ true → is_border delimiters text (0 + n) ≡ true
      whole n holds = subst (λ k. is_border delimiters text k ≡ true) (omega arith) holds

      some : (r : ℕ × ℕ) → IsLastFrom (is_border delimiters text) 0 at text (Some r) → IsLongest (at_borders delimiters text look) text (length text) (Some r)
      some r h =
          let is : h.0 ≡ r.0 = omega (arith, h.1) in
          let holds = subst (λ k. is_border delimiters text k ≡ true) (sym h.1) h.3 in
          let low : r.0 ≤ length text = omega (arith, h.1, h.2) in (
            low,
            at_one look r.0 low holds ∙ same (take r.0 text) ∙ subst (λ n. at (take n text) ≡ Some r.1) is h.4,
            λ n more most. at_none look n most (λ border. same (take n text) ∙ h.5 n (omega (arith, h.1)) most (whole n border)),
          )

-- where a search stands, what was found and the keys to come have the last that counts among all
abbrev pub Finds : (ℕ → Bool) → Option (ℕ × ℕ) → Along → Option (ℕ × ℕ) → Type 0
Finds counts found s whole = (left : Pairs) × Leaves s left × (last_of counts found (fronts_left s left) ≡ whole)

pub begins : (kind : Kind) (counts : ℕ → Bool) (bytes text : List ℕ) (pairs : Pairs) → Lists kind bytes pairs
    → Finds counts None (at_front kind bytes text) (last_of counts None (fronts (value_at kind pairs) 0 text))
begins kind counts bytes text pairs lists = (pairs, (lists, λ looked. absurd (cc)), refl)

-- no key is left
pub ends : (kind : Kind) (bytes delimiters text : List ℕ) (m : Map) (means : Means kind bytes m) (found : Option (ℕ × ℕ)) (before after : Along) → NextFront before None after
    → Finds (is_border delimiters text) found before (last_of (is_border delimiters text) None (fronts (value_at kind means.pairs) 0 text))
    → IsLongestPrefixAt kind m delimiters text found
ends kind bytes delimiters text m means found before after next old =
    subst (IsLongest (at_borders delimiters text (look kind m)) text (length text)) (sym (sym (ap (last_of (is_border delimiters text) found) (next old.0 old.1).0) ∙ old.2))
    (last_is_longest delimiters text (value_at kind means.pairs) (look kind m) (λ key. ap (λ n. look kind n key) means.is ∙ look-map_of means.lists key))
