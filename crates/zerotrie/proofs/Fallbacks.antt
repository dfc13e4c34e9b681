-- The value of the longest front of a text that is a key, among those that count, by the keys that the text begins with.
-- Also what `longest_prefix` and `longest_prefix_at` return, by the keys alone.
use Rattle.std.proofs.Common.{◌≡◌, ℕ, zero, suc, ◌+◌, ◌<◌, ◌≤◌, ◌⊎◌, inl, inr, List, [], ◌∷◌, ◌++◌, length, take, drop, refl, sym, ◌∙◌, ap, subst, arith, Bool, true, false, cond, Option, Some, None}
use Rattle.std.specs.Prelude.{◌||◌}
use Rattle.std.proofs.Math.Dec.{eqb-suc-zero}
use Rattle.std.proofs.Math.Seq.{take-append_seam, drop-append_seam}
use Rattle.std.proofs.lemmas.List.{take-append-drop, length-append, length-take-le}
use Rattle.std.specs.Option.{option_map, option_to_list}
use Rattle.zerotrie_core.specs.Kind.{Kind}
use Rattle.zerotrie_core.specs.Maps.{Pairs, Map, look, value_at}
use Rattle.zerotrie_core.specs.Texts.{Means}
use Rattle.zerotrie_core.specs.Borders.{is_end, is_border, at_borders, IsLongestPrefixAt}
use Rattle.zerotrie_core.specs.Prefixes.{IsLongestPrefix, Along, fronts, common_prefixes, at_front, Leaves, fronts_left, NextFront}
use Rattle.zerotrie.specs.Fallback.{BeginsWithParts, BeginsWith, IsFallback, IsLongestKey}
use Rattle.zerotrie.proofs.Lookups.{listed_answer}

-- the value of the last of some fronts whose length counts, or what was found before
abbrev pub last_of : (ℕ → Bool) → Option ℕ → List (ℕ × ℕ) → Option ℕ
last_of counts found [] = found
last_of counts found (f ∷ fronts) = last_of counts (cond (counts f.0) (Some f.1) found) fronts

-- of the fronts of a text whose length counts, the answer is that of the longest that has one; or none has
abbrev pub IsLast : (ℕ → Bool) → (List ℕ → Option ℕ) → List ℕ → Option ℕ → Type 0
IsLast counts at text None = (n : ℕ) → n ≤ length text → counts n ≡ true → at (take n text) ≡ None
IsLast counts at text (Some v) = (n : ℕ) × (n ≤ length text) × (counts n ≡ true) × (at (take n text) ≡ Some v)
    × ((k : ℕ) → n < k → k ≤ length text → counts k ≡ true → at (take k text) ≡ None)

-- The same for a rest of a text, with `len` bytes before it.
abbrev IsLastFrom : (ℕ → Bool) → ℕ → (List ℕ → Option ℕ) → List ℕ → Option ℕ → Type 0
IsLastFrom counts len at text None = (n : ℕ) → n ≤ length text → counts (len + n) ≡ true → at (take n text) ≡ None
IsLastFrom counts len at text (Some v) = (n : ℕ) × (n ≤ length text) × (counts (len + n) ≡ true) × (at (take n text) ≡ Some v)
    × ((k : ℕ) → n < k → k ≤ length text → counts (len + k) ≡ true → at (take k text) ≡ None)

-- the same, or what was found before if none has one
Picked : (ℕ → Bool) → ℕ → Option ℕ → (List ℕ → Option ℕ) → List ℕ → Option ℕ → Type 0
Picked counts len found at text answer =
    ((v : ℕ) × (answer ≡ Some v) × IsLastFrom counts len at text (Some v)) ⊎ ((answer ≡ found) × IsLastFrom counts len at text None)

take_none : (n : ℕ) → take {A = ℕ} n [] ≡ []
take_none zero = refl
take_none (suc n) = refl

last_of_one : (counts : ℕ → Bool) (found o : Option ℕ) (len : ℕ) (more : List (ℕ × ℕ)) → last_of counts found (option_to_list (option_map (λ v. (len, v)) o) ++ more)
    ≡ last_of counts (last_of counts found (option_to_list (option_map (λ v. (len, v)) o))) more
last_of_one counts found None len more = refl
last_of_one counts found (Some v) len more = refl

picked : (counts : ℕ → Bool) (len : ℕ) (found : Option ℕ) (at : List ℕ → Option ℕ) (text : List ℕ) → Picked counts len found at text (last_of counts found (fronts at len text))
unfolding Picked
picked counts len found at [] = by (at []) refl (counts len) refl
  where
    by : (o : Option ℕ) → at [] ≡ o → (b : Bool) → counts len ≡ b → Picked counts len found at [] (last_of counts found (option_to_list (option_map (λ v. (len, v)) (at []))))
    by None here b test = inr (ap (λ o. last_of counts found (option_to_list (option_map (λ v. (len, v)) o))) here, λ n l c. ap at (take_none n) ∙ here)
    by (Some v) here true test = inl (
      v,
      ap (λ o. last_of counts found (option_to_list (option_map (λ v. (len, v)) o))) here ∙ ap (λ b. cond b (Some v) found) test,
      (0, omega arith, subst (λ n. counts n ≡ true) (omega arith) test, here, λ k l m c. absurd (omega arith)),
    )
    by (Some v) here false test = inr (
      ap (λ o. last_of counts found (option_to_list (option_map (λ v. (len, v)) o))) here ∙ ap (λ b. cond b (Some v) found) test,
      λ n l c. no_more n l c,
    )
      where
        no_more : (n : ℕ) → n ≤ 0 → counts (len + n) ≡ true → at (take n []) ≡ None
        no_more n l c = let same : len + n ≡ len = omega arith in let holds = subst (λ k. counts k ≡ true) same c in absurd (cc)
picked counts len found at (c ∷ text) = elim (picked counts (len + 1) next (λ key. at (c ∷ key)) text) [
  | inl h ↦ inl (h.0, whole ∙ h.1, (suc h.2.0, omega arith, up h.2.0 h.2.2, h.2.3, longer h.2.0 h.2.4))
  | inr h ↦ by (at []) refl (counts len) refl h.0 h.1
]
  where
    first : List (ℕ × ℕ)
    first = option_to_list (option_map (λ v. (len, v)) (at []))

    next : Option ℕ
    next = last_of counts found first

    whole : last_of counts found (fronts at len (c ∷ text)) ≡ last_of counts next (fronts (λ key. at (c ∷ key)) (len + 1) text)
    whole = last_of_one counts found (at []) len (fronts (λ key. at (c ∷ key)) (len + 1) text)

    up : (n : ℕ) → counts (len + 1 + n) ≡ true → counts (len + suc n) ≡ true
    up n holds = subst (λ k. counts k ≡ true) (omega arith) holds

    down : (n : ℕ) → counts (len + suc n) ≡ true → counts (len + 1 + n) ≡ true
    down n holds = subst (λ k. counts k ≡ true) (omega arith) holds

    longer : (n : ℕ) → ((k : ℕ) → n < k → k ≤ length text → counts (len + 1 + k) ≡ true → at (c ∷ take k text) ≡ None)
        → (k : ℕ) → suc n < k → k ≤ length (c ∷ text) → counts (len + k) ≡ true → at (take k (c ∷ text)) ≡ None
    longer n none zero l m holds = absurd (omega arith)
    longer n none (suc k) l m holds = none k (omega arith) (omega arith) (down k holds)

    beyond : IsLastFrom counts (len + 1) (λ key. at (c ∷ key)) text None → (k : ℕ) → 0 < k → k ≤ length (c ∷ text) → counts (len + k) ≡ true → at (take k (c ∷ text)) ≡ None
    beyond none zero l m holds = absurd (omega arith)
    beyond none (suc k) l m holds = none k (omega arith) (down k holds)

    by : (o : Option ℕ) → at [] ≡ o → (b : Bool) → counts len ≡ b
        → last_of counts next (fronts (λ key. at (c ∷ key)) (len + 1) text) ≡ next → IsLastFrom counts (len + 1) (λ key. at (c ∷ key)) text None
        → Picked counts len found at (c ∷ text) (last_of counts found (fronts at len (c ∷ text)))
    by None here b test is none = inr (whole ∙ is ∙ ap (λ o. last_of counts found (option_to_list (option_map (λ v. (len, v)) o))) here, every)
      where
        every : (n : ℕ) → n ≤ length (c ∷ text) → counts (len + n) ≡ true → at (take n (c ∷ text)) ≡ None
        every zero l holds = here
        every (suc n) l holds = beyond none (suc n) (omega arith) l holds
    by (Some v) here true test is none = inl (
      v,
      whole ∙ is ∙ ap (λ o. last_of counts found (option_to_list (option_map (λ v. (len, v)) o))) here ∙ ap (λ b. cond b (Some v) found) test,
      (0, omega arith, subst (λ n. counts n ≡ true) (omega arith) test, here, beyond none),
    )
    by (Some v) here false test is none = inr (
      whole ∙ is ∙ ap (λ o. last_of counts found (option_to_list (option_map (λ v. (len, v)) o))) here ∙ ap (λ b. cond b (Some v) found) test,
      every,
    )
      where
        every : (n : ℕ) → n ≤ length (c ∷ text) → counts (len + n) ≡ true → at (take n (c ∷ text)) ≡ None
        every zero l holds = let same : len + 0 ≡ len = omega arith in let t = subst (λ k. counts k ≡ true) same holds in absurd (cc)
        every (suc n) l holds = beyond none (suc n) (omega arith) l holds

-- what the last of all fronts that count answers
pub last_is : (counts : ℕ → Bool) (at : List ℕ → Option ℕ) (text : List ℕ) → IsLast counts at text (last_of counts None (fronts at 0 text))
unfolding Picked
last_is counts at text = elim (picked counts 0 None at text) [
  | inl h ↦ subst (IsLast counts at text) (sym h.1) (h.2.0, h.2.1, plain h.2.0 h.2.2, h.2.3, λ k l m holds. h.2.4 k l m (from_none k holds))
  | inr h ↦ subst (IsLast counts at text) (sym h.0) (λ k m holds. h.1 k m (from_none k holds))
]
  where
    plain : (k : ℕ) → counts (0 + k) ≡ true → counts k ≡ true
    plain k holds = subst (λ n. counts n ≡ true) (omega arith) holds

    from_none : (k : ℕ) → counts k ≡ true → counts (0 + k) ≡ true
    from_none k holds = subst (λ n. counts n ≡ true) (omega arith) holds

-- what is asked may be told in other words
pub fronts_same : (f g : List ℕ → Option ℕ) (len : ℕ) (text : List ℕ) → ((key : List ℕ) → f key ≡ g key) → fronts f len text ≡ fronts g len text
fronts_same f g len [] same = ap (λ o. option_to_list (option_map (λ v. (len, v)) o)) (same [])
fronts_same f g len (c ∷ text) same =
    ap (λ o. option_to_list (option_map (λ v. (len, v)) o) ++ fronts (λ key. f (c ∷ key)) (len + 1) text) (same [])
    ∙ ap (λ more. option_to_list (option_map (λ v. (len, v)) (g [])) ++ more) (fronts_same (λ key. f (c ∷ key)) (λ key. g (c ∷ key)) (len + 1) text (λ key. same (c ∷ key)))

-- the keys that are to come in front of a text are those that it begins with
pub all_to_come : (kind : Kind) (bytes text : List ℕ) (m : Map) (means : Means kind bytes m)
    → Leaves (at_front kind bytes text) means.pairs × (fronts_left (at_front kind bytes text) means.pairs ≡ common_prefixes kind m text)
all_to_come kind bytes text m means = ((means.lists, λ no. absurd (cc)), fronts_same (value_at kind means.pairs) (look kind m) 0 text (listed_answer kind bytes m means))

-- where a search stands, what was found and what is found among the keys to come are what is found among all
abbrev pub Finds : (ℕ → Bool) → Option ℕ → Along → Option ℕ → Type 0
Finds counts found s whole = (left : Pairs) × Leaves s left × (last_of counts found (fronts_left s left) ≡ whole)

pub begins : (kind : Kind) (counts : ℕ → Bool) (bytes text : List ℕ) (m : Map) (means : Means kind bytes m) (s : Along) → s ≡ at_front kind bytes text
    → Finds counts None s (last_of counts None (common_prefixes kind m text))
begins kind counts bytes text m means s is =
    let all = all_to_come kind bytes text m means in
    subst (λ s. Finds counts None s (last_of counts None (common_prefixes kind m text))) (sym is) (means.pairs, all.0, ap (last_of counts None) all.1)

-- a key comes, whose length counts or not
pub takes : (counts : ℕ → Bool) (found whole : Option ℕ) (before after : Along) (f : ℕ × ℕ) → NextFront before (Some f) after → counts f.0 ≡ true
    → Finds counts found before whole → Finds counts (Some f.1) after whole
takes counts found whole before after f next count old =
    let n = next.2 old.0 old.1 in
    (n.0, n.1, sym (ap (λ b. last_of counts (cond b (Some f.1) found) (fronts_left after n.0)) count) ∙ sym (ap (last_of counts found) n.2) ∙ old.2)

pub passes : (counts : ℕ → Bool) (found whole : Option ℕ) (before after : Along) (f : ℕ × ℕ) → NextFront before (Some f) after → counts f.0 ≡ false
    → Finds counts found before whole → Finds counts found after whole
passes counts found whole before after f next count old =
    let n = next.2 old.0 old.1 in
    (n.0, n.1, sym (ap (λ b. last_of counts (cond b (Some f.1) found) (fronts_left after n.0)) count) ∙ sym (ap (last_of counts found) n.2) ∙ old.2)

-- no key comes any more, so what was found is the last of all that count
pub ends : (kind : Kind) (counts : ℕ → Bool) (text : List ℕ) (m : Map) (found : Option ℕ) (before after : Along) → NextFront before None after
    → Finds counts found before (last_of counts None (common_prefixes kind m text)) → IsLast counts (look kind m) text found
ends kind counts text m found before after next old =
    subst (IsLast counts (look kind m) text) (sym (sym (ap (last_of counts found) (next old.0 old.1).0) ∙ old.2)) (last_is counts (look kind m) text)

-- a key that the text begins with, by its length
count : (text key rest : List ℕ) → text ≡ key ++ rest → (length key ≤ length text) × (take (length key) text ≡ key)
count text key rest is =
    let len = ap length is ∙ length-append key rest in
    (omega arith, ap (take (length key)) is ∙ take-append_seam key rest)

module _ (delimiters : List ℕ) where
  -- a front of this many bytes that ends at a border
  front : (name : List ℕ) (n : ℕ) → n ≤ length name → is_border delimiters name n ≡ true → BeginsWithParts delimiters name (take n name)
  front [] zero l ends = tt
  front [] (suc n) l ends = absurd (omega arith)
  front (b ∷ name) zero l ends = tt
  front (b ∷ name) (suc n) l ends =
      (drop n name, ap (λ rest. b ∷ rest) (sym (take-append-drop n name)), ap (λ none. none || is_end delimiters (drop n name)) (sym (eqb-suc-zero n)) ∙ ends)

  ended : (name : List ℕ) (b : ℕ) (key rest : List ℕ) → name ≡ b ∷ key ++ rest → is_end delimiters rest ≡ true → is_border delimiters name (length (b ∷ key)) ≡ true
  ended name b key rest is ends =
      ap (λ none. none || is_end delimiters (drop (length (b ∷ key)) name)) (eqb-suc-zero (length key))
      ∙ ap (is_end delimiters) (ap (drop (length (b ∷ key))) is ∙ drop-append_seam (b ∷ key) rest) ∙ ends

  -- a longer key by whole parts has no value if no longer front has
  beyond : (name : List ℕ) (at : List ℕ → Option ℕ) (n : ℕ) → ((k : ℕ) → n < k → k ≤ length name → is_border delimiters name k ≡ true → at (take k name) ≡ None)
      → (key : List ℕ) → BeginsWithParts delimiters name key → n < length key → at key ≡ None
  beyond name at n none [] begins l = absurd (omega arith)
  beyond name at n none (b ∷ key) begins l =
      let is = count name (b ∷ key) begins.0 begins.1 in
      subst (λ k. at k ≡ None) is.1 (none (length (b ∷ key)) l is.0 (ended name b key begins.0 begins.1 begins.2))

  every : (name : List ℕ) (at : List ℕ → Option ℕ) → IsLast (is_border delimiters name) at name None → (key : List ℕ) → BeginsWithParts delimiters name key → at key ≡ None
  every name at none [] begins = none 0 (omega arith) refl
  every name at none (b ∷ key) begins =
      let is = count name (b ∷ key) begins.0 begins.1 in
      subst (λ k. at k ≡ None) is.1 (none (length (b ∷ key)) is.0 (ended name b key begins.0 begins.1 begins.2))

  -- the last front that ends at a border is what the name falls back to
  pub is_fallback : (kind : Kind) (m : Map) (name : List ℕ) (answer : Option ℕ) → IsLast (is_border delimiters name) (look kind m) name answer
      → IsFallback kind m delimiters name answer
  is_fallback kind m name None none = every name (look kind m) none
  is_fallback kind m name (Some v) last =
      let len = length-take-le last.0 name last.1 in
      (take last.0 name, front name last.0 last.1 last.2, last.3, λ longer begins l. beyond name (look kind m) last.0 last.4 longer begins (subst (λ k. k < length longer) len l))

  -- what is looked for at a border
  at_one : (text : List ℕ) (at : List ℕ → Option ℕ) (n : ℕ) → n ≤ length text → is_border delimiters text n ≡ true → at_borders delimiters text at (take n text) ≡ at (take n text)
  at_one text at n low holds =
      ap (λ l. cond (is_border delimiters text l) (at (take n text)) None) (length-take-le n text low) ∙ ap (λ b. cond b (at (take n text)) None) holds

  -- and elsewhere
  at_none : (text : List ℕ) (at : List ℕ → Option ℕ) (n : ℕ) → n ≤ length text → is_border delimiters text n ≡ false → at_borders delimiters text at (take n text) ≡ None
  at_none text at n low other =
      ap (λ l. cond (is_border delimiters text l) (at (take n text)) None) (length-take-le n text low) ∙ ap (λ b. cond b (at (take n text)) None) other

  -- What `longest_prefix_at` returns is the last front that ends at a border.
  pub last_at_border : (kind : Kind) (m : Map) (text : List ℕ) (len value : ℕ) → IsLongestPrefixAt kind m delimiters text (Some (len, value))
      → IsLast (is_border delimiters text) (look kind m) text (Some value)
  last_at_border kind m text len value longest = by (is_border delimiters text len) refl
    where
      by : (b : Bool) → is_border delimiters text len ≡ b → IsLast (is_border delimiters text) (look kind m) text (Some value)
      by true is = (
        len,
        longest.0,
        is,
        sym (at_one text (look kind m) len longest.0 is) ∙ longest.1,
        λ k more low holds. sym (at_one text (look kind m) k low holds) ∙ longest.2 k more low,
      )
      by false is = let none = sym (at_none text (look kind m) len longest.0 is) ∙ longest.1 in absurd (cc)

  pub none_at_border : (kind : Kind) (m : Map) (text : List ℕ) → IsLongestPrefixAt kind m delimiters text None → IsLast (is_border delimiters text) (look kind m) text None
  none_at_border kind m text none n low holds = sym (at_one text (look kind m) n low holds) ∙ none n low

-- the longest front that is a key is the longest key
pub is_longest_key : (kind : Kind) (m : Map) (text : List ℕ) (len value : ℕ) → IsLongestPrefix kind m text (Some (len, value))
    → IsLongestKey kind m text (Some value)
is_longest_key kind m text len value longest =
    (take len text, (drop len text, sym (take-append-drop len text)), longest.1, none)
  where
    none : (longer : List ℕ) → BeginsWith text longer → length (take len text) < length longer → look kind m longer ≡ None
    none longer begins l =
        let is = count text longer begins.0 begins.1 in
        let size = length-take-le len text longest.0 in
        subst (λ k. look kind m k ≡ None) is.1 (longest.2 (length longer) (omega arith) is.0)

pub no_longest_key : (kind : Kind) (m : Map) (text : List ℕ) → IsLongestPrefix kind m text None → IsLongestKey kind m text None
no_longest_key kind m text none key begins =
    let is = count text key begins.0 begins.1 in
    subst (λ k. look kind m k ≡ None) is.1 (none (length key) is.0)
