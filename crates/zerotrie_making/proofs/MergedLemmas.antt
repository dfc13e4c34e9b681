-- Pairs that are merged by their keys.
use Rattle.std.proofs.Common.{◌≡◌, ℕ, zero, suc, ◌+◌, ◌^◌, ◌<◌, ◌≤◌, List, [], ◌∷◌, ◌++◌, length, map, get_or, set, Bool, true, false, Option, Some, None, refl, sym, ◌∙◌, ap, subst, arith, append-nil, take, drop, length-take, inl, inr}
use Rattle.std.specs.Prelude.{◌||◌, if◌then◌else◌, filter}
use Rattle.std.specs.Option.{is_some, unwrap_or, option_map}
use Rattle.std.specs.Str.{bytes_eq}
use Rattle.std.specs.Borrow.{Bor}
use Rattle.std.specs.Cmp.Lexicographic.{bytes_decides, nat_list_eq_equiv}
use Rattle.std.proofs.lemmas.Bool.{cases_Bool}
use Rattle.std.proofs.lemmas.List.{map-append, length-map, get_or-map, take_more, take-append-drop}
use Rattle.std.proofs.lemmas.List.Elements.{filter-append}
use Rattle.std.proofs.lemmas.List.Sums.{fold-append}
use Rattle.zerotrie_lines.specs.Tables.{Pair, Pairs, pairs_of}
use Rattle.zerotrie_sets.specs.Selections.{as_one, one_of_two}
use Rattle.zerotrie_sets.specs.declared.selection.Rule.{Rule}
use Rattle.zerotrie_sets.specs.declared.selection.Rule.TheVariants.{Sum}
use Rattle.zerotrie_build.specs.Refused.{key_at}
use Rattle.zerotrie_making.specs.Made.{IsKeyAt, IsNotMerged}
use Rattle.zerotrie_making.specs.declared.error.NumberedKey.{NumberedKey}
use Rattle.zerotrie_making.specs.declared.error.MakeError.TheVariants as MakeErrors
use Rattle.zerotrie_making.specs.Kept.{Numbered, numbered, has_key, firsts, values_of, with_one, merged, unnumbered, numbers, with_next, AreSmall, IsTooLarge, number_of}

-- ---- keys

pub key_same : (k l : List ℕ) → bytes_eq k l ≡ true → k ≡ l
key_same k l h = (bytes_decides k l).0 h

pub key_is : (k : List ℕ) → bytes_eq k k ≡ true
key_is k = (bytes_decides k k).1 refl

-- no key is two others
apart : (k l q : List ℕ) → bytes_eq k l ≡ false → bytes_eq k q ≡ true → bytes_eq l q ≡ true → ⊥
apart k l q other one two =
    let same : bytes_eq k l ≡ true = (bytes_decides k l).1 (key_same k q one ∙ sym (key_same l q two)) in
    absurd (cc)

turned : (k l : List ℕ) (b : Bool) → bytes_eq k l ≡ b → bytes_eq l k ≡ b
turned k l b h = nat_list_eq_equiv.symm l k ∙ h

-- ---- the place of a key

-- the index of the first pair with the key
abbrev pub position : List ℕ → Pairs → Option ℕ
position key [] = None
position key (e ∷ pairs) = if bytes_eq e.0 key then Some 0 else option_map suc (position key pairs)

next_later : (rule : Rule) (place : Option ℕ) (e f : Pair) (pairs : Pairs) → with_next rule (option_map suc place) e (f ∷ pairs) ≡ f ∷ with_next rule place e pairs
next_later rule None e f pairs = refl
next_later rule (Some i) e f pairs = refl

twice : {A : Type 0} (b : Bool) (x y : A) → (if b then x else y) ≡ (if b then x else (if b then x else y))
twice true x y = refl
twice false x y = refl

one_later : (a b : Bool) (place : Option ℕ) (n : ℕ) (found : Option ℕ) → (a ≡ true → b ≡ true → ⊥)
    → (if a then Some 0 else option_map suc (if b then Some (unwrap_or place n) else found)) ≡ (if b then Some (unwrap_or (option_map suc place) (suc n)) else (if a then Some 0 else option_map suc found))
one_later true true place n found never = absurd (never refl refl)
one_later true false place n found never = refl
one_later false true None n found never = refl
one_later false true (Some i) n found never = refl
one_later false false place n found never = refl

position_step : (rule : Rule) (e f : Pair) (key : List ℕ) (pairs : Pairs) (same : Bool) → bytes_eq f.0 e.0 ≡ same
    → position key (with_next rule (position e.0 pairs) e pairs) ≡ (if bytes_eq e.0 key then Some (unwrap_or (position e.0 pairs) (length pairs)) else position key pairs)
    → position key (with_next rule (if same then Some 0 else option_map suc (position e.0 pairs)) e (f ∷ pairs))
    ≡ (if bytes_eq e.0 key then Some (unwrap_or (if same then Some 0 else option_map suc (position e.0 pairs)) (suc (length pairs))) else position key (f ∷ pairs))
position_step rule e f key pairs true is later =
    let found : Option ℕ = option_map suc (position key pairs) in
    subst (λ k. (if bytes_eq f.0 key then Some 0 else found) ≡ (if bytes_eq k key then Some 0 else (if bytes_eq f.0 key then Some 0 else found))) (key_same f.0 e.0 is) (twice (bytes_eq f.0 key) (Some 0) found)
position_step rule e f key pairs false is later =
    ap (position key) (next_later rule (position e.0 pairs) e f pairs)
    ∙ ap (λ o. if bytes_eq f.0 key then Some 0 else option_map suc o) later
    ∙ one_later (bytes_eq f.0 key) (bytes_eq e.0 key) (position e.0 pairs) (length pairs) (position key pairs) (apart f.0 e.0 key is)

-- where each key is after one more pair
pub position_next : (rule : Rule) (e : Pair) (key : List ℕ) (pairs : Pairs)
    → position key (with_next rule (position e.0 pairs) e pairs) ≡ (if bytes_eq e.0 key then Some (unwrap_or (position e.0 pairs) (length pairs)) else position key pairs)
position_next rule e key [] = refl
position_next rule e key (f ∷ pairs) = position_step rule e f key pairs (bytes_eq f.0 e.0) refl (position_next rule e key pairs)

below_later : (b : Bool) (found : Option ℕ) (n i : ℕ) → ((j : ℕ) → found ≡ Some j → j < n) → (if b then Some 0 else option_map suc found) ≡ Some i → i < suc n
below_later true found n i below is = let e : 0 ≡ i = cc in omega arith
below_later false None n i below is = absurd (cc)
below_later false (Some j) n i below is = let e : suc j ≡ i = cc in let h = below j refl in omega arith

pub position_below : (key : List ℕ) (pairs : Pairs) (i : ℕ) → position key pairs ≡ Some i → i < length pairs
position_below key [] i is = absurd (cc)
position_below key (e ∷ pairs) i is = below_later (bytes_eq e.0 key) (position key pairs) (length pairs) i (position_below key pairs) is

-- ---- the values of a key

value_of_one : (b : Bool) (e : Pair) → map (λ f. f.1) (if b then e ∷ [] else []) ≡ (if b then e.1 ∷ [] else [])
value_of_one true e = refl
value_of_one false e = refl

values_on : (key : List ℕ) (pairs : Pairs) (e : Pair) → values_of key (pairs ++ e ∷ []) ≡ values_of key pairs ++ (if bytes_eq e.0 key then e.1 ∷ [] else [])
values_on key pairs e =
    let has : Pair → Bool = λ f. bytes_eq f.0 key in
    ap (map (λ f. f.1)) (filter-append has pairs (e ∷ [])) ∙ map-append (λ f. f.1) (filter has pairs) (filter has (e ∷ []))
    ∙ ap (λ vs. values_of key pairs ++ vs) (value_of_one (has e) e)

values_other : (key : List ℕ) (pairs : Pairs) (e : Pair) → bytes_eq e.0 key ≡ false → values_of key (pairs ++ e ∷ []) ≡ values_of key pairs
values_other key pairs e other = values_on key pairs e ∙ ap (λ b. values_of key pairs ++ (if b then e.1 ∷ [] else [])) other ∙ append-nil (values_of key pairs)

pub values_same : (key : List ℕ) (pairs : Pairs) (e : Pair) → bytes_eq e.0 key ≡ true → values_of key (pairs ++ e ∷ []) ≡ values_of key pairs ++ e.1 ∷ []
values_same key pairs e same = values_on key pairs e ∙ ap (λ b. values_of key pairs ++ (if b then e.1 ∷ [] else [])) same

pub one_more : (rule : Rule) (values : List ℕ) (one next : ℕ) → as_one rule values ≡ Some one → as_one rule (values ++ next ∷ []) ≡ Some (one_of_two rule one next)
one_more rule [] one next is = absurd (cc)
one_more rule (v ∷ values) one next is = ap Some (fold-append (one_of_two rule) v values (next ∷ [])) ∙ ap (λ o. Some (one_of_two rule (unwrap_or o 0) next)) is

-- a rule makes something of the values of each of the keys
abbrev pub AllHave : Rule → Pairs → Numbered → Type 0
AllHave rule pairs [] = Unit {0}
AllHave rule pairs (f ∷ fs) = ((one : ℕ) × (as_one rule (values_of f.1.0 pairs) ≡ Some one)) × AllHave rule pairs fs

-- no two have one key
abbrev pub Distinct : Numbered → Type 0
Distinct [] = Unit {0}
Distinct (f ∷ fs) = (has_key f.1.0 fs ≡ false) × Distinct fs

-- ---- the first pair of each key

or_false : (a b : Bool) → (a || b) ≡ false → (a ≡ false) × (b ≡ false)
or_false true b h = absurd (cc)
or_false false b h = (refl, h)

or_true : (a b : Bool) → b ≡ true → (a || b) ≡ true
or_true true b h = refl
or_true false b h = h

or_swap : (a b c : Bool) → (b || (a || c)) ≡ ((a || b) || c)
or_swap true true c = refl
or_swap true false c = refl
or_swap false true c = refl
or_swap false false c = refl

-- no key of an earlier pair is among them
out_step : (key : List ℕ) (earlier : Numbered) (e : ℕ × Pair) (es : Numbered) (seen : Bool) → has_key e.1.0 earlier ≡ seen → has_key key earlier ≡ true
    → has_key key (firsts (e ∷ earlier) es) ≡ false → has_key key (if seen then firsts (e ∷ earlier) es else e ∷ firsts (e ∷ earlier) es) ≡ false
out_step key earlier e es true is h later = later
out_step key earlier e es false is h later =
    elim (cases_Bool (bytes_eq e.1.0 key)) [
      | inl same ↦ let k = key_same e.1.0 key same in let both : has_key key earlier ≡ false = subst (λ l. has_key l earlier ≡ false) k is in absurd (cc)
      | inr other ↦ ap (λ b. b || has_key key (firsts (e ∷ earlier) es)) other ∙ later
    ]

out : (key : List ℕ) (earlier es : Numbered) → has_key key earlier ≡ true → has_key key (firsts earlier es) ≡ false
out key earlier [] h = refl
out key earlier (e ∷ es) h = out_step key earlier e es (has_key e.1.0 earlier) refl h (out key (e ∷ earlier) es (or_true (bytes_eq e.1.0 key) (has_key key earlier) h))

distinct_if : (b : Bool) (e : ℕ × Pair) (fs : Numbered) → has_key e.1.0 fs ≡ false → Distinct fs → Distinct (if b then fs else e ∷ fs)
distinct_if true e fs none h = h
distinct_if false e fs none h = (none, h)

pub firsts_distinct : (earlier es : Numbered) → Distinct (firsts earlier es)
firsts_distinct earlier [] = tt
firsts_distinct earlier (e ∷ es) =
    let here : has_key e.1.0 (e ∷ earlier) ≡ true = ap (λ b. b || has_key e.1.0 earlier) (key_is e.1.0) in
    distinct_if (has_key e.1.0 earlier) e (firsts (e ∷ earlier) es) (out e.1.0 (e ∷ earlier) es here) (firsts_distinct (e ∷ earlier) es)

some_value : (rule : Rule) (b : Bool) (v : ℕ) (values : List ℕ) → (one : ℕ) × (as_one rule values ≡ Some one) → (one : ℕ) × (as_one rule (if b then v ∷ values else values) ≡ Some one)
some_value rule true v values h = (_, refl)
some_value rule false v values h = h

value_in_front : (key : List ℕ) (e : Pair) (pairs : Pairs) (b : Bool) → bytes_eq e.0 key ≡ b → values_of key (e ∷ pairs) ≡ (if b then e.1 ∷ values_of key pairs else values_of key pairs)
value_in_front key e pairs true is = rw is refl
value_in_front key e pairs false is = rw is refl

more_have : (rule : Rule) (e : Pair) (pairs : Pairs) (fs : Numbered) → AllHave rule pairs fs → AllHave rule (e ∷ pairs) fs
more_have rule e pairs [] h = tt
more_have rule e pairs (f ∷ fs) h = (
  subst (λ vs. (one : ℕ) × (as_one rule vs ≡ Some one)) (sym (value_in_front f.1.0 e pairs (bytes_eq e.0 f.1.0) refl)) (some_value rule (bytes_eq e.0 f.1.0) e.1 (values_of f.1.0 pairs) h.0),
  more_have rule e pairs fs h.1,
)

have_if : (rule : Rule) (pairs : Pairs) (b : Bool) (f : ℕ × Pair) (fs : Numbered) → (one : ℕ) × (as_one rule (values_of f.1.0 pairs) ≡ Some one) → AllHave rule pairs fs → AllHave rule pairs (if b then fs else f ∷ fs)
have_if rule pairs true f fs one h = h
have_if rule pairs false f fs one h = (one, h)

pub firsts_have : (rule : Rule) (n : ℕ) (earlier : Numbered) (pairs : Pairs) → AllHave rule pairs (firsts earlier (numbered n pairs))
firsts_have rule n earlier [] = tt
firsts_have rule n earlier (e ∷ pairs) =
    have_if rule (e ∷ pairs) (has_key e.0 earlier) (n, e) (firsts ((n, e) ∷ earlier) (numbered (n + 1) pairs))
    (subst (λ vs. (one : ℕ) × (as_one rule vs ≡ Some one)) (sym (value_in_front e.0 e pairs true (key_is e.0))) (_, refl))
    (more_have rule e pairs (firsts ((n, e) ∷ earlier) (numbered (n + 1) pairs)) (firsts_have rule (n + 1) ((n, e) ∷ earlier) pairs))

-- one pair more at the end
last_if : (b : Bool) (e : ℕ × Pair) (fs more : Numbered) → (if b then fs ++ more else e ∷ (fs ++ more)) ≡ (if b then fs else e ∷ fs) ++ more
last_if true e fs more = refl
last_if false e fs more = refl

firsts_last : (earlier es : Numbered) (e : ℕ × Pair) → firsts earlier (es ++ e ∷ []) ≡ firsts earlier es ++ (if has_key e.1.0 es || has_key e.1.0 earlier then [] else e ∷ [])
firsts_last earlier [] e = refl
firsts_last earlier (f ∷ es) e =
    let more : Numbered = if has_key e.1.0 es || has_key e.1.0 (f ∷ earlier) then [] else e ∷ [] in
    ap (λ fs. if has_key f.1.0 earlier then fs else f ∷ fs) (firsts_last (f ∷ earlier) es e)
    ∙ last_if (has_key f.1.0 earlier) f (firsts (f ∷ earlier) es) more
    ∙ ap (λ b. firsts earlier (f ∷ es) ++ (if b then [] else e ∷ [])) (or_swap (bytes_eq f.1.0 e.1.0) (has_key e.1.0 es) (has_key e.1.0 earlier))

numbered_last : (n : ℕ) (pairs : Pairs) (e : Pair) → numbered n (pairs ++ e ∷ []) ≡ numbered n pairs ++ (n + length pairs, e) ∷ []
numbered_last n [] e = let here : n ≡ n + 0 = omega arith in ap (λ m. (m, e) ∷ []) here
numbered_last n (f ∷ pairs) e =
    let there : n + 1 + length pairs ≡ n + suc (length pairs) = omega arith in
    ap (λ es. (n, f) ∷ es) (numbered_last (n + 1) pairs e ∙ ap (λ m. numbered (n + 1) pairs ++ (m, e) ∷ []) there)

or_false_right : (b : Bool) → (b || false) ≡ b
or_false_right true = refl
or_false_right false = refl

-- which keys they have
has_if : (key : List ℕ) (b : Bool) (e : ℕ × Pair) (fs : Numbered) → (b ≡ true → bytes_eq e.1.0 key ≡ false) → has_key key (if b then fs else e ∷ fs) ≡ (bytes_eq e.1.0 key || has_key key fs)
has_if key true e fs h = ap (λ b. b || has_key key fs) (sym (h refl))
has_if key false e fs h = refl

or_or : (a : Bool) (b c : Bool) → (a ≡ false → b ≡ c) → (a || b) ≡ (a || c)
or_or true b c h = refl
or_or false b c h = h refl

not_seen : (key : List ℕ) (e : ℕ × Pair) (earlier : Numbered) → has_key key earlier ≡ false → has_key e.1.0 earlier ≡ true → bytes_eq e.1.0 key ≡ false
not_seen key e earlier none seen =
    elim (cases_Bool (bytes_eq e.1.0 key)) [
      | inl same ↦ (let both : has_key key earlier ≡ true = subst (λ l. has_key l earlier ≡ true) (key_same e.1.0 key same) seen in absurd (cc))
      | inr other ↦ other
    ]

has_first : (key : List ℕ) (earlier es : Numbered) → has_key key earlier ≡ false → has_key key (firsts earlier es) ≡ has_key key es
has_first key earlier [] none = refl
has_first key earlier (e ∷ es) none =
    has_if key (has_key e.1.0 earlier) e (firsts (e ∷ earlier) es) (not_seen key e earlier none)
    ∙ or_or (bytes_eq e.1.0 key) (has_key key (firsts (e ∷ earlier) es)) (has_key key es) (λ other. has_first key (e ∷ earlier) es (ap (λ b. b || has_key key earlier) other ∙ none))

no_values : (key : List ℕ) (n : ℕ) (pairs : Pairs) → has_key key (numbered n pairs) ≡ false → values_of key pairs ≡ []
no_values key n [] none = refl
no_values key n (e ∷ pairs) none =
    let h = or_false (bytes_eq e.0 key) (has_key key (numbered (n + 1) pairs)) none in
    value_in_front key e pairs false h.0 ∙ no_values key (n + 1) pairs h.1

-- ---- one pair more

some_if : (b : Bool) (found : Option ℕ) → is_some (if b then Some 0 else option_map suc found) ≡ (b || is_some found)
some_if true found = refl
some_if false None = refl
some_if false (Some i) = refl

pub found_in : (rule : Rule) (pairs : Pairs) (key : List ℕ) (fs : Numbered) → is_some (position key (unnumbered (map (with_one rule pairs) fs))) ≡ has_key key fs
found_in rule pairs key [] = refl
found_in rule pairs key (f ∷ fs) =
    some_if (bytes_eq f.1.0 key) (position key (unnumbered (map (with_one rule pairs) fs))) ∙ ap (λ b. bytes_eq f.1.0 key || b) (found_in rule pairs key fs)

same_one : (rule : Rule) (pairs : Pairs) (e : Pair) (f : ℕ × Pair) → bytes_eq f.1.0 e.0 ≡ false → with_one rule (pairs ++ e ∷ []) f ≡ with_one rule pairs f
same_one rule pairs e f other = ap (λ vs. (f.0, (f.1.0, unwrap_or (as_one rule vs) f.1.1))) (values_other f.1.0 pairs e (turned f.1.0 e.0 false other))

same_ones : (rule : Rule) (pairs : Pairs) (e : Pair) (fs : Numbered) → has_key e.0 fs ≡ false → unnumbered (map (with_one rule (pairs ++ e ∷ [])) fs) ≡ unnumbered (map (with_one rule pairs) fs)
same_ones rule pairs e [] none = refl
same_ones rule pairs e (f ∷ fs) none =
    let h = or_false (bytes_eq f.1.0 e.0) (has_key e.0 fs) none in
    ap (λ g. g.1 ∷ unnumbered (map (with_one rule (pairs ++ e ∷ [])) fs)) (same_one rule pairs e f h.0)
    ∙ ap (λ gs. (with_one rule pairs f).1 ∷ gs) (same_ones rule pairs e fs h.1)

merged_here : (rule : Rule) (pairs : Pairs) (e : Pair) (f : ℕ × Pair) (one : ℕ) → as_one rule (values_of f.1.0 pairs) ≡ Some one → bytes_eq f.1.0 e.0 ≡ true
    → (with_one rule (pairs ++ e ∷ []) f).1 ≡ (f.1.0, one_of_two rule (unwrap_or (as_one rule (values_of f.1.0 pairs)) f.1.1) e.1)
merged_here rule pairs e f one is same =
    ap (λ vs. (f.1.0, unwrap_or (as_one rule vs) f.1.1)) (values_same f.1.0 pairs e (turned f.1.0 e.0 true same))
    ∙ ap (λ o. (f.1.0, unwrap_or o f.1.1)) (one_more rule (values_of f.1.0 pairs) one e.1 is)
    ∙ ap (λ o. (f.1.0, one_of_two rule (unwrap_or o f.1.1) e.1)) (sym is)

next_step : (rule : Rule) (pairs : Pairs) (e : Pair) (f : ℕ × Pair) (fs : Numbered) (same : Bool) → bytes_eq f.1.0 e.0 ≡ same → has_key f.1.0 fs ≡ false
    → (one : ℕ) → as_one rule (values_of f.1.0 pairs) ≡ Some one
    → unnumbered (map (with_one rule (pairs ++ e ∷ [])) fs) ++ (if has_key e.0 fs then [] else e ∷ [])
    ≡ with_next rule (position e.0 (unnumbered (map (with_one rule pairs) fs))) e (unnumbered (map (with_one rule pairs) fs))
    → unnumbered (map (with_one rule (pairs ++ e ∷ [])) (f ∷ fs)) ++ (if same || has_key e.0 fs then [] else e ∷ [])
    ≡ with_next rule (if same then Some 0 else option_map suc (position e.0 (unnumbered (map (with_one rule pairs) fs)))) e (unnumbered (map (with_one rule pairs) (f ∷ fs)))
next_step rule pairs e f fs true is none one some later =
    append-nil (unnumbered (map (with_one rule (pairs ++ e ∷ [])) (f ∷ fs)))
    ∙ ap (λ g. g ∷ unnumbered (map (with_one rule (pairs ++ e ∷ [])) fs)) (merged_here rule pairs e f one some is)
    ∙ ap (λ gs. (f.1.0, one_of_two rule (unwrap_or (as_one rule (values_of f.1.0 pairs)) f.1.1) e.1) ∷ gs) (same_ones rule pairs e fs (subst (λ k. has_key k fs ≡ false) (key_same f.1.0 e.0 is) none))
next_step rule pairs e f fs false is none one some later =
    ap (λ g. (g.1 ∷ unnumbered (map (with_one rule (pairs ++ e ∷ [])) fs)) ++ (if has_key e.0 fs then [] else e ∷ [])) (same_one rule pairs e f is)
    ∙ ap (λ gs. (with_one rule pairs f).1 ∷ gs) later
    ∙ sym (next_later rule (position e.0 (unnumbered (map (with_one rule pairs) fs))) e (with_one rule pairs f).1 (unnumbered (map (with_one rule pairs) fs)))

next_in : (rule : Rule) (pairs : Pairs) (e : Pair) (fs : Numbered) → Distinct fs → AllHave rule pairs fs
    → unnumbered (map (with_one rule (pairs ++ e ∷ [])) fs) ++ (if has_key e.0 fs then [] else e ∷ [])
    ≡ with_next rule (position e.0 (unnumbered (map (with_one rule pairs) fs))) e (unnumbered (map (with_one rule pairs) fs))
next_in rule pairs e [] unlike have = refl
next_in rule pairs e (f ∷ fs) unlike have = next_step rule pairs e f fs (bytes_eq f.1.0 e.0) refl unlike.0 have.0.0 have.0.1 (next_in rule pairs e fs unlike.1 have.1)

-- the first pairs with one pair more, of which it is known whether its key was there
firsts_more : (pairs : Pairs) (e : Pair) → firsts [] (numbered 1 (pairs ++ e ∷ []))
    ≡ firsts [] (numbered 1 pairs) ++ (if has_key e.0 (firsts [] (numbered 1 pairs)) then [] else (1 + length pairs, e) ∷ [])
firsts_more pairs e =
    let es = numbered 1 pairs in
    let last : ℕ × Pair = (1 + length pairs, e) in
    ap (firsts []) (numbered_last 1 pairs e) ∙ firsts_last [] es last
    ∙ ap (λ b. firsts [] es ++ (if b then [] else last ∷ [])) (or_false_right (has_key e.0 es) ∙ sym (has_first e.0 [] es refl))

same_numbers : (rule : Rule) (pairs : Pairs) (fs : Numbered) → numbers (map (with_one rule pairs) fs) ≡ numbers fs
same_numbers rule pairs [] = refl
same_numbers rule pairs (f ∷ fs) = ap (λ ns. f.0 ∷ ns) (same_numbers rule pairs fs)

number_if : (b : Bool) (e : ℕ × Pair) → numbers (if b then [] else e ∷ []) ≡ (if b then [] else e.0 ∷ [])
number_if true e = refl
number_if false e = refl

pub numbers_next : (rule : Rule) (pairs : Pairs) (e : Pair) → numbers (merged rule (pairs ++ e ∷ []))
    ≡ numbers (merged rule pairs) ++ (if is_some (position e.0 (unnumbered (merged rule pairs))) then [] else (1 + length pairs) ∷ [])
numbers_next rule pairs e =
    let fs = firsts [] (numbered 1 pairs) in
    let more : Numbered = if has_key e.0 fs then [] else (1 + length pairs, e) ∷ [] in
    same_numbers rule (pairs ++ e ∷ []) (firsts [] (numbered 1 (pairs ++ e ∷ []))) ∙ ap numbers (firsts_more pairs e) ∙ map-append (λ f. f.0) fs more
    ∙ ap (λ ns. numbers fs ++ ns) (number_if (has_key e.0 fs) (1 + length pairs, e))
    ∙ ap (λ ns. ns ++ (if has_key e.0 fs then [] else (1 + length pairs) ∷ [])) (sym (same_numbers rule pairs fs))
    ∙ ap (λ b. numbers (merged rule pairs) ++ (if b then [] else (1 + length pairs) ∷ [])) (sym (found_in rule pairs e.0 fs))

new_one : (rule : Rule) (pairs : Pairs) (e : Pair) (b : Bool) (n : ℕ) → has_key e.0 (firsts [] (numbered 1 pairs)) ≡ b
    → unnumbered (map (with_one rule (pairs ++ e ∷ [])) (if b then [] else (n, e) ∷ [])) ≡ (if b then [] else e ∷ [])
new_one rule pairs e true n is = refl
new_one rule pairs e false n is =
    let none = no_values e.0 1 pairs (sym (has_first e.0 [] (numbered 1 pairs) refl) ∙ is) in
    ap (λ vs. (e.0, unwrap_or (as_one rule vs) e.1) ∷ []) (values_same e.0 pairs e (key_is e.0) ∙ ap (λ vs. vs ++ e.1 ∷ []) none)

pub pairs_next : (rule : Rule) (pairs : Pairs) (e : Pair) → unnumbered (merged rule (pairs ++ e ∷ []))
    ≡ with_next rule (position e.0 (unnumbered (merged rule pairs))) e (unnumbered (merged rule pairs))
pairs_next rule pairs e =
    let fs = firsts [] (numbered 1 pairs) in
    let more : Numbered = if has_key e.0 fs then [] else (1 + length pairs, e) ∷ [] in
    let one = with_one rule (pairs ++ e ∷ []) in
    ap (λ gs. unnumbered (map one gs)) (firsts_more pairs e) ∙ ap unnumbered (map-append one fs more) ∙ map-append (λ f. f.1) (map one fs) (map one more)
    ∙ ap (λ gs. unnumbered (map one fs) ++ gs) (new_one rule pairs e (has_key e.0 fs) (1 + length pairs) refl)
    ∙ next_in rule pairs e fs (firsts_distinct [] (numbered 1 pairs)) (firsts_have rule 1 [] pairs)

-- ---- one item more

pub merged_item : (rule : Rule) (items : List (Bor (List ℕ) × ℕ)) (place : ℕ) (x d : Bor (List ℕ) × ℕ) (key : Bor (List ℕ)) (one : ℕ) (e : Pair) → place < length items
    → x ≡ get_or items place d → key.now ≡ x.0.now → one ≡ one_of_two rule x.1 e.1 → pairs_of (set items place (key, one)) ≡ with_next rule (Some place) e (pairs_of items)
merged_item rule [] place x d key one e below is same made = absurd (omega (arith, below))
merged_item rule (y ∷ items) zero x d key one e below is same made =
    let k : key.now ≡ y.0.now = same ∙ ap (λ z. z.0.now) is in
    let v : one ≡ one_of_two rule y.1 e.1 = made ∙ ap (λ z. one_of_two rule z.1 e.1) is in
    ap (λ l. (l, one) ∷ pairs_of items) k ∙ ap (λ o. (y.0.now, o) ∷ pairs_of items) v
merged_item rule (y ∷ items) (suc place) x d key one e below is same made = ap (λ ps. (y.0.now, y.1) ∷ ps) (merged_item rule items place x d key one e (omega (arith, below)) is same made)

-- what is kept after one pair more
pub kept_next : (rule : Rule) (pairs : Pairs) (e : Pair) (place : Option ℕ) (number : ℕ) (ns more_ns : List ℕ) (ps more : Pairs)
    → ns ≡ numbers (merged rule pairs) → ps ≡ unnumbered (merged rule pairs) → position e.0 ps ≡ place → number ≡ 1 + length pairs
    → more_ns ≡ ns ++ (if is_some place then [] else number ∷ []) → more ≡ with_next rule place e ps
    → (more_ns ≡ numbers (merged rule (pairs ++ e ∷ []))) × (more ≡ unnumbered (merged rule (pairs ++ e ∷ [])))
kept_next rule pairs e place number ns more_ns ps more is_ns is_ps at counted grown_ns grown =
    let there : position e.0 (unnumbered (merged rule pairs)) ≡ place = ap (position e.0) (sym is_ps) ∙ at in (
      grown_ns ∙ ap (λ l. l ++ (if is_some place then [] else number ∷ [])) is_ns
          ∙ ap (λ n. numbers (merged rule pairs) ++ (if is_some place then [] else n ∷ [])) counted
          ∙ ap (λ o. numbers (merged rule pairs) ++ (if is_some o then [] else (1 + length pairs) ∷ [])) (sym there) ∙ sym (numbers_next rule pairs e),
      grown ∙ ap (with_next rule place e) is_ps ∙ ap (λ o. with_next rule o e (unnumbered (merged rule pairs))) (sym there) ∙ sym (pairs_next rule pairs e),
    )

-- where each key is then
pub new_place : (rule : Rule) (e : Pair) (ps more : Pairs) (key : List ℕ) → position e.0 ps ≡ None → more ≡ with_next rule None e ps
    → position key more ≡ (if bytes_eq e.0 key then Some (length ps) else position key ps)
new_place rule e ps more key at grown =
    ap (position key) (grown ∙ ap (λ o. with_next rule o e ps) (sym at)) ∙ position_next rule e key ps
    ∙ ap (λ o. if bytes_eq e.0 key then Some (unwrap_or o (length ps)) else position key ps) at

same_place_if : (b : Bool) (place : ℕ) (found : Option ℕ) → (b ≡ true → found ≡ Some place) → (if b then Some place else found) ≡ found
same_place_if true place found h = sym (h refl)
same_place_if false place found h = refl

pub same_place : (rule : Rule) (e : Pair) (place : ℕ) (ps more : Pairs) (key : List ℕ) → position e.0 ps ≡ Some place → more ≡ with_next rule (Some place) e ps
    → position key more ≡ position key ps
same_place rule e place ps more key at grown =
    ap (position key) (grown ∙ ap (λ o. with_next rule o e ps) (sym at)) ∙ position_next rule e key ps
    ∙ ap (λ o. if bytes_eq e.0 key then Some (unwrap_or o (length ps)) else position key ps) at
    ∙ same_place_if (bytes_eq e.0 key) place (position key ps) (λ same. subst (λ k. position k ps ≡ Some place) (key_same e.0 key same) at)

-- ---- sums that are too large

-- the value at a key's place is what the rule makes of its values
at_step : (rule : Rule) (pairs : Pairs) (key : List ℕ) (f : ℕ × Pair) (fs : Numbered) (place : ℕ) (d : Pair) (same : Bool) → bytes_eq f.1.0 key ≡ same
    → (one : ℕ) → as_one rule (values_of f.1.0 pairs) ≡ Some one → (found : Option ℕ)
    → ((i : ℕ) → found ≡ Some i → as_one rule (values_of key pairs) ≡ Some (get_or (unnumbered (map (with_one rule pairs) fs)) i d).1)
    → (if same then Some 0 else option_map suc found) ≡ Some place
    → as_one rule (values_of key pairs) ≡ Some (get_or (unnumbered (map (with_one rule pairs) (f ∷ fs))) place d).1
at_step rule pairs key f fs zero d true is one some found later at =
    subst (λ k. as_one rule (values_of k pairs) ≡ Some (unwrap_or (as_one rule (values_of f.1.0 pairs)) f.1.1)) (key_same f.1.0 key is)
    (some ∙ ap (λ o. Some (unwrap_or o f.1.1)) (sym some))
at_step rule pairs key f fs (suc place) d true is one some found later at = absurd (cc)
at_step rule pairs key f fs zero d false is one some None later at = absurd (cc)
at_step rule pairs key f fs (suc place) d false is one some None later at = absurd (cc)
at_step rule pairs key f fs zero d false is one some (Some i) later at = absurd (cc)
at_step rule pairs key f fs (suc place) d false is one some (Some i) later at = let e : i ≡ place = cc in later place (ap Some e)

at_position : (rule : Rule) (pairs : Pairs) (key : List ℕ) (fs : Numbered) (place : ℕ) (d : Pair) → AllHave rule pairs fs → position key (unnumbered (map (with_one rule pairs) fs)) ≡ Some place
    → as_one rule (values_of key pairs) ≡ Some (get_or (unnumbered (map (with_one rule pairs) fs)) place d).1
at_position rule pairs key [] place d have is = absurd (cc)
at_position rule pairs key (f ∷ fs) place d have is =
    at_step rule pairs key f fs place d (bytes_eq f.1.0 key) refl have.0.0 have.0.1 (position key (unnumbered (map (with_one rule pairs) fs))) (λ i there. at_position rule pairs key fs i d have.1 there) is

pub value_at_place : (rule : Rule) (pairs : Pairs) (key : List ℕ) (place : ℕ) (d : Pair) → position key (unnumbered (merged rule pairs)) ≡ Some place
    → as_one rule (values_of key pairs) ≡ Some (get_or (unnumbered (merged rule pairs)) place d).1
value_at_place rule pairs key place d at = at_position rule pairs key (firsts [] (numbered 1 pairs)) place d (firsts_have rule 1 [] pairs) at

-- a sum that is too large is the sum of all values of the key so far
pub large_next : (pairs : Pairs) (e : Pair) (place : ℕ) (d : Pair) → position e.0 (unnumbered (merged Sum pairs)) ≡ Some place
    → 2 ^ 64 ≤ (get_or (unnumbered (merged Sum pairs)) place d).1 + e.1 → IsTooLarge e.0 (pairs ++ e ∷ [])
large_next pairs e place d at large =
    let one = value_at_place Sum pairs e.0 place d at in
    (refl, (get_or (unnumbered (merged Sum pairs)) place d).1 + e.1, ap (as_one Sum) (values_same e.0 pairs e (key_is e.0)) ∙ one_more Sum (values_of e.0 pairs) _ e.1 one, large)

-- no sum is too large if all values that are kept are small
none_large_at : (pairs : Pairs) (key : List ℕ) (found : Option ℕ) → position key (unnumbered (merged Sum pairs)) ≡ found → AreSmall (unnumbered (merged Sum pairs)) → IsTooLarge key pairs → ⊥
none_large_at pairs key None at small large =
    let none : has_key key (firsts [] (numbered 1 pairs)) ≡ false = sym (found_in Sum pairs key (firsts [] (numbered 1 pairs))) ∙ ap is_some at in
    let no = no_values key 1 pairs (sym (has_first key [] (numbered 1 pairs) refl) ∙ none) in
    let h : as_one Sum (values_of key pairs) ≡ None = ap (as_one Sum) no in
    let g = large.2 in
    absurd (cc)
none_large_at pairs key (Some place) at small large =
    let d : Pair = ([], 0) in
    let one = value_at_place Sum pairs key place d at in
    let inside = position_below key (unnumbered (merged Sum pairs)) place at in
    let below = small place d inside in
    let g = large.2 in
    let same : large.1 ≡ (get_or (unnumbered (merged Sum pairs)) place d).1 = cc in
    let high = large.3 in
    omega (arith, same, below, high)

pub none_large : (pairs : Pairs) (key : List ℕ) → AreSmall (unnumbered (merged Sum pairs)) → IsTooLarge key pairs → ⊥
none_large pairs key small large = none_large_at pairs key (position key (unnumbered (merged Sum pairs))) refl small large

-- ---- items one after another

pub pairs_more : (items : List (Bor (List ℕ) × ℕ)) (i : ℕ) (d : Bor (List ℕ) × ℕ) → i < length items
    → take (i + 1) (pairs_of items) ≡ take i (pairs_of items) ++ ((get_or items i d).0.now, (get_or items i d).1) ∷ []
pairs_more items i d inside =
    let f : Bor (List ℕ) × ℕ → Pair = λ x. (x.0.now, x.1) in
    take_more (pairs_of items) i (f d) (subst (λ n. i < n) (sym (length-map items f)) inside)
    ∙ ap (λ x. take i (pairs_of items) ++ x ∷ []) (get_or-map f items i d (f d) inside)

pub counted_more : (pairs : Pairs) (i : ℕ) → i < length pairs → i + 1 ≡ 1 + length (take i pairs)
counted_more pairs i inside = omega (arith, length-take {A = Pair}, inside)

pub key_of_item : (items : List (Bor (List ℕ) × ℕ)) (i : ℕ) (d : Bor (List ℕ) × ℕ) → i < length items → key_at (pairs_of items) i ≡ (get_or items i d).0.now
key_of_item items i d inside = ap (λ (e : Pair). e.0) (get_or-map (λ x. (x.0.now, x.1)) items i d ([], 0) inside)

-- the pair at which a sum is too large
pub too_large_at : (rule : Rule) (all : Pairs) (i : ℕ) (e d : Pair) (place : ℕ) (ps : Pairs) (k : NumberedKey) → i < length all → take (i + 1) all ≡ take i all ++ e ∷ []
    → key_at all i ≡ e.0 → ps ≡ unnumbered (merged rule (take i all)) → AreSmall ps → position e.0 ps ≡ Some place
    → rule ≡ Sum → 2 ^ 64 ≤ (get_or ps place d).1 + e.1 → IsKeyAt (number_of None) all i k → IsNotMerged rule all (MakeErrors.SumTooLarge k)
too_large_at rule all i e d place ps k inside grown here is small at sum large key =
    let now : ps ≡ unnumbered (merged Sum (take i all)) = is ∙ ap (λ r. unnumbered (merged r (take i all))) sum in
    let at_sum : position e.0 (unnumbered (merged Sum (take i all))) ≡ Some place = ap (position e.0) (sym now) ∙ at in
    let too_large = large_next (take i all) e place d at_sum (subst (λ qs. 2 ^ 64 ≤ (get_or qs place d).1 + e.1) now large) in
    let its_key : e.0 ≡ k.key.items = sym here ∙ sym key.1 in
    (sum, (i, inside, key, subst (λ l. IsTooLarge l (take (i + 1) all)) its_key (subst (λ t. IsTooLarge e.0 t) (sym grown) too_large), λ other. none_large (take i all) other (subst (λ qs. AreSmall qs) now small)))

-- ---- all values of a key

pub values_joined : (key : List ℕ) (pairs : Pairs) (i : ℕ) → values_of key pairs ≡ values_of key (take i pairs) ++ values_of key (drop i pairs)
values_joined key pairs i =
    let has : Pair → Bool = λ f. bytes_eq f.0 key in
    ap (values_of key) (sym (take-append-drop i pairs)) ∙ ap (map (λ f. f.1)) (filter-append has (take i pairs) (drop i pairs))
    ∙ map-append (λ f. f.1) (filter has (take i pairs)) (filter has (drop i pairs))

-- a key that has values is kept
pub values_there : (rule : Rule) (key : List ℕ) (pairs : Pairs) (one : ℕ) → as_one rule (values_of key pairs) ≡ Some one → has_key key (firsts [] (numbered 1 pairs)) ≡ true
values_there rule key pairs one is =
    elim (cases_Bool (has_key key (firsts [] (numbered 1 pairs)))) [
      | inl there ↦ there
      | inr none ↦ (
          let no = no_values key 1 pairs (sym (has_first key [] (numbered 1 pairs) refl) ∙ none) in
          let h : as_one rule (values_of key pairs) ≡ None = ap (as_one rule) no in
          absurd (cc))
    ]
