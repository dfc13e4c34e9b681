-- The longest key that a text begins with, found by steps and takes.
use Rattle.std.proofs.Common.{◌≡◌, ℕ, ◌+◌, ◌<◌, ◌≤◌, zero, suc, inl, inr, List, [], ◌∷◌, ◌++◌, length, take, get_or, refl, sym, ◌∙◌, ap, subst, arith, Option, Some, None}
use Rattle.std.proofs.lemmas.Bool.Decides.{eqb_tells, leb_tells}
use Rattle.std.proofs.lemmas.List.{append-nil}
use Rattle.std.specs.Prelude.{is_some, not, true, IfSome}
use Rattle.zerotrie_base.specs.Kind.{Kind}
use Rattle.zerotrie_base.specs.Maps.{Pairs, Map, look, value_at}
use Rattle.zerotrie_base.specs.Texts.{Means}
use Rattle.zerotrie_core.specs.Machine.{behind, without_value, after_steps}
use Rattle.zerotrie_core.specs.Places.{Place, ListsAt, IsStep, IsTake}
use Rattle.zerotrie_core.specs.CursorLaws.{StepsAnswer}
use Rattle.zerotrie_core.specs.Prefixes.{IsLongest, IsLongestPrefix}
use Rattle.zerotrie_core.specs.cursor.Fronts.{noted}
use Rattle.zerotrie_base.proofs.MapLemmas.Maps.{look-map_of}

pub others_stay : (kind : Kind) (pairs : Pairs) (c : ℕ) (key : List ℕ) → value_at kind (without_value pairs) (c ∷ key) ≡ value_at kind pairs (c ∷ key)
others_stay kind [] c key = refl
others_stay kind (([], v) ∷ pairs) c key = refl
others_stay kind ((b ∷ k, v) ∷ pairs) c key = rw (others_stay kind pairs c key) refl

take_next : (text : List ℕ) (i : ℕ) (key : List ℕ) → i < length text → take (i + 1) text ++ key ≡ take i text ++ get_or text i 0 ∷ key
take_next [] i key l = absurd (omega arith)
take_next (b ∷ text) zero key l = refl
take_next (b ∷ text) (suc i) key l = let e : suc i + 1 ≡ suc (i + 1) = omega arith in rw e (ap (λ t. b ∷ t) (take_next text i key (omega arith)))

take_beyond : (text : List ℕ) (i n : ℕ) → i < n → n ≤ length text → (rest : List ℕ) × (take n text ≡ take i text ++ get_or text i 0 ∷ rest)
take_beyond [] i n l low = absurd (omega arith)
take_beyond (b ∷ text) i zero l low = absurd (omega arith)
take_beyond (b ∷ text) zero (suc n) l low = (take n text, refl)
take_beyond (b ∷ text) (suc i) (suc n) l low = let r = take_beyond text i n (omega arith) (omega arith) in (r.0, ap (λ t. b ∷ t) r.1)

take_none : (n : ℕ) (text : List ℕ) → n ≤ 0 → take n text ≡ []
take_none zero text low = refl
take_none (suc n) text low = absurd (omega arith)

longest_first : (at : List ℕ → Option ℕ) (text : List ℕ) (taken : Option ℕ) → taken ≡ at [] → IsLongest at text 0 (noted taken 0 None)
longest_first at text None is = λ n low. ap at (take_none n text low) ∙ sym is
longest_first at text (Some v) is = (omega arith, sym is, λ n low high. absurd (omega arith))

longest_more : (at : List ℕ → Option ℕ) (text : List ℕ) (i : ℕ) (taken : Option ℕ) (found : Option (ℕ × ℕ)) → IsLongest at text i found → taken ≡ at (take (i + 1) text)
    → IsLongest at text (i + 1) (noted taken (i + 1) found)
longest_more at text i (Some v) found old is = (omega arith, sym is, λ n low high. absurd (omega arith))
longest_more at text i None None old is = λ n high. elim (eqb_tells n (i + 1)) [
  | inl t ↦ ap (λ k. at (take k text)) t.1 ∙ sym is
  | inr f ↦ old n (omega (arith, f.1))
]
longest_more at text i None (Some r) old is = (
  omega (arith, old.0),
  old.1,
  λ n low high. elim (eqb_tells n (i + 1)) [
    | inl t ↦ ap (λ k. at (take k text)) t.1 ∙ sym is
    | inr f ↦ old.2 n low (omega (arith, f.1))
  ],
)

longest_on : (at : List ℕ → Option ℕ) (text : List ℕ) (i most : ℕ) (found : Option (ℕ × ℕ)) → IsLongest at text i found → i ≤ most
    → ((n : ℕ) → i < n → n ≤ most → at (take n text) ≡ None) → IsLongest at text most found
longest_on at text i most None old low none = λ n high. elim (leb_tells n i) [
  | inl t ↦ old n t.1
  | inr f ↦ none n f.1 high
]
longest_on at text i most (Some r) old low none = (
  omega (arith, old.0),
  old.1,
  λ n l high. elim (leb_tells n i) [
    | inl t ↦ old.2 n l t.1
    | inr f ↦ none n f.1 high
  ],
)

longest_same : (f g : List ℕ → Option ℕ) (text : List ℕ) (most : ℕ) (found : Option (ℕ × ℕ)) → ((key : List ℕ) → g key ≡ f key) → IsLongest f text most found → IsLongest g text most found
longest_same f g text most None same h = λ n low. same (take n text) ∙ h n low
longest_same f g text most (Some r) same h = (h.0, same (take r.0 text) ∙ h.1, λ n l high. same (take n text) ∙ h.2 n l high)

-- After i bytes of the text the cursor has what these pairs have after them, and the longest key so far was found.
pub record GoesAlong (kind : Kind) (pairs : Pairs) (text : List ℕ) (i : ℕ) (place : Place) (found : Option (ℕ × ℕ)) : Type 0 where
  pub left : Pairs
  pub lists : ListsAt kind place left
  pub onward : (c : ℕ) (key : List ℕ) → value_at kind left (c ∷ key) ≡ value_at kind pairs (take i text ++ c ∷ key)
  pub longest : IsLongest (value_at kind pairs) text i found

pub starts : (kind : Kind) (pairs : Pairs) (text : List ℕ) (before place : Place) (taken : Option ℕ) → ListsAt kind before pairs
    → IsTake kind (ListsAt kind before) taken (ListsAt kind place) → GoesAlong kind pairs text 0 place (noted taken 0 None)
starts kind pairs text before place taken lists takes = let t = takes pairs lists in record {
  left = without_value pairs;
  lists = t.1;
  onward = others_stay kind pairs;
  longest = longest_first (value_at kind pairs) text taken t.0;
}

-- what is left after a step answers as before it with the byte in front
stepped : (kind : Kind) (pairs : Pairs) (text : List ℕ) (i : ℕ) (before : Place) (found : Option (ℕ × ℕ)) → StepsAnswer → i < length text → (g : GoesAlong kind pairs text i before found)
    → (key : List ℕ) → value_at kind (after_steps kind (get_or text i 0 ∷ []) g.left) key ≡ value_at kind pairs (take i text ++ get_or text i 0 ∷ key)
stepped kind pairs text i before found law l g key = law kind before g.left g.lists (get_or text i 0 ∷ []) key ∙ g.onward (get_or text i 0) key

pub goes_on : (kind : Kind) (pairs : Pairs) (text : List ℕ) (i : ℕ) (before middle after : Place) (answer taken : Option ℕ) (found : Option (ℕ × ℕ)) → StepsAnswer → i < length text
    → GoesAlong kind pairs text i before found → IsStep kind (ListsAt kind before) (get_or text i 0) answer (ListsAt kind middle)
    → IsTake kind (ListsAt kind middle) taken (ListsAt kind after) → GoesAlong kind pairs text (i + 1) after (noted taken (i + 1) found)
goes_on kind pairs text i before middle after answer taken found law l g step takes =
    let c = get_or text i 0 in
    let s = step g.left g.lists in
    let left = after_steps kind (c ∷ []) g.left in
    let at_left : ListsAt kind middle left = subst (λ a. ListsAt kind middle (behind a g.left)) s.0 s.1 in
    let t = takes left at_left in
    let same = stepped kind pairs text i before found law l g in
    let here : taken ≡ value_at kind pairs (take (i + 1) text) =
    t.0 ∙ same [] ∙ ap (value_at kind pairs) (sym (take_next text i [] l) ∙ append-nil (take (i + 1) text)) in record {
      left = without_value left;
      lists = t.1;
      onward = λ d key. others_stay kind left d key ∙ same (d ∷ key) ∙ ap (value_at kind pairs) (sym (take_next text i (d ∷ key) l));
      longest = longest_more (value_at kind pairs) text i taken found g.longest here;
    }

pub stops : (kind : Kind) (pairs : Pairs) (text : List ℕ) (i : ℕ) (before middle : Place) (answer : Option ℕ) (found : Option (ℕ × ℕ)) → StepsAnswer → i < length text
    → GoesAlong kind pairs text i before found → IsStep kind (ListsAt kind before) (get_or text i 0) answer (ListsAt kind middle) → answer ≡ None
    → IsLongest (value_at kind pairs) text (length text) found
stops kind pairs text i before middle answer found law l g step is =
    let c = get_or text i 0 in
    let s = step g.left g.lists in
    let gone : after_steps kind (c ∷ []) g.left ≡ [] = ap (λ a. behind a g.left) (sym s.0 ∙ is) in
    longest_on (value_at kind pairs) text i (length text) found g.longest (omega arith)
    (λ n low high.
    let r = take_beyond text i n low high in
    ap (value_at kind pairs) r.1 ∙ sym (stepped kind pairs text i before found law l g r.0) ∙ ap (λ p. value_at kind p r.0) gone)

pub ends : (kind : Kind) (pairs : Pairs) (text : List ℕ) (i : ℕ) (place : Place) (found : Option (ℕ × ℕ)) → GoesAlong kind pairs text i place found → i ≡ length text
    → IsLongest (value_at kind pairs) text (length text) found
ends kind pairs text i place found g is = subst (λ n. IsLongest (value_at kind pairs) text n found) is g.longest

-- said of the map
pub of_map : (kind : Kind) (bytes text : List ℕ) (m : Map) (means : Means kind bytes m) (found : Option (ℕ × ℕ))
    → IsLongest (value_at kind means.pairs) text (length text) found → IsLongestPrefix kind m text found
of_map kind bytes text m means found h =
    longest_same (value_at kind means.pairs) (look kind m) text (length text) found (λ key. ap (λ n. look kind n key) means.is ∙ look-map_of means.lists key) h

-- a step along no edge
pub no_edge : (answer : Option ℕ) → is_some answer ≡ not true → answer ≡ None
no_edge None h = refl
no_edge (Some b) h = absurd (cc)

-- no length is beyond what was gone over
pub within_more : (found : Option (ℕ × ℕ)) (few most : ℕ) → IfSome found (λ r. r.0 ≤ few) → few ≤ most → IfSome found (λ r. r.0 ≤ most)
within_more None few most within less = tt
within_more (Some r) few most within less = omega (arith, within, less)

pub within_noted : (taken : Option ℕ) (len few : ℕ) (found : Option (ℕ × ℕ)) → IfSome found (λ r. r.0 ≤ few) → few ≤ len → IfSome (noted taken len found) (λ r. r.0 ≤ len)
within_noted (Some v) len few found within less = omega arith
within_noted None len few found within less = within_more found few len within less
