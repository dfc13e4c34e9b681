-- The laws of cursors.
use Rattle.std.proofs.Common.{◌≡◌, ℕ, zero, suc, ◌<◌, List, [], ◌∷◌, ◌++◌, length, refl, sym, ◌∙◌, ap, subst, arith, Some, None, Bool, true, false, get_or, inl, inr, ◌⊎◌}
use Rattle.std.specs.Prelude.{filter, not, ◌==◌, ◌&&◌, slice_index_or}
use Rattle.std.proofs.lemmas.Bool.{eq-eqb, eqb-true, ne_eqb, cases_eq}
use Rattle.zerotrie_base.specs.Kind.{Kind, fold_byte, same_byte}
use Rattle.zerotrie_base.specs.Maps.{Pairs, value_at, same_key, look, residual, with_front}
use Rattle.zerotrie_base.specs.Texts.{Lists}
use Rattle.zerotrie_base.specs.Texts.Lists.{nothing, value, literal, span, branch}
use Rattle.zerotrie_base.specs.Cursors.{met, edge_like}
use Rattle.zerotrie_core.specs.Machine.{Answer, behind, without_value, run}
use Rattle.zerotrie_core.specs.Places.{Place, nowhere, ListsBehind, ListsAt}
use Rattle.zerotrie_core.specs.CursorLaws.{steps_by, stepped_along, StepsAnswer, SuffixAnswers, NoSecondValue, StoredBytes}
use Rattle.zerotrie_base.proofs.NumberLemmas.Numbers.{cons_parts}
use Rattle.zerotrie_base.proofs.NodeLemmas.Tables.{NoneLike, table_distinct}
use Rattle.zerotrie_base.proofs.MapLemmas.Values.{value_at-no_key, behind_none}
use Rattle.zerotrie_base.proofs.MapLemmas.Spans.{value_at-no_run}
use Rattle.zerotrie_base.proofs.CanonicalLemmas.Canonical.{lists_some}
use Rattle.zerotrie_base.proofs.MapLemmas.Maps.{look-map_of}
use Rattle.zerotrie_core.proofs.CursorLemmas.Calls.{Parts, before_text, opens_parts, front_parts, inside_span, along, along_none, no_value_first, no_value, front_without, run_without, each_without}

-- The edges that a place has.
pub record HasParts (kind : Kind) (pairs : Pairs) : Type 0 where
  pub edges : List ℕ
  pub places : ℕ → Place
  pub parts : Parts kind pairs edges places

front_has : (kind : Kind) (b : ℕ) (pairs below : Pairs) (place : Place) → (below ≡ [] → ⊥) → pairs ≡ with_front b below → ListsAt kind place below → HasParts kind pairs
front_has kind b pairs below place some is lists = record { edges = b ∷ []; places = λ i. place; parts = front_parts kind b pairs below place some is lists }

inside_has : (kind : Kind) (run trie : List ℕ) (pairs : Pairs) → (run ≡ [] → ⊥) → ListsBehind kind run trie pairs → HasParts kind pairs
inside_has kind [] trie pairs some lists = absurd (some refl)
inside_has kind (b ∷ run) trie pairs some lists = front_has kind b pairs lists.0 (record { run = run; trie = trie }) lists.1 lists.2 lists.3

value_has : (kind : Kind) (v : ℕ) (pairs : Pairs) → HasParts kind pairs → HasParts kind (([], v) ∷ pairs)
value_has kind v pairs h = record {
  edges = h.edges;
  places = h.places;
  parts = record {
    met_is = h.parts.met_is;
    distinct = h.parts.distinct;
    leads = λ i l. h.parts.leads i l;
    answers = λ c i l same key. h.parts.answers c i l same key;
    others = λ c none key. h.parts.others c none key;
  };
}

text_has : {kind : Kind} {bytes : List ℕ} {pairs : Pairs} → Lists kind bytes pairs → HasParts kind pairs
text_has {kind = kind} nothing = record {
  edges = [];
  places = λ i. nowhere;
  parts = record { met_is = refl; distinct = tt; leads = λ i l. absurd (omega arith); answers = λ c i l same key. absurd (omega arith); others = λ c none key. refl };
}
text_has {kind = kind} (value {v = v} {pairs = pairs} s n text) = value_has kind v pairs (text_has text)
text_has {kind = kind} (literal {b = b} {rest = rest} {pairs = pairs} low n text) = front_has kind b (with_front b pairs) pairs (before_text rest) (lists_some text n) refl text
text_has {kind = kind} (span {rest = rest} {pairs = pairs} run h some high s m f text) = inside_has kind run rest _ some (inside_span kind run rest pairs m text).0
text_has {kind = kind} (branch {edges = edges} {targets = targets} {bytes = bytes} {pairs = pairs} i each) = record {
  edges = edges;
  places = λ k. before_text (get_or targets k []);
  parts = opens_parts (branch i each) (record { all = pairs; same = refl; each = each; distinct = table_distinct i.is_table; here = refl; counts = λ c key. refl });
}

pub place_has : (kind : Kind) (place : Place) (pairs : Pairs) → ListsAt kind place pairs → HasParts kind pairs
place_has kind place pairs lists = by place.run lists
  where
    by : (run : List ℕ) → ListsBehind kind run place.trie pairs → HasParts kind pairs
    by [] text = text_has text
    by (b ∷ run) l = inside_has kind (b ∷ run) place.trie pairs (λ none. absurd (cc)) l

-- Which edge a byte goes along, or that it goes along none.
EdgeFor : Kind → ℕ → List ℕ → Type 0
EdgeFor kind c edges = ((i : ℕ) × (i < length edges) × (fold_byte kind (get_or edges i 0) ≡ fold_byte kind c)) ⊎ NoneLike kind c edges

edge_for : (kind : Kind) (c : ℕ) (edges : List ℕ) → EdgeFor kind c edges
unfolding EdgeFor
edge_for kind c [] = inr tt
edge_for kind c (e ∷ edges) = elim (cases_eq (fold_byte kind e) (fold_byte kind c)) [
  | inl same ↦ inl (0, omega arith, same)
  | inr other ↦ elim (edge_for kind c edges) [ inl found ↦ inl (suc found.0, omega (arith, found.1), found.2) | inr none ↦ inr (λ s. other (sym s), none) ]
]

-- Where a step by a byte leads, and what is left there answers.
record Onward (kind : Kind) (pairs : Pairs) (c : ℕ) : Type 0 where
  pub place : Place
  pub lists : ListsAt kind place (behind (edge_like kind c (met pairs)) pairs)
  pub answers : (key : List ℕ) → value_at kind (behind (edge_like kind c (met pairs)) pairs) key ≡ value_at kind pairs (c ∷ key)

onward : (kind : Kind) (pairs : Pairs) → HasParts kind pairs → (c : ℕ) → Onward kind pairs c
unfolding EdgeFor
onward kind pairs h c = elim (edge_for kind c h.edges) [
  | inl f ↦ (
      let a = along h.parts c f.0 f.1 f.2 in
      record {
        place = h.places f.0;
        lists = subst (λ o. ListsAt kind (h.places f.0) (behind o pairs)) a.0 a.1;
        answers = λ key. ap (λ o. value_at kind (behind o pairs) key) (sym a.0) ∙ sym (h.parts.answers c f.0 f.1 f.2 key);
      }
      )
  | inr none ↦ (
      let a = along_none h.parts c none in
      record {
        place = nowhere;
        lists = subst (λ o. ListsAt kind nowhere (behind o pairs)) a.0 a.1;
        answers = λ key. ap (λ o. value_at kind (behind o pairs) key) (sym a.0) ∙ sym (h.parts.others c none key);
      }
      )
]

pub steps_answer : StepsAnswer
steps_answer kind place pairs lists [] key = refl
steps_answer kind place pairs lists (c ∷ front) key =
    let o = onward kind pairs (place_has kind place pairs lists) c in
    steps_answer kind o.place (behind (edge_like kind c (met pairs)) pairs) o.lists front key ∙ o.answers (front ++ key)

pub suffix_answers : SuffixAnswers
suffix_answers kind bytes rest m means front key text =
    look-map_of text key
    ∙ steps_answer kind (before_text bytes) means.pairs means.lists front key
    ∙ sym (look-map_of means.lists (front ++ key))
    ∙ ap (λ n. look kind n (front ++ key)) (sym means.is)

-- a value that was taken
text_taken : {kind : Kind} {bytes : List ℕ} {pairs : Pairs} → Lists kind bytes pairs → value_at kind (without_value pairs) [] ≡ None
text_taken nothing = refl
text_taken (value {rest = rest} s n text) = (no_value text (no_value_first rest n)).0
text_taken {kind = kind} (literal {b = b} {pairs = pairs} low n text) = ap (λ p. value_at kind p []) (front_without b pairs) ∙ value_at-no_key kind b pairs
text_taken {kind = kind} (span {pairs = pairs} run h some high s m f text) = ap (λ p. value_at kind p []) (run_without run pairs some) ∙ value_at-no_run kind run pairs some
text_taken {kind = kind} (branch i each) = ap (λ p. value_at kind p []) (each_without each) ∙ behind_none each

pub no_second : NoSecondValue
no_second kind place pairs lists = by place.run lists
  where
    by : (run : List ℕ) → ListsBehind kind run place.trie pairs → value_at kind (without_value pairs) [] ≡ None
    by [] text = text_taken text
    by (b ∷ run) l = ap (λ p. value_at kind (without_value p) []) l.2 ∙ ap (λ p. value_at kind p []) (front_without b l.0) ∙ value_at-no_key kind b l.0

-- a pair among others
Among : Pairs → List ℕ → ℕ → Type 0
Among [] key v = ⊥
Among (e ∷ pairs) key v = ((e.0 ≡ key) × (e.1 ≡ v)) ⊎ Among pairs key v

among_at : (pairs : Pairs) (key : List ℕ) (v k : ℕ) → k < length pairs → slice_index_or pairs k (key, v) ≡ (key, v) → Among pairs key v
unfolding Among
among_at [] key v k l is = absurd (omega arith)
among_at (e ∷ pairs) key v zero l is = inl (ap (λ p. p.0) is, ap (λ p. p.1) is)
among_at (e ∷ pairs) key v (suc k) l is = inr (among_at pairs key v k (omega arith) is)

-- a byte among others
At : List ℕ → ℕ → Type 0
At xs b = (i : ℕ) × (i < length xs) × (get_or xs i 0 ≡ b)

at_later : (x : ℕ) (xs : List ℕ) (b : ℕ) → At xs b → At (x ∷ xs) b
unfolding At
at_later x xs b a = (suc a.0, omega (arith, a.1), a.2)

at_kept : (p : ℕ → Bool) (x : ℕ) (xs : List ℕ) (b : ℕ) (t : Bool) → p x ≡ t → At (filter p xs) b → At (filter p (x ∷ xs)) b
at_kept p x xs b true e h = rw e (at_later x (filter p xs) b h)
at_kept p x xs b false e h = rw e h

at_filter : (p : ℕ → Bool) (xs : List ℕ) (b : ℕ) → p b ≡ true → (i : ℕ) → i < length xs → get_or xs i 0 ≡ b → At (filter p xs) b
unfolding At
at_filter p [] b keep i l is = absurd (omega arith)
at_filter p (x ∷ xs) b keep zero l is = rw (ap p is ∙ keep) (0, omega arith, is)
at_filter p (x ∷ xs) b keep (suc i) l is = at_kept p x xs b (p x) refl (at_filter p xs b keep i (omega arith) is)

-- the first byte of a key is met, and what stands after it is left
met_among : (pairs : Pairs) (b : ℕ) (key : List ℕ) (v : ℕ) → Among pairs (b ∷ key) v → At (met pairs) b
unfolding Among At
met_among [] b key v m = absurd m
met_among (([], w) ∷ pairs) b key v m = elim m [ inl is ↦ absurd (let e = is.0 in cc) | inr more ↦ met_among pairs b key v more ]
met_among ((d ∷ k, w) ∷ pairs) b key v m = elim m [
  | inl is ↦ (0, omega arith, (cons_parts d b k key is.0).0)
  | inr more ↦ elim (cases_eq d b) [
    | inl same ↦ (0, omega arith, same)
    | inr other ↦ at_later d (filter (λ c. not (c == d)) (met pairs)) b (let m' = met_among pairs b key v more in at_filter (λ c. not (c == d)) (met pairs) b (rw (ne_eqb b d (λ e. other (sym e))) refl) m'.0 m'.1 m'.2)
  ]
]

residual_among : (pairs : Pairs) (b : ℕ) (key : List ℕ) (v : ℕ) → Among pairs (b ∷ key) v → Among (residual b pairs) key v
unfolding Among
residual_among [] b key v m = absurd m
residual_among (([], w) ∷ pairs) b key v m = elim m [ inl is ↦ absurd (let e = is.0 in cc) | inr more ↦ residual_among pairs b key v more ]
residual_among ((d ∷ k, w) ∷ pairs) b key v m = elim m [
  | inl is ↦ (let parts = cons_parts d b k key is.0 in rw (eq-eqb d b parts.0) (inl (parts.1, is.1)))
  | inr more ↦ elim (cases_eq d b) [
    | inl same ↦ rw (eq-eqb d b same) (inr (residual_among pairs b key v more))
    | inr other ↦ rw (ne_eqb d b other) (residual_among pairs b key v more)
  ]
]

both_true : (a b : Bool) → (a && b) ≡ true → (a ≡ true) × (b ≡ true)
both_true true b e = (refl, e)
both_true false b e = absurd (cc)

stored_among : (kind : Kind) (place : Place) (pairs : Pairs) → ListsAt kind place pairs → (key typed : List ℕ) (v : ℕ) → Among pairs key v → same_key kind key typed ≡ true → run kind (steps_by typed) pairs ≡ stepped_along key
unfolding At
stored_among kind place pairs lists [] [] v m same = refl
stored_among kind place pairs lists [] (c ∷ typed) v m same = absurd (cc)
stored_among kind place pairs lists (b ∷ key) [] v m same = absurd (cc)
stored_among kind place pairs lists (b ∷ key) (c ∷ typed) v m same =
    let h = place_has kind place pairs lists in
    let parts = both_true (same_byte kind b c) (same_key kind key typed) same in
    let at = one_edge h.edges h.parts.met_is (met_among pairs b key v m) in
    let a = along h.parts c at.0 at.1 (ap (fold_byte kind) at.2 ∙ eqb-true (fold_byte kind b) (fold_byte kind c) parts.0) in
    let edge : edge_like kind c (met pairs) ≡ Some b = sym a.0 ∙ ap Some at.2 in
    ap (λ o. Answer.stepped o ∷ run kind (steps_by typed) (behind o pairs)) edge
    ∙ ap (λ more. Answer.stepped (Some b) ∷ more)
    (stored_among kind (h.places at.0) (residual b pairs) (subst (λ e. ListsAt kind (h.places at.0) (residual e pairs)) at.2 a.1) key typed v (residual_among pairs b key v m) parts.1)
  where
    one_edge : (edges : List ℕ) → met pairs ≡ edges → At (met pairs) b → (i : ℕ) × (i < length edges) × (get_or edges i 0 ≡ b)
    one_edge edges e a = subst (λ es. (i : ℕ) × (i < length es) × (get_or es i 0 ≡ b)) e a

pub stored : StoredBytes
stored kind place pairs lists key typed v has same = stored_among kind place pairs lists key typed v (among_at pairs key v has.0 has.1 has.2) same
