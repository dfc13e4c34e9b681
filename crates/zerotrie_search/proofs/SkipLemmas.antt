-- Leaving out pairs in the order of bytes.
use Rattle.std.proofs.Common.{◌≡◌, ℕ, List, [], ◌∷◌, ◌++◌, length, refl, sym, ◌∙◌, ap, subst, arith, None, Bool, true, false, cond, inl, inr}
use Rattle.std.specs.Prelude.{◌&&◌, is_some, filter}
use Rattle.std.specs.FinMap.{entries}
use Rattle.std.specs.Range.Bound.{is_up_to_end}
use Rattle.std.specs.declared.ops.Bound.{Bound}
use Rattle.std.proofs.lemmas.Bool.{eq-eqb, ne_eqb, cases_eq}
use Rattle.std.proofs.lemmas.List.Sums.{length-filter, count_by-le-length}
use Rattle.zerotrie_base.specs.Kind.{Kind}
use Rattle.zerotrie_base.specs.Maps.{Pairs, after_run, map_of}
use Rattle.zerotrie_core.specs.Listings.{Left, to_come}
use Rattle.zerotrie_core.specs.listing.Listed.{listed}
use Rattle.zerotrie_core.specs.WellFormed.{IsWellFormed}
use Rattle.zerotrie_search.specs.Searches.{accepted, accepted_left}
use Rattle.zerotrie_search.specs.Sets.{by_bytes}
use Rattle.zerotrie_search.specs.Sorted.{LeavesOut, begins_else, without}
use Rattle.zerotrie_search.specs.Walks.{AreFew, left_where, pairs_where}
use Rattle.zerotrie_search.proofs.LeftLemmas.{filter_alike}

-- keys that begin with a front, and others
begins_front : (front key : List ℕ) → is_some (after_run front key) ≡ true → (more : List ℕ) × (key ≡ front ++ more)
begins_front [] key e = (key, refl)
begins_front (b ∷ front) [] e = absurd (cc)
begins_front (b ∷ front) (c ∷ key) e = elim (cases_eq b c) [
  | inl same ↦
      let r = begins_front front key (sym (ap (λ t. is_some (cond t (after_run front key) None)) (eq-eqb b c same)) ∙ e) in
      (r.0, ap (λ x. x ∷ key) (sym same) ∙ ap (λ k. b ∷ k) r.1)
  | inr other ↦ absurd (let no : is_some (after_run (b ∷ front) (c ∷ key)) ≡ false = ap (λ t. is_some (cond t (after_run front key) None)) (ne_eqb b c other) in cc)
]

filter_both : (p q : List ℕ → Bool) (es : Pairs) → filter (λ e. p e.0) (filter (λ e. q e.0) es) ≡ filter (λ e. q e.0 && p e.0) es
filter_both p q [] = refl
filter_both p q (e ∷ es) = by (q e.0) refl (filter_both p q es)
  where
    by : (t : Bool) → q e.0 ≡ t → filter (λ x. p x.0) (filter (λ x. q x.0) es) ≡ filter (λ x. q x.0 && p x.0) es → filter (λ x. p x.0) (filter (λ x. q x.0) (e ∷ es)) ≡ filter (λ x. q x.0 && p x.0) (e ∷ es)
    by true h rest = rw h (ap (λ ps. cond (p e.0) (e ∷ ps) ps) rest)
    by false h rest = rw h rest

and_swap : (a b u : Bool) → ((a && b) && u) ≡ ((a && u) && b)
and_swap true true true = refl
and_swap true true false = refl
and_swap true false true = refl
and_swap true false false = refl
and_swap false b u = refl

-- a test that chooses fewer pairs
module _ (pairs : Pairs) (to : Bound (List ℕ)) (p r keeps : List ℕ → Bool) (is : (q : List ℕ) → r q ≡ (p q && keeps q)) where
  pub chosen_kept : pairs_where pairs to r ≡ accepted keeps (pairs_where pairs to p)
  chosen_kept =
      let up : List ℕ → Bool = is_up_to_end by_bytes to in
      filter_alike (map_of pairs) (λ q. r q && up q) (λ q. (p q && up q) && keeps q) (λ q v e. ap (λ t. t && up q) (is q) ∙ and_swap (p q) (keeps q) (up q))
      ∙ sym (filter_both keeps (λ q. p q && up q) (entries (map_of pairs)))

  pub few_kept : (most : ℕ) → AreFew pairs to p most → AreFew pairs to r most
  few_kept most few =
      let count = length-filter (λ e. keeps e.0) (pairs_where pairs to p) in
      let less = count_by-le-length (λ e. keeps e.0) (pairs_where pairs to p) in
      let same = ap length chosen_kept in
      omega (arith, count, less, same, few)

-- no key that begins with the front is accepted
without_each : (accepts : List ℕ → Bool) (front : List ℕ) (pairs : Pairs) → ((more : List ℕ) → accepts (front ++ more) ≡ false) → accepted accepts (accepted (begins_else front) pairs) ≡ accepted accepts pairs
without_each accepts front [] dead = refl
without_each accepts front (e ∷ pairs) dead = by (is_some (after_run front e.0)) refl (without_each accepts front pairs dead)
  where
    by : (t : Bool) → is_some (after_run front e.0) ≡ t → accepted accepts (accepted (begins_else front) pairs) ≡ accepted accepts pairs → accepted accepts (accepted (begins_else front) (e ∷ pairs)) ≡ accepted accepts (e ∷ pairs)
    by true h rest =
        let r = begins_front front e.0 h in
        let out : accepts e.0 ≡ false = ap accepts r.1 ∙ dead r.0 in
        rw (h, out) rest
    by false h rest = rw h (ap (λ ps. cond (accepts e.0) (e ∷ ps) ps) rest)

pub without_dead : (accepts : List ℕ → Bool) (front : List ℕ) (left : Left) → ((more : List ℕ) → accepts (front ++ more) ≡ false) → accepted_left accepts (without front left) ≡ accepted_left accepts left
without_dead accepts front left dead = ap (λ ps. record { pairs = ps; ended = left.ended }) (without_each accepts front left.pairs dead)

-- nor one that is left out
out_each : (accepts keeps : List ℕ → Bool) (pairs : Pairs) → ((key : List ℕ) → keeps key ≡ false → accepts key ≡ false) → accepted accepts (accepted keeps pairs) ≡ accepted accepts pairs
out_each accepts keeps [] dead = refl
out_each accepts keeps (e ∷ pairs) dead = by (keeps e.0) refl (out_each accepts keeps pairs dead)
  where
    by : (t : Bool) → keeps e.0 ≡ t → accepted accepts (accepted keeps pairs) ≡ accepted accepts pairs → accepted accepts (accepted keeps (e ∷ pairs)) ≡ accepted accepts (e ∷ pairs)
    by true h rest = rw h (ap (λ ps. cond (accepts e.0) (e ∷ ps) ps) rest)
    by false h rest = let out : accepts e.0 ≡ false = dead e.0 h in rw (h, out) rest

pub left_out : (accepts : List ℕ → Bool) (IsOut : List ℕ → Type 0) (before after : Left) → ((key : List ℕ) → IsOut key → accepts key ≡ false) → LeavesOut IsOut before after → accepted_left accepts after ≡ accepted_left accepts before
left_out accepts IsOut before after dead l =
    ap (accepted_left accepts) l.1 ∙ ap (λ ps. record { pairs = ps; ended = before.ended }) (out_each accepts l.0 before.pairs (λ key h. dead key (l.2 key h)))

-- what is left of a listing, as fewer keys are to come
pub left_kept : (ended : Bool) (kind : Kind) (bytes : List ℕ) (to : Bound (List ℕ)) (p r keeps : List ℕ → Bool) → (ended ≡ false → (q : List ℕ) → r q ≡ (p q && keeps q)) → left_where ended kind bytes to r ≡ accepted_left keeps (left_where ended kind bytes to p)
left_kept true kind bytes to p r keeps is = refl
left_kept false kind bytes to p r keeps is = ap to_come (chosen_kept (listed kind bytes) to p r keeps (is refl))

pub left_narrowed : (ended : Bool) (kind : Kind) (bytes : List ℕ) (to : Bound (List ℕ)) (p r : List ℕ → Bool) (IsOut : List ℕ → Type 0) → (ended ≡ false → (keeps : List ℕ → Bool) × ((q : List ℕ) → r q ≡ (p q && keeps q)) × ((q : List ℕ) → keeps q ≡ false → IsOut q))
    → LeavesOut IsOut (left_where ended kind bytes to p) (left_where ended kind bytes to r)
left_narrowed true kind bytes to p r IsOut h = (λ q. true, refl, λ q e. absurd (cc))
left_narrowed false kind bytes to p r IsOut h = let k = h refl in (k.0, ap to_come (chosen_kept (listed kind bytes) to p r k.0 k.1), k.2)

pub left_ended : (ended : Bool) (kind : Kind) (bytes : List ℕ) (to : Bound (List ℕ)) (p r : List ℕ → Bool) → (left_where ended kind bytes to r).ended ≡ (left_where ended kind bytes to p).ended
left_ended true kind bytes to p r = refl
left_ended false kind bytes to p r = refl

pub same_trie : (kind kind' : Kind) (bytes bytes' : List ℕ) → kind' ≡ kind → bytes' ≡ bytes → IsWellFormed kind bytes → IsWellFormed kind' bytes'
same_trie kind kind' bytes bytes' k b well = subst (λ x. IsWellFormed x bytes') (sym k) (subst (λ x. IsWellFormed kind x) (sym b) well)
