-- Numbers that are written over a room one by one, and the keys that a search finds.
use Rattle.std.proofs.Common.{◌≡◌, ℕ, ◌+◌, ◌<◌, ◌≤◌, List, [], ◌∷◌, ◌++◌, map, set, length, refl, sym, ◌∙◌, ap, arith, append_assoc, length-append, subst, Some, None}
use Rattle.std.specs.Prelude.{All}
use Rattle.std.proofs.lemmas.List.{append-nil}
use Rattle.std.proofs.lemmas.List.Elements.{All-append, All-nil, All-cons}
use Rattle.zerotrie_core.specs.Maps.{Pairs}
use Rattle.zerotrie_core.specs.Prefixes.{Along, Leaves, fronts_left, NextFront, most_left}
use Rattle.zerotrie_c.specs.Fronts.{AreFrontsTold}
use Rattle.zerotrie_c.specs.Keys.{written_over}

-- one number more
written_more : (f : ℕ × ℕ → ℕ) (found : List (ℕ × ℕ)) (e : ℕ × ℕ) (old : List ℕ)
    → written_over (map f (found ++ e ∷ [])) old ≡ set (written_over (map f found) old) (length found) (f e)
written_more f [] e [] = refl
written_more f [] e (o ∷ old) = refl
written_more f (d ∷ found) e [] = refl
written_more f (d ∷ found) e (o ∷ old) = ap (λ l. f d ∷ l) (written_more f found e old)

-- one key more
told_more : (found : List (ℕ × ℕ)) (e : ℕ × ℕ) (count : ℕ) (old_lens lens old_values values : List ℕ) → AreFrontsTold found count old_lens lens old_values values
    → AreFrontsTold (found ++ e ∷ []) (count + 1) old_lens (set lens count e.0) old_values (set values count e.1)
told_more found e count old_lens lens old_values values told = (
  ap (λ n. n + 1) told.0 ∙ sym (length-append found (e ∷ [])),
  ap (λ l. set l count e.0) told.1 ∙ ap (λ n. set (written_over (map (λ f. f.0) found) old_lens) n e.0) told.0 ∙ sym (written_more (λ f. f.0) found e old_lens),
  ap (λ l. set l count e.1) told.2 ∙ ap (λ n. set (written_over (map (λ f. f.1) found) old_values) n e.1) told.0 ∙ sym (written_more (λ f. f.1) found e old_values),
)

-- nothing is written yet
pub told_none : (lens values : List ℕ) → AreFrontsTold [] 0 lens lens values values
told_none lens values = (refl, refl, refl)

-- A search began at the start and is here now. These keys are found, all that it will have found before what is left.
pub record Going (start here : Along) (count : ℕ) (old_lens lens old_values values : List ℕ) : Type 0 where
  pub found : List (ℕ × ℕ)
  pub told : AreFrontsTold found count old_lens lens old_values values
  pub within : All (λ f. f.0 ≤ length start.text) found
  pub few : length found + most_left here ≤ most_left start
  pub text : here.text ≡ start.text
  pub rest : (pairs : Pairs) → Leaves start pairs → (left : Pairs) × Leaves here left × (fronts_left start pairs ≡ found ++ fronts_left here left)

pub going_none : (start : Along) (lens values : List ℕ) → Going start start 0 lens lens values values
going_none start lens values = record {
  found = [];
  told = told_none lens values;
  within = All-nil (λ f. f.0 ≤ length start.text);
  few = omega arith;
  text = refl;
  rest = λ pairs leaves. (pairs, leaves, refl);
}

module _ {start before : Along} {count : ℕ} {old_lens lens old_values values : List ℕ} (g : Going start before count old_lens lens old_values values) where
  -- one key more
  pub going_more : (f : ℕ × ℕ) (after : Along) → NextFront before (Some f) after → most_left after < most_left before
      → Going start after (count + 1) old_lens (set lens count f.0) old_values (set values count f.1)
  going_more f after next fewer =
      let len = length-append g.found (f ∷ []) in
      let few = g.few in
      let inside : f.0 ≤ length start.text = subst (λ text. f.0 ≤ length text) g.text next.0 in
      record {
        found = g.found ++ f ∷ [];
        told = told_more g.found f count old_lens lens old_values values g.told;
        within = All-append (λ f. f.0 ≤ length start.text) g.found (f ∷ []) g.within (All-cons (λ f. f.0 ≤ length start.text) f [] inside (All-nil (λ f. f.0 ≤ length start.text)));
        few = omega (arith, few, fewer, len);
        text = next.1 ∙ g.text;
        rest = λ pairs leaves. (
            let old = g.rest pairs leaves in
            let new = next.2 old.0 old.1 in
            (new.0, new.1, old.2 ∙ ap (λ l. g.found ++ l) new.2 ∙ sym (append_assoc g.found (f ∷ []) (fronts_left after new.0)))
            );
      }

  -- no key comes any more
  pub going_end : (after : Along) → NextFront before None after → (pairs : Pairs) → Leaves start pairs → AreFrontsTold (fronts_left start pairs) count old_lens lens old_values values
  going_end after next pairs leaves =
      let old = g.rest pairs leaves in
      let all : g.found ≡ fronts_left start pairs = sym (append-nil g.found) ∙ ap (λ l. g.found ++ l) (sym (next old.0 old.1).0) ∙ sym old.2 in
      subst (λ found. AreFrontsTold found count old_lens lens old_values values) all g.told
