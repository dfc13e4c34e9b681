-- Pairs that are kept.
use Rattle.std.proofs.Common.{◌≡◌, ℕ, ◌+◌, ◌<◌, List, [], ◌∷◌, ◌++◌, length, map, drop, get_or, Bool, true, false, Option, Some, refl, sym, ◌∙◌, ap, arith, append_assoc, suc, zero}
use Rattle.std.specs.Prelude.{◌||◌, if◌then◌else◌, cond, reverse}
use Rattle.std.specs.Option.{is_some}
use Rattle.std.specs.Borrow.{Bor}
use Rattle.std.proofs.lemmas.List.{append-nil, reverse-append}
use Rattle.zerotrie_lines.specs.Tables.{Pair, pairs_of}
use Rattle.zerotrie_making.specs.Kept.{Numbered, numbered, has_key, firsts, lasts}

-- a key that is added is there, and others stay
pub some_after : (b : Bool) (o : Option (Unit {0})) → is_some (cond b (Some tt) o) ≡ (b || is_some o)
some_after true o = refl
some_after false o = refl

-- what one more pair adds to the first ones
pub firsts_on : (earlier rest : Numbered) (e : ℕ × Pair) (seen : Bool) → has_key e.1.0 earlier ≡ seen
    → firsts earlier (e ∷ rest) ≡ (if seen then [] else e ∷ []) ++ firsts (e ∷ earlier) rest
firsts_on earlier rest e true is = rw is refl
firsts_on earlier rest e false is = rw is refl

pub lasts_on : (rest : Numbered) (e : ℕ × Pair) (seen : Bool) → has_key e.1.0 rest ≡ seen → lasts (e ∷ rest) ≡ (if seen then [] else e ∷ []) ++ lasts rest
lasts_on rest e true is = rw is refl
lasts_on rest e false is = rw is refl

-- the number or the pair of what is added
pub added : {A : Type 0} (f : (ℕ × Pair) → A) (e : ℕ × Pair) (seen : Bool) (rest : Numbered) → map f ((if seen then [] else e ∷ []) ++ rest) ≡ (if seen then [] else f e ∷ []) ++ map f rest
added f e true rest = refl
added f e false rest = refl

-- numbered pairs from a place on
pub numbered_from : (n k : ℕ) (items : List (Bor (List ℕ) × ℕ)) (d : Bor (List ℕ) × ℕ) → k < length items
    → numbered n (pairs_of (drop k items)) ≡ (n, ((get_or items k d).0.now, (get_or items k d).1)) ∷ numbered (n + 1) (pairs_of (drop (k + 1) items))
numbered_from n k [] d h = absurd (omega (arith, h))
numbered_from n zero (x ∷ items) d h = refl
numbered_from n (suc k) (x ∷ items) d h = let one : suc k + 1 ≡ suc (k + 1) = omega arith in rw one (numbered_from n k items d (omega (arith, h)))

-- a pair more in front of those that are still to come
pub first_step : {A : Type 0} (f : (ℕ × Pair) → A) (done grown whole : List A) (earlier rest all : Numbered) (e : ℕ × Pair) (seen : Bool)
    → has_key e.1.0 earlier ≡ seen → all ≡ e ∷ rest → grown ≡ done ++ (if seen then [] else f e ∷ [])
    → done ++ map f (firsts earlier all) ≡ whole → grown ++ map f (firsts (e ∷ earlier) rest) ≡ whole
first_step f done grown whole earlier rest all e seen is from more old =
    let part = if seen then [] else f e ∷ [] in
    let tail = map f (firsts (e ∷ earlier) rest) in
    ap (λ t. t ++ tail) more ∙ append_assoc done part tail
    ∙ ap (λ t. done ++ t) (sym (added f e seen (firsts (e ∷ earlier) rest)) ∙ ap (map f) (sym (firsts_on earlier rest e seen is)) ∙ ap (λ t. map f (firsts earlier t)) (sym from)) ∙ old

reverse_added : {A : Type 0} (seen : Bool) (x : A) (done : List A) → reverse (done ++ (if seen then [] else x ∷ [])) ≡ (if seen then [] else x ∷ []) ++ reverse done
reverse_added true x done = ap reverse (append-nil done)
reverse_added false x done = reverse-append done (x ∷ [])

-- the same from the end
pub last_step : {A : Type 0} (f : (ℕ × Pair) → A) (done grown : List A) (rest all : Numbered) (e : ℕ × Pair) (seen : Bool)
    → has_key e.1.0 rest ≡ seen → all ≡ e ∷ rest → grown ≡ done ++ (if seen then [] else f e ∷ [])
    → reverse done ≡ map f (lasts rest) → reverse grown ≡ map f (lasts all)
last_step f done grown rest all e seen is from more old =
    let part = if seen then [] else f e ∷ [] in
    ap reverse more ∙ reverse_added seen (f e) done ∙ ap (λ t. part ++ t) old ∙ sym (added f e seen (lasts rest)) ∙ ap (map f) (sym (lasts_on rest e seen is)) ∙ ap (λ t. map f (lasts t)) (sym from)

pub pairs_push : (items : List (Bor (List ℕ) × ℕ)) (x : Bor (List ℕ) × ℕ) → pairs_of (items ++ x ∷ []) ≡ pairs_of items ++ (x.0.now, x.1) ∷ []
pairs_push [] x = refl
pairs_push (y ∷ items) x = ap (λ t. (y.0.now, y.1) ∷ t) (pairs_push items x)

pub pairs_reverse : (items : List (Bor (List ℕ) × ℕ)) → pairs_of (reverse items) ≡ reverse (pairs_of items)
pairs_reverse [] = refl
pairs_reverse (x ∷ items) =
    ap pairs_of (reverse-append (x ∷ []) items) ∙ pairs_push (reverse items) x ∙ ap (λ t. t ++ (x.0.now, x.1) ∷ []) (pairs_reverse items) ∙ sym (reverse-append ((x.0.now, x.1) ∷ []) (pairs_of items))
