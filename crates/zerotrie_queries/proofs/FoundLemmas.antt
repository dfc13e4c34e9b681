-- Keys and texts that are looked up one after another.
use Rattle.std.proofs.Common.{◌≡◌, ℕ, ◌+◌, ◌<◌, get_or, List, [], ◌∷◌, ◌++◌, map, take, drop, length, Option, Bool, true, false, refl, sym, ◌∙◌, ap, append_assoc}
use Rattle.std.specs.Prelude.{◌&&◌, is_some}
use Rattle.std.proofs.lemmas.List.{map-append, take-append-drop, drop-drop, drop_more}
use Rattle.std.specs.Borrow.{Bor}
use Rattle.zerotrie_core.specs.Kind.{Kind}
use Rattle.zerotrie_core.specs.Maps.{Map, look}
use Rattle.zerotrie_queries.specs.Answers.{answers}
use Rattle.zerotrie_queries.specs.Printed.{value_line, value_lines, are_found}

-- what keys that lie elsewhere are answered
abbrev pub answers_of : (List ℕ → Option ℕ) → List (Bor (List ℕ)) → List (Option ℕ)
answers_of f keys = map (λ key. f key.now) keys

-- texts that lie elsewhere
abbrev pub nows : List (Bor (List ℕ)) → List (List ℕ)
nows texts = map (λ t. t.now) texts

-- keys that lie elsewhere are answered as the keys themselves
pub answers_are : (f : List ℕ → Option ℕ) (keys : List (Bor (List ℕ))) → answers_of f keys ≡ map f (nows keys)
answers_are f [] = refl
answers_are f (key ∷ keys) = ap (λ answers. f key.now ∷ answers) (answers_are f keys)

-- what is read past the end
abbrev pub no_key : Bor (List ℕ)
no_key = record { ref_ptr = (0, 0); now = [] }

pub and_assoc : (a b c : Bool) → ((a && b) && c) ≡ (a && (b && c))
and_assoc true b c = refl
and_assoc false b c = refl

pub and_true : (b : Bool) → (b && true) ≡ b
and_true true = refl
and_true false = refl

-- keys from one place on are the next of them, and those from a later place on
pub cut_at : {A : Type 0} (keys left block : List A) (begin n : ℕ) → left ≡ drop begin keys → block ≡ take n left → length block ≡ n → drop begin keys ≡ block ++ drop (begin + length block) keys
cut_at keys left block begin n l b len =
    sym l
    ∙ sym (take-append-drop n left)
    ∙ ap (λ x. x ++ drop n left) (sym b)
    ∙ ap (λ x. block ++ x) (ap (drop n) l ∙ drop-drop n begin keys ∙ ap (λ k. drop (begin + k) keys) (sym len))

-- answers one after another
pub value_lines-append : (a b : List (Option ℕ)) → value_lines (a ++ b) ≡ value_lines a ++ value_lines b
value_lines-append [] b = refl
value_lines-append (x ∷ a) b = ap (λ l. value_line x ++ l) (value_lines-append a b) ∙ sym (append_assoc (value_line x) (value_lines a) (value_lines b))

pub are_found-append : {A : Type 0} (a b : List (Option A)) → are_found (a ++ b) ≡ (are_found a && are_found b)
are_found-append [] b = refl
are_found-append (x ∷ a) b = ap (λ f. is_some x && f) (are_found-append a b) ∙ sym (and_assoc (is_some x) (are_found a) (are_found b))

-- the answers to keys are those to the first of them, and then those to the others
pub lines_cut : (f : List ℕ → Option ℕ) (keys block rest : List (Bor (List ℕ))) → keys ≡ block ++ rest → value_lines (answers_of f keys) ≡ value_lines (answers_of f block) ++ value_lines (answers_of f rest)
lines_cut f keys block rest e = ap (λ ks. value_lines (answers_of f ks)) e ∙ ap value_lines (map-append (λ key. f key.now) block rest) ∙ value_lines-append (answers_of f block) (answers_of f rest)

pub found_cut : (f : List ℕ → Option ℕ) (keys block rest : List (Bor (List ℕ))) (old now all : Bool) → keys ≡ block ++ rest → now ≡ (old && are_found (answers_of f block))
    → (old && are_found (answers_of f keys)) ≡ all → (now && are_found (answers_of f rest)) ≡ all
found_cut f keys block rest old now all e is was =
    ap (λ b. b && are_found (answers_of f rest)) is
    ∙ and_assoc old (are_found (answers_of f block)) (are_found (answers_of f rest))
    ∙ ap (λ b. old && b) (sym (ap (λ ks. are_found (answers_of f ks)) e ∙ ap are_found (map-append (λ key. f key.now) block rest) ∙ are_found-append (answers_of f block) (answers_of f rest)))
    ∙ was

-- the answer to the next key
pub next_answer : (kind : Kind) (m : Map) (keys : List (Bor (List ℕ))) (i : ℕ) (value : Option ℕ) → i < length keys → value ≡ look kind m (get_or keys i no_key).now
    → answers kind m (drop i keys) ≡ value ∷ answers kind m (drop (i + 1) keys)
next_answer kind m keys i value within is = ap (answers kind m) (drop_more keys i no_key within) ∙ ap (λ v. v ∷ answers kind m (drop (i + 1) keys)) (sym is)

-- the line of one answer more
pub more_values : (lines added first : List ℕ) (all found : Bool) (value : Option ℕ) (left rest whole : List (Option ℕ)) → left ≡ value ∷ rest → added ≡ lines ++ value_line value → found ≡ is_some value
    → (lines ++ value_lines left ≡ first ++ value_lines whole) × ((all && are_found left) ≡ are_found whole)
    → (added ++ value_lines rest ≡ first ++ value_lines whole) × (((all && found) && are_found rest) ≡ are_found whole)
more_values lines added first all found value left rest whole is line some old = (
  ap (λ l. l ++ value_lines rest) line ∙ append_assoc lines (value_line value) (value_lines rest) ∙ ap (λ a. lines ++ value_lines a) (sym is) ∙ old.0,
  ap (λ f. (all && f) && are_found rest) some ∙ and_assoc all (is_some value) (are_found rest) ∙ ap (λ a. all && are_found a) (sym is) ∙ old.1,
)
