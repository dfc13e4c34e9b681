-- What a dense row, or none, answers by what stands after prefix and delimiter.
use Rattle.std.proofs.Common.{◌≡◌, ℕ, List, [], ◌∷◌, ◌++◌, refl, sym, ap, ◌∙◌, false, cond, Option, Some, None}
use Rattle.std.specs.Prelude.{◌==◌}
use Rattle.std.specs.List.{list_any}
use Rattle.std.proofs.lemmas.List.Folds.{list_any-append}
use Rattle.zerotrie_core.specs.Kind.{simple_ascii}
use Rattle.zerotrie_core.specs.Maps.{Pairs, Map, map_of, value_at, look}
use Rattle.zerotrie_core.specs.Machine.{behind, without_value, after_steps}
use Rattle.zerotrie_core.specs.Cursors.{met, edge_like}
use Rattle.zerotrie_core.specs.Texts.{Lists}
use Rattle.zerotrie_core.proofs.CallerLemmas.{look-map_of}
use Rattle.zerotrie.specs.dense.Records.{Parts}
use Rattle.zerotrie.specs.dense.Laws.{answer, by_row, in_row, in_matrix, or_else}
use Rattle.zerotrie.specs.dense.Reading.{row_answer, beside_value}
use Rattle.zerotrie.proofs.StepLemmas.{value_at-taken, value_at-steps, value_at-step}

pub nothing_behind : (xs : List ℕ) → xs ++ [] ≡ xs
nothing_behind [] = refl
nothing_behind (x ∷ xs) = ap (λ t. x ∷ t) (nothing_behind xs)

-- a value, or else another
pub first_of : (o m : Option ℕ) (v : ℕ) → o ≡ Some v → Some v ≡ or_else o m
first_of o m v e = sym (ap (λ x. or_else x m) e)

pub second_of : (o m : Option ℕ) → o ≡ None → m ≡ or_else o m
second_of o m e = sym (ap (λ x. or_else x m) e)

-- a take leaves what stands beside the empty key
pub beside_taken : (pairs : Pairs) (key : List ℕ) → beside_value (without_value pairs) key ≡ beside_value pairs key
beside_taken pairs [] = refl
beside_taken pairs (b ∷ key) = value_at-taken pairs b key

-- what is looked up in a map is what its pairs answer
pub looked : (bytes : List ℕ) (pairs : Pairs) (m : Map) → Lists simple_ascii bytes pairs → m ≡ map_of pairs → (key : List ℕ) → value_at simple_ascii pairs key ≡ look simple_ascii m key
looked bytes pairs m lists is key = sym (look-map_of lists key) ∙ sym (ap (λ n. look simple_ascii n key) is)

-- after a text, a value that is taken and the delimiter
pub behind_delimiter : (pairs : Pairs) (prefix : List ℕ) (d : ℕ) (edge : Option ℕ) (key : List ℕ)
    → edge ≡ edge_like simple_ascii d (met (without_value (after_steps simple_ascii prefix pairs)))
    → value_at simple_ascii (behind edge (without_value (after_steps simple_ascii prefix pairs))) key ≡ value_at simple_ascii pairs (prefix ++ (d ∷ key))
behind_delimiter pairs prefix d edge key is =
    let taken : Pairs = without_value (after_steps simple_ascii prefix pairs) in
    ap (λ o. value_at simple_ascii (behind o taken) key) is
    ∙ value_at-step d taken key
    ∙ value_at-taken (after_steps simple_ascii prefix pairs) d key
    ∙ value_at-steps prefix pairs (d ∷ key)

abbrev Apart : Parts → List ℕ → Type 0
Apart t text = list_any (λ b. b == t.delimiter) text ≡ false

apart_both : (t : Parts) (prefix suffix : List ℕ) → Apart t prefix → Apart t suffix → Apart t (prefix ++ suffix)
apart_both t prefix suffix p s = list_any-append (λ b. b == t.delimiter) prefix suffix ∙ rw (p, s) refl

dense_row : (t : Parts) (primary columns : Map) (prefix suffix : List ℕ) (row : ℕ) (pairs : Pairs)
    → ((key : List ℕ) → value_at simple_ascii pairs key ≡ look simple_ascii primary (prefix ++ (t.delimiter ∷ key)))
    → row_answer t pairs columns suffix row ≡ in_row t primary columns prefix suffix row
dense_row t primary columns prefix [] row pairs h = ap (λ o. in_matrix t row o (look simple_ascii columns [])) (h [])
dense_row t primary columns prefix (b ∷ suffix) row pairs h =
    ap (λ o. or_else o (in_matrix t row (value_at simple_ascii pairs []) (look simple_ascii columns (b ∷ suffix)))) (h (b ∷ suffix))
    ∙ ap (λ o. or_else (look simple_ascii primary (prefix ++ (t.delimiter ∷ (b ∷ suffix)))) (in_matrix t row o (look simple_ascii columns (b ∷ suffix)))) (h [])

chosen_row : (t : Parts) (primary columns : Map) (prefix suffix : List ℕ) (o : Option ℕ) → Apart t prefix → Apart t suffix → look simple_ascii primary prefix ≡ o
    → by_row t primary columns prefix suffix o ≡ answer t primary columns prefix suffix
chosen_row t primary columns prefix suffix o p s is =
    sym (ap (λ x. by_row t primary columns prefix suffix x) is)
    ∙ sym (ap (λ b. cond b None (by_row t primary columns prefix suffix (look simple_ascii primary prefix))) (apart_both t prefix suffix p s))

pub dense_answer : (t : Parts) (primary columns : Map) (prefix suffix : List ℕ) (row : ℕ) (pairs : Pairs) → Apart t prefix → Apart t suffix → look simple_ascii primary prefix ≡ Some row
    → ((key : List ℕ) → value_at simple_ascii pairs key ≡ look simple_ascii primary (prefix ++ (t.delimiter ∷ key)))
    → row_answer t pairs columns suffix row ≡ answer t primary columns prefix suffix
dense_answer t primary columns prefix suffix row pairs p s is h = dense_row t primary columns prefix suffix row pairs h ∙ chosen_row t primary columns prefix suffix (Some row) p s is

pub sparse_answer : (t : Parts) (primary columns : Map) (prefix suffix : List ℕ) → Apart t prefix → Apart t suffix → look simple_ascii primary prefix ≡ None
    → look simple_ascii primary (prefix ++ (t.delimiter ∷ suffix)) ≡ answer t primary columns prefix suffix
sparse_answer t primary columns prefix suffix p s is = chosen_row t primary columns prefix suffix None p s is
