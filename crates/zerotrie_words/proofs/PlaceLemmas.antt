-- The places that words name, one after the other.
use Rattle.std.proofs.Common.{◌≡◌, ◌∷◌, ◌++◌, ◌<◌, ℕ, List, [], Some, suc, drop, drop-cons, get_or, length, map, subst, sym}
use Rattle.std.proofs.lemmas.List.{append-nil, append_assoc}
use Rattle.std.specs.Borrow.{Bor}
use Rattle.zerotrie_run.specs.declared.command.Place.{Place}
use Rattle.zerotrie_words.specs.Requests.{AreSources}
use Rattle.zerotrie_words.specs.Words.{IsSource}

-- the words as bytes
abbrev pub texts : List (Bor (List ℕ)) → List (List ℕ)
texts words = map (λ word. word.now) words

-- these places, with those of the words from an index on, are the places of all words
abbrev pub AreSoFar : List (Bor (List ℕ)) → ℕ → List Place → Type 0
AreSoFar words i places = (rest : List Place) → AreSources (texts (drop i words)) rest → AreSources (texts words) (places ++ rest)

pub one_more : (words : List (Bor (List ℕ))) (i : ℕ) (d : Bor (List ℕ)) (places : List Place) (place : Place) → i < length words
    → IsSource (Some (get_or words i d).now) place → AreSoFar words i places → AreSoFar words (suc i) (places ++ place ∷ [])
one_more words i d places place within is before = λ rest others.
    let all : AreSources (texts (drop i words)) (place ∷ rest) =
    subst (λ (l : List (Bor (List ℕ))). AreSources (texts l) (place ∷ rest)) (sym (drop-cons words i d within)) (is, others) in
    subst (λ (l : List Place). AreSources (texts words) l) (sym (append_assoc places (place ∷ []) rest)) (before (place ∷ rest) all)

pub are_all : (words : List (Bor (List ℕ))) (i : ℕ) (places : List Place) → drop i words ≡ [] → AreSoFar words i places → AreSources (texts words) places
are_all words i places none before =
    let all : AreSources (texts words) (places ++ []) = before [] (subst (λ (l : List (Bor (List ℕ))). AreSources (texts l) []) (sym none) tt) in
    subst (λ (l : List Place). AreSources (texts words) l) (append-nil places) all
