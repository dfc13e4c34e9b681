-- Trails, cut off and made longer.
use Rattle.std.proofs.Common.{◌≡◌, ◌<◌, ◌≤◌, ◌+◌, ◌⊎◌, inl, inr, ℕ, zero, suc, List, [], ◌∷◌, ◌++◌, Bool, false, length, length-append, take, refl, sym, ap, subst, ◌∙◌, append_assoc, arith}
use Rattle.std.specs.Prelude.{slice_index}
use Rattle.std.proofs.lemmas.List.{take_more, take-take, take_all, length-take, length-take-le}
use Rattle.std.proofs.lemmas.Bool.{cases_lt}
use Rattle.zerotrie_search.specs.Trails.{IsTrail, IsFront, StandsAfter, trail_bytes}

pub bytes_append : {S : Type 0} (xs ys : List (ℕ × S)) → trail_bytes (xs ++ ys) ≡ trail_bytes xs ++ trail_bytes ys
bytes_append [] ys = refl
bytes_append (e ∷ xs) ys = ap (λ bs. e.0 ∷ bs) (bytes_append xs ys)

pub bytes_take : {S : Type 0} (n : ℕ) (xs : List (ℕ × S)) → trail_bytes (take n xs) ≡ take n (trail_bytes xs)
bytes_take zero xs = refl
bytes_take (suc n) [] = refl
bytes_take (suc n) (e ∷ xs) = ap (λ bs. e.0 ∷ bs) (bytes_take n xs)

pub bytes_len : {S : Type 0} (xs : List (ℕ × S)) → length (trail_bytes xs) ≡ length xs
bytes_len [] = refl
bytes_len (e ∷ xs) = ap suc (bytes_len xs)

-- a front of a key is no longer than the key
pub front_within : (bytes key : List ℕ) → IsFront bytes key → length bytes ≤ length key
front_within bytes key front = let len = ap length front ∙ length-take (length bytes) key in omega arith

-- bytes in front of a key are in front of another one, as far as that has the same bytes
pub front_kept : (kept : ℕ) (bytes key other : List ℕ) → IsFront bytes key → take kept other ≡ take kept key → IsFront (take kept bytes) other
front_kept kept bytes key other front same = elim (cases_lt kept (length bytes)) [
  | inl less ↦
      let len : length (take kept bytes) ≡ kept = length-take-le kept bytes (omega arith) in
      ap (take kept) front ∙ take-take kept (length bytes) key (omega arith) ∙ sym same ∙ ap (λ n. take n other) (sym len)
  | inr more ↦
      let n = length bytes in
      let all : take kept bytes ≡ bytes = take_all kept bytes (omega (arith, more)) in
      all ∙ front ∙ sym (take-take n kept key (omega (arith, more))) ∙ ap (take n) (sym same) ∙ take-take n kept other (omega (arith, more)) ∙ ap (λ xs. take (length xs) other) (sym all)
]

-- a front of a key that is no shorter is the key
pub whole_front : {S : Type 0} (trail : List (ℕ × S)) (key : List ℕ) → IsFront (trail_bytes trail) key → length key ≤ length trail → trail_bytes trail ≡ key
whole_front trail key front low = let len = bytes_len trail in front ∙ take_all (length (trail_bytes trail)) key (omega (arith, low, len))

module _ {S : Type 0} (IsAfter : List ℕ → S → Type 0) (accepts_from : S → List ℕ → Bool) (accepts : List ℕ → Bool) where
  pub trail_take : (front : List ℕ) (n : ℕ) (trail : List (ℕ × S)) → IsTrail IsAfter accepts_from accepts front trail → IsTrail IsAfter accepts_from accepts front (take n trail)
  trail_take front zero trail is = tt
  trail_take front (suc n) [] is = tt
  trail_take front (suc n) (e ∷ trail) is = (is.0, trail_take (front ++ e.0 ∷ []) n trail is.1)

  -- the bytes in front of a trail and those of it
  join : (front : List ℕ) (b : ℕ) (more : List ℕ) → (front ++ b ∷ []) ++ more ≡ front ++ b ∷ more
  join front b more = append_assoc front (b ∷ []) more

  pub trail_push : (front : List ℕ) (trail : List (ℕ × S)) (b : ℕ) (s : S) → IsTrail IsAfter accepts_from accepts front trail → StandsAfter IsAfter accepts_from accepts (front ++ (trail_bytes trail ++ b ∷ [])) s
      → IsTrail IsAfter accepts_from accepts front (trail ++ (b, s) ∷ [])
  trail_push front [] b s is stands = (stands, tt)
  trail_push front (e ∷ trail) b s is stands =
      (is.0, trail_push (front ++ e.0 ∷ []) trail b s is.1 (subst (λ xs. StandsAfter IsAfter accepts_from accepts xs s) (sym (join front e.0 (trail_bytes trail ++ b ∷ []))) stands))

  pub trail_last : (front : List ℕ) (trail : List (ℕ × S)) (b : ℕ) (s : S) → IsTrail IsAfter accepts_from accepts front (trail ++ (b, s) ∷ []) → StandsAfter IsAfter accepts_from accepts (front ++ (trail_bytes trail ++ b ∷ [])) s
  trail_last front [] b s is = is.0
  trail_last front (e ∷ trail) b s is = subst (λ xs. StandsAfter IsAfter accepts_from accepts xs s) (join front e.0 (trail_bytes trail ++ b ∷ [])) (trail_last (front ++ e.0 ∷ []) trail b s is.1)

  -- a byte further
  pub stands_on : (front : List ℕ) (b : ℕ) (s t : S) → StandsAfter IsAfter accepts_from accepts front s → IsAfter (front ++ b ∷ []) t → ((key : List ℕ) → accepts_from t key ≡ accepts_from s (b ∷ key)) → StandsAfter IsAfter accepts_from accepts (front ++ b ∷ []) t
  stands_on front b s t stands is step = (is, λ key. step key ∙ stands.1 (b ∷ key) ∙ ap accepts (sym (join front b key)))

  -- nothing may follow
  pub stands_dead : (front : List ℕ) (b : ℕ) (s t : S) → StandsAfter IsAfter accepts_from accepts front s → ((key : List ℕ) → accepts_from t key ≡ accepts_from s (b ∷ key)) → ((key : List ℕ) → accepts_from t key ≡ false) → (more : List ℕ) → accepts ((front ++ b ∷ []) ++ more) ≡ false
  stands_dead front b s t stands step dead more = ap accepts (join front b more) ∙ sym (stands.1 (b ∷ more)) ∙ sym (step more) ∙ dead more

  -- a trail of the first bytes of a key stays one, whether the next byte is kept or not
  pub kept : (key : List ℕ) (place : ℕ) (trail new : List (ℕ × S)) (b : ℕ) (s : S) → place < length key → b ≡ slice_index key place
      → IsFront (trail_bytes trail) key → IsTrail IsAfter accepts_from accepts [] trail → StandsAfter IsAfter accepts_from accepts (take place key ++ b ∷ []) s
      → ((length trail ≡ place) × (new ≡ trail ++ (b, s) ∷ [])) ⊎ (new ≡ trail)
      → IsFront (trail_bytes new) key × IsTrail IsAfter accepts_from accepts [] new
  kept key place trail new b s less at bytes is stands (inr same) =
      subst (λ xs. IsFront (trail_bytes xs) key × IsTrail IsAfter accepts_from accepts [] xs) (sym same) (bytes, is)
  kept key place trail new b s less at bytes is stands (inl grown) =
      let front : trail_bytes trail ≡ take place key = bytes ∙ ap (λ n. take n key) (bytes_len trail ∙ grown.0) in
      let len : place + 1 ≡ length (trail_bytes (trail ++ (b, s) ∷ [])) = ap (λ n. n + 1) (sym grown.0) ∙ sym (length-append trail ((b, s) ∷ [])) ∙ sym (bytes_len (trail ++ (b, s) ∷ [])) in
      subst (λ xs. IsFront (trail_bytes xs) key × IsTrail IsAfter accepts_from accepts [] xs) (sym grown.1) (
        bytes_append trail ((b, s) ∷ []) ∙ ap (λ bs. bs ++ b ∷ []) front ∙ ap (λ x. take place key ++ x ∷ []) at ∙ sym (take_more key place 0 less) ∙ ap (λ m. take m key) len,
        trail_push [] trail b s is (subst (λ bs. StandsAfter IsAfter accepts_from accepts (bs ++ b ∷ []) s) (sym front) stands),
      )
