-- Runs of bytes in front of keys.
use Rattle.std.proofs.Common.{◌≡◌, ℕ, zero, suc, ◌<◌, ◌≤◌, List, [], ◌∷◌, ◌++◌, length, refl, sym, ◌∙◌, ap, arith, take, get_or, append_assoc}
use Rattle.zerotrie_base.specs.Maps.{Pairs, with_front, with_run, residual, behind_all}
use Rattle.zerotrie_base.proofs.CallerLemmas.{residual-front, residual-other, behind_all-nil}

pub with_run-nil : (pairs : Pairs) → with_run [] pairs ≡ pairs
with_run-nil [] = refl
with_run-nil (e ∷ pairs) = ap (λ x. e ∷ x) (with_run-nil pairs)

-- a byte after the run is a byte in front of the keys
pub with_run-push : (run : List ℕ) (b : ℕ) (pairs : Pairs) → with_run (run ++ b ∷ []) pairs ≡ with_run run (with_front b pairs)
with_run-push run b [] = refl
with_run-push run b (e ∷ pairs) =
    ap (λ k. (k, e.1) ∷ with_run (run ++ b ∷ []) pairs) (append_assoc run (b ∷ []) e.0)
    ∙ ap (λ x. (run ++ b ∷ e.0, e.1) ∷ x) (with_run-push run b pairs)

pub with_run-front : (b : ℕ) (run : List ℕ) (pairs : Pairs) → with_run (b ∷ run) pairs ≡ with_front b (with_run run pairs)
with_run-front b run [] = refl
with_run-front b run (e ∷ pairs) = ap (λ x. (b ∷ (run ++ e.0), e.1) ∷ x) (with_run-front b run pairs)

pub take_one_more : (key : List ℕ) (d : ℕ) → d < length key → take (suc d) key ≡ take d key ++ get_or key d 0 ∷ []
take_one_more [] d h = let g : d < 0 = h in absurd (omega arith)
take_one_more (x ∷ key) zero h = refl
take_one_more (x ∷ key) (suc d) h = ap (λ y. x ∷ y) (take_one_more key d (let g : suc d < suc (length key) = h in omega arith))

pub behind_all-run : (run : List ℕ) (pairs : Pairs) → behind_all run (with_run run pairs) ≡ pairs
behind_all-run [] pairs = with_run-nil pairs
behind_all-run (b ∷ run) pairs =
    ap (λ x. behind_all run (residual b x)) (with_run-front b run pairs) ∙ ap (behind_all run) (residual-front b (with_run run pairs)) ∙ behind_all-run run pairs

-- a run that leaves the key before its byte number d
pub behind_all-other : (key : List ℕ) (k d b : ℕ) (pairs : Pairs) → k < d → d ≤ length key → (get_or key k 0 ≡ b → ⊥)
    → behind_all (take d key) (with_run (take k key ++ b ∷ []) pairs) ≡ []
behind_all-other [] k d b pairs h l n = let g : d ≤ 0 = l in absurd (omega arith)
behind_all-other (x ∷ key) k zero b pairs h l n = absurd (omega arith)
behind_all-other (x ∷ key) zero (suc d) b pairs h l n =
    ap (λ y. behind_all (take d key) (residual x y)) (with_run-front b [] pairs ∙ ap (with_front b) (with_run-nil pairs))
    ∙ ap (behind_all (take d key)) (residual-other x b pairs (λ e. n (sym e))) ∙ behind_all-nil (take d key)
behind_all-other (x ∷ key) (suc k) (suc d) b pairs h l n =
    ap (λ y. behind_all (take d key) (residual x y)) (with_run-front x (take k key ++ b ∷ []) pairs)
    ∙ ap (behind_all (take d key)) (residual-front x (with_run (take k key ++ b ∷ []) pairs))
    ∙ behind_all-other key k d b pairs (omega arith) (let g : suc d ≤ suc (length key) = l in omega arith) n
