-- Texts that were added one after another.
use Rattle.std.proofs.Common.{◌≡◌, ℕ, List, ◌++◌, ◌∙◌, ap, append_assoc}

-- four texts after a list
pub behind_four : (l l₁ l₂ l₃ a b c d : List ℕ) → l₁ ≡ l ++ a → l₂ ≡ l₁ ++ b → l₃ ≡ l₂ ++ c → l₃ ++ d ≡ l ++ (a ++ (b ++ (c ++ d)))
behind_four l l₁ l₂ l₃ a b c d first second third =
    ap (λ k. k ++ d) third ∙ append_assoc l₂ c d
    ∙ ap (λ k. k ++ (c ++ d)) second ∙ append_assoc l₁ b (c ++ d)
    ∙ ap (λ k. k ++ (b ++ (c ++ d))) first ∙ append_assoc l a (b ++ (c ++ d))

-- three
pub behind_three : (l l₁ l₂ a b c : List ℕ) → l₁ ≡ l ++ a → l₂ ≡ l₁ ++ b → l₂ ++ c ≡ l ++ (a ++ (b ++ c))
behind_three l l₁ l₂ a b c first second =
    ap (λ k. k ++ c) second ∙ append_assoc l₁ b c
    ∙ ap (λ k. k ++ (b ++ c)) first ∙ append_assoc l a (b ++ c)
