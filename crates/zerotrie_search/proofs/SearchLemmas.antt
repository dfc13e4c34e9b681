-- Listings of the accepted pairs, as pairs are passed.
use Rattle.std.proofs.Common.{◌≡◌, ℕ, List, ◌∷◌, ◌++◌, Bool, true, false, refl, sym, ap, ◌∙◌}
use Rattle.std.proofs.lemmas.List.{take-append-drop}
use Rattle.std.specs.Prelude.{take, drop}
use Rattle.zerotrie_base.specs.Maps.{Pairs}
use Rattle.zerotrie_core.specs.Listings.{Left, to_come}
use Rattle.zerotrie_search.specs.Searches.{accepted, accepted_left}

pub left_is : (a b : Left) → a.pairs ≡ b.pairs → a.ended ≡ b.ended → a ≡ b
left_is a b p e = ap (λ ps. record { pairs = ps; ended = a.ended }) p ∙ ap (λ x. record { pairs = b.pairs; ended = x }) e

-- the next pair is not accepted
pub passed_out : (accepts : List ℕ → Bool) (key : List ℕ) (value : ℕ) (before after : Left) → before ≡ to_come ((key, value) ∷ after.pairs) → after ≡ to_come after.pairs → accepts key ≡ false
    → accepted_left accepts after ≡ accepted_left accepts before
passed_out accepts key value before after is going out =
    ap (accepted_left accepts) going ∙ sym (ap (accepted_left accepts) is ∙ without accepts key value after.pairs out)
  where
    without : (accepts : List ℕ → Bool) (key : List ℕ) (value : ℕ) (pairs : Pairs) → accepts key ≡ false → accepted_left accepts (to_come ((key, value) ∷ pairs)) ≡ accepted_left accepts (to_come pairs)
    without accepts key value pairs out = rw out refl

-- the next pair is accepted
pub passed_in : (accepts : List ℕ → Bool) (key : List ℕ) (value : ℕ) (before after : Left) → before ≡ to_come ((key, value) ∷ after.pairs) → accepts key ≡ true
    → accepted_left accepts before ≡ to_come ((key, value) ∷ accepted accepts after.pairs)
passed_in accepts key value before after is within = ap (accepted_left accepts) is ∙ with_it accepts key value after.pairs within
  where
    with_it : (accepts : List ℕ → Bool) (key : List ℕ) (value : ℕ) (pairs : Pairs) → accepts key ≡ true → accepted_left accepts (to_come ((key, value) ∷ pairs)) ≡ to_come ((key, value) ∷ accepted accepts pairs)
    with_it accepts key value pairs within = rw within refl

-- a key is not accepted if no key that begins as it does is
pub dead_out : (accepts : List ℕ → Bool) (depth : ℕ) (key : List ℕ) → ((more : List ℕ) → accepts (take depth key ++ more) ≡ false) → accepts key ≡ false
dead_out accepts depth key dead = ap accepts (sym (take-append-drop depth key)) ∙ dead (drop depth key)
