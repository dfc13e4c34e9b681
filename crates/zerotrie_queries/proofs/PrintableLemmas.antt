-- Keys that can be printed in a form, and the first that can't.
use Rattle.std.proofs.Common.{◌≡◌, ℕ, List, [], ◌∷◌, true, false, refl, sym, ◌∙◌, ap}
use Rattle.std.specs.Prelude.{◌&&◌}
use Rattle.zerotrie_core.specs.Maps.{Pairs}
use Rattle.zerotrie_queries.specs.Printed.{are_printable, can_print, IsFirstUnprintable}
use Rattle.zerotrie_queries.specs.declared.print.Form.{Form}

-- all keys of pairs can, if any key can
pub any_printable : (form : Form) → ((key : List ℕ) → can_print form key ≡ true) → (pairs : Pairs) → are_printable form pairs ≡ true
any_printable form any [] = refl
any_printable form any (e ∷ pairs) = ap (λ b. b && are_printable form pairs) (any e.0) ∙ any_printable form any pairs

-- a key that can leaves the question to the keys after it
pub printable_more : (form : Form) (before after : Pairs) (key : List ℕ) (value : ℕ) → before ≡ (key, value) ∷ after → can_print form key ≡ true → are_printable form after ≡ are_printable form before
printable_more form before after key value first is = sym (ap (are_printable form) first ∙ ap (λ b. b && are_printable form after) is)

pub unprintable_more : (form : Form) (before after : Pairs) (key : List ℕ) (value : ℕ) (found : List ℕ) → before ≡ (key, value) ∷ after → can_print form key ≡ true → IsFirstUnprintable form after found → IsFirstUnprintable form before found
unprintable_more form before after key value found first is h =
    ((key, value) ∷ h.0, h.1, h.2, first ∙ ap (λ l. (key, value) ∷ l) h.3, ap (λ b. b && are_printable form h.0) is ∙ h.4, h.5)

-- and one that can't answers it
pub unprintable_here : (form : Form) (before after : Pairs) (key : List ℕ) (value : ℕ) → before ≡ (key, value) ∷ after → can_print form key ≡ false → IsFirstUnprintable form before key
unprintable_here form before after key value first is = ([], after, value, first, refl, is)
