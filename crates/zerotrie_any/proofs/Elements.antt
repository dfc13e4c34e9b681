-- What an iterator gives of the elements of a list.
use Rattle.std.proofs.Common.{◌≡◌, List, Option, ap, subst, ◌∙◌}
use Rattle.std.specs.Iterator.Runs.{WholeRun, EveryRun, ItemsAre}

-- What holds of the items of a whole run over the elements of a list, as the iterator of an array or a Vec gives them, holds of the list.
pub of_elements : {S A : Type 0} {steps : S → Option A → S → Type 0} (rest : S → List A) (Fact : List A → Type 0) (xs : List A) (s : S)
    → rest s ≡ xs → EveryRun steps (λ p. ItemsAre p (rest p.from)) → WholeRun steps s (λ p. Fact p.items) → Fact xs
of_elements rest Fact xs s is all h = subst Fact ((all h.0 h.0.seen).4 h.2 ∙ ap rest h.1 ∙ is) h.3
