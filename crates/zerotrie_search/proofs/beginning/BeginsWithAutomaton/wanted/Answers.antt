use Rattle.std.proofs.Common.{◌≡◌, ◌<◌, ◌∙◌, ◌∷◌, [], ℕ, List, Bool, IfSome, Option, Some, None, ap, false, sym}
use Rattle.std.specs.Prelude.{◌||◌}
use Rattle.zerotrie_core.specs.ByteSets.{is_in}
use Rattle.zerotrie_core.specs.declared.byte_set.ByteSet.{ByteSet}
use Rattle.zerotrie_search.specs.Sets.{some_front}
use Rattle.zerotrie_search.proofs.EndLemmas.{no_front}
use Rattle.zerotrie_search.proofs.beginning.BeginsWithAutomaton.wanted.Goals as goal

-- no front of a key is accepted if neither the empty one is nor those with its first byte
none_outside : (accepts : List ℕ → Bool) (wanted : Option ByteSet) → accepts [] ≡ false → IfSome wanted (λ set. (byte : ℕ) → byte < 256 → is_in set byte ≡ false → (key : List ℕ) → accepts (byte ∷ key) ≡ false)
    → IfSome wanted (λ set. (byte : ℕ) → byte < 256 → is_in set byte ≡ false → (key : List ℕ) → some_front accepts (byte ∷ key) ≡ false)
none_outside accepts None none says = tt
none_outside accepts (Some set) none says =
    λ byte low out key. ap (λ x. x || some_front (λ rest. accepts (byte ∷ rest)) key) none ∙ no_front (λ rest. accepts (byte ∷ rest)) (says byte low out) key

pub returns : goal.returns
returns g c =
    let accepts = g.S.Automaton.accepts_from c.args.self.now.0 c.in_ok-inner.inner in
    rw c.in_ok-inner.was (none_outside accepts c.wanted.result (sym c.is_match.ensures ∙ c.if-is_match.false) c.wanted.ensures)
