-- Stepping by text, and cursors that are empty.
use Rattle.std.proofs.Common.{◌≡◌, ℕ, List, [], ◌∷◌, Bool, true, false, ◌↔◌, IsTrue, length, refl, sym, ◌∙◌, ap}
use Rattle.std.specs.Prelude.{nat_lt, ◌==◌}
use Rattle.std.proofs.lemmas.Bool.{eqb-true, eq-eqb}
use Rattle.std.proofs.lemmas.List.{nil_from_length}
use Rattle.zerotrie_core.specs.Kind.{Kind}
use Rattle.zerotrie_core.specs.Maps.{Pairs}
use Rattle.zerotrie_core.specs.Texts.{Lists}
use Rattle.zerotrie_core.proofs.CallerLemmas.{lists_some, nothing_listed}
use Rattle.zerotrie_any.specs.Auto.{is_ascii}
use Rattle.zerotrie_ascii.specs.Writing.{ascii_front}

-- the front of ASCII text is all of it
pub front_all : (bytes : List ℕ) → is_ascii bytes ≡ true → ascii_front bytes ≡ bytes
front_all [] h = refl
front_all (b ∷ bytes) h = elim (nat_lt b 128) as (λ t. nat_lt b 128 ≡ t → ascii_front (b ∷ bytes) ≡ b ∷ bytes) [
  | true ↦ λ is. rw is (ap (λ t. b ∷ t) (front_all bytes (rw is at h)))
  | false ↦ λ is. absurd (let unequal : false ≡ true = rw is at h in cc)
] refl

empty_bytes : {kind : Kind} (bytes : List ℕ) {pairs : Pairs} → Lists kind bytes pairs → pairs ≡ [] → bytes ≡ []
empty_bytes [] lists none = refl
empty_bytes (b ∷ bytes) lists none = absurd (lists_some lists (λ e. cc) none)

-- the test for no bytes tells whether there are no pairs
pub tells_empty : (kind : Kind) (bytes : List ℕ) (pairs : Pairs) → Lists kind bytes pairs → (b : Bool) → b ≡ (length bytes == 0) → IsTrue b ↔ (pairs ≡ [])
tells_empty kind bytes pairs lists b e = (
  λ t. nothing_listed lists (nil_from_length bytes (eqb-true _ _ (sym e ∙ t))),
  λ none. e ∙ eq-eqb (length bytes) 0 (ap length (empty_bytes bytes lists none)),
)
