-- Where a key parts from the next by a letter, and another continues with the letter's other case.
use Rattle.std.specs.Prelude.{◌≡◌, ◌≢◌, ◌==◌, ℕ, List, [], ◌∷◌, All, MatchBool}
use Rattle.zerotrie_base.specs.Kind.{Kind, fold_byte}
use Rattle.zerotrie_base.specs.Maps.{Pairs}

-- the key begins with the front and then the byte
abbrev pub BeginsThen : List ℕ → ℕ → List ℕ → Type 0
BeginsThen front byte [] = ⊥
BeginsThen [] byte (b ∷ key) = b ≡ byte
BeginsThen (a ∷ front) byte (b ∷ key) = (b ≡ a) × BeginsThen front byte key

abbrev pub NoneBeginsThen : List ℕ → ℕ → Pairs → Type 0
NoneBeginsThen front byte pairs = All (λ e. BeginsThen front byte e.0 → ⊥) pairs

-- the key parts from the next, and the other continues with the fold of its byte there, which is another byte
abbrev pub HasOtherCase : Kind → List ℕ → List ℕ → List ℕ → Type 0
HasOtherCase kind [] next other = ⊥
HasOtherCase kind (a ∷ key) [] [] = ⊥
HasOtherCase kind (a ∷ key) [] (c ∷ other) = (fold_byte kind a ≢ a) × (c ≡ fold_byte kind a)
HasOtherCase kind (a ∷ key) (b ∷ next) [] = ⊥
HasOtherCase kind (a ∷ key) (b ∷ next) (c ∷ other) = MatchBool (a == b) ((c ≡ a) × HasOtherCase kind key next other)
    ((fold_byte kind a ≢ a) × (c ≡ fold_byte kind a))

abbrev pub NoneHasOtherCase : Kind → List ℕ → List ℕ → Pairs → Type 0
NoneHasOtherCase kind key next pairs = All (λ e. HasOtherCase kind key next e.0 → ⊥) pairs
