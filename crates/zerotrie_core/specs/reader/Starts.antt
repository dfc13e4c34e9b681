-- Where a look-up may begin.
use Rattle.std.specs.Prelude.{◌≡◌, ◌≢◌, ℕ, List, [], ◌∷◌, IfSome, slice_get}
use Rattle.std.specs.Borrow.{Bor}
use Rattle.zerotrie_base.specs.Kind.{Kind}
use Rattle.zerotrie_base.specs.Maps.{Pairs, value_at}
use Rattle.zerotrie_base.specs.Texts.{Lists}

-- Whatever the bytes list, the rest lists pairs whose value for what is left of the key is theirs
-- for all of it.
abbrev pub AnswersAs : Kind → List ℕ → List ℕ → List ℕ → List ℕ → Type 0
AnswersAs kind bytes key rest left = (pairs : Pairs) → Lists kind bytes pairs
    → (below : Pairs) × Lists kind rest below × (value_at kind pairs key ≡ value_at kind below left)

-- the rest has for each key the value that the bytes have for the key with the byte b before it
abbrev pub LeadsTo : Kind → List ℕ → ℕ → List ℕ → Type 0
LeadsTo kind bytes b rest = (key : List ℕ) → AnswersAs kind bytes (b ∷ key) rest key

-- each target that is not empty is what its place, a first byte, leads to
abbrev pub AreTargets : Kind → List ℕ → List (Bor (List ℕ)) → Type 0
AreTargets kind bytes targets = (b : ℕ) → IfSome (slice_get targets b) (λ target. target.now ≢ [] → LeadsTo kind bytes b target.now)
