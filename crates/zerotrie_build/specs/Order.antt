-- The order that the keys of a text have.
use Rattle.std.specs.Prelude.{◌≡◌, ◌≢◌, ℕ, ◌+◌, ◌*◌, ◌^◌, ◌<◌, ◌⊎◌, List, [], ◌∷◌, map, All, Option, Some, None}
use Rattle.std.proofs.Common.{suc, zero}
use Rattle.std.specs.Cmp.Lexicographic.{slice_cmp}
use Rattle.std.specs.Ordering.{nat_cmp, ordering_then}
use Rattle.std.specs.declared.cmp.Ordering.{Ordering}
use Rattle.zerotrie_base.specs.Kind.{Kind, fold_byte, edge_limit}
use Rattle.zerotrie_base.specs.Maps.{Pairs}

-- The key comes before the next in a text of the kind: where they part, it ends or has a byte that is lower to the kind.
abbrev pub Before : Kind → List ℕ → List ℕ → Type 0
Before kind key [] = ⊥
Before kind [] (b ∷ next) = Unit {0}
Before kind (a ∷ key) (b ∷ next) = (fold_byte kind a < fold_byte kind b) ⊎ ((a ≡ b) × Before kind key next)

-- the key comes before that of the first pair, if there is one
abbrev pub BeforeFirst : Kind → List ℕ → Pairs → Type 0
BeforeFirst kind key [] = Unit {0}
BeforeFirst kind key (e ∷ pairs) = Before kind key e.0

-- each key comes before the next
abbrev pub Ordered : Kind → Pairs → Type 0
Ordered kind [] = Unit {0}
Ordered kind (e ∷ pairs) = BeforeFirst kind e.0 pairs × Ordered kind pairs

-- after what they have in common the keys have other bytes, but of one fold
abbrev pub PartInCase : Kind → List ℕ → List ℕ → Type 0
PartInCase kind [] next = ⊥
PartInCase kind (a ∷ key) [] = ⊥
PartInCase kind (a ∷ key) (b ∷ next) = ((a ≢ b) × (fold_byte kind a ≡ fold_byte kind b)) ⊎ ((a ≡ b) × PartInCase kind key next)

-- how keys compare by the folds of their bytes
abbrev pub fold_cmp : Kind → List ℕ → List ℕ → Ordering
fold_cmp kind a b = slice_cmp nat_cmp (map (fold_byte kind) a) (map (fold_byte kind) b)

-- the order by folds, and of keys that have one fold by bytes
abbrev pub sort_cmp : Kind → List ℕ → List ℕ → Ordering
sort_cmp kind a b = ordering_then (fold_cmp kind a b) (slice_cmp nat_cmp a b)

-- the folds of the first n bytes of a key as one number, after the digits that are there; zeros where the key has ended
abbrev pub prefix_behind : Kind → ℕ → ℕ → List ℕ → ℕ
prefix_behind kind zero there key = there
prefix_behind kind (suc n) there [] = prefix_behind kind n (256 * there) []
prefix_behind kind (suc n) there (b ∷ key) = prefix_behind kind n (256 * there + fold_byte kind b) key

-- of the first eight
abbrev pub prefix_of : Kind → List ℕ → ℕ
prefix_of kind key = prefix_behind kind 8 0 key

-- the fold of a byte, or zero if there is none
abbrev pub digit_of : Kind → Option ℕ → ℕ
digit_of kind None = 0
digit_of kind (Some b) = fold_byte kind b

-- the key is that of the first pair
abbrev pub IsFirst : List ℕ → Pairs → Type 0
IsFirst key [] = ⊥
IsFirst key (e ∷ pairs) = key ≡ e.0

-- some key is next to itself
abbrev pub RepeatsNext : Pairs → Type 0
RepeatsNext [] = ⊥
RepeatsNext (e ∷ pairs) = IsFirst e.0 pairs ⊎ RepeatsNext pairs

-- all bytes of the keys are bytes of the kind
abbrev pub AreKeys : Kind → Pairs → Type 0
AreKeys kind pairs = All (λ e. All (λ b. b < edge_limit kind) e.0) pairs

-- the byte is below 128 and is its own fold in the kind
abbrev pub IsFolded : Kind → ℕ → Type 0
IsFolded kind b = (b < 128) × (fold_byte kind b ≡ b)

-- so do all bytes of the keys
abbrev pub AreFolded : Kind → Pairs → Type 0
AreFolded kind pairs = All (λ e. All (IsFolded kind) e.0) pairs

-- all bytes of the keys are below 128
abbrev pub AreAsciiKeys : Pairs → Type 0
AreAsciiKeys pairs = All (λ e. All (λ b. b < 128) e.0) pairs

-- all values are numbers of 64 bits
abbrev pub AreValues : Pairs → Type 0
AreValues pairs = All (λ e. e.1 < 2 ^ 64) pairs
