-- What validation knows on its way.
use Rattle.std.specs.Prelude.{◌≡◌, ◌≢◌, ℕ, ◌<◌, ◌≤◌, ◌⊎◌, List, [], length, max, slice_index}
use Rattle.zerotrie_base.specs.Kind.{Kind}
use Rattle.zerotrie_base.specs.Maps.{Pairs}
use Rattle.zerotrie_base.specs.Numbers.{BeginsWith}
use Rattle.zerotrie_base.specs.Texts.{Lists, NoValueFirst, NoSpanFirst}
use Rattle.zerotrie_base.specs.Nodes.{Shape, Begins}
use Rattle.zerotrie_core.specs.Shapes.{branch_shape}
use Rattle.zerotrie_core.specs.WellFormed.{deep}
use Rattle.zerotrie_core.specs.listing.Runs.{EndsWith}
use Rattle.zerotrie_core.specs.declared.well_formed.Expected.{Expected}
use Rattle.zerotrie_core.specs.declared.well_formed.Expected.TheVariants.{Anything, NoValue, NoSpan, Something}
use Rattle.zerotrie_core.specs.declared.well_formed.Step.{Step}
use Rattle.zerotrie_core.specs.declared.well_formed.Step.TheVariants.{Wrong, Literals, Over, Behind}

-- the bytes are an encoding of the kind
abbrev pub IsText : Kind → List ℕ → Type 0
IsText kind bytes = (pairs : Pairs) × Lists kind bytes pairs

-- what may come next
abbrev pub IsAllowed : Expected → List ℕ → Type 0
IsAllowed Anything bytes = Unit {0}
IsAllowed NoValue bytes = NoValueFirst bytes
IsAllowed NoSpan bytes = (bytes ≢ []) × NoSpanFirst bytes
IsAllowed Something bytes = bytes ≢ []

-- The rest is an encoding and may come there, and of the calls that are open at once for the whole,
-- those outside the rest are at most `most`.
pub record HasRest {kind : Kind} {bytes : List ℕ} {pairs : Pairs} (text : Lists kind bytes pairs) (rest : List ℕ) (expected : Expected) (most : ℕ) : Type 0 where
  pub allowed : IsAllowed expected rest
  pub below : Pairs
  pub inner : Lists kind rest below
  pub counts : deep text ≡ max most (deep inner)

-- The bytes are an encoding exactly if the rest is one and may come there.
pub record ReducesTo (kind : Kind) (bytes rest : List ℕ) (expected : Expected) (most : ℕ) : Type 0 where
  pub there : (pairs : Pairs) (text : Lists kind bytes pairs) → HasRest text rest expected most
  pub back : IsAllowed expected rest → IsText kind rest → IsText kind bytes

-- whichever bytes begin with the node
abbrev pub AlwaysReducesTo : Kind → Shape → List ℕ → Expected → ℕ → Type 0
AlwaysReducesTo kind node rest expected most = (bytes : List ℕ) → Begins kind bytes node → ReducesTo kind bytes rest expected most

abbrev pub AlwaysNoText : Kind → Shape → Type 0
AlwaysNoText kind node = (bytes : List ℕ) → Begins kind bytes node → IsText kind bytes → ⊥

-- bytes that begin with the node may come there
abbrev pub AlwaysAllowed : Kind → Shape → Expected → Type 0
AlwaysAllowed kind node expected = (bytes : List ℕ) → Begins kind bytes node → IsAllowed expected bytes

-- The step after a node if this was expected.
abbrev pub Steps : Kind → Shape → Expected → Step → Type 0
Steps kind node expected Wrong = (bytes : List ℕ) → Begins kind bytes node → IsAllowed expected bytes → IsText kind bytes → ⊥
Steps kind node expected Literals =
    ((bytes : List ℕ) → Begins kind bytes node → (0 < length bytes) × (slice_index bytes 0 < 128))
    × AlwaysAllowed kind node expected
Steps kind node expected (Over rest next) =
    ((bytes : List ℕ) → Begins kind bytes node → (length rest.now < length bytes) × EndsWith bytes rest.now)
    × AlwaysAllowed kind node expected × AlwaysReducesTo kind node rest.now next 1
Steps kind node expected (Behind b) = (node ≡ branch_shape b) × AlwaysAllowed kind node expected

-- The bytes begin with a value, and continue with the bytes after.
abbrev pub BeginsValue : List ℕ → List ℕ → Type 0
BeginsValue bytes after = (v : ℕ) × BeginsWith 16 4 v bytes after

-- After a value at the beginning of the bytes, or at their beginning, and what may come there.
abbrev pub IsPastValue : List ℕ → List ℕ → Expected → Type 0
IsPastValue bytes rest expected = (BeginsValue bytes rest × (expected ≡ NoValue)) ⊎ ((rest ≡ bytes) × (expected ≡ Something))

-- the longer one of two is last, or the first if none is longer
abbrev pub IsFirstLonger : List ℕ → List ℕ → List ℕ → List ℕ → Type 0
IsFirstLonger first next shorter longer =
    ((length first < length next) × (shorter ≡ first) × (longer ≡ next))
    ⊎ ((length next ≤ length first) × (shorter ≡ next) × (longer ≡ first))
