-- What the parts of the plain encoder do.
use Rattle.std.specs.Prelude.{◌≡◌, ◌≢◌, ℕ, ◌+◌, ◌<◌, ◌≤◌, ◌⊎◌, List, [], ◌∷◌, ◌++◌, length, map, drop, slice_index}
use Rattle.std.specs.List.{concat}
use Rattle.zerotrie_base.specs.Kind.{simple_ascii}
use Rattle.zerotrie_base.specs.Maps.{Pairs, with_front, Ascends}
use Rattle.zerotrie_base.specs.Branches.{offsets}
use Rattle.zerotrie_base.specs.Texts.{Lists}
use Rattle.zerotrie_base.specs.Fits.{OverflowsAt}
use Rattle.zerotrie_base.specs.Items.{Items}
use Rattle.zerotrie_base.specs.declared.error.ZeroTrieBuildError.{ZeroTrieBuildError}
use Rattle.zerotrie_base.specs.declared.error.ZeroTrieBuildError.TheVariants.{CapacityExceeded, OutOfMemory}

-- the pairs of a slice of items, each key without this many first bytes
abbrev pub pairs_from : ℕ → Items → Pairs
pairs_from depth items = map (λ e. (drop depth e.0.now, e.1)) items

-- the bytes of a key are ASCII
abbrev pub AsciiKey : List ℕ → Type 0
AsciiKey [] = Unit {0}
AsciiKey (b ∷ key) = (b < 128) × AsciiKey key

-- the bytes of each key are ASCII
abbrev pub AsciiKeys : Pairs → Type 0
AsciiKeys [] = Unit {0}
AsciiKeys (e ∷ pairs) = AsciiKey e.0 × AsciiKeys pairs

-- no key is shorter
abbrev pub Deep : ℕ → Items → Type 0
Deep depth [] = Unit {0}
Deep depth (e ∷ items) = (depth ≤ length e.0.now) × Deep depth items

-- each key has the byte at the place
abbrev pub BeginsAll : ℕ → ℕ → Items → Type 0
BeginsAll depth byte [] = Unit {0}
BeginsAll depth byte (e ∷ items) = (depth < length e.0.now) × (slice_index e.0.now depth ≡ byte) × BeginsAll depth byte items

-- the first key, if there is one, has not
abbrev pub BeginsNone : ℕ → ℕ → Items → Type 0
BeginsNone depth byte [] = Unit {0}
BeginsNone depth byte (e ∷ items) = depth < length e.0.now → slice_index e.0.now depth ≢ byte

-- the number of keys and of all their bytes
abbrev pub weight : Pairs → ℕ
weight [] = 0
weight (e ∷ pairs) = 1 + length e.0 + weight pairs

-- the keys have no first byte in common
abbrev pub IsBranching : Pairs → Type 0
IsBranching pairs = (b : ℕ) (behind : Pairs) → pairs ≢ with_front b behind

-- some branch that the pairs need has more target bytes than an offset reaches
abbrev pub Overflows : Pairs → Type 0
Overflows pairs = (front : List ℕ) × OverflowsAt simple_ascii front pairs

-- an error of writing an encoding of the pairs
abbrev pub CannotWrite : Pairs → ZeroTrieBuildError → Type 0
CannotWrite pairs e = (e ≡ OutOfMemory) ⊎ ((e ≡ CapacityExceeded) × Overflows pairs)

-- an encoding of the pairs was appended
pub record Writes (before after : List ℕ) (pairs : Pairs) : Type 0 where
  pub text : List ℕ
  pub lists : Lists simple_ascii text pairs
  pub is : after ≡ before ++ text

-- The first nodes of an encoding of all the pairs were appended: if an encoding of those left
-- follows, it is whole.
pub record WritesFront (before : List ℕ) (all : Pairs) (out : List ℕ) (left : Pairs) : Type 0 where
  pub finish : (after : List ℕ) → Writes out after left → Writes before after all
  pub wide : Overflows left → Overflows all
  pub ascends : Ascends left
  pub ascii : AsciiKeys left
  pub lighter : weight left ≤ weight all

-- a number with these bits added to its lead byte
abbrev pub with_bits : ℕ → List ℕ → List ℕ
with_bits bits [] = []
with_bits bits (lead ∷ trail) = (bits + lead) ∷ trail

-- An encoding for each of these edges: where they end but for the last, and their bytes, one after
-- another.
pub record AreTargets (texts : List (List ℕ)) (edges ends target_bytes : List ℕ) : Type 0 where
  pub count : length texts ≡ length edges
  pub offsets_are : ends ≡ offsets texts
  pub bytes_are : target_bytes ≡ concat texts
