-- An index that is read at places, as in a file.
use Rattle.std.specs.Prelude.{◌≡◌, ◌+◌, ◌<◌, ◌≤◌, ◌^◌, ◌++◌, ℕ, List, [], ◌∷◌, length, take, drop, Option}
use Rattle.zerotrie_base.specs.Kind.{simple_ascii}
use Rattle.zerotrie_base.specs.Maps.{Pairs, value_at}
use Rattle.zerotrie_index.specs.Layout.{word, IsIndex}

-- whatever may be held before may be held after
abbrev pub MayStill : (List ℕ → Type 0) → (List ℕ → Type 0) → Type 0
MayStill Before After = (bytes : List ℕ) → Before bytes → After bytes

-- whatever read may fail after could fail before
abbrev pub FailsNoMore : {E : Type 0} → (Before After : ℕ → ℕ → E → Type 0) → Type 0
FailsNoMore {E = E} Before After = (place count : ℕ) (e : E) → After place count e → Before place count e

-- a read of some of as many bytes from the place on fails so
abbrev pub FailsWithin : {E : Type 0} → (MayRefuse : ℕ → ℕ → E → Type 0) → ℕ → ℕ → E → Type 0
FailsWithin MayRefuse place count e = (at : ℕ) × (n : ℕ) × (place ≤ at) × (0 < n) × (at + n ≤ place + count) × MayRefuse at n e

-- a read fails so of bytes that each index has that may be held
abbrev pub FailsInside : {E : Type 0} → (MayHold : List ℕ → Type 0) → (MayRefuse : ℕ → ℕ → E → Type 0) → E → Type 0
FailsInside MayHold MayRefuse e = (at : ℕ) × (n : ℕ)
    × ((bytes : List ℕ) → MayHold bytes → (pairs : Pairs) → IsIndex pairs bytes → at + n ≤ length bytes) × MayRefuse at n e

-- these are as many of the bytes from the place on
abbrev pub HasPart : ℕ → List ℕ → List ℕ → Type 0
HasPart place part bytes = part ≡ take (length part) (drop place bytes)

-- the same of all that may be held
abbrev pub IsPart : (List ℕ → Type 0) → ℕ → List ℕ → Type 0
IsPart MayHold place part = (bytes : List ℕ) → MayHold bytes → HasPart place part bytes

-- these are the two words from the place on
abbrev pub AreWords : List ℕ → ℕ → ℕ → ℕ → Type 0
AreWords bytes place first second = (a b : ℕ) (after : List ℕ) → a < 2 ^ 64 → b < 2 ^ 64
    → drop place bytes ≡ word a ++ (word b ++ after) → (first ≡ a) × (second ≡ b)

-- this is the value of the key in each index that may be held
abbrev pub IsAnswer : (List ℕ → Type 0) → List ℕ → Option ℕ → Type 0
IsAnswer MayHold key found = (bytes : List ℕ) → MayHold bytes → (pairs : Pairs) → IsIndex pairs bytes → found ≡ value_at simple_ascii pairs key

-- the bytes have each of these parts at its place
abbrev pub HasParts : List (ℕ × List ℕ) → List ℕ → Type 0
HasParts [] bytes = Unit {0}
HasParts (part ∷ parts) bytes = HasPart part.0 part.1 bytes × HasParts parts bytes

-- parts were read that all have that may be held, and this is the value of the key in each index that has them
abbrev pub IsAnswerOfParts : (List ℕ → Type 0) → List ℕ → Option ℕ → Type 0
IsAnswerOfParts MayHold key found = (parts : List (ℕ × List ℕ)) × ((bytes : List ℕ) → MayHold bytes → HasParts parts bytes)
    × IsAnswer (HasParts parts) key found
