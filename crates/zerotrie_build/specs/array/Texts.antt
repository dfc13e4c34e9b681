-- A text that is written from its last byte to its first into a buffer, which may be too small for it.
use Rattle.std.specs.Prelude.{◌≡◌, ℕ, ◌+◌, ◌-◌, ◌^◌, ◌<◌, ◌≤◌, List, ◌++◌, length, map, take, drop, reverse}
use Rattle.zerotrie_build.specs.declared.array.text.Sibling.{Sibling}
use Rattle.zerotrie_build.specs.declared.array.text.Text.{Text}

-- The count of this many: exact below 2 ^ 32, and else no less than that.
pub record Counts (count n : ℕ) : Type 0 where
  pub small : count < 2 ^ 32 → count ≡ n
  pub large : 2 ^ 32 ≤ count → 2 ^ 32 ≤ n

-- The buffer ends in the bytes, if it has room for them, and their number is counted, as far as there are numbers.
pub record EndsIn (buffer : List ℕ) (len : ℕ) (bytes : List ℕ) : Type 0 where
  pub exact : length bytes < 2 ^ 64 → len ≡ length bytes
  pub capped : 2 ^ 64 ≤ length bytes → 2 ^ 64 ≤ len + 1
  pub written : length bytes ≤ length buffer → drop (length buffer - length bytes) buffer ≡ bytes

-- the text has these bytes
abbrev pub Has : Text → List ℕ → Type 0
Has text bytes = EndsIn text.buffer.now text.len bytes

-- The text is in the same buffer, where the bytes before those that it has by now are as they were.
pub record Keeps (old new : Text) : Type 0 where
  pub same_reference : new.buffer.ghost_name ≡ old.buffer.ghost_name
  pub room : length new.buffer.now ≡ length old.buffer.now
  pub more : old.len ≤ new.len
  pub before : (n : ℕ) → n + new.len ≤ length old.buffer.now → take n new.buffer.now ≡ take n old.buffer.now

-- The bytes were put in front of a text, and counted.
pub record Prepends (old new : Text) (bytes : List ℕ) : Type 0 where
  pub keeps : Keeps old new
  pub has : (behind : List ℕ) → Has old behind → Has new (bytes ++ behind)
  pub counts : (front : ℕ) → Counts old.front front → Counts new.front (length bytes + front)

-- the siblings, the last that was set aside first
abbrev pub newest_first : List Sibling → List Sibling
newest_first siblings = reverse siblings

-- their edge bytes
abbrev pub bytes_of : List Sibling → List ℕ
bytes_of siblings = map (λ s. s.byte) siblings

-- how long their texts are
abbrev pub lens_of : List Sibling → List ℕ
lens_of siblings = map (λ s. s.len) siblings
