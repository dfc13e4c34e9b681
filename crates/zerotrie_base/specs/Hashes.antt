-- Perfect hashes of bytes.
use Rattle.std.specs.Prelude.{◌≡◌, ◌==◌, ◌&&◌, ℕ, ◌+◌, ◌-◌, ◌*◌, ◌/◌, ◌%◌, ◌^◌, ◌<◌, ◌≤◌, ◌⊎◌, List, [], ◌∷◌, ◌++◌, length, map, filter, reverse, All, bit_xor, slice_index, nat_eq, nat_lt, Option, Some, None, if◌then◌else◌}
use Rattle.std.proofs.Common.{suc, zero}
use Rattle.std.specs.List.{range_with_len, flat_map, IsDistinct}
use Rattle.std.specs.List.Sorted.{IsPermutation}

-- the bucket of the byte b among n, by the parameter p
abbrev pub f1 : ℕ → ℕ → ℕ → ℕ
f1 b p zero = b
f1 b zero (suc n) = b % suc n
f1 b (suc p) (suc n) = bit_xor (bit_xor b (suc p)) (b / 2 ^ (suc p % 8)) % suc n

-- the eight bits of r, turned this many times
abbrev pub turned : ℕ → ℕ → ℕ
turned zero r = r
turned (suc k) r = turned k (bit_xor (bit_xor r (r * 2 % 256)) (r / 2))

-- the place of the byte b among n, by the parameter q
abbrev pub f2 : ℕ → ℕ → ℕ → ℕ
f2 b q zero = b
f2 b q (suc n) = turned (q - 95) (bit_xor b q) % suc n

-- the place of the byte b among n, by all parameters: its bucket has the q
abbrev pub place_of : ℕ → List ℕ → ℕ → ℕ → ℕ
place_of p qs n b = f2 b (slice_index qs (f1 b p n)) n

-- Each key is at its place.
pub record IsPerfect (p : ℕ) (qs keys : List ℕ) : Type 0 where
  pub p_byte : p < 256
  pub q_bytes : All (λ q. q < 256) qs
  pub a_q_each : length qs ≡ length keys
  pub places : (i : ℕ) → i < length keys → place_of p qs (length keys % 256) (slice_index keys i) ≡ i

-- The bytes are a perfect table of these keys, in some order.
pub record IsPerfectTable (keys bytes : List ℕ) : Type 0 where
  pub p : ℕ
  pub qs : List ℕ
  pub placed : List ℕ
  pub bytes_are : bytes ≡ p ∷ (qs ++ placed)
  pub perfect : IsPerfect p qs placed
  pub permutation : IsPermutation keys placed

-- the result of a look-up of the byte b in a table of n keys, whose bytes after p are the rest
abbrev pub number_behind : ℕ → ℕ → List ℕ → ℕ → Option ℕ
number_behind p n rest b =
    let place = place_of p rest (n % 256) b in
    if nat_lt 0 n && (slice_index rest (n + place) == b) then Some place else None

-- the result of a look-up of the byte b in the bytes of a table: its place, if it is the key there
abbrev pub number_of : List ℕ → ℕ → Option ℕ
number_of [] b = None
number_of (p ∷ rest) b = number_behind p (length rest / 2) rest b

-- the keys in as many buckets as there are keys, each in the order given
abbrev pub buckets : ℕ → List ℕ → List (List ℕ)
buckets p keys = map (λ t. filter (λ b. f1 b p (length keys % 256) == t) keys) (range_with_len 0 (length keys))

-- the buckets by falling size, those of one size by their number
abbrev pub by_size : List (List ℕ) → List (List ℕ)
by_size all = flat_map (λ size. filter (λ bucket. length bucket == size) all) (reverse (range_with_len 0 (length all + 1)))

-- the places of a bucket's keys
abbrev pub places : ℕ → ℕ → List ℕ → List ℕ
places n q bucket = map (λ b. f2 b q n) bucket

-- the places of the keys are distinct and free
abbrev pub IsFree : ℕ → List ℕ → List ℕ → ℕ → Type 0
IsFree n taken bucket q = IsDistinct nat_eq (taken ++ places n q bucket)

-- q is the least by which the places of the keys are distinct and free, and within the limit
pub record IsLeast (n limit : ℕ) (taken bucket : List ℕ) (q : ℕ) : Type 0 where
  pub within : q ≤ limit
  pub free : IsFree n taken bucket q
  pub least : (x : ℕ) → x < q → IsFree n taken bucket x → ⊥

-- the buckets, one after another, can each be given the least q beside the places that are taken
abbrev pub CanFill : ℕ → ℕ → List ℕ → List (List ℕ) → Type 0
CanFill n limit taken [] = Unit {0}
CanFill n limit taken (bucket ∷ rest) =
    (q : ℕ) × IsLeast n limit taken bucket q × CanFill n limit (taken ++ places n q bucket) rest

-- for some p and limit the buckets can each be given the least q
abbrev pub IsStraight : List ℕ → Type 0
IsStraight keys =
    (p : ℕ) × (limit : ℕ) × (p ≤ 95) × ((limit ≡ 95) ⊎ (limit ≡ 127)) × CanFill (length keys % 256) limit [] (by_size (buckets p keys))

-- there are 256 keys, or their remainders by their number are distinct
abbrev pub IsPlain : List ℕ → Type 0
IsPlain keys = (length keys ≡ 256) ⊎ IsDistinct nat_eq (map (λ b. b % length keys) keys)
