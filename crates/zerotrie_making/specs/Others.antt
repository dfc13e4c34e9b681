-- Files that are given for pairs or keys by mistake.
use Rattle.std.specs.Prelude.{◌≡◌, ◌⊎◌, ◌==◌, ℕ, List, [], ◌∷◌, ◌++◌, true, take, Option, Some, None}
use Rattle.std.specs.List.{list_any}
use Rattle.zerotrie_sealed.specs.Sealed.{magic}
use Rattle.zerotrie_making.specs.declared.others.OtherFile.{OtherFile}
use Rattle.zerotrie_making.specs.declared.others.OtherFile.TheVariants.{Utf16, Gzip, Sealed}

-- it begins with the byte order mark of UTF-16
abbrev pub HasUtf16Mark : List ℕ → Type 0
HasUtf16Mark input = (take 2 input ≡ 255 ∷ 254 ∷ []) ⊎ (take 2 input ≡ 254 ∷ 255 ∷ [])

-- it does, and a byte of it is zero, as of a line feed and of each digit
abbrev pub IsUtf16 : List ℕ → Type 0
IsUtf16 input = HasUtf16Mark input × (list_any (λ b. b == 0) input ≡ true)

-- it begins as what gzip makes
abbrev pub IsGzip : List ℕ → Type 0
IsGzip input = take 2 input ≡ 31 ∷ 139 ∷ []

-- it begins as a sealed trie or index
abbrev pub BeginsSealed : List ℕ → Type 0
BeginsSealed input = take 8 input ≡ magic

-- an input is this other file, or none of them
abbrev pub IsOther : List ℕ → Option OtherFile → Type 0
IsOther input (Some Utf16) = IsUtf16 input
IsOther input (Some Gzip) = IsGzip input
IsOther input (Some Sealed) = BeginsSealed input
IsOther input None = (IsUtf16 input → ⊥) × (IsGzip input → ⊥) × (BeginsSealed input → ⊥)

-- whatever follows bytes, they begin this other file, or none
abbrev pub IsSettled : List ℕ → Type 0
IsSettled input = (other : Option OtherFile) (more : List ℕ) → IsOther input other → IsOther (input ++ more) other
