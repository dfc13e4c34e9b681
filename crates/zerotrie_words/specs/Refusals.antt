-- Which words are no names and no numbers.
use Rattle.std.specs.Prelude.{◌≡◌, ◌≢◌, ◌<◌, ◌^◌, ℕ, List, [], ◌∷◌, Option, Some, None, codes}
use Rattle.zerotrie_core.specs.Kinds.{kind_name}
use Rattle.zerotrie_words.specs.Words.{IsNumberOf}
use Rattle.zerotrie_words.specs.declared.misuse.Misuse.{Misuse}
use Rattle.zerotrie_words.specs.declared.misuse.Misuse.TheVariants as misuse

-- a word is none of these things' names
abbrev pub NamesNone : {X : Type 0} → (X → List ℕ) → Option (List ℕ) → Type 0
NamesNone {X} name None = ⊥
NamesNone {X} name (Some word) = (x : X) → word ≢ name x

-- a word is no number below a power of two
abbrev pub HasNoNumber : ℕ → Option (List ℕ) → Type 0
HasNoNumber bits None = ⊥
HasNoNumber bits (Some word) = (n : ℕ) → IsNumberOf word n → n < 2 ^ bits → ⊥

-- a word is no kind, nor `auto`
abbrev pub IsNoKind : Option (List ℕ) → Type 0
IsNoKind word = NamesNone kind_name word × (word ≢ Some (codes "auto"))

-- a word is not one byte
abbrev pub IsNoBorder : Option (List ℕ) → Type 0
IsNoBorder None = ⊥
IsNoBorder (Some word) = (byte : ℕ) → word ≢ byte ∷ []

-- an option is misused so: it has a word of which this holds, and does not take it
abbrev pub IsUnknown : Type 0 → Misuse → Type 0
IsUnknown wrong why = wrong × (why ≡ misuse.UnknownWord)
