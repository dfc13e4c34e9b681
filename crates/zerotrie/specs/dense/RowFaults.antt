-- Why texts and rows are errors, one by one: words for private functions.
use Rattle.std.specs.Prelude.{◌≡◌, ℕ, ◌^◌, ◌<◌, ◌≤◌, ◌⊎◌, List, [], ◌∷◌, Any, Contains}
use Rattle.zerotrie_core.specs.Kind.{simple_ascii}
use Rattle.zerotrie_core.specs.Maps.{Pairs, Ascends, map_of}
use Rattle.zerotrie_core.specs.Fits.{ExceedsCapacity}
use Rattle.zerotrie_core.specs.declared.ZeroTrieBuildError.{ZeroTrieBuildError}
use Rattle.zerotrie_core.specs.declared.ZeroTrieBuildError.TheVariants.{NonAsciiError, IllegalDelimiter, CapacityExceeded, OutOfMemory}
use Rattle.zerotrie.specs.dense.Rows.{Rows}
use Rattle.zerotrie.specs.dense.Windows.{inside}
use Rattle.zerotrie.specs.dense.Layout.{LaidRow}

-- each row ascends
abbrev pub AllAscend : List LaidRow → Type 0
AllAscend [] = Unit {0}
AllAscend (r ∷ rows) = Ascends r.pairs × AllAscend rows

-- all bytes of a text are ASCII, and of some texts
abbrev pub IsAsciiText : List ℕ → Type 0
IsAsciiText text = Any (λ b. 128 ≤ b) text → ⊥

abbrev pub AreAsciiTexts : List (List ℕ) → Type 0
AreAsciiTexts [] = Unit {0}
AreAsciiTexts (text ∷ more) = IsAsciiText text × AreAsciiTexts more

-- no text holds the delimiter
abbrev pub AreApart : ℕ → List (List ℕ) → Type 0
AreApart delimiter [] = Unit {0}
AreApart delimiter (text ∷ more) = (Contains text delimiter → ⊥) × AreApart delimiter more

-- the values of a row are numbers of eight bytes, and of all rows
abbrev pub AreInRange : Pairs → Type 0
AreInRange [] = Unit {0}
AreInRange (e ∷ pairs) = (e.1 < 2 ^ 64) × AreInRange pairs

abbrev pub AllInRange : Rows → Type 0
AllInRange [] = Unit {0}
AllInRange (row ∷ rows) = AreInRange row.1 × AllInRange rows

-- why a text is an error, or one of some
abbrev pub IsTextFault : ℕ → List ℕ → ZeroTrieBuildError → Type 0
IsTextFault delimiter text e = ((e ≡ NonAsciiError) × Any (λ b. 128 ≤ b) text) ⊎ ((e ≡ IllegalDelimiter) × Contains text delimiter)

abbrev pub HasTextFault : ℕ → List (List ℕ) → ZeroTrieBuildError → Type 0
HasTextFault delimiter [] e = ⊥
HasTextFault delimiter (text ∷ more) e = IsTextFault delimiter text e ⊎ HasTextFault delimiter more e

-- the window of the row has no text
abbrev pub HasWideWindow : Pairs → Type 0
HasWideWindow row = ExceedsCapacity simple_ascii (map_of (inside row))

abbrev pub SomeWideWindow : Rows → Type 0
SomeWideWindow [] = ⊥
SomeWideWindow (row ∷ rows) = HasWideWindow row.1 ⊎ SomeWideWindow rows

-- why a row is an error
abbrev pub IsRowRefusal : Pairs → ZeroTrieBuildError → Type 0
IsRowRefusal row e = (e ≡ OutOfMemory) ⊎ ((e ≡ CapacityExceeded) × HasWideWindow row)
