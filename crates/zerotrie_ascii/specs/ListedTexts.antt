-- Listings whose keys are text.
use Rattle.std.specs.Prelude.{[], ◌∷◌, ⊤, All}
use Rattle.std.specs.Str.{IsUtf8}
use Rattle.zerotrie_core.specs.Maps.{Pairs}
use Rattle.zerotrie_core.specs.declared.listing.ListError.{ListError}
use Rattle.zerotrie_core.specs.declared.listing.ListError.TheVariants.{OutOfMemory, NotText}

-- each key is text
abbrev pub AreTexts : Pairs → Type 0
AreTexts pairs = All (λ e. IsUtf8 e.0) pairs

-- the first key is no text
abbrev pub BeginsNoText : Pairs → Type 0
BeginsNoText [] = ⊥
BeginsNoText (e ∷ pairs) = IsUtf8 e.0 → ⊥

-- an error that may end a listing of texts if these pairs are left: the next key is no text, or an allocation failed
abbrev pub TextError : ListError → Pairs → Type 0
TextError OutOfMemory pairs = ⊤
TextError NotText pairs = BeginsNoText pairs
