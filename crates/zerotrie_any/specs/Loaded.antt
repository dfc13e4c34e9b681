-- Tagged bytes that are tested.
use Rattle.std.specs.Prelude.{◌≡◌, ℕ, List}
use Rattle.zerotrie_core.specs.Kind.{Kind, tag}
use Rattle.zerotrie_core.specs.WellFormed.{IsWellFormed}
use Rattle.zerotrie_any.specs.Tagged.{tagged, IsTagFault}
use Rattle.zerotrie_any.specs.declared.bytes.LoadError.{LoadError}
use Rattle.zerotrie_any.specs.declared.bytes.LoadError.TheVariants.{Tag, NotWellFormed}

-- the bytes are the tag of the kind and then these, which mean a map
abbrev pub IsLoaded : Kind → List ℕ → List ℕ → Type 0
IsLoaded kind bytes rest = (bytes ≡ tagged kind rest) × IsWellFormed kind rest

-- why bytes are an error if such tags are read: they begin with no such tag, or what follows one means no map of
-- its kind
abbrev pub IsLoadFault : (ℕ → Type 0) → List ℕ → LoadError → Type 0
IsLoadFault IsRead bytes (Tag e) = IsTagFault IsRead bytes e
IsLoadFault IsRead bytes NotWellFormed = (kind : Kind) × (rest : List ℕ) × IsRead (tag kind) × (bytes ≡ tagged kind rest) × (IsWellFormed kind rest → ⊥)
