-- The map of the pairs that bytes list.
use Rattle.std.specs.Prelude.{◌≡◌, ℕ, List, Result, Ok, Err}
use Rattle.std.specs.BTreeMap.{BTreeMap}
use Rattle.std.specs.FinMap.{entries}
use Rattle.zerotrie_core.specs.Maps.{Map}
use Rattle.zerotrie_core.specs.Items.{keyed}
use Rattle.zerotrie_core.specs.declared.listing.ListError.{ListError}
use Rattle.zerotrie_core.specs.declared.listing.ListError.TheVariants.{OutOfMemory}

-- the result is the map, its keys by their bytes, or an allocation failed
abbrev pub IsListed : {K : Type 0} → (K → List ℕ) → Map → Result (BTreeMap K ℕ) ListError → Type 0
IsListed key m (Ok map) = keyed key map.entries ≡ entries m
IsListed key m (Err e) = e ≡ OutOfMemory
