-- What comes of a command that makes a file of the tries of others.
use Rattle.std.specs.Prelude.{◌≡◌, ◌⊎◌, ℕ, List, [], ◌∷◌, map, Any, Option, Some, None, Bool, false, is_none}
use Rattle.std.specs.List.{AllZip}
use Rattle.zerotrie_core.specs.Kinds.{kind_of}
use Rattle.zerotrie_core.specs.Texts.{Means}
use Rattle.zerotrie_core.specs.declared.TrieKind.{TrieKind}
use Rattle.zerotrie_files.specs.Disks.{Story}
use Rattle.zerotrie_queries.specs.Files.{Holds}
use Rattle.zerotrie_queries.specs.declared.file.OpenError.{OpenError}
use Rattle.zerotrie_queries.specs.declared.file.OpenError.TheVariants as unopened
use Rattle.zerotrie_making.specs.Combinations.{Meant, IsMadeOfMaps, ExplainsMaps, kind_kept}
use Rattle.zerotrie_making.specs.declared.error.CombinationError.{CombinationError}
use Rattle.zerotrie_making.specs.declared.error.CombinationError.TheVariants as combination
use Rattle.zerotrie_making.specs.declared.error.MakeError.TheVariants as made
use Rattle.zerotrie_making.specs.declared.plan.Combination.{Combination}
use Rattle.zerotrie_making.specs.declared.plan.Made.{Made}
use Rattle.zerotrie_run.specs.Runs.{World, HaveTwoStreams, IsFreshAt, IsKept, IsRead, IsSparedAt, IsWritten, HasNoTrie, Untouched}
use Rattle.zerotrie_run.specs.Statuses.{made_refusal}
use Rattle.zerotrie_run.specs.declared.command.Check.TheVariants.{Full}
use Rattle.zerotrie_run.specs.declared.command.Combine.{Combine}
use Rattle.zerotrie_run.specs.declared.command.Place.{Place}
use Rattle.zerotrie_run.specs.declared.command.TrieFile.{TrieFile}
use Rattle.zerotrie_run.specs.declared.status.Status.{Status}
use Rattle.zerotrie_run.specs.declared.status.Status.TheVariants.{Done, Absent, Refused, Taken, BadUsage, BadInput, BadKeys, Unread, Unwritten, OutOfMemory, Closed}

-- how each of the files is read: it says its kind, and all its bytes are validated
abbrev pub file_of : Place → TrieFile
file_of place = record { place = place; bare = None; check = Full }

-- what a file holds is a trie of this kind that means this map
abbrev pub HasMap : List ℕ → Meant → Type 0
HasMap held m = (bytes : List ℕ) × Holds None held m.0 bytes × Means (kind_of m.0) bytes m.1

-- what the files hold are tries, and the fact holds of their kinds and maps
abbrev pub OfHeld : List (List ℕ) → (List Meant → Type 0) → Type 0
OfHeld held Fact = (maps : List Meant) × AllZip HasMap held maps × Fact maps

-- this is what the files hold
abbrev pub AreRead : List Place → Option (List ℕ) → Option Story → List (List ℕ) → Type 0
AreRead places input files held = AllZip (λ place bytes. IsRead place input files bytes) places held

-- the files have tries, and the fact holds of their kinds and maps
abbrev pub OfFiles : Combine → Option (List ℕ) → Option Story → (List Meant → Type 0) → Type 0
OfFiles c input files Fact = (held : List (List ℕ)) × AreRead c.from.now input files held × OfHeld held Fact

-- whether no kind is named, and tries of these kinds have several
abbrev pub are_several : Option TrieKind → List TrieKind → Bool
are_several named [] = false
are_several named (kind ∷ kinds) = is_none (kind_kept named (kind ∷ kinds))

-- the file is made of these maps, and it is known whether no kind is named for it and their tries have several
abbrev pub IsMadeSo : Combination → List Meant → Made → Bool → Type 0
IsMadeSo c maps made several = IsMadeOfMaps c maps made × (several ≡ are_several c.kind (map (λ m. m.0) maps))

-- The file was made of the maps of the files, and written.
pub record IsCombination (c : Combine) (input : Option (List ℕ)) (before after : World) : Type 0 where
  pub made : Made
  pub of : OfFiles c input before.files (λ maps. IsMadeOfMaps c.combination maps made)
  pub written : IsWritten c.to made.file.items before after

-- The file was made, and could not be written, or not to the end.
pub record IsUnwrittenCombination (c : Combine) (input : Option (List ℕ)) (before after : World) : Type 0 where
  pub made : Made
  pub of : OfFiles c input before.files (λ maps. IsMadeOfMaps c.combination maps made)
  pub kept : IsKept c.to made.file.items before after

-- how a run ends if no file is made of the maps; none if it is out of memory
abbrev pub unmade_refusal : CombinationError → Option Status
unmade_refusal (combination.NoValue why key) = Some Refused
unmade_refusal (combination.NotMade e) = made_refusal e

-- no file is made of the maps of the files, for a reason with this status, and nothing was touched
abbrev pub IsRefusedCombination : Combine → Option (List ℕ) → World → World → Status → Type 0
IsRefusedCombination c input before after status =
    (e : CombinationError) × OfFiles c input before.files (λ maps. ExplainsMaps c.combination maps e) × (unmade_refusal e ≡ Some status) × Untouched before after

-- something failed: nothing was touched, or the file was made, and its place holds what it held, or a beginning of it was printed
abbrev pub FailsCombine : Combine → Option (List ℕ) → World → World → Type 0
FailsCombine c input before after = Untouched before after ⊎ IsUnwrittenCombination c input before after

-- How it ends. The file was made; its keys are refused; it is there already; two of the files are standard input; one of them has no
-- trie; or something failed.
abbrev pub RunsCombine : Combine → Option (List ℕ) → World → World → Status → Type 0
RunsCombine c input before after Done = IsCombination c input before after × IsFreshAt c.to c.no_clobber before.files
RunsCombine c input before after Absent = ⊥
RunsCombine c input before after Refused = IsRefusedCombination c input before after Refused
RunsCombine c input before after Taken = IsSparedAt c.to c.no_clobber before after
RunsCombine c input before after BadUsage = HaveTwoStreams c.from.now × Untouched before after
RunsCombine c input before after BadKeys = ⊥
RunsCombine c input before after BadInput = Any (λ place. HasNoTrie (file_of place) input before.files) c.from.now × Untouched before after
RunsCombine c input before after Unread = FailsCombine c input before after
RunsCombine c input before after Unwritten = FailsCombine c input before after
RunsCombine c input before after OutOfMemory = FailsCombine c input before after
RunsCombine c input before after Closed = FailsCombine c input before after

-- how a run ends if a file has no trie; none if memory for the search of its first fault was refused
abbrev pub unopened_refusal : OpenError → Option Status
unopened_refusal (unopened.BadTag why) = Some BadInput
unopened_refusal (unopened.Damaged why) = Some BadInput
unopened_refusal (unopened.NotWellFormed kind fault) = Some BadInput
unopened_refusal unopened.OutOfMemory = None
