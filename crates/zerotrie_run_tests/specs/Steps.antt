-- What a disk in memory holds after its steps.
use Rattle.std.specs.Prelude.{◌≡◌, ℕ, Bool, List, [], ◌∷◌, ◌++◌, reverse, cond, Some, None, bytes_eq, string_bytes, String}
use Rattle.std.specs.Global.{Global}
use Rattle.std.specs.List.{flat_map}
use Rattle.zerotrie_files.specs.Deeds.{Deed}
use Rattle.zerotrie_files.specs.Deeds.Deed.{filled, moved}
use Rattle.zerotrie_files.specs.Disks.{Files, Story}
use Rattle.zerotrie_run_tests.specs.declared.memory.Step.{Step}
use Rattle.zerotrie_run_tests.specs.declared.memory.Step.TheVariants.{Wrote, Filled, Renamed, Removed}

-- what one step makes of files
abbrev pub after : Step → Files → Files
after (Wrote name bytes) old path = cond (bytes_eq (string_bytes name) path) (Some bytes.items) (old path)
after (Filled name mode bytes) old path = cond (bytes_eq (string_bytes name) path) (Some bytes.items) (old path)
after (Renamed from to) old path =
    cond (bytes_eq (string_bytes to) path) (old (string_bytes from)) (cond (bytes_eq (string_bytes from) path) None (old path))
after (Removed name) old path = cond (bytes_eq (string_bytes name) path) None (old path)

-- what the files hold after steps, the last one first
abbrev pub files_after : List Step → Files
files_after [] path = None
files_after (step ∷ before) path = after step (files_after before) path

-- what they held after each of them
abbrev pub moments_after : List Step → List Files
moments_after [] = []
moments_after (step ∷ before) = moments_after before ++ files_after (step ∷ before) ∷ []

-- the story of a disk that did these steps, and of which some removal failed or none
abbrev pub story_of : List Step → Bool → Story
story_of steps unremoved = record { now = files_after (reverse steps); moments = moments_after (reverse steps); unremoved = unremoved }

-- one step more: there is no file at the path
abbrev pub IsRemoval : List ℕ → List Step → List Step → Type 0
IsRemoval path old new = (name : String Global) × (string_bytes name ≡ path) × (new ≡ old ++ Removed name ∷ [])

-- the deeds of one step: a file that is made or put is none yet, and one that is removed is none
abbrev pub deeds_of : Step → List Deed
deeds_of (Wrote name bytes) = []
deeds_of (Filled name mode bytes) = filled (string_bytes name) mode bytes.items ∷ []
deeds_of (Renamed from to) = moved (string_bytes from) (string_bytes to) ∷ []
deeds_of (Removed name) = []

-- what a disk did in these steps
abbrev pub deeds_after : List Step → List Deed
deeds_after steps = flat_map deeds_of steps
