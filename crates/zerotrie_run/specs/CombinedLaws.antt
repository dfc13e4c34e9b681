-- A file is made of others, and then opened; and when no file is.
use Rattle.std.specs.Prelude.{◌≡◌, ◌⊎◌, ◌≤◌, ℕ, List, All, Option, Some}
use Rattle.zerotrie_files.specs.Disks.{Story}
use Rattle.zerotrie_making.specs.Combinations.{OfTaken, plan_of}
use Rattle.zerotrie_making.specs.Plans.{kind_for}
use Rattle.zerotrie_run.specs.Combined.{IsCombination, OfFiles, RunsCombine, file_of}
use Rattle.zerotrie_run.specs.Laws.{HasTrie, IsNamedAsMade, OpensAsMade}
use Rattle.zerotrie_run.specs.Runs.{World}
use Rattle.zerotrie_run.specs.Statuses.{number_of}
use Rattle.zerotrie_run.specs.declared.command.Combine.{Combine}
use Rattle.zerotrie_run.specs.declared.command.Place.TheVariants.{Stream}
use Rattle.zerotrie_run.specs.declared.command.TrieFile.{TrieFile}
use Rattle.zerotrie_run.specs.declared.status.Status.{Status}
use Rattle.zerotrie_run.specs.declared.status.Status.TheVariants.{Taken, BadUsage, BadInput}

-- what is opened of a file that was made of others is the trie of what the combination takes of their maps, of the kind that is named or
-- that all have, if the file is named as it was made
abbrev pub CombinedOpens : Type 0
CombinedOpens = (c : Combine) (input : Option (List ℕ)) (before after : World) (held files : Story) → before.files ≡ Some held → after.files ≡ Some files
    → (made : IsCombination c input before after) (file : TrieFile) (stdin : Option (List ℕ)) → (c.to ≡ Stream → ⊥) → file.place ≡ c.to
    → OfFiles c input before.files (λ maps. OfTaken c.combination maps (λ pairs. IsNamedAsMade c.combination.form (kind_for (plan_of c.combination maps).kind pairs) file.bare
    → OpensAsMade file stdin after.files c.combination.form (kind_for (plan_of c.combination maps).kind pairs) pairs made.made.file.items))

-- all files have tries
abbrev pub HaveTries : Combine → List ℕ → Story → Type 0
HaveTries c input files = All (λ place. HasTrie (file_of place) input files) c.from.now

-- A combination is refused as bad input only if one of the files has no trie; and if one has none, that is how it ends, unless the new
-- file is there already, the usage is bad, or something failed.
pub record IsCombineRefusedExactly (c : Combine) (input : List ℕ) (files : Story) (status : Status) : Type 0 where
  pub only : status ≡ BadInput → HaveTries c input files → ⊥
  pub always : (HaveTries c input files → ⊥) → (status ≡ BadInput) ⊎ (status ≡ Taken) ⊎ (status ≡ BadUsage) ⊎ (3 ≤ number_of status)

-- so each combination ends, over files and an input that are known
abbrev pub CombineRefusedExactly : Type 0
CombineRefusedExactly = (c : Combine) (input : List ℕ) (files : Story) (before after : World) (status : Status) → before.files ≡ Some files
    → RunsCombine c (Some input) before after status → IsCombineRefusedExactly c input files status
