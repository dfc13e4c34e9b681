-- What the laws of zerotrie_run say of runs over files in memory.
use Rattle.std.specs.Prelude.{◌≡◌, ℕ, List, Option, None}
use Rattle.zerotrie_files.specs.Disks.{Story}
use Rattle.zerotrie_making.specs.Combinations.{OfTaken, plan_of}
use Rattle.zerotrie_making.specs.Kept.{kept}
use Rattle.zerotrie_making.specs.Made.{OfInput}
use Rattle.zerotrie_making.specs.Plans.{kind_for}
use Rattle.zerotrie_run.specs.Combined.{IsCombination, OfFiles}
use Rattle.zerotrie_run.specs.Runs.{World, IsMade}
use Rattle.zerotrie_run.specs.Laws.{IndexOpensAsMade, IsNamedAsMade, OpensAsMade}
use Rattle.zerotrie_run.specs.declared.command.Build.{Build}
use Rattle.zerotrie_run.specs.declared.command.Combine.{Combine}
use Rattle.zerotrie_run.specs.declared.command.TrieFile.{TrieFile}
use Rattle.zerotrie_making.specs.declared.plan.FileForm.TheVariants as form
use Rattle.zerotrie_run_tests.specs.Steps.{story_of}
use Rattle.zerotrie_run_tests.specs.declared.memory.MemoryDisk.{MemoryDisk}

abbrev pub story_in : MemoryDisk → Story
story_in disk = story_of disk.steps.items disk.unremoved

-- a build made a file, which opens as it was made, if it is a trie, or as the index that was made
pub record OpensAsBuilt (build : Build) (input : Option (List ℕ)) (before after : World) : Type 0 where
  pub made : IsMade build input before after
  pub trie : (file : TrieFile) (stdin : Option (List ℕ)) → file.place ≡ build.to
      → OfInput build.plan made.all (λ given. let pairs = kept build.plan.read.duplicates given in IsNamedAsMade build.plan.file.form (kind_for build.plan.file.kind pairs) file.bare
      → OpensAsMade file stdin after.files build.plan.file.form (kind_for build.plan.file.kind pairs) pairs made.file)
  pub index : (file : TrieFile) (stdin : Option (List ℕ)) → file.place ≡ build.to → build.plan.file.form ≡ form.Index → file.bare ≡ None
      → OfInput build.plan made.all (λ given. IndexOpensAsMade file stdin after.files (kept build.plan.read.duplicates given) made.file)

-- a combination made a file, which opens as it was made, if it is a trie
pub record OpensAsCombined (c : Combine) (input : Option (List ℕ)) (before after : World) : Type 0 where
  pub made : IsCombination c input before after
  pub trie : (file : TrieFile) (stdin : Option (List ℕ)) → file.place ≡ c.to
      → OfFiles c input before.files (λ maps. OfTaken c.combination maps (λ pairs. IsNamedAsMade c.combination.form (kind_for (plan_of c.combination maps).kind pairs) file.bare
      → OpensAsMade file stdin after.files c.combination.form (kind_for (plan_of c.combination maps).kind pairs) pairs made.made.file.items))
