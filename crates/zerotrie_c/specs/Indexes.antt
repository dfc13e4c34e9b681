-- Indexes as C is told of them.
use Rattle.std.specs.Prelude.{ℕ, List, Result}
use Rattle.zerotrie_core.specs.Maps.{Pairs}
use Rattle.zerotrie_core.specs.declared.ZeroTrieBuildError.TheVariants as build
use Rattle.zerotrie_index.specs.Built.{IsIndexBuild}
use Rattle.zerotrie_index.specs.declared.error.ZeroIndexBuildError.{ZeroIndexBuildError}
use Rattle.zerotrie_index.specs.declared.error.ZeroIndexBuildError.TheVariants.{Unsorted, DuplicateKey, Crowded, CapacityExceeded, OutOfMemory}
use Rattle.zerotrie_c.specs.Statuses.{status_of, crowded}
use Rattle.zerotrie_c.specs.Builds.{IsToldBy}

-- a refusal of an index by its number, which is that of the same refusal of a trie, if there is one
abbrev pub index_status_of : ZeroIndexBuildError → ℕ
index_status_of Unsorted = status_of build.Unsorted
index_status_of DuplicateKey = status_of build.DuplicateKey
index_status_of Crowded = crowded
index_status_of CapacityExceeded = status_of build.CapacityExceeded
index_status_of OutOfMemory = status_of build.OutOfMemory

-- what C is told of a build of the pairs' index from a seed on: an answer that it may have
abbrev pub IsIndexBuildTold : ℕ → Pairs → ℕ → ℕ → ℕ → List ℕ → List ℕ → Type 0
IsIndexBuildTold seed pairs status old_len len old out =
    (answer : Result (List ℕ) ZeroIndexBuildError) × IsIndexBuild seed (λ bytes. bytes) pairs answer
    × IsToldBy index_status_of answer status old_len len old out
