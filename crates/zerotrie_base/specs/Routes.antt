-- The routes, which are ways to build, and their results.
use Rattle.std.specs.Prelude.{◌≡◌, ◌≢◌, ℕ, ◌⊎◌, List, Option, Result, Ok, Err}
use Rattle.std.specs.Iterator.Runs.{WholeRun}
use Rattle.zerotrie_base.specs.Kind.{Kind}
use Rattle.zerotrie_base.specs.Maps.{Pairs, map_of, Ascends, RepeatsKey}
use Rattle.zerotrie_base.specs.Items.{keyed}
use Rattle.zerotrie_base.specs.Canonical.{size}
use Rattle.zerotrie_base.specs.Fits.{Fits}
use Rattle.zerotrie_base.specs.Causes.{Cause}
use Rattle.zerotrie_base.specs.Built.{IsBuilt}
use Rattle.zerotrie_base.specs.declared.error.ZeroTrieBuildError.{ZeroTrieBuildError}
use Rattle.zerotrie_base.specs.declared.error.ZeroTrieBuildError.TheVariants.{CouldNotSolvePerfectHash, DuplicateKey, Unsorted, OutOfMemory}

pub data Route : Type 0 where
  -- a list that must ascend by the bytes of its keys
  ascending : Route
  -- a map whose order is that of its keys' bytes
  in_order : Route
  -- pairs in any order
  any_order : Route

-- what the route requires of the pairs, besides that their map fits
abbrev pub Takes : Route → Pairs → Type 0
Takes ascending pairs = Ascends pairs
Takes in_order pairs = Ascends pairs
Takes any_order pairs = RepeatsKey pairs → ⊥

-- an error that the route never returns, whatever holds of the pairs
abbrev pub IsNeverAnswered : Route → ZeroTrieBuildError → Type 0
IsNeverAnswered ascending e = e ≡ DuplicateKey
IsNeverAnswered in_order e = (e ≡ DuplicateKey) ⊎ (e ≡ Unsorted)
IsNeverAnswered any_order e = e ≡ Unsorted

-- an error of the route whose cause holds of the pairs
abbrev pub HasCause : Route → Kind → Pairs → ZeroTrieBuildError → Type 0
HasCause route kind pairs e = (IsNeverAnswered route e → ⊥) × Cause kind pairs e

-- an error of a build of the pairs by the route: out of memory, or one whose cause holds of them
abbrev pub IsRefusal : Route → Kind → Pairs → ZeroTrieBuildError → Type 0
IsRefusal route kind pairs e = (e ≡ OutOfMemory) ⊎ HasCause route kind pairs e

-- The result of a build of the pairs by the route: bytes that mean the pairs, or an error.
abbrev pub IsBuild : {B : Type 0} → Route → Kind → (B → List ℕ) → Pairs → Result B ZeroTrieBuildError → Type 0
IsBuild route kind bytes pairs (Ok b) = Takes route pairs × IsBuilt kind pairs (bytes b)
IsBuild route kind bytes pairs (Err e) = IsRefusal route kind pairs e

-- The result of computing the length of a build of the pairs by the route: the size of their map,
-- or an error. No table is searched for.
abbrev pub IsLength : Route → Kind → Pairs → Result ℕ ZeroTrieBuildError → Type 0
IsLength route kind pairs (Ok n) = Takes route pairs × Fits kind (map_of pairs) × (n ≡ size kind (map_of pairs))
IsLength route kind pairs (Err e) = IsRefusal route kind pairs e × (e ≢ CouldNotSolvePerfectHash)

-- the fact holds of the pairs that an iterator returns, one after another and no more
abbrev pub HoldsOfItsPairs : {U I K : Type 0} → (U → I → Type 0) → (I → Option (K × ℕ) → I → Type 0) → (K → List ℕ) → U → (Pairs → Type 0) → Type 0
HoldsOfItsPairs {I = I} into_iter_gives next_gives key given Fact =
    (it : I) × into_iter_gives given it × WholeRun next_gives it (λ run. Fact (keyed key run.items))

-- The result of a build of all pairs that an iterator returns. If it is out of memory, the iterator
-- may not have returned them all.
abbrev pub IsBuildOfAll : {B : Type 0} → ((Pairs → Type 0) → Type 0) → Kind → (B → List ℕ) → Result B ZeroTrieBuildError → Type 0
IsBuildOfAll OfAll kind bytes (Ok b) = OfAll (λ pairs. IsBuild any_order kind bytes pairs (Ok b))
IsBuildOfAll OfAll kind bytes (Err e) = (e ≡ OutOfMemory) ⊎ OfAll (λ pairs. HasCause any_order kind pairs e)
