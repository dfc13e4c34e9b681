-- Which file a plan makes of an input, and why it makes none.
use Rattle.std.specs.Prelude.{◌≡◌, ◌≢◌, ◌<◌, ◌+◌, ℕ, List, length, take, Bool, true, false, Result, Ok, Err, Some, None}
use Rattle.zerotrie_core.specs.Kind.{perfect_hash}
use Rattle.zerotrie_core.specs.Kinds.{kind_of}
use Rattle.zerotrie_core.specs.Maps.{Pairs}
use Rattle.zerotrie_core.specs.Routes.{Takes, HasCause, IsBuild}
use Rattle.zerotrie_core.specs.declared.ZeroTrieBuildError.{ZeroTrieBuildError}
use Rattle.zerotrie_core.specs.declared.ZeroTrieBuildError.TheVariants as cause
use Rattle.zerotrie_build.specs.Refused.{key_at, AreFaultless, IsWhyRefused}
use Rattle.zerotrie_build.specs.declared.refusal.Refusal.{Refusal}
use Rattle.zerotrie_index.specs.Built.{IsIndexBuild, IsSortedIndexBuild}
use Rattle.zerotrie_index.specs.declared.error.ZeroIndexBuildError.{ZeroIndexBuildError}
use Rattle.zerotrie_index.specs.declared.error.ZeroIndexBuildError.TheVariants as unindexed
use Rattle.zerotrie_lines.specs.Tables.{lowered}
use Rattle.zerotrie_lines.specs.declared.fault.ReadError.{ReadError}
use Rattle.zerotrie_lines.specs.declared.fault.ReadError.TheVariants as fault
use Rattle.zerotrie_making.specs.Others.{IsOther}
use Rattle.zerotrie_making.specs.Sources.{IsPairs, NoPairs, number_in_source}
use Rattle.zerotrie_making.specs.Plans.{Content, a_trie, an_index, content_of, route_of, kind_for, IsFormOf}
use Rattle.zerotrie_sets.specs.declared.selection.Rule.{Rule}
use Rattle.zerotrie_sets.specs.declared.selection.Rule.TheVariants as rules
use Rattle.zerotrie_making.specs.Kept.{kept, number_at, number_of, IsTooLarge}
use Rattle.zerotrie_making.specs.declared.duplicates.Duplicates.TheVariants.{Sum}
use Rattle.zerotrie_making.specs.declared.plan.FilePlan.{FilePlan}
use Rattle.zerotrie_making.specs.declared.plan.Made.{Made as MadeFile}
use Rattle.zerotrie_making.specs.declared.plan.Plan.{Plan}
use Rattle.zerotrie_making.specs.declared.error.NumberedKey.{NumberedKey}
use Rattle.zerotrie_making.specs.declared.error.Shown.{Shown}
use Rattle.zerotrie_making.specs.declared.error.MakeError.{MakeError}
use Rattle.zerotrie_making.specs.declared.error.MakeError.TheVariants.{NotText, Line, NotJson, NotPairs, NotPair, Keys, SumTooLarge, Refused, IndexRefused, OutOfMemory}

-- the input is no other file, it is pairs, and the fact holds of them, with their keys in lower case if the plan says so
abbrev pub OfInput : Plan → List ℕ → (Pairs → Type 0) → Type 0
OfInput plan input Fact = IsOther input None × (pairs : Pairs) × IsPairs plan.read.source input pairs × Fact (lowered plan.read.lower_case pairs)

-- the result of a build of an index of the pairs, whose keys are to ascend or may have any order
abbrev pub IsIndexed : {B : Type 0} → Bool → (B → List ℕ) → Pairs → Result B ZeroIndexBuildError → Type 0
IsIndexed true bytes pairs result = IsSortedIndexBuild 0 bytes pairs result
IsIndexed false bytes pairs result = IsIndexBuild 0 bytes pairs result

-- the bytes are the trie or the index that a build of the pairs returns
abbrev pub IsBuiltAs : Content → Bool → Pairs → List ℕ → Type 0
IsBuiltAs (a_trie kind) sorted pairs bytes = IsBuild (route_of sorted) kind (λ b. b) pairs (Ok bytes)
IsBuiltAs an_index sorted pairs bytes = IsIndexed sorted (λ b. b) pairs (Ok bytes)

-- The file is that of a trie or an index which a build of the pairs returns.
pub record IsFileOf (plan : FilePlan) (pairs : Pairs) (file : List ℕ) : Type 0 where
  pub bytes : List ℕ
  pub build : IsBuiltAs (content_of plan.form (kind_for plan.kind pairs)) plan.sorted pairs bytes
  pub is : IsFormOf plan.form (kind_for plan.kind pairs) bytes file

-- the file is that of those of the pairs that are kept
abbrev pub IsFileOfKept : Plan → Pairs → List ℕ → Type 0
IsFileOfKept plan pairs file = IsFileOf plan.file (kept plan.read.duplicates pairs) file

-- the file is that of the pairs that the input is, as far as they are kept
abbrev pub IsFile : Plan → List ℕ → List ℕ → Type 0
IsFile plan input file = OfInput plan input (λ pairs. IsFileOfKept plan pairs file)

-- The file is that of the pairs, its kind is known, and they are counted.
pub record IsMadeOf (plan : FilePlan) (pairs : Pairs) (made : MadeFile) : Type 0 where
  pub is : IsFileOf plan pairs made.file.items
  pub kind : kind_of made.kind ≡ kind_for plan.kind pairs
  pub counted : made.keys ≡ length pairs

-- the same of those of the pairs that are kept
abbrev pub IsMadeOfKept : Plan → Pairs → MadeFile → Type 0
IsMadeOfKept plan pairs made = IsMadeOf plan.file (kept plan.read.duplicates pairs) made

-- the same of the pairs that the input is, as far as they are kept
abbrev pub IsMade : Plan → List ℕ → MadeFile → Type 0
IsMade plan input made = OfInput plan input (λ pairs. IsMadeOfKept plan pairs made)

-- the key of the pair at this index, with the number of the pair
abbrev pub IsKeyAt : (ℕ → ℕ) → Pairs → ℕ → NumberedKey → Type 0
IsKeyAt number pairs index k = (k.number ≡ number index) × (k.key.items ≡ key_at pairs index)

-- it is the first pair, by the number that it has for its number among the pairs, up to which the values of its key have a sum of 2^64 or more
abbrev pub IsTooLargeAt : (ℕ → ℕ) → Pairs → NumberedKey → Type 0
IsTooLargeAt number pairs k = (i : ℕ) × (i < length pairs) × IsKeyAt (λ j. number (number_of None j)) pairs i k
    × IsTooLarge k.key.items (take (i + 1) pairs) × ((key : List ℕ) → IsTooLarge key (take i pairs) → ⊥)

-- why the pairs that have one key are not merged: the sum of their values is too large, or an allocation failed
abbrev pub IsNotMerged : Rule → Pairs → MakeError → Type 0
IsNotMerged rule pairs (NotText other) = ⊥
IsNotMerged rule pairs (Line m bad) = ⊥
IsNotMerged rule pairs (NotJson line column) = ⊥
IsNotMerged rule pairs NotPairs = ⊥
IsNotMerged rule pairs (NotPair bad) = ⊥
IsNotMerged rule pairs (Keys s) = ⊥
IsNotMerged rule pairs (SumTooLarge k) = (rule ≡ rules.Sum) × IsTooLargeAt (λ n. n) pairs k
IsNotMerged rule pairs (Refused e) = ⊥
IsNotMerged rule pairs (IndexRefused e) = ⊥
IsNotMerged rule pairs OutOfMemory = Unit {0}

-- they are the keys that show a refusal
abbrev pub Shows : (ℕ → ℕ) → Pairs → Refusal → Shown → Type 0
Shows number pairs r s = (s.error ≡ r.error) × IsKeyAt number pairs r.first s.first × IsKeyAt number pairs r.second s.second

-- the error of an index that keys show: they don't ascend as they are to, or one comes twice
abbrev pub fault_of : Bool → ZeroTrieBuildError
fault_of true = cause.Unsorted
fault_of false = cause.DuplicateKey

-- keys show why a build of the pairs fails; of an index as they do of a trie that takes any bytes
abbrev pub AreAtFault : Content → Bool → Pairs → Refusal → Type 0
AreAtFault (a_trie kind) sorted pairs r = IsWhyRefused (route_of sorted) kind pairs (Some r)
AreAtFault an_index sorted pairs r = (r.error ≡ fault_of sorted) × IsWhyRefused (route_of sorted) perfect_hash pairs (Some r)

-- the build of a trie fails by a cause though no keys show one
abbrev pub IsTrieRefusedBy : Content → Bool → Pairs → ZeroTrieBuildError → Type 0
IsTrieRefusedBy (a_trie kind) sorted pairs e = HasCause (route_of sorted) kind pairs e × AreFaultless (route_of sorted) kind pairs
IsTrieRefusedBy an_index sorted pairs e = ⊥

-- the build of an index is
abbrev pub IsIndexRefusedBy : Content → Bool → Pairs → ZeroIndexBuildError → Type 0
IsIndexRefusedBy (a_trie kind) sorted pairs e = ⊥
IsIndexRefusedBy an_index sorted pairs e = (e ≢ unindexed.OutOfMemory) × IsIndexed {B = List ℕ} sorted (λ b. b) pairs (Err e) × Takes (route_of sorted) pairs

-- Why a build of the pairs fails: keys that show an error, a cause though no keys show one, or an allocation failed.
abbrev pub IsRefusedAs : Content → Bool → (ℕ → ℕ) → Pairs → MakeError → Type 0
IsRefusedAs content sorted number pairs (NotText other) = ⊥
IsRefusedAs content sorted number pairs (Line m bad) = ⊥
IsRefusedAs content sorted number pairs (NotJson line column) = ⊥
IsRefusedAs content sorted number pairs NotPairs = ⊥
IsRefusedAs content sorted number pairs (NotPair bad) = ⊥
IsRefusedAs content sorted number pairs (Keys s) = (r : Refusal) × AreAtFault content sorted pairs r × Shows number pairs r s
IsRefusedAs content sorted number pairs (SumTooLarge k) = ⊥
IsRefusedAs content sorted number pairs (Refused e) = IsTrieRefusedBy content sorted pairs e
IsRefusedAs content sorted number pairs (IndexRefused e) = IsIndexRefusedBy content sorted pairs e
IsRefusedAs content sorted number pairs OutOfMemory = Unit {0}

-- why the plan makes no file of pairs that are kept, which have these numbers
abbrev pub ExplainsOf : FilePlan → (ℕ → ℕ) → Pairs → MakeError → Type 0
ExplainsOf plan number pairs e = IsRefusedAs (content_of plan.form (kind_for plan.kind pairs)) plan.sorted number pairs e

-- why the plan makes no file of those of the pairs that are kept, by the number that each has for its number among the pairs: a sum of
-- their values is too large, or a build fails
abbrev pub ExplainsKept : Plan → (ℕ → ℕ) → Pairs → MakeError → Type 0
ExplainsKept plan number pairs (SumTooLarge k) = (plan.read.duplicates ≡ Sum) × IsTooLargeAt number pairs k
ExplainsKept plan number pairs e = ExplainsOf plan.file (λ i. number (number_at plan.read.duplicates pairs i)) (kept plan.read.duplicates pairs) e

-- why the plan makes no file of the input: it is another file, it is no pairs, a sum is too large, a build of its pairs fails, or an allocation failed
abbrev pub Explains : Plan → List ℕ → MakeError → Type 0
Explains plan input (NotText other) = NoPairs plan.read.source input (NotText other)
Explains plan input (Line number bad) = NoPairs plan.read.source input (Line number bad)
Explains plan input (NotJson line column) = NoPairs plan.read.source input (NotJson line column)
Explains plan input NotPairs = NoPairs plan.read.source input NotPairs
Explains plan input (NotPair bad) = NoPairs plan.read.source input (NotPair bad)
Explains plan input (Keys s) = OfInput plan input (λ pairs. ExplainsKept plan (number_in_source plan.read.source) pairs (Keys s))
Explains plan input (SumTooLarge k) = OfInput plan input (λ pairs. ExplainsKept plan (number_in_source plan.read.source) pairs (SumTooLarge k))
Explains plan input (Refused e) = OfInput plan input (λ pairs. ExplainsKept plan (number_in_source plan.read.source) pairs (Refused e))
Explains plan input (IndexRefused e) = OfInput plan input (λ pairs. ExplainsKept plan (number_in_source plan.read.source) pairs (IndexRefused e))
Explains plan input OutOfMemory = Unit {0}

-- the fault of an input as one of a plan
abbrev pub IsOfReading : ReadError → MakeError → Type 0
IsOfReading (fault.Line number bad) e = e ≡ Line number bad
IsOfReading fault.OutOfMemory e = e ≡ OutOfMemory
