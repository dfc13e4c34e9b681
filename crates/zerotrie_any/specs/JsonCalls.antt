-- What the calls that read JSON answer.
use Rattle.std.specs.Prelude.{◌≡◌, ℕ, ◌⊎◌, suc, List, Option, Some, None, Result, Ok, Err, option_map, option_and_then}
use Rattle.serde_json.specs.Data.{Data, Items, no_items, item, Members, no_members, member}
use Rattle.serde_json.specs.Find.{as_array, as_object}
use Rattle.zerotrie_core.specs.Kind.{Kind}
use Rattle.zerotrie_core.specs.Maps.{Pairs}
use Rattle.zerotrie_core.specs.Routes.{any_order, HasCause, IsBuild}
use Rattle.zerotrie_core.specs.declared.ZeroTrieBuildError.{ZeroTrieBuildError}
use Rattle.zerotrie_any.specs.Json.{number_in, pair_in, pairs_in}
use Rattle.zerotrie_any.specs.declared.json.JsonError.{JsonError}
use Rattle.zerotrie_any.specs.declared.json.no_pair.NoPair.{NoPair}

-- What reading answers: what is there, or that nothing is. If it is out of memory, neither is said.
abbrev pub IsReading : {A B : Type 0} → (B → A) → Option A → Result B JsonError → Type 0
IsReading seen there (Ok b) = there ≡ Some (seen b)
IsReading seen there (Err JsonError.Shape) = there ≡ None
IsReading seen there (Err (JsonError.Build e)) = ⊥
IsReading seen there (Err JsonError.OutOfMemory) = Unit {0}

-- 1 if nothing is read, and else one more than the number among the rest, if one of these has it
abbrev pub first_or_later : {A : Type 0} → Option A → Option ℕ → Option ℕ
first_or_later None later = Some 1
first_or_later (Some a) later = option_map suc later

-- the number, from 1 on, of the first item in which nothing is read
abbrev pub first_unread : {A : Type 0} → (Data → Option A) → Items → Option ℕ
first_unread read no_items = None
first_unread read (item d ds) = first_or_later (read d) (first_unread read ds)

-- the name, if nothing is read, and else that among the rest
abbrev pub name_or_later : {A : Type 0} → Option A → List ℕ → Option (List ℕ) → Option (List ℕ)
name_or_later None name later = Some name
name_or_later (Some a) name later = later

-- the name of the first member whose value is no whole number
abbrev pub first_member : Members → Option (List ℕ)
first_member no_members = None
first_member (member k d ms) = name_or_later (number_in d) k (first_member ms)

-- the first member or item of a value that is no pair, or none if each is one or the value has none
abbrev pub IsFirstNoPair : Data → Option NoPair → Type 0
IsFirstNoPair d (Some (NoPair.Member name)) = option_and_then first_member (as_object d) ≡ Some name.now
IsFirstNoPair d (Some (NoPair.Item number)) = option_and_then (first_unread pair_in) (as_array d) ≡ Some number
IsFirstNoPair d None = (option_and_then first_member (as_object d) ≡ None) × (option_and_then (first_unread pair_in) (as_array d) ≡ None)

-- there are pairs in the value, and the fact holds of them
abbrev pub HasPairs : Data → (Pairs → Type 0) → Type 0
HasPairs d Fact = (pairs : Pairs) × (pairs_in d ≡ Some pairs) × Fact pairs

-- What reading a value as a trie answers, of the kind that is taken for its pairs: a build of the pairs in it, or
-- that there are none.
abbrev pub IsBuildOfJson : {B : Type 0} → (Pairs → Kind) → (B → List ℕ) → Data → Result B JsonError → Type 0
IsBuildOfJson kind bytes d (Ok b) = HasPairs d (λ pairs. IsBuild any_order (kind pairs) bytes pairs (Ok b))
IsBuildOfJson kind bytes d (Err JsonError.Shape) = pairs_in d ≡ None
IsBuildOfJson kind bytes d (Err (JsonError.Build e)) = HasPairs d (λ pairs. HasCause any_order (kind pairs) pairs e)
IsBuildOfJson kind bytes d (Err JsonError.OutOfMemory) = Unit {0}

-- a refusal of a build as one of a reading: out of memory is a case of its own, all else is held
abbrev pub IsOfBuild : ZeroTrieBuildError → JsonError → Type 0
IsOfBuild e j = ((e ≡ ZeroTrieBuildError.OutOfMemory) × (j ≡ JsonError.OutOfMemory))
    ⊎ ((e ≡ ZeroTrieBuildError.OutOfMemory → ⊥) × (j ≡ JsonError.Build e))
