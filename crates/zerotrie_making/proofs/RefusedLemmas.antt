-- A build that has a cause of an error returns no bytes.
use Rattle.std.proofs.Common.{◌≡◌, ℕ, zero, suc, ◌^◌, ◌<◌, ◌≤◌, List, [], ◌∷◌, length, get_or, Bool, true, false, Some, refl, sym, ◌∙◌, ap, subst, arith, inl, inr}
use Rattle.std.specs.Prelude.{◌≢◌, ◌==◌, All, Any}
use Rattle.std.specs.FinMap.{entries}
use Rattle.std.proofs.lemmas.Bool.{cases_Bool}
use Rattle.zerotrie_core.specs.Kind.{Kind, simple_ascii, perfect_hash, same_byte, edge_limit}
use Rattle.zerotrie_core.specs.Maps.{Pairs, map_of, value_at, same_key, common_front, IsCaseConsistent, RepeatsKey}
use Rattle.zerotrie_core.specs.Fits.{Fits, ExceedsCapacity}
use Rattle.zerotrie_core.specs.Built.{IsBuilt}
use Rattle.zerotrie_core.specs.Routes.{Route, ascending, in_order, any_order, Takes, HasCause}
use Rattle.zerotrie_core.specs.declared.ZeroTrieBuildError.{ZeroTrieBuildError}
use Rattle.zerotrie_core.specs.declared.ZeroTrieBuildError.TheVariants.{NonAsciiError, CapacityExceeded, CouldNotSolvePerfectHash, MixedCase, IllegalDelimiter, DuplicateKey, Unsorted, BufferTooSmall, BufferTooLarge, StackExceeded, OutOfMemory as NoMemory}
use Rattle.zerotrie_core.proofs.CallerLemmas.{same-entries, exact_same, first_found, ascends_apart}
use Rattle.zerotrie_build.specs.Refused.{AreShown}
use Rattle.zerotrie_build.specs.declared.refusal.Refusal.{Refusal}
use Rattle.zerotrie_index.specs.Built.{IsIndexOf, IndexCause, IndexExcludesCauses}
use Rattle.zerotrie_index.specs.declared.error.ZeroIndexBuildError.{ZeroIndexBuildError}
use Rattle.zerotrie_index.specs.declared.error.ZeroIndexBuildError.TheVariants as index_error
use Rattle.zerotrie_lines.specs.Laws.{OneReading, BadIsUnread}
use Rattle.zerotrie_lines.specs.Tables.{lowered}
use Rattle.zerotrie_making.specs.Plans.{Content, a_trie, an_index, content_of, route_of, kind_for}
use Rattle.zerotrie_making.specs.Kept.{kept}
use Rattle.zerotrie_making.specs.Sources.{IsPairs, number_in_source}
use Rattle.zerotrie_making.specs.Json.{pairs_in}
use Rattle.zerotrie_making.specs.Made.{OfInput, AreAtFault, ExplainsKept, IsBuiltAs, IsTooLargeAt, IsFile, IsFileOfKept, IsIndexRefusedBy, IsTrieRefusedBy}
use Rattle.zerotrie_making.specs.Laws.{RefusedMakesNoFile}
use Rattle.zerotrie_making.specs.declared.plan.Plan.{Plan}
use Rattle.zerotrie_making.specs.declared.plan.Source.{Source}
use Rattle.zerotrie_making.specs.declared.plan.Source.TheVariants.{Text, Json, JsonLines}
use Rattle.zerotrie_making.specs.declared.error.MakeError.{MakeError}
use Rattle.zerotrie_making.specs.declared.error.MakeError.TheVariants.{NotText, Line, NotJson, NotPairs, NotPair, Keys, SumTooLarge, Refused, IndexRefused, OutOfMemory}
use Rattle.zerotrie_making.specs.declared.duplicates.Duplicates.{Duplicates}
use Rattle.zerotrie_making.specs.declared.duplicates.Duplicates.TheVariants.{Sum}
use Rattle.zerotrie_making.specs.declared.error.NumberedKey.{NumberedKey}
use Rattle.zerotrie_making.proofs.SmallLemmas.{trie_small, index_small, no_large}
use Rattle.zerotrie_making.proofs.UnreadLemmas.{some_is, no_file}

-- a value is found at the key of each pair
each_found : (pairs : Pairs) (i : ℕ) (d : List ℕ × ℕ) → i < length pairs → (v : ℕ) × (value_at simple_ascii pairs (get_or pairs i d).0 ≡ Some v)
each_found [] i d h = absurd (omega (arith, h))
each_found (e ∷ pairs) zero d h = (e.1, first_found e pairs)
each_found (e ∷ pairs) (suc i) d h =
    let later = each_found pairs i d (omega (arith, h)) in
    elim (cases_Bool (same_key simple_ascii e.0 (get_or pairs i d).0)) [
      | inl same ↦ (e.1, rw same refl)
      | inr other ↦ (later.0, rw other later.1)
    ]

-- what holds of all keys holds of one at which a value is found
found_holds : (P : List ℕ → Type 0) (pairs : Pairs) (key : List ℕ) (v : ℕ) → All (λ e. P e.0) pairs → value_at simple_ascii pairs key ≡ Some v → P key
found_holds P [] key v all found = absurd (cc)
found_holds P (e ∷ pairs) key v all found =
    elim (cases_Bool (same_key simple_ascii e.0 key)) [
      | inl same ↦ subst P (exact_same e.0 key same) (all 0 e (omega arith))
      | inr other ↦ found_holds P pairs key v (λ i d l. all (suc i) d (omega (arith, l))) (rw other at found)
    ]

-- what holds of the keys of a map holds of those of the pairs
keys_hold : (P : List ℕ → Type 0) (pairs : Pairs) → All (λ e. P e.0) (entries (map_of pairs)) → All (λ e. P e.0) pairs
keys_hold P pairs all i d h =
    let f = each_found pairs i d h in
    found_holds P (entries (map_of pairs)) (get_or pairs i d).0 f.0 all (same-entries pairs (get_or pairs i d).0 ∙ f.1)

abbrev Agree : Kind → List ℕ → List ℕ → Type 0
Agree kind k l = common_front (same_byte kind) k l ≡ common_front (λ a b. a == b) k l

agreeing : (kind : Kind) (pairs : Pairs) → IsCaseConsistent kind (entries (map_of pairs)) → IsCaseConsistent kind pairs
agreeing kind pairs all =
    keys_hold (λ k. All (λ f. Agree kind k f.0) pairs) pairs (λ i d h. keys_hold (Agree kind (get_or (entries (map_of pairs)) i d).0) pairs (all i d h))

all_any : {X : Type 0} (P Q : X → Type 0) (xs : List X) → All P xs → Any Q xs → ((x : X) → P x → Q x → ⊥) → ⊥
all_any P Q xs all any never = never any.1 (subst P any.3 (all any.0 any.1 any.2)) any.4

low_keys : (kind : Kind) (pairs : Pairs) → All (λ e. All (λ b. b < edge_limit kind) e.0) (entries (map_of pairs)) → Any (λ e. Any (λ b. edge_limit kind ≤ b) e.0) pairs → ⊥
low_keys kind pairs low high =
    all_any (λ e. All (λ b. b < edge_limit kind) e.0) (λ e. Any (λ b. edge_limit kind ≤ b) e.0) pairs (keys_hold (λ k. All (λ b. b < edge_limit kind) k) pairs low) high
    (λ e l h. all_any (λ b. b < edge_limit kind) (λ b. edge_limit kind ≤ b) e.0 l h (λ b below above. omega (arith, below, above)))

within : (kind : Kind) (pairs : Pairs) → Fits kind (map_of pairs) → ExceedsCapacity kind (map_of pairs) → ⊥
within kind pairs fits too = elim too [
  | inl long ↦ let short = fits.short in absurd (omega (arith, long, short))
  | inr wide ↦ let narrow = fits.narrow wide.0 wide.1.0 in let reach = wide.1.1 in absurd (omega (arith, narrow, reach))
]

distinct : (route : Route) (pairs : Pairs) → Takes route pairs → RepeatsKey pairs → ⊥
distinct ascending pairs takes twice = ascends_apart pairs takes twice
distinct in_order pairs takes twice = ascends_apart pairs takes twice
distinct any_order pairs takes twice = takes twice

no_cause : (route : Route) (kind : Kind) (pairs : Pairs) (bytes : List ℕ) (e : ZeroTrieBuildError)
    → Takes route pairs → IsBuilt kind pairs bytes → HasCause route kind pairs e → e ≢ CouldNotSolvePerfectHash → ⊥
no_cause route kind pairs bytes NonAsciiError takes built cause other = low_keys kind pairs built.fits.key_bytes cause.1
no_cause route kind pairs bytes CapacityExceeded takes built cause other = within kind pairs built.fits cause.1.1
no_cause route kind pairs bytes MixedCase takes built cause other = cause.1 (agreeing kind pairs built.fits.case)
no_cause route kind pairs bytes DuplicateKey takes built cause other = distinct route pairs takes cause.1
no_cause ascending kind pairs bytes Unsorted takes built cause other = cause.1 takes
no_cause in_order kind pairs bytes Unsorted takes built cause other = cause.1 takes
no_cause any_order kind pairs bytes Unsorted takes built cause other = cause.0 refl
no_cause route kind pairs bytes CouldNotSolvePerfectHash takes built cause other = other refl
no_cause route kind pairs bytes IllegalDelimiter takes built cause other = cause.1
no_cause route kind pairs bytes BufferTooSmall takes built cause other = cause.1
no_cause route kind pairs bytes (BufferTooLarge needed) takes built cause other = cause.1
no_cause route kind pairs bytes StackExceeded takes built cause other = cause.1
no_cause route kind pairs bytes NoMemory takes built cause other = cause.1

-- no keys show that a search found no table
none_searched : (kind : Kind) (pairs : Pairs) (e : ZeroTrieBuildError) (first second : ℕ) → AreShown kind pairs e first second → e ≢ CouldNotSolvePerfectHash
none_searched kind pairs e first second shown is = subst (λ x. AreShown kind pairs x first second) is shown

-- what was built is an index of the pairs
is_index : (sorted : Bool) (pairs : Pairs) (bytes : List ℕ) → IsBuiltAs an_index sorted pairs bytes → IsIndexOf pairs bytes
is_index true pairs bytes built = built.1.0
is_index false pairs bytes built = built.0

-- keys of an index are not at fault
no_fault : IndexExcludesCauses → (sorted : Bool) (pairs : Pairs) (bytes : List ℕ) (r : Refusal) → IsBuiltAs an_index sorted pairs bytes → AreAtFault an_index sorted pairs r → ⊥
no_fault excludes true pairs bytes r built fault = (subst (λ e. HasCause ascending perfect_hash pairs e) fault.0 fault.1.1).1 built.0
no_fault excludes false pairs bytes r built fault = (excludes pairs bytes built.0).0 ((subst (λ e. HasCause any_order perfect_hash pairs e) fault.0 fault.1.1).1)

-- nor do the pairs of an index have another cause but that they crowd
no_index_cause : IndexExcludesCauses → (pairs : Pairs) (bytes : List ℕ) (e : ZeroIndexBuildError) → IsIndexOf pairs bytes → e ≢ index_error.OutOfMemory → e ≢ index_error.Crowded → IndexCause 0 pairs e → ⊥
no_index_cause excludes pairs bytes index_error.Unsorted is some other cause = cause
no_index_cause excludes pairs bytes index_error.DuplicateKey is some other cause = (excludes pairs bytes is).0 cause
no_index_cause excludes pairs bytes index_error.Crowded is some other cause = other refl
no_index_cause excludes pairs bytes index_error.CapacityExceeded is some other cause = let short = (excludes pairs bytes is).1 in omega (arith, short, cause)
no_index_cause excludes pairs bytes index_error.OutOfMemory is some other cause = some refl

-- the keys of what was built are not at fault
keys_never : IndexExcludesCauses → (content : Content) (sorted : Bool) (pairs : Pairs) (bytes : List ℕ) (r : Refusal) → IsBuiltAs content sorted pairs bytes → AreAtFault content sorted pairs r → ⊥
keys_never excludes (a_trie kind) sorted pairs bytes r built why =
    no_cause (route_of sorted) kind pairs bytes r.error built.0 built.1 why.1 (none_searched kind pairs r.error r.first r.second why.0)
keys_never excludes an_index sorted pairs bytes r built why = no_fault excludes sorted pairs bytes r built why

-- no trie was built for which another cause holds
trie_never : (content : Content) (sorted : Bool) (pairs : Pairs) (bytes : List ℕ) (e : ZeroTrieBuildError) → IsBuiltAs content sorted pairs bytes → IsTrieRefusedBy content sorted pairs e
    → e ≢ CouldNotSolvePerfectHash → ⊥
trie_never (a_trie kind) sorted pairs bytes e built why other = no_cause (route_of sorted) kind pairs bytes e built.0 built.1 why.0 other
trie_never an_index sorted pairs bytes e built why other = why

-- and no index
index_never : IndexExcludesCauses → (content : Content) (sorted : Bool) (pairs : Pairs) (bytes : List ℕ) (e : ZeroIndexBuildError) → IsBuiltAs content sorted pairs bytes → IsIndexRefusedBy content sorted pairs e
    → e ≢ index_error.Crowded → ⊥
index_never excludes (a_trie kind) sorted pairs bytes e built why other = why
index_never excludes an_index true pairs bytes e built why other = elim why.1 [
  | inl unsorted ↦ unsorted.1 built.0
  | inr cause ↦ no_index_cause excludes pairs bytes e built.1.0 why.0 other cause.2
]
index_never excludes an_index false pairs bytes e built why other = no_index_cause excludes pairs bytes e built.0 why.0 other why.1

-- values of pairs of which something was built are below 2^64
built_small : (content : Content) (sorted : Bool) (pairs : Pairs) (bytes key : List ℕ) (v : ℕ) → IsBuiltAs content sorted pairs bytes → value_at simple_ascii pairs key ≡ Some v → v < 2 ^ 64
built_small (a_trie kind) sorted pairs bytes key v built found = trie_small kind pairs bytes key v built.1 found
built_small an_index sorted pairs bytes key v built found = index_small pairs bytes key v (is_index sorted pairs bytes built) found

-- so none is of pairs that have a sum that is too large
sum_never : (content : Content) (sorted : Bool) (duplicates : Duplicates) (number : ℕ → ℕ) (pairs : Pairs) (bytes : List ℕ) (k : NumberedKey) → IsBuiltAs content sorted (kept duplicates pairs) bytes → duplicates ≡ Sum → IsTooLargeAt number pairs k → ⊥
sum_never content sorted duplicates number pairs bytes k built is large =
    let merged = subst (λ d. IsBuiltAs content sorted (kept d pairs) bytes) is built in
    no_large number pairs k large (λ key v found. built_small content sorted (kept Sum pairs) bytes key v merged found)

-- an input is one list of pairs at most
one_list : OneReading → (source : Source) (input : List ℕ) (pairs others : Pairs) → IsPairs source input pairs → IsPairs source input others → others ≡ pairs
one_list one (Text form) input pairs others h k = one form input pairs others h k
one_list one Json input pairs others h k =
    let same : h.0 ≡ k.0 = some_is h.0 k.0 (sym h.1.1 ∙ k.1.1) in
    some_is others pairs (sym k.2 ∙ ap pairs_in (sym same) ∙ h.2)
one_list one (JsonLines names) input pairs others h k = some_is others pairs (sym k ∙ h)

-- the pairs that explain are those of the file
of_one : OneReading → (plan : Plan) (input file : List ℕ) (e : MakeError) → OfInput plan input (λ pairs. ExplainsKept plan (number_in_source plan.read.source) pairs e) → IsFile plan input file
    → (pairs : Pairs) × ExplainsKept plan (number_in_source plan.read.source) pairs e × IsFileOfKept plan pairs file
of_one one plan input file e h made =
    (_, h.3, subst (λ ps. IsFileOfKept plan (lowered plan.read.lower_case ps) file) (one_list one plan.read.source input h.1 made.1 h.2 made.2) made.3)

pub refused : OneReading → BadIsUnread → IndexExcludesCauses → RefusedMakesNoFile
refused one bad excludes plan input file (NotText kind) h some other crowd made = no_file bad plan.read.source input (NotText kind) made.1 made.0 h some made.2
refused one bad excludes plan input file (Line number fault) h some other crowd made = no_file bad plan.read.source input (Line number fault) made.1 made.0 h some made.2
refused one bad excludes plan input file (NotJson line column) h some other crowd made = no_file bad plan.read.source input (NotJson line column) made.1 made.0 h some made.2
refused one bad excludes plan input file NotPairs h some other crowd made = no_file bad plan.read.source input NotPairs made.1 made.0 h some made.2
refused one bad excludes plan input file (NotPair why) h some other crowd made = no_file bad plan.read.source input (NotPair why) made.1 made.0 h some made.2
refused one bad excludes plan input file (Keys s) h some other crowd made =
    let o = of_one one plan input file (Keys s) h made in
    let ps = kept plan.read.duplicates o.0 in
    keys_never excludes (content_of plan.file.form (kind_for plan.file.kind ps)) plan.file.sorted ps o.2.bytes o.1.0 o.2.build o.1.1
refused one bad excludes plan input file (SumTooLarge k) h some other crowd made =
    let o = of_one one plan input file (SumTooLarge k) h made in
    let ps = kept plan.read.duplicates o.0 in
    sum_never (content_of plan.file.form (kind_for plan.file.kind ps)) plan.file.sorted plan.read.duplicates (number_in_source plan.read.source) o.0 o.2.bytes k o.2.build o.1.0 o.1.1
refused one bad excludes plan input file (Refused e) h some other crowd made =
    let o = of_one one plan input file (Refused e) h made in
    let ps = kept plan.read.duplicates o.0 in
    trie_never (content_of plan.file.form (kind_for plan.file.kind ps)) plan.file.sorted ps o.2.bytes e o.2.build o.1 (λ is. other (ap Refused is))
refused one bad excludes plan input file (IndexRefused e) h some other crowd made =
    let o = of_one one plan input file (IndexRefused e) h made in
    let ps = kept plan.read.duplicates o.0 in
    index_never excludes (content_of plan.file.form (kind_for plan.file.kind ps)) plan.file.sorted ps o.2.bytes e o.2.build o.1 (λ is. crowd (ap IndexRefused is))
refused one bad excludes plan input file OutOfMemory h some other crowd made = some refl
