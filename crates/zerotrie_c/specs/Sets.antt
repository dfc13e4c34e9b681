-- Unions, intersections and differences of tries, as C asks for them and is told of them.
use Rattle.std.specs.Prelude.{◌≡◌, ◌==◌, ◌⊎◌, ◌++◌, ℕ, List, [], ◌∷◌, length, Option, Some, None, Any, if◌then◌else◌}
use Rattle.std.specs.FinMap.{entries}
use Rattle.std.specs.List.{AllZip}
use Rattle.std.specs.Option.{option_zip}
use Rattle.zerotrie_core.specs.Kind.{Kind}
use Rattle.zerotrie_core.specs.Kinds.{kind_of as kind_that_is}
use Rattle.zerotrie_core.specs.Maps.{Pairs, Map}
use Rattle.zerotrie_core.specs.Routes.{ascending}
use Rattle.zerotrie_core.specs.Texts.{Means}
use Rattle.zerotrie_core.specs.WellFormed.{IsWellFormed}
use Rattle.zerotrie_core.specs.declared.ZeroTrieBuildError.TheVariants as build
use Rattle.zerotrie_core.specs.declared.TrieRef.{TrieRef}
use Rattle.zerotrie_sets.specs.Selections.{IsSelection, IsSelectionError}
use Rattle.zerotrie_sets.specs.declared.selection.Selection.{Selection}
use Rattle.zerotrie_sets.specs.declared.selection.Selection.TheVariants.{Union, Intersection, Difference, SymmetricDifference}
use Rattle.zerotrie_sets.specs.declared.selection.Rule.{Rule as SetRule}
use Rattle.zerotrie_sets.specs.declared.selection.Rule.TheVariants.{First, Last, Sum, Min, Max, Equal, Refuse}
use Rattle.zerotrie_sets.specs.declared.selection.RuleError.{RuleError}
use Rattle.zerotrie_sets.specs.declared.selection.RuleError.TheVariants.{SeveralValues, DifferentValues, SumTooLarge}
use Rattle.zerotrie_c.specs.Builds.{IsBuildTold}
use Rattle.zerotrie_c.specs.Listed.{joined, ends_from, values_of}
use Rattle.zerotrie_c.specs.Numbers.{kind_of}
use Rattle.zerotrie_c.specs.Statuses.{status_of, unknown_kind}
use Rattle.zerotrie_c.specs.declared.sets.Source.{Source}
use Rattle.zerotrie_c.specs.declared.sets.SetError.{SetError}
use Rattle.zerotrie_c.specs.declared.sets.SetError.TheVariants.{UnknownKind, Malformed, Rule, OutOfMemory}

-- the selection and the rule of these numbers, if each number has one
abbrev pub selection_with : ℕ → Option Selection
selection_with number =
    if number == 0 then Some Union
    else (if number == 1 then Some Intersection
    else (if number == 2 then Some Difference
    else (if number == 3 then Some SymmetricDifference else None)))

abbrev pub rule_with : ℕ → Option SetRule
rule_with number =
    if number == 0 then Some First
    else (if number == 1 then Some Last
    else (if number == 2 then Some Sum
    else (if number == 3 then Some Min
    else (if number == 4 then Some Max
    else (if number == 5 then Some Refuse
    else (if number == 6 then Some Equal else None))))))

abbrev pub plan_with : ℕ → ℕ → Option (Selection × SetRule)
plan_with selection rule = option_zip (selection_with selection) (rule_with rule)

-- the number is that of a kind, of which the bytes are a trie of these pairs
abbrev pub IsMeant : Source → Pairs → Type 0
IsMeant source pairs = (k : Kind) × (m : Map) × (kind_of source.kind ≡ Some k) × Means k source.nodes.now m × (pairs ≡ entries m)

-- the number is that of a kind, of which the bytes are no trie
abbrev pub IsNoTrie : Source → Type 0
IsNoTrie source = (k : Kind) × (kind_of source.kind ≡ Some k) × (IsWellFormed k source.nodes.now → ⊥)

-- why tries are not combined: a number is that of no kind; bytes are no trie; a key that is taken gets no value; an
-- allocation failed
abbrev pub IsSetError : Selection → SetRule → List Source → SetError → Type 0
IsSetError selection rule sources UnknownKind = Any (λ source. kind_of source.kind ≡ None) sources
IsSetError selection rule sources Malformed = Any IsNoTrie sources
IsSetError selection rule sources (Rule e) = (lists : List Pairs) × AllZip IsMeant sources lists × IsSelectionError selection rule lists e
IsSetError selection rule sources OutOfMemory = Unit {0}

-- the pairs are what is selected of the maps of the tries, and no key that is taken is an error
abbrev pub AreSelected : Selection → SetRule → List Source → Pairs → Type 0
AreSelected selection rule sources pairs = (lists : List Pairs) × AllZip IsMeant sources lists × IsSelection selection rule lists pairs
    × ((e : RuleError) → IsSelectionError selection rule lists e → ⊥)

-- the numbers of what a combination alone comes to: no selection, or no rule, has the number; the sum of the values of
-- a key is over its limit; bytes are no trie
abbrev pub unknown_selection : ℕ
unknown_selection = 24

abbrev pub sum_too_large : ℕ
sum_too_large = 25

abbrev pub malformed_trie : ℕ
malformed_trie = 26

-- an error by its number, which is that of the same error of a build, if there is one
abbrev pub set_status_of : SetError → ℕ
set_status_of UnknownKind = unknown_kind
set_status_of Malformed = malformed_trie
set_status_of (Rule SeveralValues) = status_of build.DuplicateKey
set_status_of (Rule DifferentValues) = status_of build.DuplicateKey
set_status_of (Rule SumTooLarge) = sum_too_large
set_status_of OutOfMemory = status_of build.OutOfMemory

-- what C is told of a combination: what is told of a build of the selected pairs; or an error, and then nothing is written
abbrev pub IsCombineTold : Selection → SetRule → Kind → List Source → ℕ → ℕ → ℕ → List ℕ → List ℕ → Type 0
IsCombineTold selection rule kind sources status old_len len old out =
    ((pairs : Pairs) × AreSelected selection rule sources pairs × IsBuildTold ascending kind pairs status old_len len old out)
    ⊎ ((e : SetError) × IsSetError selection rule sources e × (status ≡ set_status_of e) × (len ≡ old_len) × (out ≡ old))

-- a word of private functions: pairs are added to keys that lie one after another
abbrev pub AreAdded : Pairs → List ℕ → List ℕ → List ℕ → List ℕ → List ℕ → List ℕ → Type 0
AreAdded pairs old_keys keys old_ends ends old_values values = (keys ≡ old_keys ++ joined pairs)
    × (ends ≡ old_ends ++ ends_from (length old_keys) pairs) × (values ≡ old_values ++ values_of pairs)

-- words of private functions: the trie is that of the source; the pairs are those of the trie
abbrev pub IsTrieOf : Source → TrieRef → Type 0
IsTrieOf source trie = (kind_of source.kind ≡ Some (kind_that_is trie.kind)) × (trie.bytes.now ≡ source.nodes.now)

abbrev pub AreOfTrie : TrieRef → Pairs → Type 0
AreOfTrie trie pairs = (m : Map) × Means (kind_that_is trie.kind) trie.bytes.now m × (pairs ≡ entries m)
