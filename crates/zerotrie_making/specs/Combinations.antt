-- Which file is made of what a combination takes of maps, and why none is.
use Rattle.std.specs.Prelude.{◌≡◌, ◌⊎◌, ◌==◌, ◌++◌, ℕ, List, [], ◌∷◌, map, Option, Some, None, Bool, false, if◌then◌else◌}
use Rattle.std.specs.List.{list_all, AllZip}
use Rattle.std.specs.FinMap.{entries}
use Rattle.zerotrie_core.specs.Kind.{flags, tag}
use Rattle.zerotrie_core.specs.Kinds.{kind_of}
use Rattle.zerotrie_core.specs.Maps.{Pairs, Map}
use Rattle.zerotrie_core.specs.Texts.{Means}
use Rattle.zerotrie_core.specs.declared.TrieKind.{TrieKind}
use Rattle.zerotrie_core.specs.declared.TrieRef.{TrieRef}
use Rattle.zerotrie_queries.specs.Recased.{recased}
use Rattle.zerotrie_sets.specs.Merges.{value_of}
use Rattle.zerotrie_sets.specs.Rows.{Values}
use Rattle.zerotrie_sets.specs.Selections.{IsSelection, IsRuleError}
use Rattle.zerotrie_sets.specs.declared.selection.RuleError.{RuleError}
use Rattle.zerotrie_making.specs.Kept.{number_of}
use Rattle.zerotrie_making.specs.Made.{IsMadeOf, ExplainsOf}
use Rattle.zerotrie_making.specs.declared.plan.Combination.{Combination}
use Rattle.zerotrie_making.specs.declared.plan.FilePlan.{FilePlan}
use Rattle.zerotrie_making.specs.declared.plan.Made.{Made}
use Rattle.zerotrie_making.specs.declared.error.MakeError.TheVariants.{OutOfMemory}
use Rattle.zerotrie_making.specs.declared.error.CombinationError.{CombinationError}
use Rattle.zerotrie_making.specs.declared.error.CombinationError.TheVariants.{NoValue, NotMade}

-- a map, and the kind of the trie that means it
abbrev pub Meant : Type 0
Meant = TrieKind × Map

abbrev pub IsMeant : TrieRef → Meant → Type 0
IsMeant trie m = (trie.kind ≡ m.0) × Means (kind_of m.0) trie.bytes.now m.1

-- the fact holds of what the tries mean
abbrev pub OfMeant : List TrieRef → (List Meant → Type 0) → Type 0
OfMeant tries Fact = (maps : List Meant) → AllZip IsMeant tries maps → Fact maps

-- all tries ignore case
abbrev pub all_ignore : List Meant → Bool
all_ignore maps = list_all (λ m. (flags (kind_of m.0)).ignore_case) maps

-- the pairs of a map, each key in the case of the first of these maps that has it
abbrev pub in_case_of : List Meant → Meant → Pairs
in_case_of [] m = entries m.1
in_case_of (first ∷ maps) m = recased (kind_of first.0) (kind_of m.0) first.1 m.1 (in_case_of maps m)

-- the pairs of each of the maps, in the case of those before it
abbrev pub in_first_case : List Meant → List Meant → List Pairs
in_first_case before [] = []
in_first_case before (m ∷ maps) = in_case_of before m ∷ in_first_case (before ++ m ∷ []) maps

-- what is merged: the pairs of each map; if all tries ignore case, each key in the case of the first map that has it
abbrev pub listed : List Meant → List Pairs
listed maps = if all_ignore maps then in_first_case [] maps else map (λ m. entries m.1) maps

-- this key is taken, and gets no value: why
abbrev pub HasNoValue : Combination → List Meant → List ℕ → RuleError → Type 0
HasNoValue c maps key why = IsRuleError c.selection c.rule (map (value_of key) (listed maps)) why

-- the kind that is asked for: the one that is named, or else the one that all tries have, which is known by its number
abbrev pub kind_kept : Option TrieKind → List TrieKind → Option TrieKind
kind_kept (Some kind) kinds = Some kind
kind_kept None [] = None
kind_kept None (k ∷ kinds) = if list_all (λ j. tag (kind_of j) == tag (kind_of k)) kinds then Some k else None

-- what file is made of the pairs of a combination, which may have any order
abbrev pub plan_of : Combination → List Meant → FilePlan
plan_of c maps = record { kind = kind_kept c.kind (map (λ m. m.0) maps); sorted = false; form = c.form }

-- the fact holds of the pairs that a combination takes of maps, in which no key that is taken lacks a value
pub record OfTaken (c : Combination) (maps : List Meant) (Fact : Pairs → Type 0) : Type 0 where
  pub pairs : Pairs
  pub taken : IsSelection c.selection c.rule (listed maps) pairs
  pub valued : (key : List ℕ) (why : RuleError) → HasNoValue c maps key why → ⊥
  pub fact : Fact pairs

-- the file is that of a combination of maps
abbrev pub IsMadeOfMaps : Combination → List Meant → Made → Type 0
IsMadeOfMaps c maps made = OfTaken c maps (λ pairs. IsMadeOf (plan_of c maps) pairs made)

-- why no file is made of a combination of maps: a key gets no value, an allocation failed, or a build of its pairs fails
abbrev pub ExplainsMaps : Combination → List Meant → CombinationError → Type 0
ExplainsMaps c maps (NoValue why key) = HasNoValue c maps key.items why
ExplainsMaps c maps (NotMade e) = (e ≡ OutOfMemory) ⊎ OfTaken c maps (λ pairs. ExplainsOf (plan_of c maps) (number_of None) pairs e)

-- words of private functions: the pairs are those that a combination takes of lists, in which no key that is taken lacks a value
pub record AreTaken (c : Combination) (lists : List Pairs) (pairs : Pairs) : Type 0 where
  pub taken : IsSelection c.selection c.rule lists pairs
  pub valued : (key : List ℕ) (why : RuleError) → IsRuleError c.selection c.rule (map (value_of key) lists) why → ⊥

-- why a combination takes no pairs of lists: this key is taken and gets no value, or an allocation failed
abbrev pub IsNotTaken : Combination → List Pairs → CombinationError → Type 0
IsNotTaken c lists (NoValue why key) = IsRuleError c.selection c.rule (map (value_of key.items) lists) why
IsNotTaken c lists (NotMade e) = e ≡ OutOfMemory

-- why the key of a row is not added: it is taken and gets no value, or an allocation failed
abbrev pub IsNotAdded : Combination → List ℕ × Values → CombinationError → Type 0
IsNotAdded c row (NoValue why key) = (key.items ≡ row.0) × IsRuleError c.selection c.rule row.1 why
IsNotAdded c row (NotMade e) = e ≡ OutOfMemory
