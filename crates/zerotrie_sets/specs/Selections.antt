-- Unions, intersections and differences of any number of maps.
use Rattle.std.specs.Prelude.{◌≡◌, ◌⊎◌, ◌<◌, ◌≤◌, ◌+◌, ◌%◌, ◌^◌, ◌==◌, ◌&&◌, ◌≢◌, ℕ, List, [], ◌∷◌, All, Bool, true, length, map, max, min, Option, Some, None, is_some, if◌then◌else◌}
use Rattle.std.specs.List.{filter_map, reduce, slice_get}
use Rattle.std.specs.Option.{option_flatten}
use Rattle.zerotrie_core.specs.Maps.{Pairs, Ascends}
use Rattle.zerotrie_sets.specs.Merges.{Entries, value_of, if_some}
use Rattle.zerotrie_sets.specs.Rows.{Values}
use Rattle.zerotrie_sets.specs.declared.selection.Selection.{Selection}
use Rattle.zerotrie_sets.specs.declared.selection.Selection.TheVariants.{Union, Intersection, Difference, SymmetricDifference}
use Rattle.zerotrie_sets.specs.declared.selection.Rule.{Rule}
use Rattle.zerotrie_sets.specs.declared.selection.Rule.TheVariants.{First, Last, Sum, Min, Max, Equal, Refuse}
use Rattle.zerotrie_sets.specs.declared.selection.RuleError.{RuleError}
use Rattle.zerotrie_sets.specs.declared.selection.RuleError.TheVariants.{SeveralValues, DifferentValues, SumTooLarge}

-- the values that are there
abbrev pub present : Values → List ℕ
present values = filter_map (λ value. value) values

-- what a rule makes of a value and the next one
abbrev pub one_of_two : Rule → ℕ → ℕ → ℕ
one_of_two First value next = value
one_of_two Last value next = next
one_of_two Sum value next = value + next
one_of_two Min value next = min value next
one_of_two Max value next = max value next
one_of_two Equal value next = value
one_of_two Refuse value next = value

-- what a rule makes of all values of a key
abbrev pub as_one : Rule → List ℕ → Option ℕ
as_one rule values = reduce (one_of_two rule) values

-- whether a key is taken that some of all maps have, and the first one or not
abbrev pub takes : Selection → Bool → ℕ → ℕ → Bool
takes Union first some all = true
takes Intersection first some all = some == all
takes Difference first some all = first && some == 1
takes SymmetricDifference first some all = some % 2 == 1

-- the same of what each map has
abbrev pub is_taken : Selection → Values → Bool
is_taken selection values = takes selection (is_some (option_flatten (slice_get values 0))) (length (present values)) (length values)

-- the value of a key, of what each map has
abbrev pub selected : Selection → Rule → Values → Option ℕ
selected selection rule values = if is_taken selection values then as_one rule (present values) else None

-- they are all one value
abbrev pub AreSame : List ℕ → Type 0
AreSame values = (one : ℕ) × All (λ value. value ≡ one) values

-- why values are not made one
abbrev pub IsNoOne : Rule → List ℕ → RuleError → Type 0
IsNoOne rule values SeveralValues = (rule ≡ Refuse) × (1 < length values)
IsNoOne rule values DifferentValues = (rule ≡ Equal) × (AreSame values → ⊥)
IsNoOne rule values SumTooLarge = (rule ≡ Sum) × (n : ℕ) × (as_one rule values ≡ Some n) × (2 ^ 64 ≤ n)

-- why a key that is taken gets no value
abbrev pub IsRuleError : Selection → Rule → Values → RuleError → Type 0
IsRuleError selection rule values e = (is_taken selection values ≡ true) × IsNoOne rule (present values) e

-- The pairs ascend, and have for each key what is selected of the lists' values.
pub record IsSelection (selection : Selection) (rule : Rule) (lists : List Pairs) (pairs : Pairs) : Type 0 where
  pub ascends : Ascends pairs
  pub values : (key : List ℕ) → value_of key pairs ≡ selected selection rule (map (value_of key) lists)

-- some key that is taken gets no value
abbrev pub IsSelectionError : Selection → Rule → List Pairs → RuleError → Type 0
IsSelectionError selection rule lists e = (key : List ℕ) × IsRuleError selection rule (map (value_of key) lists) e

-- what is selected of the rows of a merge
abbrev pub selected_rows : Selection → Rule → Entries Values → Pairs
selected_rows selection rule [] = []
selected_rows selection rule (row ∷ rows) = if_some row.0 (selected selection rule row.1) (selected_rows selection rule rows)

-- some row is an error
abbrev pub SomeRowErrs : Selection → Rule → Entries Values → RuleError → Type 0
SomeRowErrs selection rule [] e = ⊥
SomeRowErrs selection rule (row ∷ rows) e = IsRuleError selection rule row.1 e ⊎ SomeRowErrs selection rule rows e

-- words of private functions: what is made of the values before and of the next one
abbrev pub one_more : Rule → Option ℕ → Option ℕ → Option ℕ
one_more rule None next = next
one_more rule (Some value) None = Some value
one_more rule (Some value) (Some next) = Some (one_of_two rule value next)

-- why nothing is made of two values
abbrev pub IsNoOneOfTwo : Rule → ℕ → ℕ → RuleError → Type 0
IsNoOneOfTwo rule value next SeveralValues = rule ≡ Refuse
IsNoOneOfTwo rule value next DifferentValues = (rule ≡ Equal) × (value ≢ next)
IsNoOneOfTwo rule value next SumTooLarge = (rule ≡ Sum) × (2 ^ 64 ≤ value + next)

abbrev pub IsNoNext : Rule → Option ℕ → Option ℕ → RuleError → Type 0
IsNoNext rule one next e = (value : ℕ) × (other : ℕ) × (one ≡ Some value) × (next ≡ Some other) × IsNoOneOfTwo rule value other e

-- the value, if there is one, is one of 64 bits
abbrev pub IsSmall : Option ℕ → Type 0
IsSmall None = Unit {0}
IsSmall (Some value) = value < 2 ^ 64

-- not both are there
abbrev pub HasNoTwo : Option ℕ → Option ℕ → Type 0
HasNoTwo None next = Unit {0}
HasNoTwo (Some value) next = next ≡ None

-- both are the same, if both are there
abbrev pub HasSame : Option ℕ → Option ℕ → Type 0
HasSame None next = Unit {0}
HasSame (Some value) None = Unit {0}
HasSame (Some value) (Some next) = value ≡ next
