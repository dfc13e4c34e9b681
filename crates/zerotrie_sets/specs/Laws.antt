-- Laws of the definitions alone.
use Rattle.std.specs.Prelude.{◌≡◌, ◌↔◌, ℕ, List, []}
use Rattle.zerotrie_core.specs.Maps.{Pairs, Ascends}
use Rattle.zerotrie_sets.specs.Merges.{Entries, Both, joined, chosen, value_of, both, KeysAscend}
use Rattle.zerotrie_sets.specs.Rows.{all_joined, EachAscends, IsMergeAll}
use Rattle.zerotrie_sets.specs.declared.combined.Operation.{Operation}
use Rattle.zerotrie_sets.specs.Operations.{choose, IsCombined}
use Rattle.zerotrie_sets.specs.Changes.{changes, IsDiff}
use Rattle.zerotrie_sets.specs.declared.selection.Selection.{Selection}
use Rattle.zerotrie_sets.specs.declared.selection.Rule.{Rule}
use Rattle.zerotrie_sets.specs.declared.selection.RuleError.{RuleError}
use Rattle.zerotrie_sets.specs.Selections.{selected_rows, SomeRowErrs, IsSelection, IsSelectionError}

-- The rows of a merge ascend, and have for each key what the two lists have.
pub record IsMerge (first second : Pairs) (rows : Entries (Both ℕ ℕ)) : Type 0 where
  pub ascends : KeysAscend rows
  pub values : (key : List ℕ) → value_of key rows ≡ both (value_of key first) (value_of key second)

-- a merge of ascending lists
abbrev pub RowsAreOfMaps : Type 0
RowsAreOfMaps = (first second : Pairs) → Ascends first → Ascends second → IsMerge first second (joined first second)

-- a merge of any number of ascending lists
abbrev pub RowsOfAllAreOfMaps : Type 0
RowsOfAllAreOfMaps = (lists : List Pairs) → EachAscends lists → IsMergeAll lists (all_joined lists)

-- a selection of any number of ascending lists
abbrev pub SelectionsAreOfMaps : Type 0
SelectionsAreOfMaps = (selection : Selection) (rule : Rule) (lists : List Pairs) → EachAscends lists
    → IsSelection selection rule lists (selected_rows selection rule (all_joined lists))

-- a row is an error exactly if its key is one
abbrev pub RowErrorsAreOfKeys : Type 0
RowErrorsAreOfKeys = (selection : Selection) (rule : Rule) (lists : List Pairs) (e : RuleError) → EachAscends lists
    → SomeRowErrs selection rule (all_joined lists) e ↔ IsSelectionError selection rule lists e

-- a combination of ascending lists
abbrev pub CombinedAreMaps : Type 0
CombinedAreMaps = (operation : Operation) (first second : Pairs) → Ascends first → Ascends second
    → IsCombined operation first second (chosen (choose operation) (joined first second))

-- the changes from one ascending list to another
abbrev pub DiffsAreOfMaps : Type 0
DiffsAreOfMaps = (first second : Pairs) → Ascends first → Ascends second → IsDiff first second (changes first second)

-- nothing changed exactly if the lists are equal
abbrev pub NoChange : Type 0
NoChange = (first second : Pairs) → (changes first second ≡ []) ↔ (first ≡ second)
