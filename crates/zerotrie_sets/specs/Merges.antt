-- Merges of lists of pairs, and what is made of their rows.
use Rattle.std.specs.Prelude.{◌≡◌, ℕ, List, [], ◌∷◌, Option, Some, None}
use Rattle.std.specs.Ordering.{nat_cmp, match_ordering}
use Rattle.std.specs.Cmp.Lexicographic.{slice_cmp}
use Rattle.std.specs.FinMap.{find}
use Rattle.std.specs.declared.cmp.Ordering.TheVariants.{Less}
use Rattle.zerotrie_sets.specs.Streams.{Coming}

-- keys with what belongs to each
abbrev pub Entries : Type 0 → Type 0
Entries V = List (List ℕ × V)

-- what two inputs have for a key
abbrev pub Both : Type 0 → Type 0 → Type 0
Both U V = Option U × Option V

-- a row for a key, unless neither input has it
abbrev pub both : {U V : Type 0} → Option U → Option V → Option (Both U V)
both None None = None
both None (Some v) = Some (None, Some v)
both (Some u) second = Some (Some u, second)

-- the value of the first entry with this key
abbrev pub value_of : {V : Type 0} → List ℕ → Entries V → Option V
value_of key entries = find (slice_cmp nat_cmp) key entries

-- Two lists as one list of rows, each of the lesser of the two first keys by their bytes, or of both
-- where they are equal.
abbrev pub joined : {U V : Type 0} → Entries U → Entries V → Entries (Both U V)
joined [] [] = []
joined [] (y ∷ ys) = (y.0, (None, Some y.1)) ∷ joined [] ys
joined (x ∷ xs) [] = (x.0, (Some x.1, None)) ∷ joined xs []
joined (x ∷ xs) (y ∷ ys) = match_ordering (slice_cmp nat_cmp x.0 y.0)
    ((x.0, (Some x.1, None)) ∷ joined xs (y ∷ ys))
    ((x.0, (Some x.1, Some y.1)) ∷ joined xs ys)
    ((y.0, (None, Some y.1)) ∷ joined (x ∷ xs) ys)

-- the key with its value in front of the others, if it has one
abbrev pub if_some : {V : Type 0} → List ℕ → Option V → Entries V → Entries V
if_some key None more = more
if_some key (Some v) more = (key, v) ∷ more

-- the rows for which something is chosen, each with that
abbrev pub chosen : {U V W : Type 0} → (Option U → Option V → Option W) → Entries (Both U V) → Entries W
chosen choose [] = []
chosen choose (r ∷ rows) = if_some r.0 (choose r.1.0 r.1.1) (chosen choose rows)

-- the first key, if there is one, is above this key by its bytes
abbrev pub FirstKeyAbove : {V : Type 0} → List ℕ → Entries V → Type 0
FirstKeyAbove key [] = Unit {0}
FirstKeyAbove key (e ∷ entries) = slice_cmp nat_cmp key e.0 ≡ Less

-- the keys strictly ascend by their bytes
abbrev pub KeysAscend : {V : Type 0} → Entries V → Type 0
KeysAscend [] = Unit {0}
KeysAscend (e ∷ entries) = FirstKeyAbove e.0 entries × KeysAscend entries

-- the state of a merge: the current row, and what is left
pub record Merging : Type 0 where
  pub current : List ℕ × Both ℕ ℕ
  pub left : Coming (List ℕ × Both ℕ ℕ)
