-- Tables of two texts: a prefix names a row, and a suffix a value in it.
use Rattle.std.specs.Prelude.{ℕ, ◌+◌, List, [], ◌∷◌, map, Option, if◌then◌else◌}
use Rattle.std.specs.List.{flat_map}
use Rattle.std.specs.Ordering.{nat_cmp, match_ordering}
use Rattle.std.specs.Cmp.Lexicographic.{slice_cmp}
use Rattle.zerotrie_core.specs.Kind.{simple_ascii}
use Rattle.zerotrie_core.specs.Maps.{Pairs, Ascends, value_at, same_key}

-- prefixes, each with the pairs of its row
abbrev pub Rows : Type 0
Rows = List (List ℕ × Pairs)

-- the row of a prefix, empty if there is none
abbrev pub row_of : Rows → List ℕ → Pairs
row_of [] prefix = []
row_of (row ∷ rows) prefix = if same_key simple_ascii row.0 prefix then row.1 else row_of rows prefix

-- the value of the suffix in the row of the prefix, if both are there
abbrev pub entry : Rows → List ℕ → List ℕ → Option ℕ
entry rows prefix suffix = value_at simple_ascii (row_of rows prefix) suffix

-- the keys of pairs
abbrev pub keys : Pairs → List (List ℕ)
keys pairs = map (λ e. e.0) pairs

-- the prefixes and all suffixes
abbrev pub texts : Rows → List (List ℕ)
texts rows = flat_map (λ row. row.0 ∷ keys row.1) rows

-- ascending texts with one more, at its place if it is not among them
abbrev pub put_text : List ℕ → List (List ℕ) → List (List ℕ)
put_text text [] = text ∷ []
put_text text (t ∷ more) = match_ordering (slice_cmp nat_cmp text t) (text ∷ t ∷ more) (t ∷ more) (t ∷ put_text text more)

-- ascending texts with more put at their places, one after another
abbrev pub put_texts : List (List ℕ) → List (List ℕ) → List (List ℕ)
put_texts [] placed = placed
put_texts (text ∷ more) placed = put_texts more (put_text text placed)

-- the suffixes of all rows, each once, ascending
unfoldable pub suffixes : Rows → List (List ℕ)
suffixes rows = put_texts (flat_map (λ row. keys row.1) rows) []

-- each key with its place, counted from n
abbrev pub placed : ℕ → List (List ℕ) → Pairs
placed n [] = []
placed n (key ∷ more) = (key, n) ∷ placed (n + 1) more

-- the rows ascend strictly by prefix, and each by suffix
abbrev pub IsInOrder : Rows → Type 0
IsInOrder [] = Unit {0}
IsInOrder (row ∷ rows) = Ascends row.1 × Ascends ((row.0, 0) ∷ placed 0 (map (λ r. r.0) rows)) × IsInOrder rows
