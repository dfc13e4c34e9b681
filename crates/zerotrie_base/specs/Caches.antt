-- What a cache of tables holds.
use Rattle.std.specs.Prelude.{ℕ, List, [], ◌∷◌, Option, None, Some, cond}
use Rattle.std.specs.Ordering.{nat_cmp, match_ordering, is_eq}
use Rattle.std.specs.Cmp.Lexicographic.{slice_cmp}
use Rattle.zerotrie_base.specs.Hashes.{IsPerfectTable}

-- lists of keys, each with the bytes of its table
abbrev pub Tables : Type 0
Tables = List (List ℕ × List ℕ)

-- the table of the keys
abbrev pub find : List ℕ → Tables → Option (List ℕ)
find keys [] = None
find keys (t ∷ tables) = cond (is_eq (slice_cmp nat_cmp keys t.0)) (Some t.1) (find keys tables)

-- the tables with one more, in order
abbrev pub put : List ℕ → List ℕ → Tables → Tables
put keys table [] = (keys, table) ∷ []
put keys table (t ∷ tables) =
    match_ordering (slice_cmp nat_cmp keys t.0) ((keys, table) ∷ t ∷ tables) ((t.0, table) ∷ tables) (t ∷ put keys table tables)

-- each table is a perfect one of its keys
abbrev pub AllPerfect : Tables → Type 0
AllPerfect [] = Unit {0}
AllPerfect (t ∷ tables) = IsPerfectTable t.0 t.1 × AllPerfect tables
