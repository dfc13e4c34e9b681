-- The edges of a listing.
use Rattle.std.specs.Prelude.{ℕ, List, [], ◌∷◌, filter, find, not, ◌==◌, Option}
use Rattle.zerotrie_base.specs.Kind.{Kind, same_byte}
use Rattle.zerotrie_base.specs.Maps.{Pairs}

-- the first bytes of the keys, in the order in which the listing first meets them
abbrev pub met : Pairs → List ℕ
met [] = []
met (([], v) ∷ pairs) = met pairs
met ((b ∷ key, v) ∷ pairs) = b ∷ filter (λ c. not (c == b)) (met pairs)

-- the first of these edges that equals the byte c in the kind
abbrev pub edge_like : Kind → ℕ → List ℕ → Option ℕ
edge_like kind c edges = find (λ e. same_byte kind e c) edges
