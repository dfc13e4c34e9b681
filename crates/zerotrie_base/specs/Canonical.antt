-- The canonical encoding of a map, and the length of its encodings.
use Rattle.std.proofs.Common.{zero, suc}
use Rattle.std.specs.Prelude.{ℕ, ◌+◌, List, [], ◌∷◌, ◌++◌, length, map, Option, Some, None, nat_le, ◌&&◌, if◌then◌else◌}
use Rattle.std.specs.List.{concat}
use Rattle.std.specs.FinMap.{entries}
use Rattle.zerotrie_base.specs.Kind.{Kind, ordered, has_spans}
use Rattle.zerotrie_base.specs.Numbers.{value_form, span_form, spelled_as}
use Rattle.zerotrie_base.specs.Maps.{Pairs, Map, value_at, edges, residual, behind_all, longest, run_of}
use Rattle.zerotrie_base.specs.Branches.{total, branch_front, table_size}

-- the value node of the empty key
abbrev pub value_node : Option ℕ → List ℕ
value_node None = []
value_node (Some v) = spelled_as value_form v

-- a branch with these edges and targets, and a sorted table
abbrev pub branch_node : List ℕ → List (List ℕ) → List ℕ
branch_node edges targets = branch_front edges (map length targets) ++ concat targets

-- what leads to the targets of the edges: nothing, a literal or a branch
abbrev pub node : List ℕ → List (List ℕ) → List ℕ
node [] targets = []
node (b ∷ []) targets = b ∷ concat targets
node (b ∷ c ∷ more) targets = branch_node (b ∷ c ∷ more) targets

-- the canonical encoding of pairs whose keys are shorter than d
abbrev pub enc_to : ℕ → Kind → Pairs → List ℕ
enc_to zero kind pairs = []
enc_to (suc d) kind pairs = let es = ordered kind (edges pairs) in
    value_node (value_at kind pairs []) ++ node es (map (λ b. enc_to d kind (residual b pairs)) es)

-- the canonical encoding of pairs
unfoldable pub enc_of : Kind → Pairs → List ℕ
enc_of kind pairs = enc_to (suc (longest pairs)) kind pairs

-- the canonical encoding of a map, for the kinds whose tables are sorted
unfoldable pub enc : Kind → Map → List ℕ
enc kind m = enc_of kind (entries m)

-- the length of a branch before its targets, which have these lengths
abbrev pub branch_size : Kind → List ℕ → ℕ
branch_size kind lengths = length (branch_front [] lengths) + table_size kind (length lengths)

-- the length of a span, of b and the longest run that begins each key after it, and of what follows
-- it
abbrev pub span_size : (Pairs → ℕ) → Pairs → ℕ → ℕ
span_size size_behind pairs b = let run = b ∷ run_of (residual b pairs) in
    length (spelled_as span_form (length run)) + length run + size_behind (behind_all run pairs)

-- the length after the value of the empty key, by the edges: of nothing, of a byte and its target
-- (a span, if the byte is 128 or more and the kind has spans), or of a branch and its targets. The
-- function gives the length of a target by its pairs.
abbrev pub rest_size : Kind → (Pairs → ℕ) → Pairs → List ℕ → ℕ
rest_size kind size_behind pairs [] = 0
rest_size kind size_behind pairs (b ∷ []) =
    if nat_le 128 b && has_spans kind then span_size size_behind pairs b else 1 + size_behind (residual b pairs)
rest_size kind size_behind pairs (b ∷ c ∷ more) = let lengths = map (λ e. size_behind (residual e pairs)) (b ∷ c ∷ more) in
    branch_size kind lengths + total lengths

-- the length of the encodings of pairs whose keys are shorter than d
abbrev pub size_to : ℕ → Kind → Pairs → ℕ
size_to zero kind pairs = 0
size_to (suc d) kind pairs = length (value_node (value_at kind pairs [])) + rest_size kind (size_to d kind) pairs (edges pairs)

-- the length of the encodings of pairs
unfoldable pub size_of : Kind → Pairs → ℕ
size_of kind pairs = size_to (suc (longest pairs)) kind pairs

-- the length of the encodings of a map
unfoldable pub size : Kind → Map → ℕ
size kind m = size_of kind (entries m)
