-- Pairs in the order of a kind that no build into an array refuses. Where a table is constant, the test computes.
use Rattle.std.specs.Prelude.{ℕ, ◌+◌, ◌^◌, List, [], ◌∷◌, Bool, true, false, ◌&&◌, ◌||◌, ◌==◌, nat_lt}
use Rattle.std.specs.List.{list_all}
use Rattle.zerotrie_base.specs.Kind.{Kind, fold_byte, edge_limit, greatest_width}
use Rattle.zerotrie_base.specs.Maps.{Pairs}
use Rattle.zerotrie_base.specs.Bounds.{build_bound}

-- whether the key comes before the next in a text of the kind
abbrev pub comes_before : Kind → List ℕ → List ℕ → Bool
comes_before kind key [] = false
comes_before kind [] (b ∷ next) = true
comes_before kind (a ∷ key) (b ∷ next) = nat_lt (fold_byte kind a) (fold_byte kind b) || ((a == b) && comes_before kind key next)

-- whether the key comes before that of the first pair, if there is one
abbrev pub comes_before_first : Kind → List ℕ → Pairs → Bool
comes_before_first kind key [] = true
comes_before_first kind key (e ∷ pairs) = comes_before kind key e.0

-- whether each key comes before the next
abbrev pub are_in_order : Kind → Pairs → Bool
are_in_order kind [] = true
are_in_order kind (e ∷ pairs) = comes_before_first kind e.0 pairs && are_in_order kind pairs

-- whether the keys are in the order of the kind and have its bytes, and an offset of the kind reaches as far as an encoding of the pairs can
unfoldable pub is_clean_in_order : Kind → Pairs → Bool
unfolding build_bound
is_clean_in_order kind pairs =
    are_in_order kind pairs && list_all (λ e. list_all (λ b. nat_lt b (edge_limit kind)) e.0) pairs && nat_lt (build_bound pairs) (256 ^ (greatest_width kind + 1))
