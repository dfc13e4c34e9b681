-- How many bytes a build of pairs has at most, and pairs that no build refuses.
use Rattle.std.specs.Prelude.{◌≡◌, ℕ, ◌+◌, ◌^◌, ◌<◌, List, [], ◌∷◌, All, Bool, true, ◌&&◌, ◌==◌, nat_lt, if◌then◌else◌}
use Rattle.std.specs.List.{list_all, sum_by}
use Rattle.std.specs.Ordering.{nat_cmp, is_lt}
use Rattle.std.specs.Cmp.Lexicographic.{slice_cmp}
use Rattle.zerotrie_base.specs.Kind.{Kind, edge_limit, fold_byte, greatest_width}
use Rattle.zerotrie_base.specs.Maps.{Pairs}

-- the number of bytes of a key, where one of 128 or more counts twice
abbrev pub key_bound : List ℕ → ℕ
key_bound key = sum_by (λ b. if nat_lt b 128 then 1 else 2) key

-- 20 for each pair, and the bytes of its key: a build of the pairs has at most as many bytes
unfoldable pub build_bound : Pairs → ℕ
build_bound pairs = sum_by (λ e. 20 + key_bound e.0) pairs

-- The pairs suit the kind: each byte of a key may be an edge and is its own fold, and an offset of
-- the kind reaches as far as an encoding of the pairs can.
pub record Suits (kind : Kind) (pairs : Pairs) : Type 0 where
  pub key_bytes : All (λ e. All (λ b. (b < edge_limit kind) × (fold_byte kind b ≡ b)) e.0) pairs
  pub small : build_bound pairs < 256 ^ (greatest_width kind + 1)

-- whether the key of the first pair, if there is one, is above this key
abbrev pub is_first_above : List ℕ → Pairs → Bool
is_first_above key [] = true
is_first_above key (e ∷ pairs) = is_lt (slice_cmp nat_cmp key e.0)

-- whether the keys strictly ascend by their bytes
abbrev pub are_ascending : Pairs → Bool
are_ascending [] = true
are_ascending (e ∷ pairs) = is_first_above e.0 pairs && are_ascending pairs

-- whether each byte of a key may be an edge and is its own fold
abbrev pub are_own_bytes : Kind → List ℕ → Bool
are_own_bytes kind key = list_all (λ b. nat_lt b (edge_limit kind) && (fold_byte kind b == b)) key

-- Whether the keys ascend and the pairs suit the kind: a table of constants computes it.
unfoldable pub is_clean : Kind → Pairs → Bool
unfolding build_bound
is_clean kind pairs =
    are_ascending pairs && list_all (λ e. are_own_bytes kind e.0) pairs && nat_lt (build_bound pairs) (256 ^ (greatest_width kind + 1))
