-- Maps from byte lists to numbers, and lists of pairs.
use Rattle.std.specs.List.{range_with_len}
use Rattle.std.proofs.Common.{zero, suc}
use Rattle.std.specs.Prelude.{nat_le, is_some, ◌==◌, ◌||◌, ◌+◌, filter, max, length, ◌≡◌, ℕ, List, [], ◌∷◌, ◌++◌, map, Option, Some, None, if◌then◌else◌, Bool, true, false, ◌&&◌, ◌⊎◌, All, Contains}
use Rattle.std.specs.FinMap.{FinMap, from_entries, entries}
use Rattle.std.specs.Cmp.Lexicographic.{slice_cmp, pointwise}
use Rattle.std.specs.Ordering.{nat_cmp}
use Rattle.std.specs.declared.cmp.Ordering.TheVariants.{Less}
use Rattle.zerotrie_base.specs.Kind.{Kind, simple_ascii, ignore_case, perfect_hash, extended_capacity, fold_byte, same_byte}

-- pairs of a key and its value
abbrev pub Pairs : Type 0
Pairs = List (List ℕ × ℕ)

-- a finite map from byte lists to numbers
abbrev pub Map : Type 0
Map = FinMap (slice_cmp nat_cmp) ℕ

-- the map of a list of pairs with distinct keys
abbrev pub map_of : Pairs → Map
map_of pairs = from_entries pairs

-- the key of the first pair, if there is one, is above this key by its bytes
abbrev pub FirstAbove : List ℕ → Pairs → Type 0
FirstAbove key [] = Unit {0}
FirstAbove key (e ∷ pairs) = slice_cmp nat_cmp key e.0 ≡ Less

-- the keys strictly ascend by their bytes
abbrev pub Ascends : Pairs → Type 0
Ascends [] = Unit {0}
Ascends (e ∷ pairs) = FirstAbove e.0 pairs × Ascends pairs

-- the pairs with folded keys
abbrev pub folded : Kind → Pairs → Pairs
folded kind pairs = map {B = List ℕ × ℕ} (λ e. (map (fold_byte kind) e.0, e.1)) pairs

-- the keys strictly ascend in the order of the kind: by their bytes, or in lower case if it ignores
-- case
abbrev pub AscendsIn : Kind → Pairs → Type 0
AscendsIn simple_ascii pairs = Ascends pairs
AscendsIn ignore_case pairs = Ascends (folded ignore_case pairs)
AscendsIn perfect_hash pairs = Ascends pairs
AscendsIn extended_capacity pairs = Ascends pairs

-- some key is there twice
abbrev pub RepeatsKey : Pairs → Type 0
RepeatsKey [] = ⊥
RepeatsKey (e ∷ pairs) = Contains (map {B = List ℕ} (λ f. f.0) pairs) e.0 ⊎ RepeatsKey pairs

-- each key with the byte b before it
abbrev pub with_front : ℕ → Pairs → Pairs
with_front b pairs = map (λ e. (b ∷ e.0, e.1)) pairs

-- each key with the run of bytes before it
abbrev pub with_run : List ℕ → Pairs → Pairs
with_run run pairs = map {B = List ℕ × ℕ} (λ e. (run ++ e.0, e.1)) pairs

-- what a key has after the run, if it begins with all of it
abbrev pub after_run : List ℕ → List ℕ → Option (List ℕ)
after_run [] key = Some key
after_run (b ∷ run) [] = None
after_run (b ∷ run) (c ∷ key) = if b == c then after_run run key else None

-- two keys are equal in the kind
abbrev pub same_key : Kind → List ℕ → List ℕ → Bool
same_key kind p q = pointwise (same_byte kind) p q

-- whether a key begins with a prefix, as the kind compares bytes
abbrev pub begins_with : Kind → List ℕ → List ℕ → Bool
begins_with kind [] key = true
begins_with kind (c ∷ front) [] = false
begins_with kind (c ∷ front) (b ∷ key) = same_byte kind b c && begins_with kind front key

-- the pairs whose keys begin with a prefix, in their order
abbrev pub beginning : Kind → List ℕ → Pairs → Pairs
beginning kind front pairs = filter (λ e. begins_with kind front e.0) pairs

-- the value of the first pair whose key equals this one in the kind
abbrev pub value_at : Kind → Pairs → List ℕ → Option ℕ
value_at kind [] key = None
value_at kind (e ∷ pairs) key = if same_key kind e.0 key then Some e.1 else value_at kind pairs key

-- the result of a look-up
abbrev pub look : Kind → Map → List ℕ → Option ℕ
look kind m key = value_at kind (entries m) key

-- whether some key begins with b
abbrev pub begins_some : Pairs → ℕ → Bool
begins_some [] b = false
begins_some (([], v) ∷ pairs) b = begins_some pairs b
begins_some ((c ∷ key, v) ∷ pairs) b = (c == b) || begins_some pairs b

-- the first bytes of the keys, ascending
unfoldable pub edges : Pairs → List ℕ
edges pairs = filter (begins_some pairs) (range_with_len 0 256)

-- the pairs whose keys begin with b, without that byte
abbrev pub residual : ℕ → Pairs → Pairs
residual b [] = []
residual b (([], v) ∷ pairs) = residual b pairs
residual b ((c ∷ key, v) ∷ pairs) = if c == b then (key, v) ∷ residual b pairs else residual b pairs

-- the pairs whose keys begin with all of front, without it
abbrev pub behind_all : List ℕ → Pairs → Pairs
behind_all [] pairs = pairs
behind_all (b ∷ front) pairs = behind_all front (residual b pairs)

-- the length of the longest key
abbrev pub longest : Pairs → ℕ
longest [] = 0
longest (e ∷ pairs) = max (length e.0) (longest pairs)

-- the only edge, if it is 128 or more, and what follows it
abbrev pub high_edge : List ℕ → (ℕ → List ℕ) → List ℕ
high_edge [] behind = []
high_edge (b ∷ []) behind = if nat_le 128 b then b ∷ behind b else []
high_edge (b ∷ c ∷ more) behind = []

-- the longest run of bytes of 128 or more that begins each key, of at most d bytes
abbrev pub run_to : ℕ → Pairs → List ℕ
run_to zero pairs = []
run_to (suc d) pairs =
    if is_some (value_at simple_ascii pairs []) then [] else high_edge (edges pairs) (λ b. run_to d (residual b pairs))

-- the longest such run
unfoldable pub run_of : Pairs → List ℕ
run_of pairs = run_to (longest pairs) pairs

-- the length of the common prefix of two keys, by a test of two bytes
abbrev pub common_front : (ℕ → ℕ → Bool) → List ℕ → List ℕ → ℕ
common_front same [] l = 0
common_front same (a ∷ k) [] = 0
common_front same (a ∷ k) (b ∷ l) = if same a b then 1 + common_front same k l else 0

-- where two keys begin alike in the kind, they begin alike byte by byte
abbrev pub IsCaseConsistent : Kind → Pairs → Type 0
IsCaseConsistent kind pairs =
    All (λ e. All (λ f. common_front (same_byte kind) e.0 f.0 ≡ common_front (λ a b. a == b) e.0 f.0) pairs) pairs
