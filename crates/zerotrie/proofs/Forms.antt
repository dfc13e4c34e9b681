-- What a trie is that was written in another form and read again.
use Rattle.std.proofs.Common.{◌≡◌, List, ℕ, Ok, Some, sym, ap, subst, ◌∙◌}
use Rattle.std.specs.FinMap.{entries, same_map, get-from_entries, get-entries, slice_cmp-IsAntisymmetric, nat_cmp-IsAntisymmetric}
use Rattle.std.specs.Cmp.Lexicographic.{nat_list_cmp_total}
use Rattle.serde_json.specs.Data.{Data}
use Rattle.zerotrie_core.specs.Kind.{Kind}
use Rattle.zerotrie_core.specs.Maps.{Pairs, Map, Ascends, map_of}
use Rattle.zerotrie_core.specs.Texts.{Means}
use Rattle.zerotrie_core.specs.Fits.{Fits}
pub use Rattle.zerotrie_core.proofs.CallerLemmas.{entries-map_of}
use Rattle.zerotrie_any.specs.Auto.{auto_kind}
use Rattle.zerotrie_any.specs.Json.{json, pairs_in, JsonKeepsPairs}
use Rattle.zerotrie_any.specs.JsonCalls.{HasPairs, IsBuildOfJson}

-- the map of a map's entries is the map
pub map_of-entries : (m : Map) → map_of (entries m) ≡ m
map_of-entries m = same_map nat_list_cmp_total (slice_cmp-IsAntisymmetric nat_cmp-IsAntisymmetric) (map_of (entries m)) m
    (λ q. get-from_entries nat_list_cmp_total (entries m) q ∙ sym (get-entries m q))

same_pairs : (p q : Pairs) → Some p ≡ Some q → p ≡ q
same_pairs p q e = cc

-- The trie that was read from the JSON value of a map is of this map: `law` is the clause of `json_keeps_the_pairs`.
pub read_back : {B : Type 0} (kind : Kind) (bytes : B → List ℕ) (m : Map) (d : Data) (b : B) → JsonKeepsPairs → Fits kind m → d ≡ json m
    → IsBuildOfJson (λ _. kind) bytes d (Ok b) → Means kind (bytes b) m
read_back kind bytes m d b law fits is h =
    let same : h.0 ≡ entries m = same_pairs h.0 (entries m) (sym h.1 ∙ ap pairs_in is ∙ law kind m fits) in
    subst (Means kind (bytes b)) (ap map_of same ∙ map_of-entries m) h.2.1.means

-- The same for a trie of the kind that is taken for the pairs, and that it is of the kind that is taken for the map's entries.
pub auto_read_back_map : {B : Type 0} (kind : Kind) (kind_of : B → Kind) (bytes : B → List ℕ) (m : Map) (d : Data) (b : B) → JsonKeepsPairs → Fits kind m → d ≡ json m
    → HasPairs d (λ pairs. kind_of b ≡ auto_kind pairs) → IsBuildOfJson auto_kind bytes d (Ok b)
    → (kind_of b ≡ auto_kind (entries m)) × Means (auto_kind (entries m)) (bytes b) m
auto_read_back_map kind kind_of bytes m d b law fits is of h =
    let there = ap pairs_in is ∙ law kind m fits in
    let same : h.0 ≡ entries m = same_pairs h.0 (entries m) (sym h.1 ∙ there) in
    let other : of.0 ≡ entries m = same_pairs of.0 (entries m) (sym of.1 ∙ there) in
    let means : Means (auto_kind h.0) (bytes b) m = subst (Means (auto_kind h.0) (bytes b)) (ap map_of same ∙ map_of-entries m) h.2.1.means in
    (of.2 ∙ ap auto_kind other, subst (λ pairs. Means (auto_kind pairs) (bytes b) m) same means)

-- The same for pairs that ascend: the trie that was read is of the kind that is taken for them, as the one that was written.
pub auto_read_back : {B : Type 0} (kind_of : B → Kind) (bytes : B → List ℕ) (pairs : Pairs) (d : Data) (b : B) → JsonKeepsPairs → Ascends pairs
    → Fits (auto_kind pairs) (map_of pairs) → d ≡ json (map_of pairs) → HasPairs d (λ given. kind_of b ≡ auto_kind given) → IsBuildOfJson auto_kind bytes d (Ok b)
    → (kind_of b ≡ auto_kind pairs) × Means (auto_kind pairs) (bytes b) (map_of pairs)
auto_read_back kind_of bytes pairs d b law ascends fits is of h =
    subst (λ own. (kind_of b ≡ auto_kind own) × Means (auto_kind own) (bytes b) (map_of pairs)) (entries-map_of pairs ascends)
    (auto_read_back_map (auto_kind pairs) kind_of bytes (map_of pairs) d b law fits is of h)
