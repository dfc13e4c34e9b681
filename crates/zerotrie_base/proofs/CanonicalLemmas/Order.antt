-- The canonical text of a map from the pairs that its bytes list.
use Rattle.std.proofs.Common.{◌≡◌, ℕ, suc, List, [], ◌∷◌, length, refl, sym, ◌∙◌, ap, arith}
use Rattle.std.specs.FinMap.{entries, entries-insert, put, len-entries, len-empty}
use Rattle.std.proofs.lemmas.List.{nil_from_length}
use Rattle.std.specs.Ordering.{nat_cmp}
use Rattle.std.specs.Cmp.Lexicographic.{slice_cmp, nat_list_cmp_total}
use Rattle.zerotrie_base.specs.Kind.{Kind, simple_ascii, IsAscii}
use Rattle.zerotrie_base.specs.Maps.{Pairs, Map, map_of, value_at, longest, FirstAbove, Ascends}
use Rattle.zerotrie_base.specs.Texts.{Means}
use Rattle.zerotrie_base.specs.Canonical.{enc, enc_of, size}
use Rattle.zerotrie_base.proofs.CanonicalLemmas.Canonical.{lists_enc}
use Rattle.zerotrie_base.proofs.MapLemmas.Alike.{Same, same-entries, same-enc_of, same-size_of}
use Rattle.zerotrie_base.proofs.CanonicalLemmas.Sizes.{longest_shorter}
use Rattle.zerotrie_base.proofs.CanonicalLemmas.Lengths.{listed_size}

put_first : (key : List ℕ) (v : ℕ) (pairs : Pairs) → FirstAbove key pairs → put (slice_cmp nat_cmp) key v pairs ≡ (key, v) ∷ pairs
put_first key v [] h = refl
put_first key v (e ∷ pairs) h = rw h refl

pub entries-map_of : (pairs : Pairs) → Ascends pairs → entries (map_of pairs) ≡ pairs
entries-map_of [] h = nil_from_length (entries (map_of [])) (sym (len-entries (map_of [])) ∙ len-empty (slice_cmp nat_cmp) ℕ)
entries-map_of (e ∷ pairs) h =
    entries-insert nat_list_cmp_total (map_of pairs) e.0 e.1 ∙ ap (put (slice_cmp nat_cmp) e.0 e.1) (entries-map_of pairs h.1) ∙ put_first e.0 e.1 pairs h.0

-- the entries of a map answer as the pairs that its bytes list
pub means_same : {kind : Kind} {bytes : List ℕ} {m : Map} (means : Means kind bytes m) → Same (entries m) means.pairs
means_same means key = ap (λ n. value_at simple_ascii (entries n) key) means.is ∙ same-entries means.pairs key

-- Bytes of an ASCII kind that mean a map are its canonical text.
pub means_enc : (kind : Kind) → IsAscii kind → (bytes : List ℕ) (m : Map) → Means kind bytes m → bytes ≡ enc kind m
unfolding enc enc_of
means_enc kind ascii bytes m means =
    let d = suc (longest means.pairs) in
    lists_enc ascii means.lists d (longest_shorter means.pairs d (omega arith)) ∙ sym (same-enc_of kind (entries m) means.pairs (means_same means))

-- Bytes of any kind that mean a map are as long as its size.
pub means_size : (kind : Kind) (bytes : List ℕ) (m : Map) → Means kind bytes m → length bytes ≡ size kind m
unfolding size
means_size kind bytes m means = sym (listed_size means.lists) ∙ sym (same-size_of kind (entries m) means.pairs (means_same means))
