-- Laws of the definitions alone.
use Rattle.std.specs.Prelude.{◌≡◌, ◌↔◌, ℕ, ◌+◌, ◌*◌, ◌^◌, ◌<◌, ◌≤◌, ◌⊎◌, List, [], ◌∷◌, ◌++◌, length, true}
use Rattle.zerotrie_base.specs.Kind.{Kind}
use Rattle.zerotrie_base.specs.Numbers.{Spells, spelled}
use Rattle.zerotrie_base.specs.Maps.{Pairs, Map, map_of, RepeatsKey, Ascends, folded, same_key, look}
use Rattle.zerotrie_base.specs.Texts.{Lists, Means, nodes}
use Rattle.zerotrie_base.specs.Canonical.{enc, size}
use Rattle.zerotrie_base.specs.Fits.{Fits}

-- the latent values of the two forms of numbers
abbrev pub IsForm : ℕ → Type 0
IsForm L = (L ≡ 16) ⊎ (L ≡ 32)

-- each number below 2 ^ 64 has a spelling in each form, with each metadata
abbrev pub EachIsSpelled : Type 0
EachIsSpelled = (L metadata v : ℕ) → IsForm L → v < 2 ^ 64 → Spells L metadata v (spelled L metadata v)

-- and only one
abbrev pub OneSpelling : Type 0
OneSpelling = (L metadata v : ℕ) (a b : List ℕ) → Spells L metadata v a → Spells L metadata v b → a ≡ b

-- spellings of one number differ only in the bits of metadata, which are the highest of the lead
-- byte
abbrev pub MetadataAlone : Type 0
MetadataAlone = (L metadata v : ℕ) (bytes : List ℕ) → Spells L metadata v bytes
    → (lead : ℕ) × (trail : List ℕ) × (lead < 2 * L) × (bytes ≡ (metadata * (2 * L) + lead) ∷ trail)
    × ((other : ℕ) → Spells L other v ((other * (2 * L) + lead) ∷ trail))

-- no spelling is the beginning of a longer one
abbrev pub NoneLonger : Type 0
NoneLonger = (L metadata other v w : ℕ) (bytes more : List ℕ) → Spells L metadata v bytes → Spells L other w (bytes ++ more) → more ≡ []

-- the same bytes mean one map of a kind
abbrev pub OneMeaning : Type 0
OneMeaning = (kind : Kind) (bytes : List ℕ) (m n : Map) → Means kind bytes m → Means kind bytes n → m ≡ n

-- the canonical encoding of a map that fits means that map
abbrev pub CanonicalMeans : Kind → Type 0
CanonicalMeans kind = (m : Map) → Fits kind m → Means kind (enc kind m) m

-- bytes that mean a map are its canonical encoding
abbrev pub MeansCanonical : Kind → Type 0
MeansCanonical kind = (bytes : List ℕ) (m : Map) → Means kind bytes m → bytes ≡ enc kind m

-- bytes that mean maps of the kind are equal exactly if the maps are
abbrev pub EqualExactlyIfMapsAre : Kind → Type 0
EqualExactlyIfMapsAre kind = (a b : List ℕ) (m n : Map) → Means kind a m → Means kind b n → (a ≡ b) ↔ (m ≡ n)

-- a map that some bytes mean fits
abbrev pub MeansFits : Kind → Type 0
MeansFits kind = (bytes : List ℕ) (m : Map) → Means kind bytes m → Fits kind m

-- bytes that mean a map are as long as its size
abbrev pub LengthIsSize : Kind → Type 0
LengthIsSize kind = (bytes : List ℕ) (m : Map) → Means kind bytes m → length bytes ≡ size kind m

-- a look-up of a key of n bytes reads at most 2 * n + 1 nodes
abbrev pub FewNodes : Type 0
FewNodes = (kind : Kind) (bytes key : List ℕ) (m : Map) (means : Means kind bytes m) → nodes means.lists key ≤ 2 * length key + 1

-- the pairs that bytes list are the map that they mean, each pair once
abbrev pub ListsTheMap : Type 0
ListsTheMap = (kind : Kind) (bytes : List ℕ) (m : Map) (pairs : Pairs) → Means kind bytes m → Lists kind bytes pairs
    → (RepeatsKey pairs → ⊥) × (m ≡ map_of pairs)

-- the pairs that bytes of a kind list ascend by the folds of their keys
abbrev pub ListsInOrder : Kind → Type 0
ListsInOrder kind = (bytes : List ℕ) (pairs : Pairs) → Lists kind bytes pairs → Ascends (folded kind pairs)

-- keys that are equal in the kind have the same result
abbrev pub SameKeysAnswerAlike : Type 0
SameKeysAnswerAlike = (kind : Kind) (m : Map) (k l : List ℕ) → same_key kind k l ≡ true → look kind m k ≡ look kind m l
