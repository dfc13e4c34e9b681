-- Listings of the pairs of a trie.
use Rattle.std.proofs.Common.{◌≡◌, ℕ, List}
use Rattle.zerotrie_base.specs.Kind.{Kind}
use Rattle.zerotrie_core.specs.WellFormed.{IsWellFormed}

-- the bytes stay a trie of the kind
pub still_valid : (kind now : Kind) (bytes left : List ℕ) → now ≡ kind → left ≡ bytes → IsWellFormed kind bytes → IsWellFormed now left
still_valid kind now bytes left same as_before valid = rw (same, as_before) valid
