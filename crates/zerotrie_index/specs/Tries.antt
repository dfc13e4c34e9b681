-- The pairs of a trie as those of an index.
use Rattle.std.specs.Prelude.{ℕ, List, map}
use Rattle.zerotrie_base.specs.Kind.{Kind, fold_byte}
use Rattle.zerotrie_base.specs.Maps.{Pairs}

-- a key as the kind compares it: in lower case if it ignores case, and otherwise as it is
abbrev pub folded_key : Kind → List ℕ → List ℕ
folded_key kind key = map (fold_byte kind) key

-- pairs with their keys so
abbrev pub folded_pairs : Kind → Pairs → Pairs
folded_pairs kind pairs = map {B = List ℕ × ℕ} (λ e. (folded_key kind e.0, e.1)) pairs
