-- Inputs of a merge.
use Rattle.std.specs.Prelude.{◌≡◌, ℕ, List, [], ◌∷◌, Bool, true, false, Option, Some, None}
use Rattle.zerotrie_core.specs.Maps.{Pairs}
use Rattle.zerotrie_core.specs.Listings.{Left}
use Rattle.std.specs.Ordering.{nat_cmp}
use Rattle.std.specs.Cmp.Lexicographic.{slice_cmp}
use Rattle.std.specs.declared.cmp.Ordering.{Ordering}
use Rattle.std.specs.declared.cmp.Ordering.TheVariants.{Less, Greater}
use Rattle.zerotrie_sets.specs.Merges.{Both}
use Rattle.zerotrie_sets.specs.declared.input.Held.{Held}
use Rattle.zerotrie_sets.specs.declared.input.Held.TheVariants.{Listed, Waiting, Over}

-- the pairs of an input that are still to be listed: the current one, if it waits, and those to come
abbrev pub pending : Left → List ℕ × ℕ → Held → Pairs
pending left current Listed = left.pairs
pending left current Waiting = current ∷ left.pairs
pending left current Over = []

-- the value of the current pair, if it was listed
abbrev pub listed : List ℕ × ℕ → Held → Option ℕ
listed current Listed = Some current.1
listed current Waiting = None
listed current Over = None

-- The first pair that is still to be listed waits, or there is none.
abbrev pub Fetches : Pairs → Left → List ℕ × ℕ → Held → Bool → Type 0
Fetches before left current held true = (held ≡ Waiting) × (before ≡ current ∷ left.pairs)
Fetches before left current held false = (held ≡ Over) × (before ≡ [])

-- the current row of two inputs, of what was listed
abbrev pub row_of : List ℕ × ℕ → Held → List ℕ × ℕ → Held → List ℕ × Both ℕ ℕ
row_of p Listed q there = (p.0, (Some p.1, listed q there))
row_of p Waiting q there = (q.0, (None, listed q there))
row_of p Over q there = (q.0, (None, listed q there))

-- which of two inputs has the lesser key, of those whose pairs wait
abbrev pub lesser : List ℕ × ℕ → Held → List ℕ × ℕ → Held → Option Ordering
lesser p Waiting q Waiting = Some (slice_cmp nat_cmp p.0 q.0)
lesser p Waiting q Listed = Some Less
lesser p Waiting q Over = Some Less
lesser p Listed q Waiting = Some Greater
lesser p Over q Waiting = Some Greater
lesser p Listed q Listed = None
lesser p Listed q Over = None
lesser p Over q Listed = None
lesser p Over q Over = None

-- the first row was taken, or there was none
abbrev pub MergesOne : {X : Type 0} → List X → X → List X → Bool → Type 0
MergesOne before current after true = before ≡ current ∷ after
MergesOne before current after false = before ≡ []
