-- What is known of the listings of a choice.
use Rattle.std.specs.Prelude.{ℕ, List, length}
use Rattle.std.specs.Vec.Iter.{into_iter_items}
use Rattle.zerotrie_core.specs.Listings.{Left}
use Rattle.zerotrie_core.specs.WellFormed.{IsWellFormed}
use Rattle.zerotrie_search.specs.Searches.{accepted_left}
use Rattle.zerotrie_queries.specs.Listed.{first_left}
use Rattle.zerotrie_queries.specs.Kept.{keeps, may_keep}
use Rattle.zerotrie_queries.specs.Ranked.{left_of_held}
use Rattle.zerotrie_queries.specs.declared.first_pairs.FirstPairs.{FirstPairs}
use Rattle.zerotrie_queries.specs.declared.listing.listed.ChosenPairs.{ChosenPairs}
use Rattle.zerotrie_queries.specs.declared.listing.listed.ListedPairs.{ListedPairs}
use Rattle.zerotrie_queries.specs.declared.listing.listed.ListedPairs.TheVariants as pairs

-- the bytes are a trie, where that matters
abbrev pub IsValid : ListedPairs → Type 0
IsValid (pairs.Plain s) = Unit {0}
IsValid (pairs.Kept s) = IsWellFormed s.sorted.kind s.sorted.bytes
IsValid (pairs.Prefix s) = IsWellFormed s.sorted.kind s.sorted.bytes
IsValid (pairs.Range s) = IsWellFormed s.sorted.kind s.sorted.bytes
IsValid (pairs.Glob s) = IsWellFormed s.sorted.kind s.sorted.bytes
IsValid (pairs.GlobChars s) = IsWellFormed s.sorted.kind s.sorted.bytes
IsValid (pairs.Subsequence s) = IsWellFormed s.sorted.kind s.sorted.bytes
IsValid (pairs.Fuzzy s) = IsWellFormed s.sorted.kind s.sorted.bytes
IsValid (pairs.FuzzyChars s) = IsWellFormed s.sorted.kind s.sorted.bytes
IsValid (pairs.Swaps s) = IsWellFormed s.sorted.kind s.sorted.bytes
IsValid (pairs.SwapsChars s) = IsWellFormed s.sorted.kind s.sorted.bytes
IsValid (pairs.NearFuzzy s) = IsWellFormed s.kind s.bytes
IsValid (pairs.NearFuzzyChars s) = IsWellFormed s.kind s.bytes
IsValid (pairs.NearSwaps s) = IsWellFormed s.kind s.bytes
IsValid (pairs.NearSwapsChars s) = IsWellFormed s.kind s.bytes
IsValid (pairs.Held s) = Unit {0}

-- what is left
abbrev pub left_of : ListedPairs → Left
left_of (pairs.Plain s) = s.left
left_of (pairs.Kept s) = s.left
left_of (pairs.Prefix s) = s.left
left_of (pairs.Range s) = s.left
left_of (pairs.Glob s) = s.left
left_of (pairs.GlobChars s) = s.left
left_of (pairs.Subsequence s) = s.left
left_of (pairs.Fuzzy s) = s.left
left_of (pairs.FuzzyChars s) = s.left
left_of (pairs.Swaps s) = s.left
left_of (pairs.SwapsChars s) = s.left
left_of (pairs.NearFuzzy s) = s.left
left_of (pairs.NearFuzzyChars s) = s.left
left_of (pairs.NearSwaps s) = s.left
left_of (pairs.NearSwapsChars s) = s.left
left_of (pairs.Held s) = left_of_held s

-- the current pair
abbrev pub now_of : ListedPairs → List ℕ × ℕ
now_of (pairs.Plain s) = (s.key, s.value)
now_of (pairs.Kept s) = (s.sorted.key, s.sorted.value)
now_of (pairs.Prefix s) = (s.sorted.key, s.sorted.value)
now_of (pairs.Range s) = (s.sorted.key, s.sorted.value)
now_of (pairs.Glob s) = (s.sorted.key, s.sorted.value)
now_of (pairs.GlobChars s) = (s.sorted.key, s.sorted.value)
now_of (pairs.Subsequence s) = (s.sorted.key, s.sorted.value)
now_of (pairs.Fuzzy s) = (s.sorted.key, s.sorted.value)
now_of (pairs.FuzzyChars s) = (s.sorted.key, s.sorted.value)
now_of (pairs.Swaps s) = (s.sorted.key, s.sorted.value)
now_of (pairs.SwapsChars s) = (s.sorted.key, s.sorted.value)
now_of (pairs.NearFuzzy s) = (s.key, s.value)
now_of (pairs.NearFuzzyChars s) = (s.key, s.value)
now_of (pairs.NearSwaps s) = (s.key, s.value)
now_of (pairs.NearSwapsChars s) = (s.key, s.value)
now_of (pairs.Held s) = (s.now.0.items, s.now.1)

-- at most how many pairs are to come on any bytes
abbrev pub most_of : ListedPairs → ℕ
most_of (pairs.Plain s) = length s.left.pairs
most_of (pairs.Kept s) = s.sorted.most
most_of (pairs.Prefix s) = s.sorted.most
most_of (pairs.Range s) = s.sorted.most
most_of (pairs.Glob s) = s.sorted.most
most_of (pairs.GlobChars s) = s.sorted.most
most_of (pairs.Subsequence s) = s.sorted.most
most_of (pairs.Fuzzy s) = s.sorted.most
most_of (pairs.FuzzyChars s) = s.sorted.most
most_of (pairs.Swaps s) = s.sorted.most
most_of (pairs.SwapsChars s) = s.sorted.most
most_of (pairs.NearFuzzy s) = s.most
most_of (pairs.NearFuzzyChars s) = s.most
most_of (pairs.NearSwaps s) = s.most
most_of (pairs.NearSwapsChars s) = s.most
most_of (pairs.Held s) = length (into_iter_items s.rest)

-- the same of those that are chosen, and of the first of these
abbrev pub AreChosenValid : ChosenPairs → Type 0
AreChosenValid s = IsValid s.pairs

abbrev pub left_of_chosen : ChosenPairs → Left
left_of_chosen s = accepted_left (may_keep keeps s.condition) (left_of s.pairs)

abbrev pub AreFirstValid : FirstPairs ChosenPairs → Type 0
AreFirstValid s = AreChosenValid s.source

abbrev pub left_of_first : FirstPairs ChosenPairs → Left
left_of_first s = first_left s.ended s.limit (left_of_chosen s.source)
