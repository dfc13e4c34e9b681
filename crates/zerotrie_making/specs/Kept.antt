-- Which pairs are kept of those that have one key.
use Rattle.std.specs.Prelude.{ℕ, ◌+◌, ◌^◌, ◌<◌, ◌≤◌, All, Bool, List, [], ◌∷◌, ◌++◌, map, filter, if◌then◌else◌, slice_index, slice_index_or, slice_set, Option, Some, None, ◌≡◌}
use Rattle.std.specs.Borrow.{Bor}
use Rattle.std.specs.Option.{is_some, unwrap_or}
use Rattle.std.specs.BTreeMap.{BTreeMap, get_by}
use Rattle.std.specs.Cmp.Lexicographic.{slice_cmp}
use Rattle.std.specs.Ordering.{nat_cmp}
use Rattle.std.specs.List.{list_any}
use Rattle.std.specs.Str.{bytes_eq}
use Rattle.zerotrie_lines.specs.Tables.{Pair, Pairs, pairs_of}
use Rattle.zerotrie_sets.specs.Selections.{as_one, one_of_two, IsNoOne}
use Rattle.zerotrie_sets.specs.declared.selection.Rule.{Rule}
use Rattle.zerotrie_sets.specs.declared.selection.Rule.TheVariants as rules
use Rattle.zerotrie_sets.specs.declared.selection.RuleError.TheVariants.{SumTooLarge}
use Rattle.zerotrie_making.specs.declared.duplicates.Kept.{Kept}
use Rattle.zerotrie_making.specs.declared.duplicates.Duplicates.{Duplicates}
use Rattle.zerotrie_making.specs.declared.duplicates.Duplicates.TheVariants.{Refuse, First, Last, Sum, Min, Max}

-- pairs, each after its number
abbrev pub Numbered : Type 0
Numbered = List (ℕ × Pair)

-- pairs with their numbers, the first with number n
abbrev pub numbered : ℕ → Pairs → Numbered
numbered n [] = []
numbered n (e ∷ pairs) = (n, e) ∷ numbered (n + 1) pairs

-- one of the pairs has the key
abbrev pub has_key : List ℕ → Numbered → Bool
has_key key pairs = list_any (λ e. bytes_eq e.1.0 key) pairs

-- the pairs whose keys none before them has, neither of these nor of the earlier ones
abbrev pub firsts : Numbered → Numbered → Numbered
firsts earlier [] = []
firsts earlier (e ∷ pairs) = if has_key e.1.0 earlier then firsts (e ∷ earlier) pairs else e ∷ firsts (e ∷ earlier) pairs

-- the pairs whose keys none after them has
abbrev pub lasts : Numbered → Numbered
lasts [] = []
lasts (e ∷ pairs) = if has_key e.1.0 pairs then lasts pairs else e ∷ lasts pairs

-- the values of the pairs that have the key, in their order
abbrev pub values_of : List ℕ → Pairs → List ℕ
values_of key pairs = map (λ e. e.1) (filter (λ e. bytes_eq e.0 key) pairs)

-- a numbered pair with what the rule makes of the values of all pairs that have its key
abbrev pub with_one : Rule → Pairs → ℕ × Pair → ℕ × Pair
with_one rule pairs e = (e.0, (e.1.0, unwrap_or (as_one rule (values_of e.1.0 pairs)) e.1.1))

-- the first pair of each key, with what the rule makes of the values of all pairs that have the key
abbrev pub merged : Rule → Pairs → Numbered
merged rule pairs = map (with_one rule pairs) (firsts [] (numbered 1 pairs))

-- numbered pairs without their numbers
abbrev pub unnumbered : Numbered → Pairs
unnumbered es = map (λ e. e.1) es

-- the pairs that are kept
abbrev pub kept : Duplicates → Pairs → Pairs
kept Refuse pairs = pairs
kept First pairs = unnumbered (firsts [] (numbered 1 pairs))
kept Last pairs = unnumbered (lasts (numbered 1 pairs))
kept Sum pairs = unnumbered (merged rules.Sum pairs)
kept Min pairs = unnumbered (merged rules.Min pairs)
kept Max pairs = unnumbered (merged rules.Max pairs)

-- the numbers of numbered pairs
abbrev pub numbers : Numbered → List ℕ
numbers es = map (λ e. e.0) es

-- the number at this index
abbrev pub number_in : List ℕ → ℕ → ℕ
number_in numbers index = slice_index numbers index

-- the number of the pair that is kept at this index, among all pairs
abbrev pub number_at : Duplicates → Pairs → ℕ → ℕ
number_at Refuse pairs index = index + 1
number_at First pairs index = number_in (numbers (firsts [] (numbered 1 pairs))) index
number_at Last pairs index = number_in (numbers (lasts (numbered 1 pairs))) index
number_at Sum pairs index = number_in (numbers (merged rules.Sum pairs)) index
number_at Min pairs index = number_in (numbers (merged rules.Min pairs)) index
number_at Max pairs index = number_in (numbers (merged rules.Max pairs)) index

-- the values of one key in these pairs have a sum of 2^64 or more
abbrev pub IsTooLarge : List ℕ → Pairs → Type 0
IsTooLarge key pairs = IsNoOne rules.Sum (values_of key pairs) SumTooLarge

-- the number at this index of numbers that are given, or else one more than the index
abbrev pub number_of : Option (Bor (List ℕ)) → ℕ → ℕ
number_of None index = index + 1
number_of (Some numbers) index = number_in numbers.now index

-- the pairs and their numbers are these
abbrev pub IsKept : Numbered → Kept → Type 0
IsKept es found = (found.numbers.items ≡ numbers es) × (pairs_of found.items.items ≡ unnumbered es)

-- the index that a map has for the key
abbrev pub place_in : BTreeMap (Bor (List ℕ)) ℕ → List ℕ → Option ℕ
place_in places key = get_by (λ k. slice_cmp nat_cmp key k.now) places

-- pairs with one more: its value is merged into the pair at the index, or it is a new one
abbrev pub with_next : Rule → Option ℕ → Pair → Pairs → Pairs
with_next rule None e pairs = pairs ++ e ∷ []
with_next rule (Some i) e pairs = slice_set pairs i ((slice_index_or pairs i e).0, one_of_two rule (slice_index_or pairs i e).1 e.1)

-- their values are below 2^64
abbrev pub AreSmall : Pairs → Type 0
AreSmall pairs = All (λ e. e.1 < 2 ^ 64) pairs

-- the sum that would be merged is 2^64 or more
abbrev pub IsNextTooLarge : Rule → Option ℕ → Pair → Pairs → Type 0
IsNextTooLarge rule None e pairs = ⊥
IsNextTooLarge rule (Some i) e pairs = (rule ≡ rules.Sum) × (2 ^ 64 ≤ (slice_index_or pairs i e).1 + e.1)

-- a map has the key
abbrev pub has_seen : BTreeMap (Bor (List ℕ)) (Unit {0}) → List ℕ → Bool
has_seen seen key = is_some (get_by (λ k. slice_cmp nat_cmp key k.now) seen)
