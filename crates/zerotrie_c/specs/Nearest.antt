-- The keys nearest to a word, as C is told of them.
use Rattle.std.specs.Prelude.{◌≡◌, ◌⊎◌, ◌++◌, ◌&&◌, ℕ, List, length, map, min, nat_le, true, Option, Some, None, if◌then◌else◌}
use Rattle.zerotrie_core.specs.Kind.{Kind}
use Rattle.zerotrie_core.specs.Maps.{Pairs}
use Rattle.zerotrie_index.specs.Tries.{folded_key}
use Rattle.zerotrie_search.specs.Automata.{edits_to, ignores_case, word_by}
use Rattle.zerotrie_search.specs.declared.any.SearchBy.{SearchBy}
use Rattle.zerotrie_c.specs.Listed.{Part, IsWritten, IsPut, IsEnded}
use Rattle.zerotrie_c.specs.Searched.{search_by, IsWordFault, IsRightWord}
use Rattle.zerotrie_c.specs.Statuses.{IsUnwritten}

-- how edits are counted, by the number of the search: of bytes, or of characters; the same with swaps
abbrev pub edits_by : ℕ → ℕ → Option SearchBy
edits_by number edits = if nat_le 3 number && nat_le number 6 then search_by number edits else None

-- how many edits make a key of a word, if any number does; the key is as a kind compares it, and the word too
abbrev pub measured : Kind → SearchBy → List ℕ → List ℕ → Option ℕ
measured kind by word key = edits_to (ignores_case kind) by (word_by kind by word) (folded_key kind key)

-- What a listing of the nearest comes to: as a part of a listing, and each number of edits is written into a room of its own.
abbrev pub IsNearestListed : (List ℕ → Option ℕ) → Pairs → ℕ → Part × List ℕ → Part × List ℕ → Type 0
IsNearestListed measure pairs status before after =
    (written : Pairs) × (left : Pairs) × (told : List ℕ) × (pairs ≡ written ++ left) × (after.0.count ≡ length written)
    × IsWritten written before.0 after.0 × (map Some told ≡ map (λ p. measure p.0) written) × IsPut told true before.1 after.1
    × IsEnded (min (length before.0.values) (length before.1)) written left status before.0 after.0

-- What a call for these pairs comes to, by how edits are counted and the word: the nearest of them; or the fault of the
-- word, and nothing is written.
abbrev pub IsNearestTold : Kind → SearchBy × List ℕ → Pairs → ℕ → Part × List ℕ → Part × List ℕ → Type 0
IsNearestTold kind asked pairs status before after =
    (IsRightWord asked.0 asked.1 × IsNearestListed (measured kind asked.0 asked.1) pairs status before after)
    ⊎ (IsWordFault asked.0 asked.1 status × IsUnwritten before after)
