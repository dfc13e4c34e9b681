-- The distances of pairs that are written, and how automata of a word measure keys.
use Rattle.std.proofs.lemmas.Bool.{le-leb, lt-leb}
use Rattle.std.proofs.Common.{◌≡◌, ◌≢◌, ℕ, ◌+◌, ◌*◌, ◌<◌, ◌≤◌, ◌⊎◌, zero, suc, inl, inr, List, [], ◌∷◌, ◌++◌, length, map, get_or, set, refl, sym, ◌∙◌, ap, subst, arith, Bool, true, false, Option, Some, None, IfSome}
use Rattle.std.proofs.lemmas.List.{map-append, length-map}
use Rattle.std.proofs.lemmas.Str.{IsUtf8-nil, IsUtf8-from_ascii, is_utf8-from_IsUtf8, chars-nil, chars-IsAscii}
use Rattle.std.specs.FinMap.{entries}
use Rattle.std.proofs.lemmas.Str.Ascii.{IsAscii-from_all}
use Rattle.std.specs.Str.{chars, IsAscii}
use Rattle.zerotrie_core.specs.Kind.{Kind}
use Rattle.zerotrie_core.specs.Listings.{to_come}
use Rattle.zerotrie_core.specs.Maps.{Pairs, Map}
use Rattle.zerotrie_core.specs.Texts.{Means}
use Rattle.zerotrie_core.specs.WellFormed.{IsWellFormed}
use Rattle.zerotrie_index.specs.Tries.{folded_key}
use Rattle.zerotrie_search.specs.Automata.{any_accepts, any_edits_to, edits_to, free_if, ignores_case, most_by, word_by}
use Rattle.zerotrie_search.specs.Edits.{distance}
use Rattle.zerotrie_search.specs.Nearest.{nearest as nearest_of, Nearing}
use Rattle.zerotrie_search.specs.Swaps.{osa_distance}
use Rattle.zerotrie_search.specs.Texts.{text_measure}
use Rattle.zerotrie_search.specs.declared.any.AnyAutomaton.{AnyAutomaton}
use Rattle.zerotrie_search.specs.declared.any.AnyAutomaton.TheVariants as any
use Rattle.zerotrie_search.specs.declared.any.SearchBy.{SearchBy}
use Rattle.zerotrie_search.specs.declared.glob.Glob.{Glob}
use Rattle.zerotrie_search.specs.declared.glob.chars.GlobChars.{GlobChars}
use Rattle.zerotrie_search.specs.declared.prefix.StartsWith.{StartsWith}
use Rattle.zerotrie_search.specs.declared.range.KeyRange.{KeyRange}
use Rattle.zerotrie_search.specs.declared.subsequence.Subsequence.{Subsequence}
use Rattle.zerotrie_c.specs.Listed.{part, IsPut}
use Rattle.zerotrie_c.specs.Nearest.{edits_by, measured, IsNearestListed}
use Rattle.zerotrie_c.proofs.PartLemmas.{nothing_written, set_more}

-- the distance of each pair is at the front of the room
pub record Distances (measure : List ℕ → Option ℕ) (pairs : Pairs) (old room : List ℕ) : Type 0 where
  pub told : List ℕ
  pub told_are : map Some told ≡ map (λ p. measure p.0) pairs
  pub placed : IsPut told true old room

pub distances_start : (measure : List ℕ → Option ℕ) (room : List ℕ) → Distances measure [] room room
distances_start measure room = record { told = []; told_are = refl; placed = (omega arith, refl) }

pub distances_more : {measure : List ℕ → Option ℕ} {pairs : Pairs} {old room : List ℕ} {count : ℕ} → Distances measure pairs old room → count ≡ length pairs
    → (key : List ℕ) (v d : ℕ) → measure key ≡ Some d → count < length room → Distances measure (pairs ++ (key, v) ∷ []) old (set room count d)
distances_more {measure} {pairs} {old} {room} {count} ds count_is key v d is inside =
    let len : length ds.told ≡ length pairs = sym (length-map ds.told Some) ∙ ap length ds.told_are ∙ length-map pairs (λ p. measure p.0) in
    record {
      told = ds.told ++ d ∷ [];
      told_are = map-append Some ds.told (d ∷ []) ∙ ap (λ xs. xs ++ Some d ∷ []) ds.told_are ∙ ap (λ x. map (λ p. measure p.0) pairs ++ x ∷ []) (sym is)
          ∙ sym (map-append (λ p. measure p.0) pairs ((key, v) ∷ []));
      placed = set_more ds.told d old room count ds.placed (count_is ∙ sym len) inside;
    }

-- a listing of the nearest to a word, by the automaton of this measure and these edits
module _ {T : Type 0} (measure_by : T → List ℕ → Option ℕ) (most_by_it : T → ℕ) (kind : Kind) (bytes : List ℕ) (automaton : T) (measure : List ℕ → Option ℕ) (edits : ℕ)
    (same : measure_by automaton ≡ measure) (as_many : most_by_it automaton ≡ edits) where
  pub near_known : (s : Nearing T) → ((m : Map) → Means kind bytes m → s.left ≡ to_come (nearest_of (measure_by automaton) (entries m) 0 (suc (most_by_it automaton))))
      → s.kind ≡ kind → s.bytes ≡ bytes → s.automaton ≡ automaton → (m : Map) → Means kind bytes m
      → (measure_by s.automaton ≡ measure) × IsWellFormed s.kind s.bytes × (s.left.pairs ≡ nearest_of measure (entries m) 0 (suc edits))
  near_known s left kind_is bytes_is is m means =
      let well : IsWellFormed kind bytes = (m, means) in (
        ap measure_by is ∙ same,
        subst (λ k. IsWellFormed k s.bytes) (sym kind_is) (subst (λ b. IsWellFormed kind b) (sym bytes_is) well),
        ap (λ l. l.pairs) (left m means) ∙ ap (λ f. nearest_of f (entries m) 0 (suc (most_by_it automaton))) same ∙ ap (λ n. nearest_of measure (entries m) 0 (suc n)) as_many,
      )

  pub near_any : (s : Nearing T) → s.most ≤ suc (most_by_it automaton) * length bytes → s.automaton ≡ automaton → (measure_by s.automaton ≡ measure) × (s.most ≤ suc edits * length bytes)
  near_any s most is = (ap measure_by is ∙ same, subst (λ n. s.most ≤ suc n * length bytes) as_many most)

-- what measures a word as a kind compares it measures the word
pub measured_by : (kind : Kind) (how : SearchBy) (word folded : List ℕ) (edits : List ℕ → Option ℕ) → folded ≡ word_by kind how word → edits ≡ edits_to (ignores_case kind) how folded
    → ◌≡◌ {A = List ℕ → Option ℕ} (λ key. edits (folded_key kind key)) (measured kind how word)
measured_by kind how word folded edits is same =
    ap (λ f key. f (folded_key kind key)) same ∙ ap (λ w key. edits_to (ignores_case kind) how w (folded_key kind key)) is

-- a search with edits has as many as are asked for, and some key takes an edit
free_zero : (b : Bool) (n : ℕ) → free_if b ≡ Some n → n ≡ 0
free_zero true n e = cc
free_zero false n e = absurd (cc)

-- a measure of words by their letters that counts each letter of the word for the empty key, and each of the key for the empty word
never_free : (of : List ℕ → List ℕ → ℕ) → ((a : ℕ) (w : List ℕ) → of (a ∷ w) [] ≡ 1 + length w) → ((key : List ℕ) → of [] key ≡ length key)
    → (word : List ℕ) → of word [] ≡ 0 → of word (65 ∷ []) ≡ 0 → ⊥
never_free of begun none [] of_empty of_one = omega (arith, none (65 ∷ []), of_one)
never_free of begun none (a ∷ word) of_empty of_one = omega (arith, begun a word, of_empty)

text_empty : (of : List ℕ → ℕ) → text_measure of [] ≡ Some (of [])
text_empty of = rw (is_utf8-from_IsUtf8 [] IsUtf8-nil, chars-nil) refl

letter_below : (k d : ℕ) → k < 1 → get_or (65 ∷ []) k d < 128
letter_below zero d less = omega arith
letter_below (suc k) d less = absurd (omega (arith, less))

letter : IsAscii (65 ∷ [])
letter = IsAscii-from_all (65 ∷ []) letter_below

text_letter : (of : List ℕ → ℕ) → text_measure of (65 ∷ []) ≡ Some (of (65 ∷ []))
text_letter of = rw (is_utf8-from_IsUtf8 (65 ∷ []) (IsUtf8-from_ascii (65 ∷ []) letter), chars-IsAscii (65 ∷ []) letter) refl

abbrev pub Counts : ℕ → SearchBy → Type 0
Counts edits how = (most_by how ≡ edits) × ((any_case : Bool) (word : List ℕ) (finds : List ℕ → Bool) → ◌≡◌ {A = List ℕ → Option ℕ} (λ key. free_if (finds key)) (edits_to any_case how word) → ⊥)

by_bytes : (of : List ℕ → List ℕ → ℕ) → ((a : ℕ) (w : List ℕ) → of (a ∷ w) [] ≡ 1 + length w) → ((key : List ℕ) → of [] key ≡ length key)
    → (word : List ℕ) (finds : List ℕ → Bool) → ◌≡◌ {A = List ℕ → Option ℕ} (λ key. free_if (finds key)) (λ key. Some (of word key)) → ⊥
by_bytes of begun none word finds e =
    never_free of begun none word (free_zero (finds []) (of word []) (ap (λ f. f []) e)) (free_zero (finds (65 ∷ [])) (of word (65 ∷ [])) (ap (λ f. f (65 ∷ [])) e))

by_chars : (of : List ℕ → List ℕ → ℕ) → ((a : ℕ) (w : List ℕ) → of (a ∷ w) [] ≡ 1 + length w) → ((key : List ℕ) → of [] key ≡ length key)
    → (word : List ℕ) (finds : List ℕ → Bool) → ◌≡◌ {A = List ℕ → Option ℕ} (λ key. free_if (finds key)) (text_measure (of word)) → ⊥
by_chars of begun none word finds e =
    never_free of begun none word (free_zero (finds []) (of word []) (ap (λ f. f []) e ∙ text_empty (of word)))
    (free_zero (finds (65 ∷ [])) (of word (65 ∷ [])) (ap (λ f. f (65 ∷ [])) e ∙ text_letter (of word)))

pub counted : (number edits : ℕ) → IfSome (edits_by number edits) (Counts edits)
counted zero edits = tt
counted (suc zero) edits = tt
counted (suc (suc zero)) edits = tt
counted (suc (suc (suc zero))) edits = (refl, λ any_case word. by_bytes distance (λ a w. refl) (λ key. refl) word)
counted (suc (suc (suc (suc zero)))) edits = (refl, λ any_case word. by_chars distance (λ a w. refl) (λ key. refl) (chars word))
counted (suc (suc (suc (suc (suc zero))))) edits = (refl, λ any_case word. by_bytes osa_distance (λ a w. refl) (λ key. refl) word)
counted (suc (suc (suc (suc (suc (suc zero)))))) edits = (refl, λ any_case word. by_chars osa_distance (λ a w. refl) (λ key. refl) (chars word))
counted (suc (suc (suc (suc (suc (suc (suc n))))))) edits = rw (le-leb 3 (suc (suc (suc (suc (suc (suc (suc n))))))) (omega arith), lt-leb (suc (suc (suc (suc (suc (suc (suc n))))))) 6 (omega arith)) tt

-- the automata that count no edits
pub free_by : (a : AnyAutomaton) → ((x : StartsWith) × (a ≡ any.Prefix x)) ⊎ (((x : KeyRange) × (a ≡ any.Range x)) ⊎ (((x : Glob) × (a ≡ any.Glob x)) ⊎ (((x : GlobChars) × (a ≡ any.GlobChars x)) ⊎ ((x : Subsequence) × (a ≡ any.Subsequence x)))))
    → ◌≡◌ {A = List ℕ → Option ℕ} (any_edits_to a) (λ key. free_if (any_accepts a key))
free_by a (inl p) = rw p.1 refl
free_by a (inr (inl p)) = rw p.1 refl
free_by a (inr (inr (inl p))) = rw p.1 refl
free_by a (inr (inr (inr (inl p)))) = rw p.1 refl
free_by a (inr (inr (inr (inr p)))) = rw p.1 refl

-- no pair is written, since an allocation failed
pub none_near : (measure : List ℕ → Option ℕ) (pairs : Pairs) (keys ends values distances : List ℕ) (next_len : ℕ) {status count next : ℕ} → (status ≡ 11) × (count ≡ 0) × (next ≡ next_len)
    → IsNearestListed measure pairs status (part keys ends values 0 next_len, distances) (part keys ends values count next, distances)
none_near measure pairs keys ends values distances next_len is =
    ([], pairs, [], refl, is.1, nothing_written (part keys ends values 0 next_len), refl, (omega arith, refl), inr (inr (is.0, is.2)))
