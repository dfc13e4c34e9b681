-- Sorted listings of the pairs that are chosen.
use Rattle.std.proofs.Common.{◌≡◌, ℕ, suc, ◌+◌, ◌<◌, ◌^◌, take, drop, List, [], ◌∷◌, ◌++◌, Bool, true, false, cond, length, refl, sym, ◌∙◌, ap, subst, arith, Option, None, inl, inr, Less, Equal}
use Rattle.std.proofs.Math.Seq.{split_at}
use Rattle.std.specs.Prelude.{slice_index, is_some, ◌==◌, ◌&&◌, ◌≢◌}
use Rattle.std.specs.FinMap.{entries}
use Rattle.std.specs.Ordering.{nat_cmp, is_le}
use Rattle.std.specs.Cmp.{nat_cmp_is}
use Rattle.std.specs.Cmp.Lexicographic.{slice_cmp}
use Rattle.std.specs.Range.Bound.{bound_map, bounds_contain, is_up_to_end}
use Rattle.std.specs.declared.ops.Bound.{Bound}
use Rattle.std.specs.declared.ops.Bound.TheVariants.{Included, Excluded, Unbounded}
use Rattle.std.proofs.lemmas.Bool.{cases_eq, ne_eqb, eq-eqb}
use Rattle.zerotrie_core.specs.Kind.{Kind, same_byte}
use Rattle.zerotrie_core.specs.Kinds.{kind_of}
use Rattle.zerotrie_core.specs.Maps.{Pairs, Map, map_of, after_run, begins_with}
use Rattle.zerotrie_core.specs.Listings.{Left, to_come}
use Rattle.zerotrie_core.specs.Texts.{Lists, Means}
use Rattle.zerotrie_core.specs.WellFormed.{IsWellFormed}
use Rattle.zerotrie_core.specs.declared.TrieKind.{TrieKind}
use Rattle.zerotrie_core.specs.declared.TrieKind.TheVariants.{Simple, Ignore, Hash, Ext}
use Rattle.zerotrie_search.specs.Searches.{accepted}
use Rattle.zerotrie_search.specs.Sets.{by_bytes}
use Rattle.zerotrie_search.specs.Sorted.{within}
use Rattle.zerotrie_queries.specs.Chosen.{AreBelow, chosen, is_chosen, is_in, is_matched, is_spared, IsFolded}
use Rattle.zerotrie_queries.specs.Sorted.{AreWithin}
use Rattle.zerotrie_queries.specs.declared.question.Choice.{Choice}
use Rattle.zerotrie_queries.proofs.ChoiceLemmas.{accepted_alike, accepted_within}
use Rattle.zerotrie_queries.proofs.FoldLemmas.{exact_key, in_range}

-- the pairs that are chosen between bounds are all that are chosen, if each key that is chosen is between them
pub chosen_within : (kind : TrieKind) (c : Choice) (from to : Bound (List ℕ)) (m : Map) → AreWithin kind c from to → accepted (is_chosen kind c) (within from to m) ≡ chosen kind c (entries m)
chosen_within kind c from to m h = accepted_within (is_chosen kind c) (bounds_contain by_bytes from to) (entries m) h

tied : (x : ℕ) → nat_cmp x x ≡ Equal
tied x = sym (nat_cmp_is x x Equal refl)

below : (x : ℕ) → nat_cmp x (suc x) ≡ Less
below x = sym (nat_cmp_is x (suc x) Less (omega arith))

-- the byte with which a key begins that begins with a run
begun : (x c : ℕ) (r : Option (List ℕ)) → is_some (cond (x == c) r None) ≡ true → (c ≡ x) × (is_some r ≡ true)
begun x c r h = elim (cases_eq x c) [
  | inl same ↦ (sym same, subst (λ t. is_some (cond t r None) ≡ true) (eq-eqb x c same) h)
  | inr other ↦ absurd (let no = subst (λ t. is_some (cond t r None) ≡ true) (ne_eqb x c other) h in cc)
]

-- a key that begins with a run is not below it
run_from : (front key : List ℕ) → is_some (after_run front key) ≡ true → is_le (slice_cmp nat_cmp front key) ≡ true
run_from [] [] h = refl
run_from [] (c ∷ key) h = refl
run_from (x ∷ front) [] h = absurd (cc)
run_from (x ∷ front) (c ∷ key) h =
    let b = begun x c (after_run front key) h in
    rw (b.0, tied x) (run_from front key b.1)

-- and it is below the run whose byte after a front is the next one
pub run_below : (front : List ℕ) (b : ℕ) (rest key : List ℕ) → is_some (after_run (front ++ b ∷ rest) key) ≡ true → slice_cmp nat_cmp key (front ++ suc b ∷ []) ≡ Less
run_below [] b rest [] h = absurd (cc)
run_below [] b rest (c ∷ key) h =
    let is = begun b c (after_run rest key) h in
    rw (is.0, below b) refl
run_below (x ∷ front) b rest [] h = absurd (cc)
run_below (x ∷ front) b rest (c ∷ key) h =
    let is = begun x c (after_run (front ++ b ∷ rest) key) h in
    rw (is.0, tied x) (run_below front b rest key is.1)

-- so all keys that begin with some bytes are below these bytes up to a place, with the next byte there
pub prefix_below : (prefix : List ℕ) (place : ℕ) (bound : List ℕ) → place < length prefix → bound ≡ take place prefix ++ (slice_index prefix place + 1) ∷ [] → AreBelow prefix (Excluded bound)
prefix_below prefix place bound inside is key begins =
    let one : suc (slice_index prefix place) ≡ slice_index prefix place + 1 = omega arith in
    let less : slice_cmp nat_cmp key bound ≡ Less = subst (λ l. slice_cmp nat_cmp key l ≡ Less) (ap (λ n. take place prefix ++ n ∷ []) one ∙ sym is)
    (run_below (take place prefix) (slice_index prefix place) (drop (suc place) prefix) key
    (subst (λ p. is_some (after_run p key) ≡ true) (split_at prefix place 0 inside) begins)) in
    rw less refl

-- where case counts, bytes are the same if they are equal
same_is : (kind : TrieKind) → kind ≢ Ignore → (a b : ℕ) → same_byte (kind_of kind) a b ≡ (a == b)
same_is Simple h a b = refl
same_is Ignore h a b = absurd (h refl)
same_is Hash h a b = refl
same_is Ext h a b = refl

-- a key that begins with a prefix there begins with its bytes
as_run : (kind : TrieKind) → kind ≢ Ignore → (front key : List ℕ) → begins_with (kind_of kind) front key ≡ true → is_some (after_run front key) ≡ true
as_run kind exact [] key h = refl
as_run kind exact (c ∷ front) [] h = absurd (cc)
as_run kind exact (c ∷ front) (b ∷ key) h =
    elim (cases_eq b c) [
      | inl same ↦ rw (eq-eqb c b (sym same)) (as_run kind exact front key (subst (λ t. (t && begins_with (kind_of kind) front key) ≡ true) (same_is kind exact b c ∙ eq-eqb b c same) h))
      | inr other ↦ absurd (let no = subst (λ t. (t && begins_with (kind_of kind) front key) ≡ true) (same_is kind exact b c ∙ ne_eqb b c other) h in cc)
    ]

both : (a b : Bool) → a ≡ true → b ≡ true → (a && b) ≡ true
both true true p q = refl
both true false p q = q
both false b p q = p

-- the parts of what is chosen
both_parts : (a b c d : Bool) → (((a && b) && c) && d) ≡ true → (a ≡ true) × (b ≡ true)
both_parts true true c d h = (refl, refl)
both_parts true false c d h = absurd (cc)
both_parts false b c d h = absurd (cc)

-- the keys that are chosen are between a prefix and a bound above all keys that begin with it
pub prefix_within : (kind : TrieKind) (c : Choice) (above : Bound (List ℕ)) → kind ≢ Ignore → AreBelow c.prefix.now above → AreWithin kind c (Included c.prefix.now) above
prefix_within kind c above exact h key is =
    let begins = (both_parts (begins_with (kind_of kind) c.prefix.now key) (is_in kind c.range key) (is_spared kind c.without key) (is_matched kind c.sought key) is).0 in
    let run = as_run kind exact c.prefix.now key begins in
    both (is_le (slice_cmp nat_cmp c.prefix.now key)) (is_up_to_end by_bytes above key) (run_from c.prefix.now key run) (h key run)

-- they are in the range
pub range_within : (kind : TrieKind) (c : Choice) → kind ≢ Ignore → IsFolded kind c → AreWithin kind c (bound_map (λ b. b.now) c.range.from) (bound_map (λ b. b.now) c.range.to)
range_within kind c exact h key is =
    let inside = (both_parts (begins_with (kind_of kind) c.prefix.now key) (is_in kind c.range key) (is_spared kind c.without key) (is_matched kind c.sought key) is).1 in
    subst (λ k. bounds_contain by_bytes (bound_map (λ b. b.now) c.range.from) (bound_map (λ b. b.now) c.range.to) k ≡ true) (exact_key kind exact key) (in_range kind c h key ∙ inside)

-- without bounds all keys are
pub all_within : (kind : TrieKind) (c : Choice) → AreWithin kind c Unbounded Unbounded
all_within kind c key is = refl

-- a sorted search gives the accepted pairs between two bounds of those that the bytes list
pub gives_between : (kind : TrieKind) (accepts matched : List ℕ → Bool) → ((key : List ℕ) → accepts key ≡ matched key) → (from to : Bound (List ℕ)) (bytes : List ℕ) (k : Kind) (b : List ℕ) (left : Left)
    → length bytes < 2 ^ 64 → k ≡ kind_of kind → b ≡ bytes → ((m : Map) → Means (kind_of kind) bytes m → left ≡ to_come (accepted accepts (within from to m)))
    → (pairs : Pairs) → Lists (kind_of kind) bytes pairs → IsWellFormed k b × (left ≡ to_come (accepted matched (within from to (map_of pairs))))
gives_between kind accepts matched same from to bytes k b left short is_kind is_bytes listed pairs lists =
    let means : Means (kind_of kind) bytes (map_of pairs) = record { short = short; pairs = pairs; lists = lists; is = refl } in
    (rw (is_kind, is_bytes) (map_of pairs, means), listed (map_of pairs) means ∙ ap to_come (accepted_alike accepts matched same (within from to (map_of pairs))))
