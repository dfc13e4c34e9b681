-- What the listings of a choice give.
use Rattle.std.proofs.Common.{◌≡◌, ◌≤◌, ◌<◌, ◌^◌, ◌∙◌, ℕ, zero, suc, List, [], ◌∷◌, ◌++◌, Bool, true, false, not, take, length, Option, Some, None, Result, Ok, Err, IfOk, refl, sym, ap, subst, arith}
use Rattle.std.specs.Prelude.{◌==◌, ◌&&◌, if◌then◌else◌}
use Rattle.std.specs.Range.Bound.{bound_map}
use Rattle.std.specs.FinMap.{entries}
use Rattle.std.specs.Io.KnownBytes.{Appends}
use Rattle.std.specs.declared.alloc.AllocError.{AllocError}
use Rattle.zerotrie_base.proofs.CanonicalLemmas.Bounds.{entries_count}
use Rattle.zerotrie_core.specs.Kind.{Kind}
use Rattle.zerotrie_core.specs.Kinds.{kind_of}
use Rattle.zerotrie_core.specs.Listings.{Left, to_come}
use Rattle.zerotrie_core.specs.Maps.{Pairs, Map, beginning, begins_with, map_of}
use Rattle.zerotrie_core.specs.Texts.{Lists, Means}
use Rattle.zerotrie_core.specs.WellFormed.{IsWellFormed}
use Rattle.zerotrie_core.specs.declared.TrieKind.{TrieKind}
use Rattle.zerotrie_files.specs.Parts.{AppendsPart}
use Rattle.zerotrie_index.specs.Tries.{folded_key}
use Rattle.zerotrie_search.proofs.PathLemmas.{lists_few}
use Rattle.zerotrie_search.specs.Automata.{any_edits_to, any_most}
use Rattle.zerotrie_search.specs.Nearest.{nearest}
use Rattle.zerotrie_search.specs.Searches.{accepted, accepted_left}
use Rattle.zerotrie_search.specs.Sorted.{within}
use Rattle.zerotrie_search.specs.declared.any.AnyAutomaton.{AnyAutomaton}
use Rattle.zerotrie_search.specs.declared.range.KeyRange.{KeyRange}
use Rattle.zerotrie_queries.specs.Chosen.{at_edits, begins_of, chosen, closest, edits_matched, edits_of, is_chosen, is_kept, is_matched, measured, told_edits, AreWordsOf, HasWords}
use Rattle.zerotrie_queries.specs.Listed.{limited, first_left, first_picked, printed, Gives, IsPrintable, AreListed, AreListedInPart, AreUnprintable}
use Rattle.zerotrie_queries.specs.Near.{edits_from}
use Rattle.zerotrie_queries.specs.Printed.{are_printable, can_print, edits_line, listed, IsFirstUnprintable}
use Rattle.zerotrie_queries.specs.Pairs.{AreChosenValid, left_of_chosen}
use Rattle.zerotrie_queries.specs.Ranked.{greatest, ranked, topped}
use Rattle.zerotrie_queries.specs.Sorted.{found_between, is_prefix_alone, picked, AreWithin}
use Rattle.zerotrie_queries.specs.declared.folding.FoldedWords.{FoldedWords}
use Rattle.zerotrie_queries.specs.declared.print.Form.{Form}
use Rattle.zerotrie_queries.specs.declared.print.Form.TheVariants.{Lines, Distances, Json, Count}
use Rattle.zerotrie_queries.specs.declared.listing.listed.ChosenPairs.{ChosenPairs}
use Rattle.zerotrie_queries.specs.declared.question.Choice.{Choice}
use Rattle.zerotrie_queries.specs.declared.question.Order.{Order}
use Rattle.zerotrie_queries.specs.declared.question.Order.TheVariants.{Stored, ByBytes, Closest, Nearest}
use Rattle.zerotrie_queries.specs.declared.question.ListQuery.{ListQuery}
use Rattle.zerotrie_queries.proofs.ChoiceLemmas.{accepted_alike, by_all, few_accepted, kept_alone}
use Rattle.zerotrie_queries.proofs.FoldLemmas.{picked_folded}
use Rattle.zerotrie_queries.proofs.NearLemmas.{few_of_nearest, near_kept, two_as_one}
use Rattle.zerotrie_queries.proofs.PartLemmas.{part_none}
use Rattle.zerotrie_queries.proofs.RankLemmas.{ranked_len}
use Rattle.zerotrie_queries.proofs.SortedLemmas.{chosen_within, gives_between}

-- of the pairs that its word finds those of which the other conditions of a choice hold
chosen_so : (kind : TrieKind) (c : Choice) (keep : List ℕ → Bool) → ((key : List ℕ) → keep key ≡ is_kept kind c key) → (r : KeyRange) → AreWithin kind c (bound_map (λ b. b.now) r.from) (bound_map (λ b. b.now) r.to) → (pairs : Pairs)
    → accepted keep (found_between r (is_matched kind c.sought) pairs) ≡ picked ByBytes kind c pairs
chosen_so kind c keep kept r inside pairs =
    let between = within (bound_map (λ b. b.now) r.from) (bound_map (λ b. b.now) r.to) (map_of pairs) in
    two_as_one keep (is_matched kind c.sought) between ∙ accepted_alike (λ key. keep key && is_matched kind c.sought key) (is_chosen kind c) (by_all kind c keep (is_matched kind c.sought) kept (λ key. refl)) between
    ∙ chosen_within kind c (bound_map (λ b. b.now) r.from) (bound_map (λ b. b.now) r.to) (map_of pairs) inside

-- what is kept of what a listing gives
pub gives_kept : {P : Type 0} (IsValid : P → Type 0) (left : P → Left) (kind : TrieKind) (c : Choice) (keep : List ℕ → Bool) → ((key : List ℕ) → keep key ≡ is_kept kind c key) → (r : KeyRange) → AreWithin kind c (bound_map (λ b. b.now) r.from) (bound_map (λ b. b.now) r.to)
    → (bytes : List ℕ) (p : P) → Gives IsValid left (found_between r (is_matched kind c.sought)) kind bytes p → (pairs : Pairs) → Lists (kind_of kind) bytes pairs → IsValid p × (accepted_left keep (left p) ≡ to_come (picked ByBytes kind c pairs))
gives_kept IsValid left kind c keep kept r inside bytes p h pairs lists =
    let given = h pairs lists in
    (given.0, ap (accepted_left keep) given.1 ∙ ap to_come (chosen_so kind c keep kept r inside pairs))

pub gives_near : {P : Type 0} (IsValid : P → Type 0) (left : P → Left) (kind : TrieKind) (c : Choice) (keep : List ℕ → Bool) (measure : List ℕ → Option ℕ) (most : ℕ) → ((key : List ℕ) → keep key ≡ is_kept kind c key)
    → ((key : List ℕ) → measure key ≡ edits_matched kind c.sought key) → most ≡ edits_of c → (bytes : List ℕ) (p : P)
    → Gives IsValid left (λ pairs. nearest measure (entries (map_of pairs)) 0 (suc most)) kind bytes p → (pairs : Pairs) → Lists (kind_of kind) bytes pairs → IsValid p × (accepted_left keep (left p) ≡ to_come (picked Nearest kind c pairs))
gives_near IsValid left kind c keep measure most kept edits is bytes p h pairs lists =
    let given = h pairs lists in
    (given.0, ap (accepted_left keep) given.1 ∙ ap to_come (near_kept kind c keep measure most kept edits is pairs))

-- as it does by an automaton, of keys or of the nearest of their fronts
pub gives_by : {P : Type 0} (IsValid : P → Type 0) (left : P → Left) (kind : TrieKind) (c : Choice) (keep : List ℕ → Bool) (begins : Bool) (a any : AnyAutomaton) → begins ≡ begins_of c.sought → any ≡ a → ((key : List ℕ) → keep key ≡ is_kept kind c key)
    → ((key : List ℕ) → edits_from (begins_of c.sought) (any_edits_to any) (folded_key (kind_of kind) key) ≡ edits_matched kind c.sought key) → any_most any ≡ edits_of c → (bytes : List ℕ) (p : P)
    → Gives IsValid left (λ pairs. nearest (λ key. edits_from begins (any_edits_to a) (folded_key (kind_of kind) key)) (entries (map_of pairs)) 0 (suc (any_most a))) kind bytes p → (pairs : Pairs) → Lists (kind_of kind) bytes pairs → IsValid p × (accepted_left keep (left p) ≡ to_come (picked Nearest kind c pairs))
gives_by IsValid left kind c keep begins a any told is kept edits most bytes p =
    gives_near IsValid left kind c keep (λ key. edits_from begins (any_edits_to a) (folded_key (kind_of kind) key)) (any_most a) kept
    (λ key. ap (λ b. edits_from b (any_edits_to a) (folded_key (kind_of kind) key)) told ∙ ap (λ x. edits_from (begins_of c.sought) (any_edits_to x) (folded_key (kind_of kind) key)) (sym is) ∙ edits key)
    (sym (ap any_most is) ∙ most) bytes p

-- all are kept where there is no condition
all_accepted : (pairs : Pairs) → accepted (λ _. true) pairs ≡ pairs
all_accepted [] = refl
all_accepted (e ∷ pairs) = ap (λ l. e ∷ l) (all_accepted pairs)

-- and the pairs with a prefix are those of a choice that has no other condition
pub gives_prefix : (kind : TrieKind) (c : Choice) → is_prefix_alone c ≡ true → ((key : List ℕ) → is_chosen kind c key ≡ begins_with (kind_of kind) c.prefix.now key) → (bytes : List ℕ) (left : Left)
    → ((pairs : Pairs) → Lists (kind_of kind) bytes pairs → left ≡ to_come (beginning (kind_of kind) c.prefix.now pairs))
    → (pairs : Pairs) → Lists (kind_of kind) bytes pairs → Unit {0} × (accepted_left (λ _. true) left ≡ to_come (picked Stored kind c pairs))
gives_prefix kind c alone same bytes left h pairs lists =
    let begun = beginning (kind_of kind) c.prefix.now pairs in
    let one : begun ≡ chosen kind c pairs = accepted_alike (begins_with (kind_of kind) c.prefix.now) (is_chosen kind c) (λ key. sym (same key)) pairs in
    let as_stored : chosen kind c pairs ≡ picked Stored kind c pairs = ap (λ b. if b then chosen kind c pairs else chosen kind c (entries (map_of pairs))) (sym alone) in
    (tt, ap (accepted_left (λ _. true)) (h pairs lists) ∙ ap to_come (all_accepted begun ∙ one ∙ as_stored))

pub gives_all : {P : Type 0} (IsValid : P → Type 0) (left : P → Left) (pick : Pairs → Pairs) (kind : TrieKind) (bytes : List ℕ) (p : P)
    → Gives IsValid left pick kind bytes p → (pairs : Pairs) → Lists (kind_of kind) bytes pairs → IsValid p × (accepted_left (λ _. true) (left p) ≡ to_come (pick pairs))
gives_all IsValid left pick kind bytes p h pairs lists =
    let given = h pairs lists in
    (given.0, ap (accepted_left (λ _. true)) given.1 ∙ ap to_come (all_accepted (pick pairs)))

-- without a word those are chosen that are kept
pub gives_kept_alone : (kind : TrieKind) (c : Choice) (keep : List ℕ → Bool) → c.sought ≡ None → ((key : List ℕ) → keep key ≡ is_kept kind c key) → (r : KeyRange) → AreWithin kind c (bound_map (λ b. b.now) r.from) (bound_map (λ b. b.now) r.to)
    → (bytes : List ℕ) (k : Kind) (b : List ℕ) (left : Left) → length bytes < 2 ^ 64 → k ≡ kind_of kind → b ≡ bytes
    → ((m : Map) → Means (kind_of kind) bytes m → left ≡ to_come (accepted keep (within (bound_map (λ b. b.now) r.from) (bound_map (λ b. b.now) r.to) m)))
    → (pairs : Pairs) → Lists (kind_of kind) bytes pairs → IsWellFormed k b × (left ≡ to_come (picked ByBytes kind c pairs))
gives_kept_alone kind c keep none kept r inside bytes k b left short is_kind is_bytes h pairs lists =
    let from = bound_map (λ b. b.now) r.from in
    let to = bound_map (λ b. b.now) r.to in
    let given = gives_between kind keep (is_chosen kind c) (λ key. kept key ∙ kept_alone kind c none key) from to bytes k b left short is_kind is_bytes h pairs lists in
    (given.0, given.1 ∙ ap to_come (chosen_within kind c from to (map_of pairs) inside))

-- any other choice is listed in the order of bytes
pub gives_else : {P : Type 0} (IsValid : P → Type 0) (left : P → Left) (kind : TrieKind) (c : Choice) → is_prefix_alone c ≡ false → (bytes : List ℕ) (p : P)
    → Gives IsValid left (picked ByBytes kind c) kind bytes p → (pairs : Pairs) → Lists (kind_of kind) bytes pairs → IsValid p × (left p ≡ to_come (picked Stored kind c pairs))
gives_else IsValid left kind c other bytes p h pairs lists =
    let given = h pairs lists in
    (given.0, given.1 ∙ ap to_come (ap (λ b. if b then chosen kind c pairs else chosen kind c (entries (map_of pairs))) (sym other)))

-- what is picked alike is given alike
pub gives_same : {P : Type 0} (IsValid : P → Type 0) (left : P → Left) (p q : Pairs → Pairs) (kind : TrieKind) (bytes : List ℕ) (s : P)
    → ((pairs : Pairs) → Lists (kind_of kind) bytes pairs → p pairs ≡ q pairs) → Gives IsValid left p kind bytes s → Gives IsValid left q kind bytes s
gives_same IsValid left p q kind bytes s same h pairs lists = let given = h pairs lists in (given.0, given.1 ∙ ap to_come (same pairs lists))

-- whether a listing has a pair
pub has_any : {P : Type 0} (IsValid : P → Type 0) (left : P → Left) (kind : TrieKind) (c : Choice) (bytes : List ℕ) (p : P) (r : Result Bool AllocError)
    → Gives IsValid left (picked ByBytes kind c) kind bytes p → IfOk r (λ found. IsValid p → (length (left p).pairs == 0) ≡ not found)
    → IfOk r (λ found. (m : Map) → Means (kind_of kind) bytes m → (length (chosen kind c (entries m)) == 0) ≡ not found)
has_any IsValid left kind c bytes p (Ok found) gives none = λ m means.
    let given = gives means.pairs means.lists in
    let is : (left p).pairs ≡ chosen kind c (entries m) = ap (λ l. l.pairs) given.1 ∙ ap (λ n. chosen kind c (entries n)) (sym means.is) in
    subst (λ l. (length l == 0) ≡ not found) is (none given.0)
has_any IsValid left kind c bytes p (Err e) gives none = tt

-- those of them that have the greatest values
pub gives_greatest : (most : ℕ) (pick : Pairs → Pairs) (kind : TrieKind) (bytes : List ℕ) (p s : ChosenPairs) → AreChosenValid s → (AreChosenValid p → left_of_chosen s ≡ to_come (accepted (λ _. true) (greatest most (left_of_chosen p).pairs)))
    → Gives AreChosenValid left_of_chosen pick kind bytes p → Gives AreChosenValid left_of_chosen (λ all. greatest most (pick all)) kind bytes s
gives_greatest most pick kind bytes p s valid left h pairs lists =
    let given = h pairs lists in
    (valid, left given.0 ∙ ap to_come (all_accepted (greatest most (left_of_chosen p).pairs) ∙ ap (λ l. greatest most l.pairs) given.1))

-- the first of them, of a choice with folded words
pub gives_first : {P : Type 0} (IsValid : P → Type 0) (left : P → Left) (kind : TrieKind) (s : ListQuery) (words : FoldedWords) (d : Choice) (bytes : List ℕ) (p : P) → AreWordsOf kind s.choice words → HasWords words s.choice d
    → Gives IsValid left (λ all. topped s.top (picked s.order kind d all)) kind bytes p → (pairs : Pairs) → Lists (kind_of kind) bytes pairs → IsValid p × (first_left false s.limit (left p) ≡ to_come (first_picked s kind pairs))
gives_first IsValid left kind s words d bytes p are has h pairs lists =
    let given = h pairs lists in
    (given.0, ap (first_left false s.limit) (given.1 ∙ ap (λ l. to_come (topped s.top l)) (picked_folded kind s.choice words d are has s.order pairs)))

-- they are no more than all
few_taken : (n : ℕ) (pairs : Pairs) → length (take n pairs) ≤ length pairs
few_taken zero pairs = omega arith
few_taken (suc n) [] = omega arith
few_taken (suc n) (e ∷ pairs) = let rest = few_taken n pairs in omega (arith, rest)

few_limited : (limit : Option ℕ) (pairs : Pairs) → length (limited limit pairs) ≤ length pairs
few_limited None pairs = omega arith
few_limited (Some n) pairs = few_taken n pairs

few_topped : (top : Option ℕ) (pairs : Pairs) → length (topped top pairs) ≤ length pairs
few_topped None pairs = omega arith
few_topped (Some most) pairs = let few = few_taken most (ranked pairs) in let all = ranked_len (λ e. e.1) [] pairs in omega (arith, few, all)

few_closest : (kind : TrieKind) (c : Choice) (pairs : Pairs) (e n : ℕ) → length (closest kind c pairs e n) ≤ length pairs
few_closest kind c pairs e zero = few_accepted (is_chosen kind (at_edits e c)) pairs
few_closest kind c pairs e (suc n) = go (length (chosen kind (at_edits e c) pairs) == 0) refl (few_closest kind c pairs (suc e) n)
  where
    go : (b : Bool) → (length (chosen kind (at_edits e c) pairs) == 0) ≡ b → length (closest kind c pairs (suc e) n) ≤ length pairs → length (closest kind c pairs e (suc n)) ≤ length pairs
    go true is more = rw is more
    go false is more = rw is (few_accepted (is_chosen kind (at_edits e c)) pairs)

few_picked : (order : Order) (kind : TrieKind) (c : Choice) (pairs : Pairs) → length (picked order kind c pairs) ≤ length pairs
few_picked Stored kind c pairs = go (is_prefix_alone c)
  where
    go : (b : Bool) → length (if b then chosen kind c pairs else chosen kind c (entries (map_of pairs))) ≤ length pairs
    go true = few_accepted (is_chosen kind c) pairs
    go false = let few = few_accepted (is_chosen kind c) (entries (map_of pairs)) in let all = entries_count pairs in omega (arith, few, all)
few_picked ByBytes kind c pairs = let few = few_accepted (is_chosen kind c) (entries (map_of pairs)) in let all = entries_count pairs in omega (arith, few, all)
few_picked Closest kind c pairs = let few = few_closest kind c (entries (map_of pairs)) 0 (edits_of c) in let all = entries_count pairs in omega (arith, few, all)
few_picked Nearest kind c pairs = let few = few_of_nearest (measured kind c) (entries (map_of pairs)) 0 (suc (edits_of c)) in let all = entries_count pairs in omega (arith, few, all)

pub few_first : (s : ListQuery) (kind : TrieKind) (bytes : List ℕ) → length bytes < 2 ^ 64 → (pairs : Pairs) → Lists (kind_of kind) bytes pairs → length (first_picked s kind pairs) < 2 ^ 64
few_first s kind bytes short pairs lists =
    let first = few_limited s.limit (topped s.top (picked s.order kind s.choice pairs)) in
    let top = few_topped s.top (picked s.order kind s.choice pairs) in
    let few = few_picked s.order kind s.choice pairs in
    let all = lists_few lists in
    omega (arith, first, top, few, all, short)

-- what is not begun is written in part
pub none_written : (form : Form) (s : ListQuery) (kind : TrieKind) (bytes : List ℕ) (old : Option (List ℕ)) → AreListedInPart form s kind bytes old old
none_written form s kind bytes old pairs lists = part_none old (printed form s kind pairs)

-- lines with the same edits are the same
same_lines : (e f : List ℕ → ℕ) → ((key : List ℕ) → e key ≡ f key) → (pairs : Pairs) → listed Distances e pairs ≡ listed Distances f pairs
same_lines e f same [] = refl
same_lines e f same (p ∷ pairs) = rw (same p.0) (ap (λ l. edits_line p (f p.0) ++ l) (same_lines e f same pairs))

listed_alike : (form : Form) (e f : List ℕ → ℕ) → ((key : List ℕ) → e key ≡ f key) → (pairs : Pairs) → listed form e pairs ≡ listed form f pairs
listed_alike (Lines style) e f same pairs = refl
listed_alike Distances e f same pairs = same_lines e f same pairs
listed_alike Json e f same pairs = refl
listed_alike Count e f same pairs = refl

-- what is written of a listing is what is picked of the pairs that the bytes list
module _ {P : Type 0} (IsValid : P → Type 0) (left : P → Left) (form : Form) (s : ListQuery) (kind : TrieKind) (bytes : List ℕ) (p : P) (short : length bytes < 2 ^ 64) (gives : Gives IsValid left (first_picked s kind) kind bytes p)
    (edits : List ℕ → ℕ) (told : (key : List ℕ) → edits key ≡ told_edits kind s.choice key) (old new : Option (List ℕ)) where
  pub written_all : ((pairs : Pairs) → Lists (kind_of kind) bytes pairs → IsPrintable form (first_picked s kind pairs)) → (IsValid p → length (left p).pairs < 2 ^ 64 → Appends old new (listed form edits (left p).pairs))
      → AreListed form s kind bytes old new
  written_all printable wrote pairs lists =
      let given = gives pairs lists in
      let is : (left p).pairs ≡ first_picked s kind pairs = ap (λ l. l.pairs) given.1 in
      let same = listed_alike form edits (told_edits kind s.choice) told (first_picked s kind pairs) in
      (printable pairs lists, subst (Appends old new) (ap (listed form edits) is ∙ same) (wrote given.0 (subst (λ l. length l < 2 ^ 64) (sym is) (few_first s kind bytes short pairs lists))))

  pub written_part : (IsValid p → length (left p).pairs < 2 ^ 64 → AppendsPart old new (listed form edits (left p).pairs)) → AreListedInPart form s kind bytes old new
  written_part wrote pairs lists =
      let given = gives pairs lists in
      let is : (left p).pairs ≡ first_picked s kind pairs = ap (λ l. l.pairs) given.1 in
      let same = listed_alike form edits (told_edits kind s.choice) told (first_picked s kind pairs) in
      subst (AppendsPart old new) (ap (listed form edits) is ∙ same) (wrote given.0 (subst (λ l. length l < 2 ^ 64) (sym is) (few_first s kind bytes short pairs lists)))

-- a key of a listing that can't be printed is one of what is picked
pub unprintable_in : {P : Type 0} (IsValid : P → Type 0) (left : P → Left) (form : Form) (s : ListQuery) (kind : TrieKind) (bytes : List ℕ) (p : P) (key : List ℕ) → Gives IsValid left (first_picked s kind) kind bytes p
    → (can_print form key ≡ false) × (IsValid p → IsFirstUnprintable form (left p).pairs key) → AreUnprintable form s kind bytes key
unprintable_in IsValid left form s kind bytes p key gives found = (found.0, λ pairs lists. (let given = gives pairs lists in subst (λ l. IsFirstUnprintable form l.pairs key) given.1 (found.1 given.0)))

-- and if none is, all can be printed
pub printable_all : {P : Type 0} (IsValid : P → Type 0) (left : P → Left) (form : Form) (s : ListQuery) (kind : TrieKind) (bytes : List ℕ) (p : P) → Gives IsValid left (first_picked s kind) kind bytes p
    → (IsValid p → are_printable form (left p).pairs ≡ true) → (pairs : Pairs) → Lists (kind_of kind) bytes pairs → IsPrintable form (first_picked s kind pairs)
printable_all IsValid left form s kind bytes p gives all pairs lists = let given = gives pairs lists in sym (ap (λ l. are_printable form l.pairs) given.1) ∙ all given.0
