-- Search tables, and the order that they give the targets.
use Rattle.std.proofs.Common.{◌≡◌, ◌≢◌, ℕ, zero, suc, ◌+◌, ◌-◌, ◌/◌, ◌<◌, ◌≤◌, List, [], ◌∷◌, ◌++◌, length, refl, sym, ◌∙◌, ap, subst, arith, get_or, take, drop, map, true, false, ◌⊎◌, inl, inr, length-append, append_assoc, Result, Ok, Err}
use Rattle.std.specs.Prelude.{nat_eq, slice_index, Option, Contains, MatchResult}
use Rattle.std.specs.Option.{unwrap_or}
use Rattle.std.specs.List.{AllByRecursion, IsDistinct, range_with_len}
use Rattle.std.specs.List.Sorted.{IsPermutation, IsStrictlyIncreasing}
use Rattle.std.proofs.lemmas.Option.{unwrap_or-slice_get}
use Rattle.std.proofs.lemmas.Bool.{eq-eqb, ne_eqb, cases_lt}
use Rattle.std.proofs.lemmas.List.{take_more, take_all, map-append, drop_at, drop_more, get_or_default}
use Rattle.std.proofs.lemmas.List.FromFn.{map-range_with_len_more, length-map-range_with_len, get_or-map-range_with_len, length-range_with_len, get_or-range_with_len}
use Rattle.std.specs.Ordering.{nat_cmp}
use Rattle.std.specs.List.Sorted.{IsBinarySearchResult}
use Rattle.std.proofs.lemmas.List.Sorted.{searched, IsPermutation-refl, IsPermutation-map, length_permutation, Contains-permutation, IsPermutation-sym}
use Rattle.zerotrie_base.specs.Hashes.{IsPerfectTable}
use Rattle.zerotrie_base.specs.Refusals.{IsTableRefusal}
use Rattle.zerotrie_base.specs.Kind.{Kind, fold_byte, is_hashed}
use Rattle.zerotrie_base.specs.Maps.{Pairs}
use Rattle.zerotrie_base.specs.Branches.IsTable.{sorted, hashed}
use Rattle.zerotrie_base.specs.Branches.{IsTable}
use Rattle.zerotrie_base.specs.Causes.{AreCrooked}
use Rattle.zerotrie_base.specs.declared.error.ZeroTrieBuildError.{ZeroTrieBuildError}
use Rattle.zerotrie_base.specs.declared.error.ZeroTrieBuildError.TheVariants.{NonAsciiError, CapacityExceeded, CouldNotSolvePerfectHash, MixedCase, IllegalDelimiter, DuplicateKey, Unsorted, BufferTooSmall, BufferTooLarge, StackExceeded, OutOfMemory}
use Rattle.zerotrie_base.proofs.CallerLemmas.{hashed_spans, spans_fold}
use Rattle.zerotrie_build.specs.declared.windows.Window.{Window}
use Rattle.zerotrie_build.specs.passes.Windows.{byte_of, edge_of}
use Rattle.zerotrie_build.specs.passes.Measured.{TargetWindows}
use Rattle.zerotrie_build.specs.passes.Writing.{no_window, edge_no, place_in, IsHashedLayout, IsLayout}

-- each is below all after it
abbrev pub Up : List ℕ → Type 0
Up [] = Unit {0}
Up (x ∷ xs) = AllByRecursion (λ y. x < y) xs × Up xs

lower : (x y : ℕ) (xs : List ℕ) → x < y → AllByRecursion (λ z. y < z) xs → AllByRecursion (λ z. x < z) xs
lower x y [] h a = tt
lower x y (z ∷ xs) h a = (let f = a.0 in omega arith, lower x y xs h a.1)

tail_up : (x : ℕ) (xs : List ℕ) → IsStrictlyIncreasing (x ∷ xs) → IsStrictlyIncreasing xs
tail_up x xs up k h =
    let s : suc k + 1 ≡ suc (k + 1) = omega arith in
    subst (λ j. get_or (x ∷ xs) (suc k) 0 < get_or (x ∷ xs) j 0) s (up (suc k) (omega arith))

above : (x : ℕ) (xs : List ℕ) → IsStrictlyIncreasing (x ∷ xs) → Up xs → AllByRecursion (λ z. x < z) xs
above x [] up r = tt
above x (y ∷ ys) up r = let next : x < y = up 0 (omega arith) in (next, lower x y ys next r.0)

pub up_of : (xs : List ℕ) → IsStrictlyIncreasing xs → Up xs
up_of [] up = tt
up_of (x ∷ xs) up = let r = up_of xs (tail_up x xs up) in (above x xs up r, r)

all_at : (x : ℕ) (xs : List ℕ) → AllByRecursion (λ z. x < z) xs → (i : ℕ) → i < length xs → x < get_or xs i 0
all_at x [] a i h = absurd (omega arith)
all_at x (y ∷ xs) a zero h = a.0
all_at x (y ∷ xs) a (suc i) h = all_at x xs a.1 i (omega arith)

pub up_order : (xs : List ℕ) → Up xs → (i j : ℕ) → i ≤ j → j < length xs → get_or xs i 0 ≤ get_or xs j 0
up_order [] up i j le h = absurd (omega arith)
up_order (x ∷ xs) up zero zero le h = omega arith
up_order (x ∷ xs) up zero (suc j) le h = let a = all_at x xs up.0 j (omega arith) in omega arith
up_order (x ∷ xs) up (suc i) zero le h = absurd (omega arith)
up_order (x ∷ xs) up (suc i) (suc j) le h = up_order xs up.1 i j (omega arith) (omega arith)

differ_all : (x : ℕ) (xs : List ℕ) → AllByRecursion (λ z. x < z) xs → AllByRecursion (λ z. nat_eq x z ≡ false) xs
differ_all x [] a = tt
differ_all x (y ∷ xs) a = (ne_eqb x y (λ e. let f = a.0 in omega arith), differ_all x xs a.1)

pub up_distinct : (xs : List ℕ) → Up xs → IsDistinct nat_eq xs
unfolding IsDistinct
up_distinct [] up = tt
up_distinct (x ∷ xs) up = (differ_all x xs up.0, up_distinct xs up.1)

-- numbers that rise and are below a limit are no more than it
pub up_count : (low high : ℕ) (xs : List ℕ) → Up xs → AllByRecursion (λ x. low ≤ x) xs → AllByRecursion (λ x. x < high) xs → length xs ≤ high - low
up_count low high [] up from to = omega arith
up_count low high (x ∷ xs) up from to = let n = up_count (suc x) high xs up.1 up.0 to.1 in let a = from.0 in let b = to.0 in omega arith

pub place_there : (es : List ℕ) → Up es → (i : ℕ) → i < length es → place_in es (get_or es i 0) ≡ i
place_there [] up i h = absurd (omega arith)
place_there (e ∷ es) up zero h = rw (eq-eqb e e refl) refl
place_there (e ∷ es) up (suc i) h =
    let a = all_at e es up.0 i (omega arith) in
    rw (ne_eqb e (get_or es i 0) (λ s. omega arith), place_there es up.1 i (omega arith)) (let n : 1 + i ≡ suc i = omega arith in n)

-- the numbers of the edges in their own order
range_of : (place : ℕ → ℕ) (k : ℕ) (xs : List ℕ) → ((i : ℕ) → i < length xs → place (get_or xs i 0) ≡ k + i) → map (λ b. place b) xs ≡ range_with_len k (length xs)
range_of place k [] h = refl
range_of place k (x ∷ xs) h =
    let here : place x ≡ k = (let e = h 0 (omega arith) in omega arith) in
    ap (λ y. y ∷ map (λ b. place b) xs) here
    ∙ ap (λ r. k ∷ r) (range_of place (k + 1) xs (λ i l. let e = h (suc i) (omega arith) in omega arith))

pub numbers_range : (es : List ℕ) → Up es → map (λ b. place_in es b) es ≡ range_with_len 0 (length es)
numbers_range es up = range_of (place_in es) 0 es (λ i h. let at = place_there es up i h in omega arith)

back_each : (f : ℕ → ℕ) (xs : List ℕ) → ((k : ℕ) → k < length xs → f (get_or xs k 0) ≡ get_or xs k 0) → map f xs ≡ xs
back_each f [] h = refl
back_each f (x ∷ xs) h = ap (λ y. y ∷ map f xs) (h 0 (omega arith)) ∙ ap (λ r. x ∷ r) (back_each f xs (λ k l. h (suc k) (omega arith)))

pub map_both : {A B C : Type 0} (f : B → C) (h : A → B) (xs : List A) → map f (map h xs) ≡ map (λ x. f (h x)) xs
map_both f h [] = refl
map_both f h (x ∷ xs) = ap (λ r. f (h x) ∷ r) (map_both f h xs)

contains_at : (xs : List ℕ) (k : ℕ) → k < length xs → Contains xs (get_or xs k 0)
contains_at xs k h = (k, h, get_or_default xs k (get_or xs k 0) 0 h)

-- the edges of the placed numbers are the placed edges
pub edges_back : (edge : ℕ → ℕ) (n : ℕ) (placed : List ℕ) → Up (map edge (range_with_len 0 n)) → IsPermutation (map edge (range_with_len 0 n)) placed
    → map edge (map (λ b. place_in (map edge (range_with_len 0 n)) b) placed) ≡ placed
edges_back edge n placed up perm =
    let es = map edge (range_with_len 0 n) in
    map_both edge (λ b. place_in es b) placed
    ∙ back_each (λ b. edge (place_in es b)) placed (λ k h.
    let c : Contains es (get_or placed k 0) = Contains-permutation placed es (get_or placed k 0) (IsPermutation-sym es placed perm) (contains_at placed k h) in
    let i = c.0 in
    let at : get_or es i 0 ≡ get_or placed k 0 = get_or_default es i 0 (get_or placed k 0) c.1 ∙ c.2 in
    let within : i < n = (let l = length-map-range_with_len edge 0 n in let b = c.1 in omega arith) in
    ap (λ b. edge (place_in es b)) (sym at) ∙ ap edge (place_there es up i c.1)
    ∙ sym (get_or-map-range_with_len edge 0 n i i 0 within (omega arith)) ∙ at)

pub laid_sorted : (kind : Kind) (edge : ℕ → ℕ) (n : ℕ) (table numbers : List ℕ) → is_hashed kind n ≡ false → IsStrictlyIncreasing (map (fold_byte kind) (map edge (range_with_len 0 n)))
    → table ≡ map edge (range_with_len 0 n) → numbers ≡ range_with_len 0 n → IsLayout kind edge n table numbers
laid_sorted kind edge n table numbers plain up t ns =
    let range = range_with_len 0 n in
    let count = length-map-range_with_len edge 0 n in
    subst (λ x. IsLayout kind edge n x numbers) (sym t) (subst (λ x. IsLayout kind edge n (map edge range) x) (sym ns) (record {
      is_table = sorted (ap (is_hashed kind) count ∙ plain) up;
      permutation = IsPermutation-refl range;
      in_order = λ h. refl;
    }))

-- a kind with hashed tables keeps case
pub hashed_up : (kind : Kind) (n : ℕ) (es : List ℕ) → is_hashed kind n ≡ true → IsStrictlyIncreasing (map (fold_byte kind) es) → IsStrictlyIncreasing es
hashed_up kind n es h up = subst IsStrictlyIncreasing (back_each (fold_byte kind) es (λ k l. spans_fold kind (hashed_spans kind n h) (get_or es k 0))) up

pub laid_hashed : (kind : Kind) (edge : ℕ → ℕ) (n : ℕ) (edges table numbers : List ℕ) → is_hashed kind n ≡ true → IsStrictlyIncreasing (map (fold_byte kind) (map edge (range_with_len 0 n)))
    → edges ≡ map edge (range_with_len 0 n) → IsHashedLayout edges table numbers → IsLayout kind edge n table numbers
laid_hashed kind edge n edges table numbers wide rises same placing =
    let es = map edge (range_with_len 0 n) in
    let l : IsHashedLayout es table numbers = subst (λ x. IsHashedLayout x table numbers) same placing in
    let up = up_of es (hashed_up kind n es wide rises) in
    let count = length-map-range_with_len edge 0 n in
    let back = edges_back edge n l.placed up l.permutation in
    let edges_are : map edge numbers ≡ l.placed = ap (map edge) l.numbers_are ∙ back in
    let many = ap length edges_are ∙ length_permutation es l.placed l.permutation ∙ count in
    let range = numbers_range es up ∙ ap (range_with_len 0) count in
    record {
      is_table = subst (λ x. IsTable kind (map edge numbers) x) (ap (λ x. l.p ∷ (l.qs ++ x)) edges_are ∙ sym l.table_is)
          (hashed (ap (is_hashed kind) many ∙ wide) (subst (λ x. Rattle.zerotrie_base.specs.Hashes.IsPerfect l.p l.qs x) (sym edges_are) l.perfect));
      permutation = subst (λ x. IsPermutation x numbers) range (subst (λ x. IsPermutation (map (λ b. place_in es b) es) x) (sym l.numbers_are) (IsPermutation-map (λ b. place_in es b) es l.placed l.permutation));
      in_order = λ h. absurd (cc);
    }

-- the numbers of a range name a part of a list
ranged : {A B : Type 0} (f : A → B) (xs : List A) (d : A) (s n : ℕ) → s + n ≤ length xs → map (λ i. f (get_or xs i d)) (range_with_len s n) ≡ map f (take n (drop s xs))
ranged f xs d s zero h = refl
ranged f xs d s (suc n) h =
    ap (λ r. f (get_or xs s d) ∷ r) (ranged f xs d (s + 1) n (omega arith))
    ∙ sym (ap (λ x. map f (take (suc n) x)) (drop_more xs s d (omega arith)))

-- all numbers name all of it
pub named : {A B : Type 0} (f : A → B) (xs : List A) (d : A) → map (λ i. f (get_or xs i d)) (range_with_len 0 (length xs)) ≡ map f xs
named f xs d = ranged f xs d 0 (length xs) (omega arith) ∙ ap (map f) (take_all (length xs) xs (omega arith))

-- the branch as it was laid out
pub branch_hashed_laid : (kind : Kind) (all : Pairs) (ws : List Window) (edges table numbers : List ℕ) → is_hashed kind (length ws) ≡ true → IsStrictlyIncreasing (map (fold_byte kind) (map (edge_of all) ws))
    → edges ≡ map (edge_of all) ws → IsHashedLayout edges table numbers → IsLayout kind (edge_no all ws) (length ws) table numbers
branch_hashed_laid kind all ws edges table numbers wide rises same placing =
    let es = sym (named (edge_of all) ws no_window) in
    laid_hashed kind (edge_no all ws) (length ws) edges table numbers wide (subst (λ x. IsStrictlyIncreasing (map (fold_byte kind) x)) es rises) (same ∙ es) placing

pub branch_sorted_laid : (kind : Kind) (all : Pairs) (ws : List Window) (table numbers : List ℕ) → is_hashed kind (length ws) ≡ false → IsStrictlyIncreasing (map (fold_byte kind) (map (edge_of all) ws))
    → table ≡ map (edge_of all) ws → numbers ≡ range_with_len 0 (length ws) → IsLayout kind (edge_no all ws) (length ws) table numbers
branch_sorted_laid kind all ws table numbers plain rises t ns =
    let es = sym (named (edge_of all) ws no_window) in
    laid_sorted kind (edge_no all ws) (length ws) table numbers plain (subst (λ x. IsStrictlyIncreasing (map (fold_byte kind) x)) es rises) (t ∙ es) ns

-- the numbers of the targets are numbers of windows
pub numbers_within : (count : ℕ) (numbers : List ℕ) → IsPermutation (range_with_len 0 count) numbers → (k d : ℕ) → k < length numbers → get_or numbers k d < count
numbers_within count numbers perm k d h =
    let x = get_or numbers k 0 in
    let range = range_with_len 0 count in
    let c : Contains range x = Contains-permutation numbers range x (IsPermutation-sym range numbers perm) (contains_at numbers k h) in
    let l = length-range_with_len 0 count in
    let i = c.0 in
    let below : i < count = (let b = c.1 in omega arith) in
    let is = get_or-range_with_len 0 count i x below in
    let same = c.2 in
    let at = get_or_default numbers k d 0 h in
    omega arith

-- why no table was made
pub crooked : (kind : Kind) (n : ℕ) (es : List ℕ) (e : ZeroTrieBuildError) → is_hashed kind n ≡ true → length es ≡ n → IsTableRefusal es e → e ≢ OutOfMemory → (e ≡ CouldNotSolvePerfectHash) × AreCrooked kind es
crooked kind n es CouldNotSolvePerfectHash wide count r some = (refl, (ap (is_hashed kind) count ∙ wide, r.2, r.0))
crooked kind n es OutOfMemory wide count r some = absurd (some refl)
crooked kind n es NonAsciiError wide count r some = absurd r
crooked kind n es CapacityExceeded wide count r some = absurd r
crooked kind n es MixedCase wide count r some = absurd r
crooked kind n es IllegalDelimiter wide count r some = absurd r
crooked kind n es DuplicateKey wide count r some = absurd r
crooked kind n es Unsorted wide count r some = absurd r
crooked kind n es BufferTooSmall wide count r some = absurd r
crooked kind n es (BufferTooLarge needed) wide count r some = absurd r
crooked kind n es StackExceeded wide count r some = absurd r

-- the keys of a table stand after its parameters
keys_behind : (p : ℕ) (qs placed : List ℕ) → length qs ≡ length placed → drop (1 + length (p ∷ (qs ++ placed)) / 2) (p ∷ (qs ++ placed)) ≡ placed
keys_behind p qs placed same =
    let all = length-append qs placed in
    let half : length (p ∷ (qs ++ placed)) / 2 ≡ length qs = omega arith in
    let skip : 1 + length (p ∷ (qs ++ placed)) / 2 ≡ suc (length qs) = omega arith in
    ap (λ n. drop n (p ∷ (qs ++ placed))) skip ∙ drop_at qs placed (length qs) refl

pub table_keys : (keys bytes shown : List ℕ) → (t : IsPerfectTable keys bytes) → shown ≡ drop (1 + length bytes / 2) bytes → shown ≡ t.placed
table_keys keys bytes shown t is = is ∙ ap (λ b. drop (1 + length b / 2) b) t.bytes_are ∙ keys_behind t.p t.qs t.placed t.perfect.a_q_each

pub placed : (edges keys bytes shown table numbers : List ℕ) → (t : IsPerfectTable keys bytes) → keys ≡ edges → shown ≡ drop (1 + length bytes / 2) bytes → table ≡ bytes
    → numbers ≡ map (λ b. place_in edges b) shown → IsHashedLayout edges table numbers
placed edges keys bytes shown table numbers t same shows is ns = record {
  p = t.p;
  qs = t.qs;
  placed = t.placed;
  table_is = is ∙ t.bytes_are;
  perfect = t.perfect;
  permutation = subst (λ x. IsPermutation x t.placed) same t.permutation;
  numbers_are = ns ∙ ap (map (λ b. place_in edges b)) (table_keys keys bytes shown t shows);
}

-- the place of one more
pub place_more : (f : ℕ → ℕ) (ys ys' xs : List ℕ) (i y : ℕ) → ys' ≡ ys ++ y ∷ [] → ys ≡ map f (take i xs) → i < length xs → y ≡ f (get_or xs i 0) → ys' ≡ map f (take (i + 1) xs)
place_more f ys ys' xs i y pushed is h e =
    pushed ∙ ap (λ x. x ++ y ∷ []) is ∙ ap (λ x. map f (take i xs) ++ x ∷ []) e ∙ sym (map-append f (take i xs) (get_or xs i 0 ∷ [])) ∙ ap (map f) (sym (take_more xs i 0 h))

same_range : (xs : List ℕ) → map (λ x. x) xs ≡ xs
same_range xs = back_each (λ x. x) xs (λ k h. refl)

-- the next window is found, and its edge and its number
pub parts_more : (all : Pairs) (w : Window) (ws ws' : List Window) (c : Window) (cs : List Window) → ws' ≡ ws ++ c ∷ [] → TargetWindows all w (ws ++ c ∷ cs) → TargetWindows all w (ws' ++ cs)
parts_more all w ws ws' c cs pushed = subst (TargetWindows all w) (sym (append_assoc ws (c ∷ []) cs) ∙ ap (λ x. x ++ cs) (sym pushed))

pub edges_more : (all : Pairs) (ws ws' : List Window) (c : Window) (es es' : List ℕ) (e : ℕ) → ws' ≡ ws ++ c ∷ [] → es' ≡ es ++ e ∷ [] → es ≡ map (edge_of all) ws → e ≡ edge_of all c → es' ≡ map (edge_of all) ws'
edges_more all ws ws' c es es' e pushed more are is =
    more ∙ ap (λ x. x ++ e ∷ []) are ∙ ap (λ x. map (edge_of all) ws ++ x ∷ []) is ∙ sym (map-append (edge_of all) ws (c ∷ [])) ∙ ap (map (edge_of all)) (sym pushed)

-- a number more
pub range_more : (k : ℕ) → range_with_len 0 k ++ k ∷ [] ≡ range_with_len 0 (k + 1)
range_more k =
    ap (λ x. x ++ k ∷ []) (sym (same_range (range_with_len 0 k))) ∙ sym (map-range_with_len_more (λ x. x) 0 k k (omega arith)) ∙ same_range (range_with_len 0 (k + 1))

-- a search among edges that rise finds each that is placed
pub found : (edges placed : List ℕ) (i x : ℕ) (r : Result ℕ ℕ) → IsStrictlyIncreasing edges → IsPermutation edges placed → i < length placed → x ≡ get_or placed i 0 → IsBinarySearchResult (λ y. nat_cmp y x) edges r
    → MatchResult r (λ k. (k < length edges) × (k ≡ place_in edges x)) (λ k. ⊥)
found edges placed i x r up perm h e search = told r (searched edges x r search (up_order edges rises))
  where
    rises : Up edges
    rises = up_of edges up

    c : Contains edges x
    c = Contains-permutation placed edges x (IsPermutation-sym edges placed perm) (subst (Contains placed) (sym e) (contains_at placed i h))

    at : get_or edges c.0 0 ≡ x
    at = get_or_default edges c.0 0 x c.1 ∙ c.2

    apart : (k : ℕ) → ((j : ℕ) → j < k → get_or edges j 0 < x) → ((j : ℕ) → k ≤ j → j < length edges → x < get_or edges j 0) → (c.0 < k) ⊎ (k ≤ c.0) → ⊥
    apart k low high (inl below) = let l = low c.0 below in let a = at in omega arith
    apart k low high (inr from) = let l = high c.0 from c.1 in let a = at in omega arith

    told : (r : Result ℕ ℕ) → MatchResult r (λ k. (k < length edges) × (get_or edges k 0 ≡ x)) (λ k. (k ≤ length edges) × ((j : ℕ) → j < k → get_or edges j 0 < x) × ((j : ℕ) → k ≤ j → j < length edges → x < get_or edges j 0))
        → MatchResult r (λ k. (k < length edges) × (k ≡ place_in edges x)) (λ k. ⊥)
    told (Ok k) t = (t.0, sym (ap (place_in edges) (sym t.1) ∙ place_there edges rises k t.0))
    told (Err k) t = apart k t.1 t.2 (cases_lt c.0 k)

-- the byte with which a window goes on is that of the edge of its first target
pub edge_known : (all : Pairs) (w : Window) (byte : Option ℕ) (to edge : ℕ) → byte ≡ byte_of all w.from w.depth → edge ≡ unwrap_or byte 0
    → edge ≡ edge_of all (record { from = w.from; to = to; depth = w.depth + 1 })
edge_known all w byte to edge known is =
    let key = (get_or all w.from ([], 0)).0 in
    let depth : w.depth ≡ w.depth + 1 - 1 = omega arith in
    is ∙ ap (λ o. unwrap_or o 0) known ∙ unwrap_or-slice_get key w.depth 0 ∙ ap (λ d. slice_index key d) depth
