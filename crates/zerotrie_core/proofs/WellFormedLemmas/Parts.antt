-- The parts of the test of a branch.
use Rattle.std.proofs.Common.{◌≡◌, ℕ, zero, suc, ◌+◌, ◌-◌, ◌*◌, ◌/◌, ◌%◌, ◌<◌, ◌≤◌, List, [], ◌∷◌, ◌++◌, length, refl, sym, ◌∙◌, ap, subst, arith, map, get_or, take, drop, true, false, Some, None, inl, inr}
use Rattle.std.specs.Prelude.{◌↔◌, ◌&&◌, ◌==◌, All, IsTrue, slice_index, nat_lt, cond, Bool, leb}
use Rattle.std.specs.List.Sorted.{IsStrictlyIncreasing}
use Rattle.std.proofs.lemmas.List.{length-take, take-take, get_or-map, get_or-take, length-map, length-take-le, length-drop, take-append-drop, get_or_append_left}
use Rattle.std.proofs.lemmas.Bool.{cases_lt, leb-true, le-leb}
use Rattle.std.proofs.lemmas.Str.Ascii.{lowercase_ascii, lowercase_is}
use Rattle.zerotrie_base.specs.Hashes.{f1, f2, place_of, number_behind, IsPerfect}
use Rattle.zerotrie_base.specs.Kind.{Kind, simple_ascii, ignore_case, perfect_hash, extended_capacity, IsAscii, flags, fold_byte, edge_limit, is_hashed, has_spans}
use Rattle.zerotrie_base.specs.Branches.{IsTable, table_size}
use Rattle.zerotrie_base.specs.Branches.IsTable.{sorted, hashed}
use Rattle.zerotrie_base.specs.Texts.{AreHigh}
use Rattle.zerotrie_base.specs.Nodes.{begin_of, end_of, targets_behind}
use Rattle.zerotrie_core.specs.listing.Listed.{target_of}
use Rattle.zerotrie_core.specs.well_formed.Branching.{extent, InOrder, AnswersEach, HasTable}
use Rattle.zerotrie_base.proofs.MapLemmas.Kinds.{hashed_spans, edge_limit_is}
use Rattle.zerotrie_base.proofs.NumberLemmas.Numbers.{IsBytes}

-- edges that rise, from neighbour to neighbour
pub rises_from : (f : ℕ → ℕ) (edges : List ℕ) → ((k : ℕ) → k + 1 < length edges → f (get_or edges k 0) < f (get_or edges (k + 1) 0)) → IsStrictlyIncreasing (map f edges)
rises_from f edges up k h =
    let n = length-map edges f in
    let less : k + 1 < length edges = omega arith in
    let below : k < length edges = omega arith in
    let a = get_or-map f edges k 0 0 below in
    let b = get_or-map f edges (k + 1) 0 0 less in
    let is = up k less in
    omega arith

pub rises_not : (f : ℕ → ℕ) (edges : List ℕ) (i : ℕ) → 1 ≤ i → i < length edges → f (get_or edges i 0) ≤ f (get_or edges (i - 1) 0) → IsStrictlyIncreasing (map f edges) → ⊥
rises_not f edges zero one h wrong up = omega arith
rises_not f edges (suc k) one h wrong up =
    let n = length-map edges f in
    let next : suc k - 1 ≡ k = omega arith in
    let wrong' : f (get_or edges (suc k) 0) ≤ f (get_or edges k 0) = subst (λ j. f (get_or edges (suc k) 0) ≤ f (get_or edges j 0)) next wrong in
    let step : k + 1 ≡ suc k = omega arith in
    let is : get_or (map f edges) k 0 < get_or (map f edges) (suc k) 0 = subst (λ j. get_or (map f edges) k 0 < get_or (map f edges) j 0) step (up k (omega arith)) in
    let below : k < length edges = omega arith in
    let a = get_or-map f edges k 0 0 below in
    let b = get_or-map f edges (suc k) 0 0 h in
    omega arith

-- a byte of a kind that keeps case
kept : (kind : Kind) → (flags kind).ignore_case ≡ false → (b : ℕ) → fold_byte kind b ≡ b
kept simple_ascii keeps b = refl
kept ignore_case keeps b = absurd (cc)
kept perfect_hash keeps b = refl
kept extended_capacity keeps b = refl

-- the first of some bytes that stand at the front of others
pub front_lies : (n : ℕ) (bytes tail : List ℕ) → bytes ≡ take (length bytes) tail → n ≤ length bytes → (n ≤ length tail) × (take n tail ≡ take n bytes)
front_lies n bytes tail lies within =
    let len : length bytes ≡ _ = ap length lies ∙ length-take (length bytes) tail in
    (omega arith, sym (ap (take n) lies ∙ take-take n (length bytes) tail within))

-- edges that keep their case, by the neighbours that stand at their front
front_rises : (kind : Kind) (n m : ℕ) (bytes : List ℕ) → (flags kind).ignore_case ≡ false → n ≤ length bytes → n ≤ 16 → n ≤ m + 1
    → ((k : ℕ) → k < 16 → k < m → get_or bytes k 0 < get_or bytes (k + 1) 0) → IsStrictlyIncreasing (map (fold_byte kind) (take n bytes))
front_rises kind n m bytes keeps long few reached up = rises_from (fold_byte kind) (take n bytes) (λ k h. (
    let len = length-take-le n bytes long in
    let a = kept kind keeps (get_or (take n bytes) k 0) ∙ get_or-take n bytes k 0 (omega arith) in
    let b = kept kind keeps (get_or (take n bytes) (k + 1) 0) ∙ get_or-take n bytes (k + 1) 0 (omega arith) in
    let less = up k (omega arith) (omega arith) in
    omega arith
    ))

front_stops : (kind : Kind) (n m : ℕ) (bytes : List ℕ) → (flags kind).ignore_case ≡ false → n ≤ length bytes → m + 1 < n → get_or bytes (m + 1) 0 ≤ get_or bytes m 0
    → IsStrictlyIncreasing (map (fold_byte kind) (take n bytes)) → ⊥
front_stops kind n m bytes keeps long before stops up =
    let len = length-take-le n bytes long in
    let e : (m + 1) - 1 ≡ m = omega arith in
    let a = kept kind keeps (get_or (take n bytes) (m + 1) 0) ∙ get_or-take n bytes (m + 1) 0 (omega arith) in
    let b = kept kind keeps (get_or (take n bytes) m 0) ∙ get_or-take n bytes m 0 (omega arith) in
    rises_not (fold_byte kind) (take n bytes) (m + 1) (omega arith) (omega arith) (subst (λ j. fold_byte kind (get_or (take n bytes) (m + 1) 0) ≤ fold_byte kind (get_or (take n bytes) j 0)) (sym e) (omega arith)) up

-- as many as rise at the front tell
pub rises_by : (kind : Kind) (n m : ℕ) (bytes : List ℕ) → (flags kind).ignore_case ≡ false → 1 ≤ n → n ≤ length bytes → n ≤ 16
    → ((k : ℕ) → k < 16 → k < m → get_or bytes k 0 < get_or bytes (k + 1) 0) → (m < 16 → get_or bytes (m + 1) 0 ≤ get_or bytes m 0)
    → IsTrue (leb (n - 1) m) ↔ IsStrictlyIncreasing (map (fold_byte kind) (take n bytes))
rises_by kind n m bytes keeps some long few up stops = (
  λ e. front_rises kind n m bytes keeps long few (let h = leb-true (n - 1) m e in omega arith) up,
  λ rising. elim (cases_lt m (n - 1)) [
    | inl before ↦ absurd (front_stops kind n m bytes keeps long (omega arith) (stops (omega arith)) rising)
    | inr reached ↦ le-leb (n - 1) m reached
  ],
)

-- bytes of a span
pub high_from : (run : List ℕ) → IsBytes run → ((i : ℕ) → i < length run → 128 ≤ get_or run i 0) → AreHigh run
high_from [] bytes h = tt
high_from (b ∷ run) bytes h = (h 0 (omega arith), bytes 0, high_from run (λ i. bytes (suc i)) (λ i l. h (suc i) (omega arith)))

pub high_at : (run : List ℕ) → AreHigh run → (i : ℕ) → i < length run → 128 ≤ get_or run i 0
high_at [] high i h = absurd (omega arith)
high_at (b ∷ run) high zero h = high.0
high_at (b ∷ run) high (suc i) h = high_at run high.2 i (omega arith)

-- a hashed table that answers each edge by its place
number_is : (p n i : ℕ) (rest : List ℕ) (b : ℕ) → number_behind p n rest b ≡ Some i → place_of p rest (n % 256) b ≡ i
number_is p n i rest b e = chosen (nat_lt 0 n && (slice_index rest (n + place_of p rest (n % 256) b) == b)) e
  where
    chosen : (is : Bool) → cond is (Some (place_of p rest (n % 256) b)) None ≡ Some i → place_of p rest (n % 256) b ≡ i
    chosen true f = cc
    chosen false f = absurd (cc)

bucket_below : (b p m n : ℕ) → b < 256 → (m ≡ 0 → 256 ≤ n) → m ≤ n → f1 b p m < n
bucket_below b p zero n byte whole h = let all = whole refl in omega arith
bucket_below b zero (suc m) n byte whole h = omega arith
bucket_below b (suc p) (suc m) n byte whole h = omega arith

one_place : (p n b : ℕ) (qs keys : List ℕ) → length qs ≡ n → 1 ≤ n → n ≤ 256 → b < 256 → place_of p (qs ++ keys) (n % 256) b ≡ place_of p qs (n % 256) b
one_place p n b qs keys len some most byte =
    let bucket = bucket_below b p (n % 256) n byte (λ z. omega arith) (omega arith) in
    ap (λ q. f2 b q (n % 256)) (get_or_append_left qs keys 0 (f1 b p (n % 256)) (omega arith))

get_or_same : (xs : List ℕ) (j d : ℕ) → j < length xs → get_or xs j 0 ≡ get_or xs j d
get_or_same [] j d l = absurd (omega arith)
get_or_same (x ∷ xs) zero d l = refl
get_or_same (x ∷ xs) (suc j) d l = get_or_same xs j d (omega arith)

byte_all : (bytes : List ℕ) → IsBytes bytes → All (λ b. b < 256) bytes
byte_all bytes h i d l = subst (λ x. x < 256) (get_or_same bytes i d l) (h i)

pub bytes_parts : (n : ℕ) (bytes : List ℕ) → IsBytes bytes → IsBytes (take n bytes)
bytes_parts zero bytes h i = omega arith
bytes_parts (suc n) [] h i = omega arith
bytes_parts (suc n) (b ∷ bytes) h zero = h 0
bytes_parts (suc n) (b ∷ bytes) h (suc i) = bytes_parts n bytes (λ j. h (suc j)) i

split_table : (n : ℕ) (rest edges : List ℕ) → length rest ≡ 2 * n → length edges ≡ n → drop n rest ≡ edges → rest ≡ take n rest ++ edges
split_table n rest edges len count e = sym (take-append-drop n rest) ∙ ap (λ x. take n rest ++ x) e

pub perfect_from : (kind : Kind) (n : ℕ) (edges table : List ℕ) → is_hashed kind n ≡ true → 1 ≤ n → n ≤ 256 → length edges ≡ n → length table ≡ 2 * n + 1 → drop (length table - n) table ≡ edges
    → IsBytes table → IsBytes edges → AnswersEach table edges → IsTable kind edges table
perfect_from kind n edges [] wide some most count long ends bytes low each = absurd (omega arith)
perfect_from kind n edges (p ∷ rest) wide some most count long ends bytes low each =
    let len : length rest ≡ 2 * n = omega arith in
    let back : length (p ∷ rest) - n ≡ suc n = omega arith in
    let ends' : drop n rest ≡ edges = ap (λ k. drop k (p ∷ rest)) (sym back) ∙ ends in
    let qs = take n rest in
    let split = split_table n rest edges len count ends' in
    let qs_len : length qs ≡ n = length-take-le n rest (omega arith) in
    let half : length rest / 2 ≡ n = omega arith in
    let perfect : IsPerfect p qs edges = record {
      p_byte = bytes 0;
      q_bytes = byte_all qs (bytes_parts n rest (λ i. bytes (suc i)));
      a_q_each = qs_len ∙ sym count;
      places = λ i h. (
          let b = get_or edges i 0 in
          let is = number_is p n i rest b (ap (λ k. number_behind p k rest b) (sym half) ∙ each i h) in
          ap (λ k. place_of p qs (k % 256) b) count ∙ sym (one_place p n b qs edges qs_len some most (low i)) ∙ ap (λ r. place_of p r (n % 256) b) (sym split) ∙ is
          );
    } in
    subst (λ r. IsTable kind edges (p ∷ r)) (sym split) (hashed (ap (is_hashed kind) count ∙ wide) perfect)

pub limit_all : (kind : Kind) → has_spans kind ≡ true → (edges : List ℕ) → IsBytes edges → All (λ b. b < edge_limit kind) edges
limit_all simple_ascii h edges bytes = absurd (cc)
limit_all ignore_case h edges bytes = absurd (cc)
limit_all perfect_hash h edges bytes = byte_all edges bytes
limit_all extended_capacity h edges bytes = byte_all edges bytes

-- the kinds without hashed tables are those over ASCII keys
pub unhashed_ascii : (kind : Kind) → (flags kind).use_phf ≡ false → IsAscii kind
unhashed_ascii simple_ascii h = tt
unhashed_ascii ignore_case h = tt
unhashed_ascii perfect_hash h = absurd (cc)
unhashed_ascii extended_capacity h = absurd (cc)

pub hashed_kind : (kind : Kind) → (flags kind).use_phf ≡ true → has_spans kind ≡ true
hashed_kind simple_ascii h = absurd (cc)
hashed_kind ignore_case h = absurd (cc)
hashed_kind perfect_hash h = refl
hashed_kind extended_capacity h = refl

-- a table that is not hashed is the edges
pub plain_table : (kind : Kind) (n : ℕ) (edges table : List ℕ) → is_hashed kind n ≡ false → length edges ≡ n → length table ≡ table_size kind n → drop (length table - n) table ≡ edges → table ≡ edges
plain_table kind n edges table plain count long ends =
    let size : table_size kind n ≡ n = rw plain refl in
    let none : length table - n ≡ 0 = omega arith in
    ap (λ k. drop k table) (sym none) ∙ ends

pub sorted_from : (kind : Kind) (n : ℕ) (edges table : List ℕ) → is_hashed kind n ≡ false → length edges ≡ n → table ≡ edges → IsStrictlyIncreasing (map (fold_byte kind) edges) → IsTable kind edges table
sorted_from kind n edges table plain count same up = subst (λ t. IsTable kind edges t) (sym same) (sorted (ap (is_hashed kind) count ∙ plain) up)

pub sorted_to : {kind : Kind} {n : ℕ} {edges table : List ℕ} → is_hashed kind n ≡ false → length edges ≡ n → IsTable kind edges table → IsStrictlyIncreasing (map (fold_byte kind) edges)
sorted_to plain count (sorted h up) = up
sorted_to {kind = kind} plain count (hashed h perfect) = absurd (let not = ap (is_hashed kind) count ∙ plain in cc)

pub perfect_to : {kind : Kind} {n : ℕ} {edges table : List ℕ} → is_hashed kind n ≡ true → length edges ≡ n → IsTable kind edges table → (p : ℕ) × (qs : List ℕ) × (table ≡ p ∷ (qs ++ edges)) × IsPerfect p qs edges
perfect_to {kind = kind} wide count (sorted h up) = absurd (let not = ap (is_hashed kind) count ∙ wide in cc)
perfect_to wide count (hashed {p = p} {qs = qs} h perfect) = (p, qs, refl, perfect)

-- one more target in its order
pub order_more : (n w : ℕ) (behind : List ℕ) (index : ℕ) → InOrder n w behind index → begin_of n w behind index < end_of n w behind index → end_of n w behind index ≤ length (targets_behind n w behind) → InOrder n w behind (index + 1)
order_more n w behind index order low high i h = elim (cases_lt i index) [
  | inl less ↦ order i less
  | inr past ↦ (let same : index ≡ i = omega arith in subst (λ k. (begin_of n w behind k < end_of n w behind k) × (end_of n w behind k ≤ length (targets_behind n w behind))) same (low, high))
]

pub target_long : (n w : ℕ) (behind : List ℕ) (i : ℕ) (target : List ℕ) → begin_of n w behind i ≤ end_of n w behind i → end_of n w behind i ≤ length (targets_behind n w behind) → target ≡ target_of n w behind i → length target ≡ extent n w behind i
target_long n w behind i target low high is =
    let rest = length-drop (begin_of n w behind i) (targets_behind n w behind) in
    ap length is ∙ length-take-le (extent n w behind i) (drop (begin_of n w behind i) (targets_behind n w behind)) (omega arith)

-- a table that is not hashed is tested by its edges
pub plain_test : (kind : Kind) (R : Type 0) (n : ℕ) (es edges table : List ℕ) → is_hashed kind n ≡ false → es ≡ edges → length edges ≡ n → drop (length table - n) table ≡ edges
    → (IsStrictlyIncreasing (map (fold_byte kind) es) → All (λ b. b < edge_limit kind) es) → (R ↔ IsStrictlyIncreasing (map (fold_byte kind) es)) → length table ≡ table_size kind n → R ↔ HasTable kind edges table
plain_test kind R n es edges table plain same count ends low exactly long = (
  λ r. (sorted_from kind n edges table plain count (plain_table kind n edges table plain count long ends) (subst (λ x. IsStrictlyIncreasing (map (fold_byte kind) x)) same (exactly.0 r)), subst (λ x. All (λ b. b < edge_limit kind) x) same (low (exactly.0 r))),
  λ has. exactly.1 (subst (λ x. IsStrictlyIncreasing (map (fold_byte kind) x)) (sym same) (sorted_to plain count has.0)),
)

-- a hashed one by the places of its edges
pub hashed_test : (kind : Kind) (R : Type 0) (n : ℕ) (es edges table : List ℕ) → is_hashed kind n ≡ true → es ≡ edges → 1 ≤ n → n ≤ 256 → length edges ≡ n → drop (length table - n) table ≡ edges → IsBytes table → IsBytes es
    → (R → AnswersEach table es) → ((p : ℕ) (qs : List ℕ) → table ≡ p ∷ (qs ++ es) → IsPerfect p qs es → R) → length table ≡ table_size kind n → R ↔ HasTable kind edges table
hashed_test kind R n es edges table wide same some most count ends bytes low each back long =
    let size : table_size kind n ≡ 2 * n + 1 = rw wide refl in
    let low' = subst IsBytes same low in (
      λ r. (perfect_from kind n edges table wide some most count (long ∙ size) ends bytes low' (subst (AnswersEach table) same (each r)), limit_all kind (hashed_spans kind n wide) edges low'),
      λ has. (let is = perfect_to wide count has.0 in back is.0 is.1 (is.2 ∙ ap (λ x. is.0 ∷ (is.1 ++ x)) (sym same)) (subst (IsPerfect is.0 is.1) (sym same) is.3)),
    )

-- what rises up to a byte below 128 is below it
pub ascii_below : (kind : Kind) → IsAscii kind → (n : ℕ) (bytes : List ℕ) → 1 ≤ n → n ≤ length bytes → get_or bytes (n - 1) 0 < 128 → IsStrictlyIncreasing (map (fold_byte kind) (take n bytes)) → All (λ b. b < edge_limit kind) (take n bytes)
ascii_below kind ascii n bytes some long low up i d h =
    let len = length-take-le n bytes long in
    let m = length-map (take n bytes) (fold_byte kind) in
    let last = get_or-take n bytes (n - 1) 0 (omega arith) in
    let last' = get_or-map (fold_byte kind) (take n bytes) (n - 1) 0 0 (omega arith) in
    let here = get_or-map (fold_byte kind) (take n bytes) i 0 0 h in
    let less = increases (map (fold_byte kind) (take n bytes)) up i (n - 1) (omega arith) (omega arith) in
    let folds : fold_byte kind (get_or (take n bytes) (n - 1) 0) < 128 = (folds_low kind ascii (get_or (take n bytes) (n - 1) 0)).0 (omega arith) in
    let is : get_or (take n bytes) i 0 < 128 = (folds_low kind ascii (get_or (take n bytes) i 0)).1 (omega arith) in
    subst (λ x. x < edge_limit kind) (get_or_same (take n bytes) i d h) (let limit = edge_limit_is kind ascii in omega arith)
  where
    increases : (xs : List ℕ) → IsStrictlyIncreasing xs → (i j : ℕ) → i ≤ j → j < length xs → get_or xs i 0 ≤ get_or xs j 0
    increases xs up i zero le h = (let e : i ≡ 0 = omega arith in subst (λ k. get_or xs k 0 ≤ get_or xs 0 0) (sym e) (omega arith))
    increases xs up i (suc j) le h = elim (cases_lt i (suc j)) [
      | inl less ↦
          let more = increases xs up i j (omega arith) (omega arith) in
          let step : j + 1 ≡ suc j = omega arith in
          let next : get_or xs j 0 < get_or xs (suc j) 0 = subst (λ k. get_or xs j 0 < get_or xs k 0) step (up j (omega arith)) in
          omega arith
      | inr same ↦ (let e : i ≡ suc j = omega arith in subst (λ k. get_or xs k 0 ≤ get_or xs (suc j) 0) (sym e) (omega arith))
    ]

    folds_low : (kind : Kind) → IsAscii kind → (b : ℕ) → (b < 128 → fold_byte kind b < 128) × (fold_byte kind b < 128 → b < 128)
    folds_low simple_ascii ascii b = (λ h. h, λ h. h)
    folds_low ignore_case ascii b = (
      lowercase_ascii b,
      λ h. elim (cases_lt b 128) [
        | inl low ↦ low
        | inr high ↦ (let same = (lowercase_is b).2 (omega arith) in omega arith)
      ],
    )
    folds_low perfect_hash ascii b = absurd ascii
    folds_low extended_capacity ascii b = absurd ascii
