-- An index that is read at places.
use Rattle.std.specs.Prelude.{◌≡◌, ◌⊎◌, ℕ, ◌+◌, ◌-◌, ◌*◌, ◌/◌, ◌^◌, ◌<◌, ◌≤◌, [], ◌++◌, List, length, get_or, take, drop, Option, None, suc}
use Rattle.std.specs.List.{flat_map}
use Rattle.std.specs.Int.{from_le_bytes, w64}
use Rattle.std.proofs.Common.{refl, ap, sym, ◌∙◌, arith, subst, length-append, inl, inr}
use Rattle.std.proofs.lemmas.List.{append_assoc, drop-append-le, drop-drop, length-drop}
use Rattle.std.proofs.lemmas.Nat.{from_le_bytes-to_le_bytes_8}
use Rattle.std.proofs.Math.Seq.{take-add, take-append_seam, drop-append_seam, drop-append-add}
use Rattle.std.proofs.lemmas.List.Elements.{All-get_or}
use Rattle.zerotrie_base.specs.Kind.{simple_ascii}
use Rattle.zerotrie_base.specs.Maps.{Pairs, value_at}
use Rattle.zerotrie_index.specs.Hash.{eight_at, hash_of}
use Rattle.zerotrie_index.specs.Layout.{word, place_of, mark_of, AreRecords, IsIndex}
use Rattle.zerotrie_index.specs.Placed.{IsPart, AreWords, IsAnswer, IsAnswerOfParts, FailsNoMore, FailsWithin, FailsInside}
use Rattle.zerotrie_index.proofs.BucketLemmas.{Has, has, one_more}
use Rattle.zerotrie_index.proofs.WordLemmas.{drop_word, length-words, words_from}

-- ---- what was read

-- sixteen bytes are two words
two : (part : List ℕ) (a b x y : ℕ) (after : List ℕ) → part ≡ take 16 (word a ++ (word b ++ after)) → a < 2 ^ 64 → b < 2 ^ 64
    → x ≡ eight_at part 0 → y ≡ eight_at part 8 → (x ≡ a) × (y ≡ b)
unfolding word eight_at
two part a b x y after is below under xs ys = (
  xs ∙ ap (λ p. from_le_bytes w64 p) is ∙ from_le_bytes-to_le_bytes_8 a below,
  ys ∙ ap (λ p. from_le_bytes w64 (drop 8 p)) is ∙ from_le_bytes-to_le_bytes_8 b under,
)

pub two_words : (bytes : List ℕ) (place : ℕ) (part : List ℕ) (x y : ℕ) → length part ≡ 16 → part ≡ take (length part) (drop place bytes)
    → x ≡ eight_at part 0 → y ≡ eight_at part 8 → AreWords bytes place x y
two_words bytes place part x y long is xs ys = λ a b after below under at.
    two part a b x y after (is ∙ ap (λ n. take n (drop place bytes)) long ∙ ap (take 16) at) below under xs ys

-- nothing was read
pub no_part : (MayHold : List ℕ → Type 0) (place : ℕ) → IsPart MayHold place []
no_part MayHold place = λ bytes may. refl

pub joined : (part more bytes : List ℕ) → part ≡ take (length part) bytes → more ≡ take (length more) (drop (length part) bytes)
    → part ++ more ≡ take (length (part ++ more)) bytes
joined part more bytes is and =
    ap (λ p. p ++ more) is ∙ ap (λ q. take (length part) bytes ++ q) and ∙ sym (take-add (length part) (length more) bytes)
    ∙ ap (λ n. take n bytes) (sym (length-append part more))

-- what was read behind a part belongs to it
pub more_part : (MayHold : List ℕ → Type 0) (place : ℕ) (part more : List ℕ) → IsPart MayHold place part → IsPart MayHold (place + length part) more → IsPart MayHold place (part ++ more)
more_part MayHold place part more is and = λ bytes may.
    joined part more (drop place bytes) (is bytes may) (and bytes may ∙ ap (take (length more)) (sym (drop-drop (length part) place bytes)))

-- ---- where the parts of an index lie

two_entries : (seed count : ℕ) (entries pool : List ℕ) (i : ℕ) → suc i < length entries
    → drop (16 + 8 * i) (word seed ++ (word count ++ (flat_map word entries ++ pool)))
    ≡ word (get_or entries i 0) ++ (word (get_or entries (suc i) 0) ++ (drop (8 * suc (suc i)) (flat_map word entries) ++ pool))
two_entries seed count entries pool i inside =
    let table = flat_map word entries in
    let long = length-words entries in
    ap (λ n. drop n (word seed ++ (word count ++ (table ++ pool)))) (omega arith)
    ∙ drop_word seed (word count ++ (table ++ pool)) (8 + 8 * i) ∙ drop_word count (table ++ pool) (8 * i)
    ∙ drop-append-le (8 * i) table pool (omega arith)
    ∙ ap (λ x. x ++ pool) (words_from entries i (omega arith) ∙ ap (λ x. word (get_or entries i 0) ++ x) (words_from entries (suc i) inside))
    ∙ append_assoc (word (get_or entries i 0)) (word (get_or entries (suc i) 0) ++ drop (8 * suc (suc i)) table) pool
    ∙ ap (λ x. word (get_or entries i 0) ++ x) (append_assoc (word (get_or entries (suc i) 0)) (drop (8 * suc (suc i)) table) pool)

records_at : (seed count : ℕ) (entries before records after : List ℕ) (place : ℕ) → place ≡ 16 + 8 * length entries + length before
    → drop place (word seed ++ (word count ++ (flat_map word entries ++ (before ++ (records ++ after))))) ≡ records ++ after
records_at seed count entries before records after place is =
    let table = flat_map word entries in
    let pool = before ++ (records ++ after) in
    let long = length-words entries in
    ap (λ n. drop n (word seed ++ (word count ++ (table ++ pool)))) (is ∙ omega arith)
    ∙ drop_word seed (word count ++ (table ++ pool)) (8 + (length table + length before)) ∙ drop_word count (table ++ pool) (length table + length before)
    ∙ drop-append-add table pool (length before) ∙ drop-append_seam before (records ++ after)

-- ---- the answer

-- this is the value of the key in each index that the bytes are
abbrev pub IsValue : List ℕ → List ℕ → Option ℕ → Type 0
IsValue bytes key found = (pairs : Pairs) → IsIndex pairs bytes → found ≡ value_at simple_ascii pairs key

-- an index of which its front was read
abbrev IsFront : (pairs : Pairs) (bytes : List ℕ) → IsIndex pairs bytes → ℕ → ℕ → Type 0
IsFront pairs bytes is seed count = (seed ≡ is.seed) × (count ≡ length is.buckets)

front : (pairs : Pairs) (bytes : List ℕ) (is : IsIndex pairs bytes) (seed count : ℕ) → AreWords bytes 0 seed count → IsFront pairs bytes is seed count
front pairs bytes is seed count read =
    read is.seed (length is.buckets) (flat_map word is.entries ++ is.pool) is.seed_below (let few = is.few_buckets in omega arith) is.bytes_are

-- What was read of an index: the hash of the key, and the entries of its bucket and of the next one.
pub record IsRead (bytes key : List ℕ) (seed count hash number entry next : ℕ) : Type 0 where
  pub front : AreWords bytes 0 seed count
  pub hashed : hash ≡ hash_of seed key
  pub small : hash < 2 ^ 64
  pub placed : number ≡ place_of count hash
  pub entries : AreWords bytes (16 + 8 * number) entry next

-- What it has, then, if the bytes are an index.
record Found (pairs : Pairs) (bytes : List ℕ) (is : IsIndex pairs bytes) (key : List ℕ) (count hash number entry next : ℕ) : Type 0 where
  has : Has pairs bytes is key number hash
  counted : count ≡ length is.buckets
  own : entry ≡ get_or is.entries number 0
  behind : next ≡ get_or is.entries (suc number) 0

found : (pairs : Pairs) (bytes : List ℕ) (is : IsIndex pairs bytes) (key : List ℕ) (seed count hash number entry next : ℕ)
    → IsRead bytes key seed count hash number entry next → Found pairs bytes is key count hash number entry next
found pairs bytes is key seed count hash number entry next read =
    let f = front pairs bytes is seed count read.front in
    let h = has pairs bytes is key seed count number hash f.0 f.1 read.hashed read.small read.placed in
    let e = read.entries (get_or is.entries number 0) (get_or is.entries (suc number) 0) (drop (8 * suc (suc number)) (flat_map word is.entries) ++ is.pool)
    (All-get_or (λ x. x < 2 ^ 64) is.entries number 0 h.inside is.entries_below) (All-get_or (λ x. x < 2 ^ 64) is.entries (suc number) 0 h.next_inside is.entries_below)
    (ap (drop (16 + 8 * number)) is.bytes_are ∙ two_entries is.seed (length is.buckets) is.entries is.pool number h.next_inside) in
    record { has = h; counted = f.1; own = e.0; behind = e.1 }

-- no index has so many buckets
pub too_many : (bytes key : List ℕ) (seed count : ℕ) → AreWords bytes 0 seed count → 2 ^ 32 ≤ count → IsValue bytes key None
too_many bytes key seed count read far = λ pairs is.
    absurd (let f = front pairs bytes is seed count read in let same = f.1 in let few = is.few_buckets in omega (arith, same, few, far))

-- the key is not marked
pub unmarked : (bytes key : List ℕ) (seed count hash number entry next : ℕ) → IsRead bytes key seed count hash number entry next
    → mark_of entry hash ≡ 0 → IsValue bytes key None
unmarked bytes key seed count hash number entry next read none = λ pairs is.
    let f = found pairs bytes is key seed count hash number entry next read in
    sym (f.has.unmarked (ap (λ x. mark_of x hash) (sym f.own) ∙ none))

-- the bucket of no index ends before it starts
pub ends_early : (bytes key : List ℕ) (seed count hash number entry next : ℕ) → IsRead bytes key seed count hash number entry next
    → next / 2 ^ 32 < entry / 2 ^ 32 → IsValue bytes key None
ends_early bytes key seed count hash number entry next read early = λ pairs is.
    let f = found pairs bytes is key seed count hash number entry next read in
    let b = f.has.bucket in
    absurd (let from = ap (λ x. x / 2 ^ 32) f.own ∙ b.from in let to = ap (λ x. x / 2 ^ 32) f.behind ∙ b.to in omega arith)

-- the records of the bucket, and where they are
records_in : (pairs : Pairs) (bytes : List ℕ) (is : IsIndex pairs bytes) (key : List ℕ) (seed count hash number entry next place : ℕ)
    → IsRead bytes key seed count hash number entry next → place ≡ 16 + 8 * (count + 1) + entry / 2 ^ 32
    → (records : List ℕ) × (after : List ℕ) × (drop place bytes ≡ records ++ after) × (length records ≡ next / 2 ^ 32 - entry / 2 ^ 32)
    × AreRecords (get_or is.buckets number []) records
records_in pairs bytes is key seed count hash number entry next place read at =
    let f = found pairs bytes is key seed count hash number entry next read in
    let b = f.has.bucket in
    let from = ap (λ x. x / 2 ^ 32) f.own ∙ b.from in
    let to = ap (λ x. x / 2 ^ 32) f.behind ∙ b.to in
    let more = one_more is.seed (length is.buckets) 0 0 is.buckets is.entries is.pool is.are_buckets in
    let counted = f.counted in (
      b.records,
      b.after,
      ap (drop place) (is.bytes_are ∙ ap (λ p. word is.seed ++ (word (length is.buckets) ++ (flat_map word is.entries ++ p))) b.pool_is)
          ∙ records_at is.seed (length is.buckets) is.entries b.before b.records b.after place (at ∙ omega arith),
      omega arith,
      b.are,
    )

-- the records of the bucket were read
pub answered : (bytes key : List ℕ) (seed count hash number entry next place : ℕ) (records : List ℕ) (result : Option ℕ)
    → IsRead bytes key seed count hash number entry next → records ≡ take (length records) (drop place bytes) → place ≡ 16 + 8 * (count + 1) + entry / 2 ^ 32
    → length records ≡ next / 2 ^ 32 - entry / 2 ^ 32 → ((pairs : Pairs) → AreRecords pairs records → result ≡ value_at simple_ascii pairs key) → IsValue bytes key result
answered bytes key seed count hash number entry next place records result read part at long finds = λ pairs is.
    let f = found pairs bytes is key seed count hash number entry next read in
    let r = records_in pairs bytes is key seed count hash number entry next place read at in
    let l = r.3 in
    let same : records ≡ r.0 =
    part ∙ ap (take (length records)) r.2 ∙ ap (λ n. take n (r.0 ++ r.1)) (omega (arith, l, long)) ∙ take-append_seam r.0 r.1 in
    finds (get_or is.buckets number []) (subst (AreRecords (get_or is.buckets number [])) (sym same) r.4) ∙ sym f.has.there

-- what was read decides the answer
pub of_parts : (MayHold : List ℕ → Type 0) (key : List ℕ) (found : Option ℕ) → IsAnswerOfParts MayHold key found → IsAnswer MayHold key found
of_parts MayHold key found read = λ bytes may. read.2 bytes (read.1 bytes may)

-- ---- what is read is inside an index

long_words : (a b : ℕ) (rest : List ℕ) → 16 ≤ length (word a ++ (word b ++ rest))
unfolding word
long_words a b rest = omega arith

enough : (bytes : List ℕ) (place n : ℕ) (rest : List ℕ) → drop place bytes ≡ rest → 0 < n → n ≤ length rest → place + n ≤ length bytes
enough bytes place n rest is some long = let left = length-drop place bytes in let same = ap length is in omega (arith, left, same, some, long)

-- its front
pub inside_front : (bytes : List ℕ) (pairs : Pairs) → IsIndex pairs bytes → 0 + 16 ≤ length bytes
inside_front bytes pairs is = let rest = flat_map word is.entries ++ is.pool in
    let long = long_words is.seed (length is.buckets) rest in let same = ap length is.bytes_are in omega (arith, long, same)

-- the entry of the bucket of a key, and the next one
pub inside_entries : (bytes key : List ℕ) (seed count hash number : ℕ) → AreWords bytes 0 seed count → hash ≡ hash_of seed key → hash < 2 ^ 64 → number ≡ place_of count hash
    → (pairs : Pairs) → IsIndex pairs bytes → (16 + 8 * number) + 16 ≤ length bytes
inside_entries bytes key seed count hash number read hashed small placed pairs is =
    let f = front pairs bytes is seed count read in
    let h = has pairs bytes is key seed count number hash f.0 f.1 hashed small placed in
    let rest = drop (8 * suc (suc number)) (flat_map word is.entries) ++ is.pool in
    enough bytes (16 + 8 * number) 16 _
    (ap (drop (16 + 8 * number)) is.bytes_are ∙ two_entries is.seed (length is.buckets) is.entries is.pool number h.next_inside)
    (omega arith) (long_words (get_or is.entries number 0) (get_or is.entries (suc number) 0) rest)

-- its records
pub inside_records : (bytes key : List ℕ) (seed count hash number entry next place len at n : ℕ) → IsRead bytes key seed count hash number entry next
    → place ≡ 16 + 8 * (count + 1) + entry / 2 ^ 32 → len ≡ next / 2 ^ 32 - entry / 2 ^ 32 → place ≤ at → 0 < n → at + n ≤ place + len
    → (pairs : Pairs) → IsIndex pairs bytes → at + n ≤ length bytes
inside_records bytes key seed count hash number entry next place len at n read is_place is_len from some to = λ pairs is.
    let r = records_in pairs bytes is key seed count hash number entry next place read is_place in
    let whole : place + len ≤ length bytes = enough bytes place len (r.0 ++ r.1) r.2 (omega (arith, from, some, to)) (let l = r.3 in let both = length-append r.0 r.1 in omega (arith, l, both, is_len)) in
    omega (arith, to, whole)

pub records_unread : {E : Type 0} {Memory : Type 0} (MayHold : List ℕ → Type 0) (Before After : ℕ → ℕ → E → Type 0) (e : E) (place len : ℕ)
    → FailsWithin After place len e ⊎ Memory → FailsNoMore Before After
    → ((at n : ℕ) → place ≤ at → 0 < n → at + n ≤ place + len → (bytes : List ℕ) → MayHold bytes → (pairs : Pairs) → IsIndex pairs bytes → at + n ≤ length bytes)
    → FailsInside MayHold Before e ⊎ Memory
records_unread MayHold Before After e place len (inl f) fewer inside = inl (f.0, f.1, inside f.0 f.1 f.2 f.3 f.4, fewer f.0 f.1 e f.5)
records_unread MayHold Before After e place len (inr memory) fewer inside = inr memory
