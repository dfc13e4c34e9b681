-- Numbers and records.
use Rattle.std.specs.Prelude.{◌≡◌, ℕ, ◌+◌, ◌-◌, ◌/◌, ◌<◌, ◌≤◌, List, [], ◌∷◌, ◌++◌, length, IfSome, IfNone, MatchOption}
use Rattle.std.proofs.Common.{refl, sym, subst, ap, ◌∙◌, arith, take, drop, length-append, Option, Some, None, Bor}
use Rattle.std.proofs.Math.Seq.{take-append_seam, drop-append_seam}
use Rattle.std.proofs.lemmas.Bool.{false_from_ne_true}
use Rattle.zerotrie_base.specs.Kind.{simple_ascii}
use Rattle.zerotrie_base.specs.Maps.{Pairs, same_key, value_at}
use Rattle.zerotrie_base.specs.Numbers.{BeginsWith}
use Rattle.zerotrie_index.specs.Layout.{AreRecords}
use Rattle.zerotrie_base.proofs.MapLemmas.Alike.{exact_same, first_found}
use Rattle.zerotrie_base.proofs.NumberLemmas.Numbers.{one_reading}

-- what is read from the lead on is the number that the bytes begin with
pub number_read : (start : ℕ) (rest : List ℕ) (read : Option (ℕ × Bor (List ℕ)))
    → IfSome read (λ r. BeginsWith 32 (start / 64) r.0 (start ∷ rest) r.1.now)
    → IfNone read ((metadata v : ℕ) (after : List ℕ) → BeginsWith 32 metadata v (start ∷ rest) after → ⊥)
    → (v : ℕ) (after : List ℕ) → BeginsWith 32 0 v (start ∷ rest) after → MatchOption read ⊥ (λ r. (r.0 ≡ v) × (r.1.now ≡ after))
number_read start rest None found none v after b = none 0 v after b
number_read start rest (Some r) found none v after b = one_reading 32 (start / 64) 0 r.0 v (start ∷ rest) r.1.now after found b

-- the bytes of a key, and what follows them
pub cut_at : (len : ℕ) (bytes key after : List ℕ) → bytes ≡ key ++ after → len ≡ length key → (take len bytes ≡ key) × (drop len bytes ≡ after)
cut_at len bytes key after is same = (
  ap (λ x. take len x) is ∙ ap (λ n. take n (key ++ after)) same ∙ take-append_seam key after,
  ap (λ x. drop len x) is ∙ ap (λ n. drop n (key ++ after)) same ∙ drop-append_seam key after,
)

-- bytes that begin with a key are not shorter
pub not_shorter : (len : ℕ) (bytes key after : List ℕ) → bytes ≡ key ++ after → len ≡ length key → length bytes < len → ⊥
not_shorter len bytes key after is same short = let long = ap length is ∙ length-append key after in omega arith

-- the first pair has the value of its key
pub found_first : (e : List ℕ × ℕ) (pairs : Pairs) (key : List ℕ) → e.0 ≡ key → value_at simple_ascii (e ∷ pairs) key ≡ Some e.1
found_first e pairs key is = subst (λ k. value_at simple_ascii (e ∷ pairs) k ≡ Some e.1) is (first_found e pairs)

-- the first pair has no value of another key
pub found_later : (e : List ℕ × ℕ) (pairs : Pairs) (key : List ℕ) → (e.0 ≡ key → ⊥) → value_at simple_ascii (e ∷ pairs) key ≡ value_at simple_ascii pairs key
found_later e pairs key other = rw (false_from_ne_true (same_key simple_ascii e.0 key) (λ h. other (exact_same e.0 key h))) refl

-- what a record was read as belongs to each pair that may come first
abbrev pub IsFirst : List ℕ → List ℕ → ℕ → List ℕ → Type 0
IsFirst bytes own v rest = (e : List ℕ × ℕ) (pairs : Pairs) → AreRecords (e ∷ pairs) bytes → (own ≡ e.0) × (v ≡ e.1) × AreRecords pairs rest

-- the record of the key that is looked for
pub read_found : (left : Pairs) (bytes own rest key : List ℕ) (v : ℕ) → IsFirst bytes own v rest → length rest < length bytes → own ≡ key
    → AreRecords left bytes → Some v ≡ value_at simple_ascii left key
read_found [] bytes own rest key v first shorter is are = absurd (let none = ap length are in omega arith)
read_found (e ∷ pairs) bytes own rest key v first shorter is are =
    let r = first e pairs are in ap Some r.1 ∙ sym (found_first e pairs key (sym r.0 ∙ is))

-- the record of another key
pub read_passed : (left : Pairs) (bytes own rest key : List ℕ) (v : ℕ) → IsFirst bytes own v rest → length rest < length bytes → (own ≡ key → ⊥)
    → AreRecords left bytes → (after : Pairs) × AreRecords after rest × (value_at simple_ascii left key ≡ value_at simple_ascii after key)
read_passed [] bytes own rest key v first shorter other are = absurd (let none = ap length are in omega arith)
read_passed (e ∷ pairs) bytes own rest key v first shorter other are =
    let r = first e pairs are in (pairs, r.2, found_later e pairs key (λ same. other (r.0 ∙ same)))

-- no record
pub read_none : (left : Pairs) (bytes key : List ℕ) → ((e : List ℕ × ℕ) (pairs : Pairs) → AreRecords (e ∷ pairs) bytes → ⊥)
    → AreRecords left bytes → None ≡ value_at simple_ascii left key
read_none [] bytes key none are = refl
read_none (e ∷ pairs) bytes key none are = absurd (none e pairs are)

-- the bytes between two places
pub cut_between : (start end : ℕ) (bytes before part after : List ℕ) → bytes ≡ before ++ (part ++ after) → start ≡ length before → end ≡ length before + length part
    → take (end - start) (drop start bytes) ≡ part
cut_between start end bytes before part after is from to =
    (cut_at (end - start) (drop start bytes) part after (cut_at start bytes before (part ++ after) is from).1 (omega arith)).0

-- they are there
pub reaches : (end : ℕ) (bytes before part after : List ℕ) → bytes ≡ before ++ (part ++ after) → end ≡ length before + length part → end ≤ length bytes
reaches end bytes before part after is to =
    let long = ap length is ∙ length-append before (part ++ after) in let behind = length-append part after in omega arith
