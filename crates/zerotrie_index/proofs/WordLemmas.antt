-- Words of eight bytes.
use Rattle.std.specs.Prelude.{◌≡◌, ℕ, ◌+◌, ◌*◌, ◌^◌, ◌<◌, ◌≤◌, [], ◌∷◌, ◌++◌, List, length, zero, suc}
use Rattle.std.specs.List.{flat_map}
use Rattle.std.specs.Int.{from_le_bytes, w64}
use Rattle.std.proofs.Common.{refl, ap, sym, ◌∙◌, arith, take, drop, get_or, length-append}
use Rattle.std.proofs.Math.Seq.{take-append_seam, drop-append_seam, drop-append-add}
use Rattle.std.proofs.lemmas.List.Concat.{flat_map-cons}
use Rattle.std.proofs.lemmas.Nat.{le_bytes_8, from_le_bytes-to_le_bytes_8}
use Rattle.std.proofs.lemmas.List.{get_or-take, length-take-le, take-append-drop}
use Rattle.std.proofs.Math.ListN.{get_or-eq_default}
use Rattle.zerotrie_index.specs.Layout.{word}

-- the bytes of the front are bytes
pub front_small : (bytes : List ℕ) → 8 ≤ length bytes → ((i : ℕ) → get_or bytes i 0 < 256) → (i : ℕ) → get_or (take 8 bytes) i 0 < 256
front_small bytes long small i = grind (arith, get_or-take 8 bytes i 0, get_or-eq_default (take 8 bytes) 0 {n = i}, length-take-le 8 bytes long, small i)

-- what eight bytes are read as is the word that they spell
pub begins_word : (bytes : List ℕ) (n : ℕ) → 8 ≤ length bytes → ((i : ℕ) → get_or bytes i 0 < 256) → n ≡ from_le_bytes w64 (take 8 bytes) → bytes ≡ word n ++ drop 8 bytes
unfolding word
begins_word bytes n long small is =
    sym (take-append-drop 8 bytes) ∙ ap (λ x. x ++ drop 8 bytes) (sym (le_bytes_8 (take 8 bytes) n (length-take-le 8 bytes long) (front_small bytes long small) is))

-- a word has eight bytes
pub length-word : (n : ℕ) → length (word n) ≡ 8
unfolding word
length-word n = refl

-- bytes that begin with a word are not shorter
pub word_long : (n : ℕ) (bytes after : List ℕ) → bytes ≡ word n ++ after → 8 ≤ length bytes
word_long n bytes after is = let long = ap length is ∙ length-append (word n) after in let own = length-word n in omega arith

-- a word is read back
pub read_back : (n : ℕ) → n < 2 ^ 64 → from_le_bytes w64 (word n) ≡ n
unfolding word
read_back n below = from_le_bytes-to_le_bytes_8 n below

-- bytes begin with one word
pub one_word : (a b : ℕ) (x y : List ℕ) → a < 2 ^ 64 → b < 2 ^ 64 → word a ++ x ≡ word b ++ y → (a ≡ b) × (x ≡ y)
one_word a b x y below under is =
    let fronts : word a ≡ word b = sym (take-append_seam (word a) x) ∙ ap (λ n. take n (word a ++ x)) (length-word a ∙ sym (length-word b)) ∙ ap (take (length (word b))) is ∙ take-append_seam (word b) y in
    let backs : x ≡ y = sym (drop-append_seam (word a) x) ∙ ap (λ n. drop n (word a ++ x)) (length-word a ∙ sym (length-word b)) ∙ ap (drop (length (word b))) is ∙ drop-append_seam (word b) y in
    (sym (read_back a below) ∙ ap (from_le_bytes w64) fronts ∙ read_back b under, backs)

-- what follows a word
pub drop_word : (n : ℕ) (after : List ℕ) (k : ℕ) → drop (8 + k) (word n ++ after) ≡ drop k after
drop_word n after k = ap (λ l. drop (l + k) (word n ++ after)) (sym (length-word n)) ∙ drop-append-add (word n) after k

-- words in a row
pub length-words : (words : List ℕ) → length (flat_map word words) ≡ 8 * length words
length-words [] = refl
length-words (w ∷ words) =
    let rest = length-words words in let own = length-word w in
    let whole = ap length (flat_map-cons word w words) ∙ length-append (word w) (flat_map word words) in omega arith

-- the words from one of them on
pub words_from : (words : List ℕ) (i : ℕ) → i < length words
    → drop (8 * i) (flat_map word words) ≡ word (get_or words i 0) ++ drop (8 * suc i) (flat_map word words)
words_from [] i inside = absurd (omega arith)
words_from (w ∷ words) zero inside =
    let is = flat_map-cons word w words in
    is ∙ ap (λ x. word w ++ x) (sym (ap (drop 8) is ∙ drop_word w (flat_map word words) 0))
words_from (w ∷ words) (suc i) inside =
    let is = flat_map-cons word w words in
    let behind : (k : ℕ) → drop (8 * suc k) (flat_map word (w ∷ words)) ≡ drop (8 * k) (flat_map word words) =
    λ k. ap (λ x. drop (8 * suc k) x) is ∙ ap (λ n. drop n (word w ++ flat_map word words)) (omega arith) ∙ drop_word w (flat_map word words) (8 * k) in
    behind i ∙ words_from words i (omega arith) ∙ ap (λ x. word (get_or words i 0) ++ x) (sym (behind (suc i)))
