-- Pairs that are cut out of bytes.
use Rattle.std.proofs.Common.{◌≡◌, ℕ, ◌+◌, ◌≤◌, List, [], ◌∷◌, ◌++◌, length, map, take, drop, refl, ap, arith}
use Rattle.std.specs.Char.{to_ascii_lowercase}
use Rattle.std.proofs.lemmas.List.{take-append-le, drop-append-le, take_all, length-drop, take-map, drop-map}
use Rattle.zerotrie_lines.specs.Tables.{cut, total, lowered_pair}

-- a pair that is added
pub cut_push : (bytes key : List ℕ) (marks : List (ℕ × ℕ)) (v : ℕ) → total marks ≡ length bytes
    → cut (bytes ++ key) (marks ++ (length key, v) ∷ []) ≡ cut bytes marks ++ (key, v) ∷ []
cut_push [] key [] v whole = ap (λ k. (k, v) ∷ []) (take_all (length key) key (omega arith))
cut_push (b ∷ bytes) key [] v whole = absurd (omega (arith, whole))
cut_push bytes key (m ∷ marks) v whole =
    let low : m.0 ≤ length bytes = omega (arith, whole) in
    let rest : total marks ≡ length (drop m.0 bytes) = omega (arith, whole, length-drop m.0 bytes) in
    rw (take-append-le m.0 bytes key low, drop-append-le m.0 bytes key low)
    (ap (λ p. (take m.0 bytes, m.1) ∷ p) (cut_push (drop m.0 bytes) key marks v rest))

pub total_push : (marks : List (ℕ × ℕ)) (n v : ℕ) → total (marks ++ (n, v) ∷ []) ≡ total marks + n
total_push [] n v = omega arith
total_push (m ∷ marks) n v = omega (arith, total_push marks n v)

-- there are as many pairs as marks
pub length-cut : (bytes : List ℕ) (marks : List (ℕ × ℕ)) → length (cut bytes marks) ≡ length marks
length-cut bytes [] = refl
length-cut bytes (m ∷ marks) = omega (arith, length-cut (drop m.0 bytes) marks)

-- keys in lower case
pub cut_lowered : (bytes : List ℕ) (marks : List (ℕ × ℕ)) → cut (map to_ascii_lowercase bytes) marks ≡ map lowered_pair (cut bytes marks)
cut_lowered bytes [] = refl
cut_lowered bytes (m ∷ marks) =
    rw (take-map to_ascii_lowercase m.0 bytes, drop-map to_ascii_lowercase m.0 bytes)
    (ap (λ p. (map to_ascii_lowercase (take m.0 bytes), m.1) ∷ p) (cut_lowered (drop m.0 bytes) marks))
