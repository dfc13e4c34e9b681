-- A record read is the record of what was read.
use Rattle.std.proofs.Common.{◌≡◌, ℕ, ◌+◌, ◌/◌, ◌<◌, ◌≤◌, List, [], ◌∷◌, ◌++◌, length, get_or, take, drop, refl, sym, ap, subst, arith, ◌∙◌, zero, suc, append_assoc, length-drop, length-append}
use Rattle.std.specs.Int.{w16, w64, to_le_bytes, from_le_bytes}
use Rattle.std.proofs.lemmas.Nat.{le_bytes_2, le_bytes_8, from_le_bytes-to_le_bytes_2, from_le_bytes-to_le_bytes_8}
use Rattle.std.proofs.lemmas.List.{drop-drop, get_or-drop, take-append-drop, take_at, drop_at}
use Rattle.std.proofs.Math.Seq.{drop-cons}
use Rattle.zerotrie.specs.dense.Records.{Parts, record_of, number_at, asked}
use Rattle.zerotrie.specs.dense.Laws.{IsWhole}

abbrev AreBytes : List ℕ → Type 0
AreBytes xs = (i : ℕ) → get_or xs i 0 < 256

dropped : (n : ℕ) (xs : List ℕ) → AreBytes xs → AreBytes (drop n xs)
dropped n xs all i = rw (get_or-drop n xs i 0) (all (n + i))

nothing_there : (i : ℕ) → get_or [] i 0 < 256
nothing_there zero = omega arith
nothing_there (suc i) = omega arith

fronted : (n : ℕ) (xs : List ℕ) → AreBytes xs → AreBytes (take n xs)
fronted zero xs all i = nothing_there i
fronted (suc n) [] all i = nothing_there i
fronted (suc n) (x ∷ xs) all zero = all 0
fronted (suc n) (x ∷ xs) all (suc i) = fronted n xs (λ j. all (suc j)) i

two : (xs : List ℕ) → 2 ≤ length xs → AreBytes xs → to_le_bytes w16 (from_le_bytes w16 xs) ++ drop 2 xs ≡ xs
two (a ∷ b ∷ rest) h all = ap (λ front. front ++ rest) (le_bytes_2 (a ∷ b ∷ []) (from_le_bytes w16 (a ∷ b ∷ [])) refl (fronted 2 (a ∷ b ∷ rest) all) refl)
two [] h all = absurd (omega arith)
two (a ∷ []) h all = absurd (omega arith)

eight : (xs : List ℕ) → 8 ≤ length xs → AreBytes xs → to_le_bytes w64 (from_le_bytes w64 xs) ++ drop 8 xs ≡ xs
eight (a ∷ b ∷ c ∷ d ∷ e ∷ f ∷ g ∷ h ∷ rest) l all = ap (λ front. front ++ rest) (le_bytes_8 (a ∷ b ∷ c ∷ d ∷ e ∷ f ∷ g ∷ h ∷ []) (from_le_bytes w64 (a ∷ b ∷ c ∷ d ∷ e ∷ f ∷ g ∷ h ∷ [])) refl (fronted 8 (a ∷ b ∷ c ∷ d ∷ e ∷ f ∷ g ∷ h ∷ rest) all) refl)
eight [] l all = absurd (omega arith)
eight (a ∷ []) l all = absurd (omega arith)
eight (a ∷ b ∷ []) l all = absurd (omega arith)
eight (a ∷ b ∷ c ∷ []) l all = absurd (omega arith)
eight (a ∷ b ∷ c ∷ d ∷ []) l all = absurd (omega arith)
eight (a ∷ b ∷ c ∷ d ∷ e ∷ []) l all = absurd (omega arith)
eight (a ∷ b ∷ c ∷ d ∷ e ∷ f ∷ []) l all = absurd (omega arith)
eight (a ∷ b ∷ c ∷ d ∷ e ∷ f ∷ g ∷ []) l all = absurd (omega arith)

eight_at : (n : ℕ) (xs : List ℕ) → n + 8 ≤ length xs → AreBytes xs → to_le_bytes w64 (number_at xs n) ++ drop (n + 8) xs ≡ drop n xs
eight_at n xs l all =
    let r = eight (drop n xs) (rw (length-drop n xs) (omega arith)) (dropped n xs all) in
    rw (drop-drop 8 n xs) at r

-- the first 27 bytes, field by field, and the rest
whole : (xs : List ℕ) → 27 ≤ length xs → AreBytes xs → to_le_bytes w16 (from_le_bytes w16 xs) ++ (get_or xs 2 0 ∷ (to_le_bytes w64 (number_at xs 3)
    ++ (to_le_bytes w64 (number_at xs 11) ++ (to_le_bytes w64 (number_at xs 19) ++ drop 27 xs)))) ≡ xs
whole xs l all =
    ap (λ t. to_le_bytes w16 (from_le_bytes w16 xs) ++ (get_or xs 2 0 ∷ (to_le_bytes w64 (number_at xs 3) ++ (to_le_bytes w64 (number_at xs 11) ++ t)))) (eight_at 19 xs (omega arith) all)
    ∙ ap (λ t. to_le_bytes w16 (from_le_bytes w16 xs) ++ (get_or xs 2 0 ∷ (to_le_bytes w64 (number_at xs 3) ++ t))) (eight_at 11 xs (omega arith) all)
    ∙ ap (λ t. to_le_bytes w16 (from_le_bytes w16 xs) ++ (get_or xs 2 0 ∷ t)) (eight_at 3 xs (omega arith) all)
    ∙ ap (λ t. to_le_bytes w16 (from_le_bytes w16 xs) ++ t) (sym (drop-cons xs 2 0 (omega arith)))
    ∙ two xs (omega arith) all

pub read_back : (xs p s m : List ℕ) (n : ℕ) → AreBytes xs → 27 ≤ length xs → n ≡ from_le_bytes w16 xs
    → length p ≡ number_at xs 3 → length s ≡ number_at xs 11 → length m / 2 ≡ number_at xs 19 → (p ++ s) ++ m ≡ drop 27 xs
    → xs ≡ record_of (record { suffix_count = n; delimiter = get_or xs 2 0; primary = p; suffixes = s; matrix = m })
read_back xs p s m n all l hn hp hs hm rest = rw (hn, hp, hs, hm, rest) (sym (whole xs l all))

pub parts_join : (r p b s m : List ℕ) (i j : ℕ) → p ≡ take i r → b ≡ drop i r → s ≡ take j b → m ≡ drop j b → (p ++ s) ++ m ≡ r
parts_join r p b s m i j hp hb hs hm =
    let inner : s ++ m ≡ b = rw (hs, hm) (take-append-drop j b) in
    append_assoc p s m ∙ ap (λ t. p ++ t) inner ∙ rw (hp, hb) (take-append-drop i r)

-- a record asks for its own length
pub record_asks : (t : Parts) → IsWhole t → asked (record_of t) ≡ length (record_of t)
record_asks t w =
    let a = from_le_bytes-to_le_bytes_8 (length t.primary) w.primary in
    let b = from_le_bytes-to_le_bytes_8 (length t.suffixes) w.suffixes in
    let half : length t.matrix / 2 ≡ w.half = omega (arith, w.even) in
    let c = from_le_bytes-to_le_bytes_8 (length t.matrix / 2) (omega (arith, w.matrix)) in
    let even = w.even in
    let l : length ((t.primary ++ t.suffixes) ++ t.matrix) ≡ (length t.primary + length t.suffixes) + length t.matrix = simp length-append in
    omega (arith, a, b, c, l)

same_front : (p q x y : List ℕ) → length p ≡ length q → p ++ x ≡ q ++ y → (p ≡ q) × (x ≡ y)
same_front p q x y l e = (
  sym (take_at p x (length p) refl) ∙ ap (λ z. take (length p) z) e ∙ take_at q y (length p) (sym l),
  sym (drop_at p x (length p) refl) ∙ ap (λ z. drop (length p) z) e ∙ drop_at q y (length p) (sym l),
)

-- different parts have different records
pub record_is_one : (s t : Parts) → IsWhole s → IsWhole t → record_of s ≡ record_of t → s ≡ t
record_is_one s t v w e =
    let n : s.suffix_count ≡ t.suffix_count = sym (from_le_bytes-to_le_bytes_2 s.suffix_count v.count) ∙ ap (λ r. from_le_bytes w16 r) e ∙ from_le_bytes-to_le_bytes_2 t.suffix_count w.count in
    let d : s.delimiter ≡ t.delimiter = ap (λ r. get_or r 2 0) e in
    let p : length s.primary ≡ length t.primary = sym (from_le_bytes-to_le_bytes_8 (length s.primary) v.primary) ∙ ap (λ r. number_at r 3) e ∙ from_le_bytes-to_le_bytes_8 (length t.primary) w.primary in
    let x : length s.suffixes ≡ length t.suffixes = sym (from_le_bytes-to_le_bytes_8 (length s.suffixes) v.suffixes) ∙ ap (λ r. number_at r 11) e ∙ from_le_bytes-to_le_bytes_8 (length t.suffixes) w.suffixes in
    let rest : (s.primary ++ s.suffixes) ++ s.matrix ≡ (t.primary ++ t.suffixes) ++ t.matrix = ap (λ r. drop 27 r) e in
    let one = same_front (s.primary ++ s.suffixes) (t.primary ++ t.suffixes) s.matrix t.matrix (simp length-append (omega arith)) rest in
    let two = same_front s.primary t.primary s.suffixes t.suffixes p one.0 in
    λ i. record { suffix_count = n i; delimiter = d i; primary = two.0 i; suffixes = two.1 i; matrix = one.1 i }

pub asks_it : (bytes : List ℕ) (t : Parts) → IsWhole t → bytes ≡ record_of t → asked bytes ≡ length bytes
asks_it bytes t w e = subst (λ r. asked r ≡ length r) (sym e) (record_asks t w)
