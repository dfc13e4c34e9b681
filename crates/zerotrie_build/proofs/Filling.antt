-- Bytes that are written over the zeros of a store.
use Rattle.std.proofs.Common.{◌≡◌, ℕ, zero, suc, ◌+◌, ◌-◌, ◌<◌, ◌≤◌, List, [], ◌∷◌, ◌++◌, length, take, drop, replicate, get_or, set, sym, ap, subst, arith, rules, ◌∙◌, append_assoc, length-append, length-drop}
use Rattle.std.specs.Prelude.{bit_or}
use Rattle.std.proofs.Math.Seq.{drop-nil}
use Rattle.std.proofs.lemmas.List.{drop-replicate, length-take-le, take_at, drop_at, take_more}
use Rattle.zerotrie_build.specs.Zeros.{IsClear, set_to}
use Rattle.zerotrie_build.specs.passes.Written.{Written, written_to}
use Rattle.zerotrie_build.specs.passes.Writes.{HasRoom, Writes}

or_zero : (b : ℕ) → bit_or 0 b ≡ b
or_zero b = search rules

drop_more : (i n : ℕ) (xs : List ℕ) → drop (i + n) xs ≡ drop n (drop i xs)
drop_more zero n xs = let e : 0 + n ≡ n = omega arith in ap (λ m. drop m xs) e
drop_more (suc i) n [] = drop-nil (suc i + n) ∙ sym (drop-nil n)
drop_more (suc i) n (x ∷ xs) = let e : suc i + n ≡ suc (i + n) = omega arith in ap (λ m. drop m (x ∷ xs)) e ∙ drop_more i n xs

-- a byte over the first zero
set_one : (store : List ℕ) (place b : ℕ) → place < length store → drop place store ≡ replicate (length store - place) 0
    → set store place (bit_or (get_or store place 0) b) ≡ set_to store place (b ∷ [])
set_one [] place b h zeros = absurd (omega arith)
set_one (x ∷ xs) zero b h zeros =
    let e : length (x ∷ xs) - 0 ≡ suc (length xs) = omega arith in
    let all : x ∷ xs ≡ 0 ∷ replicate (length xs) 0 = zeros ∙ ap (λ n. replicate n 0) e in
    let none : x ≡ 0 = cc in
    ap (λ y. bit_or y b ∷ xs) none ∙ ap (λ y. y ∷ xs) (or_zero b)
set_one (x ∷ xs) (suc i) b h zeros =
    let e : length (x ∷ xs) - suc i ≡ length xs - i = omega arith in
    let left : drop i xs ≡ replicate (length xs - i) 0 = zeros ∙ ap (λ n. replicate n 0) e in
    let next : suc (i + 1) ≡ suc i + 1 = omega arith in
    ap (λ t. x ∷ t) (set_one xs i b (omega arith) left) ∙ ap (λ m. (take (suc i) (x ∷ xs) ++ b ∷ []) ++ drop m (x ∷ xs)) next

-- after bytes are set, the store is written as far as their end
set_long : (store bytes : List ℕ) (place : ℕ) → place + length bytes ≤ length store → length (set_to store place bytes) ≡ length store
set_long store bytes place h =
    let a = length-append (take place store ++ bytes) (drop (place + length bytes) store) in
    let b = length-append (take place store) bytes in
    let c = length-take-le place store (omega arith) in
    let d = length-drop (place + length bytes) store in
    omega arith

front_long : (store bytes : List ℕ) (place : ℕ) → place + length bytes ≤ length store → length (take place store ++ bytes) ≡ place + length bytes
front_long store bytes place h =
    let b = length-append (take place store) bytes in
    let c = length-take-le place store (omega arith) in
    omega arith

pub clear_after : (store bytes : List ℕ) (place : ℕ) → place + length bytes ≤ length store → IsClear store place → IsClear (set_to store place bytes) (place + length bytes)
clear_after store bytes place h c =
    let n = length bytes in
    let long = set_long store bytes place h in
    let rest = drop_at (take place store ++ bytes) (drop (place + n) store) (place + n) (front_long store bytes place h) in
    let left : length store - place - n ≡ length (set_to store place bytes) - (place + n) = omega arith in
    record {
      within = omega arith;
      zeros = rest ∙ drop_more place n store ∙ ap (drop n) c.zeros ∙ drop-replicate n (length store - place) 0 ∙ ap (λ m. replicate m 0) left;
      short = (let s = c.short in omega arith);
    }

pub writes_after : (store bytes : List ℕ) (place : ℕ) → place + length bytes ≤ length store → Writes (written_to store place) (written_to (set_to store place bytes) (place + length bytes)) bytes
writes_after store bytes place h = record {
  is = take_at (take place store ++ bytes) (drop (place + length bytes) store) (place + length bytes) (front_long store bytes place h);
  same = set_long store bytes place h;
}

-- the byte that comes next
pub next_byte : (store store' : List ℕ) (place b : ℕ) → place + 1 ≤ length store → IsClear store place → store' ≡ set store place (bit_or (get_or store place 0) b) → store' ≡ set_to store place (b ∷ [])
next_byte store store' place b h c is = is ∙ set_one store place b (omega arith) c.zeros

pub room_at : (w : Written) (store : List ℕ) (place n : ℕ) → written_to store place ≡ w → HasRoom w n → IsClear store place → place + n ≤ length store
room_at w store place n is room c =
    let a = length-take-le place store c.within in
    let r : HasRoom (written_to store place) n = subst (λ x. HasRoom x n) (sym is) room in
    omega arith

-- bytes after those that were set before
set_then : (store xs ys : List ℕ) (place : ℕ) → place + length xs ≤ length store → set_to (set_to store place xs) (place + length xs) ys ≡ set_to store place (xs ++ ys)
set_then store xs ys place h =
    let n = place + length xs in
    let long = front_long store xs place h in
    let front = take_at (take place store ++ xs) (drop n store) n long in
    let rest = drop_more n (length ys) (set_to store place xs) ∙ ap (drop (length ys)) (drop_at (take place store ++ xs) (drop n store) n long) ∙ sym (drop_more n (length ys) store) in
    let end : n + length ys ≡ place + length (xs ++ ys) = let l = length-append xs ys in omega arith in
    ap (λ t. (t ++ ys) ++ drop (n + length ys) (set_to store place xs)) front
    ∙ ap (λ t. ((take place store ++ xs) ++ ys) ++ t) (rest ∙ ap (λ m. drop m store) end)
    ∙ ap (λ t. t ++ drop (place + length (xs ++ ys)) store) (append_assoc (take place store) xs ys)

-- the next of the bytes
pub set_next : (store now now' bytes : List ℕ) (place i : ℕ) → i < length bytes → place + length bytes ≤ length store → IsClear store place
    → now ≡ set_to store place (take i bytes) → now' ≡ set now (place + i) (bit_or (get_or now (place + i) 0) (get_or bytes i 0)) → now' ≡ set_to store place (take (i + 1) bytes)
set_next store now now' bytes place i h fit c was is =
    let b = get_or bytes i 0 in
    let n = length-take-le i bytes (omega arith) in
    let clear = clear_after store (take i bytes) place (omega arith) c in
    let at : place + length (take i bytes) ≡ place + i = omega arith in
    let long = set_long store (take i bytes) place (omega arith) in
    let clear' : IsClear now (place + i) = subst (λ m. IsClear now m) at (subst (λ s. IsClear s (place + length (take i bytes))) (sym was) clear) in
    let room : place + i + 1 ≤ length now = let l = ap length was in omega arith in
    next_byte now now' (place + i) b room clear' is
    ∙ ap (λ m. set_to now m (b ∷ [])) (sym at)
    ∙ ap (λ s. set_to s (place + length (take i bytes)) (b ∷ [])) was
    ∙ set_then store (take i bytes) (b ∷ []) place (omega arith)
    ∙ ap (set_to store place) (sym (take_more bytes i 0 h))
