-- Reading the calls of a walk word by word.
use Rattle.std.proofs.Common.{◌≡◌, ℕ, suc, get_or, ◌+◌, ◌<◌, ◌≤◌, List, [], ◌∷◌, ◌++◌, length, drop, refl, sym, ◌∙◌, ap, subst, arith, append_assoc}
use Rattle.std.specs.Borrow.{Bor}
use Rattle.std.proofs.lemmas.List.{append-nil, map-append}
use Rattle.std.proofs.Math.ListN.{drop_of_length-le}
use Rattle.zerotrie.specs.Machine.{Op}
use Rattle.zerotrie.specs.Machine.Op.{step, take_value, probe}
use Rattle.zerotrie_session.specs.Numbers.{IsNumber}
use Rattle.zerotrie.specs.Walks.{op_of, ops_of}
use Rattle.zerotrie.specs.declared.CursorOp.{CursorOp}
use Rattle.zerotrie_session.specs.Calls.{IsHexDigit, IsHexByte, IsOp, AreOps}
use Rattle.zerotrie_session.proofs.RunLemmas.{texts, line_at, at_line}

-- The first i words are the calls so far: whatever the rest are, all are with it, and all are only if the rest are some.
pub record ReadOps (words : List (Bor (List ℕ))) (i : ℕ) (ops : List CursorOp) : Type 0 where
  pub some : (rest : List Op) → AreOps (drop i (texts words)) rest → AreOps (texts words) (ops_of ops ++ rest)
  pub none : (all : List Op) → AreOps (texts words) all → (rest : List Op) × AreOps (drop i (texts words)) rest

behind : (word : List ℕ) (words : List (List ℕ)) (ops : List Op) → AreOps (word ∷ words) ops → (rest : List Op) × AreOps words rest
behind word words [] are = absurd are
behind word words (op ∷ ops) are = (ops, are.1)

pub read_more : (words : List (Bor (List ℕ))) (i : ℕ) (ops : List CursorOp) (op : CursorOp) → i < length words → IsOp (line_at words i) (op_of op) → ReadOps words i ops → ReadOps words (i + 1) (ops ++ op ∷ [])
read_more words i ops op l is r = record {
  some = λ rest are.
      let all = r.some (op_of op ∷ rest) (subst (λ ws. AreOps ws (op_of op ∷ rest)) (sym (at_line words i l)) (is, are)) in
      let same : ops_of (ops ++ op ∷ []) ++ rest ≡ ops_of ops ++ op_of op ∷ rest =
      ap (λ os. os ++ rest) (map-append {B = Op} op_of ops (op ∷ [])) ∙ append_assoc (ops_of ops) (op_of op ∷ []) rest in
      rw same all;
  none = λ all are. let some = r.none all are in behind (line_at words i) (drop (i + 1) (texts words)) some.0 (subst (λ ws. AreOps ws some.0) (at_line words i l) some.1);
}

first_op : (word : List ℕ) (words : List (List ℕ)) (ops : List Op) → AreOps (word ∷ words) ops → (op : Op) × IsOp word op
first_op word words [] are = absurd are
first_op word words (op ∷ ops) are = (op, are.0)

-- a word that is no call
pub read_none : (words : List (Bor (List ℕ))) (i : ℕ) (ops : List CursorOp) → i < length words → ((op : Op) → IsOp (line_at words i) op → ⊥) → ReadOps words i ops → (all : List Op) → AreOps (texts words) all → ⊥
read_none words i ops l none r all are =
    let some = r.none all are in
    let first = first_op (line_at words i) (drop (i + 1) (texts words)) some.0 (subst (λ ws. AreOps ws some.0) (at_line words i l) some.1) in
    none first.0 first.1

length_texts : (words : List (Bor (List ℕ))) → length (texts words) ≡ length words
length_texts [] = refl
length_texts (w ∷ words) = ap suc (length_texts words)

pub read_all : (words : List (Bor (List ℕ))) (i : ℕ) (ops : List CursorOp) → length words ≤ i → ReadOps words i ops → AreOps (texts words) (ops_of ops)
read_all words i ops l r =
    let none : drop i (texts words) ≡ [] = drop_of_length-le (texts words) (omega (arith, length_texts words)) in
    subst (AreOps (texts words)) (append-nil (ops_of ops)) (r.some [] (subst (λ ws. AreOps ws []) (sym none) tt))

-- digits of which the first is none, or the second
pub not_first : (digits : List ℕ) → ((n : ℕ) → IsHexDigit (get_or digits 0 0) n → ⊥) → (b : ℕ) → IsHexByte digits b → ⊥
not_first digits none b is = none is.2 (subst (λ d. IsHexDigit d is.2) (sym (ap (λ ds. get_or ds 0 0) is.4)) is.5)

pub not_second : (digits : List ℕ) → ((n : ℕ) → IsHexDigit (get_or digits 1 0) n → ⊥) → (b : ℕ) → IsHexByte digits b → ⊥
not_second digits none b is = none is.3 (subst (λ d. IsHexDigit d is.3) (sym (ap (λ ds. get_or ds 1 0) is.4)) is.6)

-- a word that is no call, by its first byte and what follows it
pub other_word : (word : List ℕ) (first : ℕ) (digits : List ℕ) → word ≡ first ∷ digits → (first ≡ 115 → (b : ℕ) → IsHexByte digits b → ⊥) → (first ≡ 116 → digits ≡ [] → ⊥) → (first ≡ 112 → (i : ℕ) → IsNumber digits i → ⊥) → (op : Op) → IsOp word op → ⊥
other_word word first digits e s t p (step b) is =
    let same : first ≡ 115 = (let f = is.1 in cc) in
    let behind : is.0 ≡ digits = (let f = is.1 in cc) in s same b (subst (λ ds. IsHexByte ds b) behind is.2)
other_word word first digits e s t p take_value is =
    let same : first ≡ 116 = cc in
    let none : digits ≡ [] = cc in t same none
other_word word first digits e s t p (probe i) is =
    let same : first ≡ 112 = (let f = is.1 in cc) in
    let behind : is.0 ≡ digits = (let f = is.1 in cc) in p same i (subst (λ ds. IsNumber ds i) behind is.2)
