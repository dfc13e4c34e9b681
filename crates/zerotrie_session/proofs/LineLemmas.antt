-- Cutting a line at a space.
use Rattle.std.proofs.Common.{◌≡◌, ℕ, ◌+◌, ◌≤◌, List, [], ◌∷◌, ◌++◌, length, take, refl, sym, ◌∙◌, ap, arith, Some, None, Bool, true, false, cond, ltb, inl, inr, suc, get_or, drop, subst, ◌-◌, codes}
use Rattle.std.specs.Prelude.{◌==◌}
use Rattle.std.specs.List.{position, position_or_len, before_first}
use Rattle.std.proofs.lemmas.Bool.Decides.{eqb_tells}
use Rattle.std.proofs.lemmas.Bool.{ltb-false}
use Rattle.std.proofs.Math.Seq.{split_at}
use Rattle.std.proofs.lemmas.List.Quantifiers.{position-Some}
use Rattle.std.proofs.lemmas.Bool.{eqb-true}
use Rattle.std.proofs.lemmas.List.{take_all}
use Rattle.std.specs.Borrow.{Bor}
use Rattle.std.specs.Cmp.Lexicographic.{pointwise}
use Rattle.std.proofs.lemmas.Slice.Eq.{strip_prefix_is}
use Rattle.std.proofs.lemmas.Bool.Decides.{Decides-eqb}
use Rattle.std.proofs.lemmas.List.{append-nil, length-drop}
use Rattle.zerotrie_session.specs.Numbers.{AreDigits, IsNumber}
use Rattle.zerotrie_session.specs.Commands.{HasKey, IsCommand, Command, choose, add, build, query, list, walk}
use Rattle.zerotrie_session.specs.answer.Parsing.{IsWalking}

-- whether a byte is a space
abbrev pub is_space : ℕ → Bool
is_space b = b == 32

pub word_found : (text : List ℕ) (place : ℕ) → position is_space text ≡ Some place → take place text ≡ before_first is_space text
word_found text place e =
    elim (ltb (position_or_len is_space text) (length text)) as (λ b. cond b (Some (position_or_len is_space text)) None ≡ Some place → take place text ≡ before_first is_space text) [
      | true ↦ λ h. cc
      | false ↦ λ h. cc
    ] e

pub key_found : (text : List ℕ) (place : ℕ) → position is_space text ≡ Some place → text ≡ take place text ++ 32 ∷ take (length text - (place + 1)) (drop (place + 1) text)
key_found text place e =
    let found = position-Some is_space text place 0 e in
    let space : get_or text place 0 ≡ 32 = eqb-true (get_or text place 0) 32 found.1 in
    let e : place + 1 ≡ suc place = omega arith in
    let whole : take (length text - (place + 1)) (drop (place + 1) text) ≡ drop (place + 1) text = take_all (length text - (place + 1)) (drop (place + 1) text) (omega (arith, length-drop (place + 1) text)) in
    rw (whole, e) (split_at text place 0 found.0 ∙ ap (λ b. take place text ++ b ∷ drop (suc place) text) space)

pub word_alone : (text : List ℕ) → position is_space text ≡ None → text ≡ before_first is_space text
word_alone text e =
    elim (ltb (position_or_len is_space text) (length text)) as (λ b. ltb (position_or_len is_space text) (length text) ≡ b → cond b (Some (position_or_len is_space text)) None ≡ None → text ≡ before_first is_space text) [
      | true ↦ λ q h. cc
      | false ↦ λ q h. sym (take_all (position_or_len is_space text) text (ltb-false (position_or_len is_space text) (length text) q))
    ] refl e

no_space : (d : ℕ) → 48 ≤ d → is_space d ≡ false
no_space d h = elim (eqb_tells d 32) [ inl t ↦ absurd (omega (arith, t.1)) | inr f ↦ f.0 ]

take_front : (d n : ℕ) (xs : List ℕ) → take (1 + n) (d ∷ xs) ≡ d ∷ take n xs
take_front d n xs = let e : 1 + n ≡ suc n = omega arith in rw e refl

digits_before : (digits rest : List ℕ) → AreDigits digits → before_first is_space (digits ++ 32 ∷ rest) ≡ digits
digits_before [] rest all = refl
digits_before (d ∷ digits) rest all =
    rw (no_space d all.0) (take_front d (position_or_len is_space (digits ++ 32 ∷ rest)) (digits ++ 32 ∷ rest) ∙ ap (λ l. d ∷ l) (digits_before digits rest all.2))

digits_alone : (digits : List ℕ) → AreDigits digits → before_first is_space digits ≡ digits
digits_alone [] all = refl
digits_alone (d ∷ digits) all =
    rw (no_space d all.0) (take_front d (position_or_len is_space digits) digits ∙ ap (λ l. d ∷ l) (digits_alone digits all.2))

-- the digits that a text begins with are what stands before its first space
pub word_is_digits : (digits key text : List ℕ) → AreDigits digits → HasKey digits key text → before_first is_space text ≡ digits
word_is_digits digits key text all h = elim h [
  | inl alone ↦ ap (before_first is_space) alone.0 ∙ digits_alone digits all
  | inr with_key ↦ ap (before_first is_space) with_key ∙ digits_before digits key all
]

-- after two bytes a text has the same key
pub HasKey-tail : (a b : ℕ) (words key text : List ℕ) → HasKey (a ∷ b ∷ words) key (a ∷ b ∷ text) → HasKey words key text
HasKey-tail a b words key text h = elim h [
  | inl alone ↦ inl (cc, alone.1)
  | inr with_key ↦ inr (cc)
]

-- a text whose first word is no number is no pair
pub no_pair : (text word : List ℕ) → word ≡ before_first is_space text → ((value : ℕ) → IsNumber word value → ⊥) → (digits key : List ℕ) (value : ℕ) → IsNumber digits value → HasKey digits key text → ⊥
no_pair text word e none digits key value number h =
    let same : word ≡ digits = e ∙ word_is_digits digits key text number.all h in none value (rw same number)

-- whether a line begins with the words, as `strip_prefix` tests it
abbrev pub begins : List ℕ → List ℕ → Bool
begins line words = pointwise ◌==◌ (take (length words) line) words

pub stripped : (line words : List ℕ) (rest : Bor (List ℕ)) → (begins line words ≡ true) × (rest.now ≡ drop (length words) line) × (length rest.now + length words ≡ length line) → line ≡ words ++ rest.now
stripped line words rest h = strip_prefix_is Decides-eqb line words (Some rest) h

pub not_stripped : (line words : List ℕ) → begins line words ≡ false → (rest : List ℕ) → line ≡ words ++ rest → ⊥
not_stripped line words h = strip_prefix_is Decides-eqb line words None h

-- a line that does not begin with the words has no key after them
pub no_words : (line words : List ℕ) → begins line words ≡ false → (key : List ℕ) → HasKey words key line → ⊥
no_words line words h key with_key = elim with_key [
  | inl alone ↦ not_stripped line words h [] (alone.0 ∙ sym (append-nil words))
  | inr e ↦ not_stripped line words h (32 ∷ key) e
]

pub key_alone : (line words rest key : List ℕ) → line ≡ words ++ rest → length rest ≡ 0 → key ≡ rest → HasKey words key line
key_alone line words [] key e h k = inl (e ∙ append-nil words, k)
key_alone line words (b ∷ rest) key e h k = absurd (omega arith)

pub same_rest : (words rest more : List ℕ) → words ++ rest ≡ words ++ more → rest ≡ more
same_rest [] rest more e = e
same_rest (w ∷ words) rest more e = same_rest words rest more (cc)

-- after the words stands neither nothing nor a space
pub other_key : (line words rest : List ℕ) (b : ℕ) (behind : List ℕ) → line ≡ words ++ rest → rest ≡ b ∷ behind → (b ≡ 32 → ⊥) → (key : List ℕ) → HasKey words key line → ⊥
other_key line words rest b behind e is other key h = elim h [
  | inl alone ↦ let same : rest ≡ [] = same_rest words rest [] (sym e ∙ alone.0 ∙ sym (append-nil words)) in cc
  | inr with_key ↦ let same : rest ≡ 32 ∷ key = same_rest words rest (32 ∷ key) (sym e ∙ with_key) in other (cc)
]

-- a line of two bytes and a text whose first word is no number
pub no_pair_line : (line : List ℕ) (a b : ℕ) (text word : List ℕ) → line ≡ a ∷ b ∷ text → word ≡ before_first is_space text → ((value : ℕ) → IsNumber word value → ⊥) → (digits key : List ℕ) (value : ℕ) → IsNumber digits value → HasKey (a ∷ b ∷ digits) key line → ⊥
no_pair_line line a b text word e w none digits key value number h =
    no_pair text word w none digits key value number (HasKey-tail a b digits key text (let P : List ℕ → Type 0 = λ l. HasKey (a ∷ b ∷ digits) key l in subst P e h))

-- two texts with different first bytes
apart : (line one other : List ℕ) → line ≡ one → line ≡ other → (get_or one 0 0 ≡ get_or other 0 0 → ⊥) → ⊥
apart line one other e f different = different (ap (λ l. get_or l 0 0) (sym e ∙ f))

-- a line that begins as a walk does is no other command
pub walk_alone : (line text : List ℕ) → line ≡ codes "walk " ++ text → (command : Command) → IsCommand line command → IsWalking command
walk_alone line text e (choose choice) h = absurd (apart line _ _ e h (λ same. let n : 119 ≡ 107 = same in omega arith))
walk_alone line text e (add value key) h = absurd (elim h.2 [
  | inl alone ↦ apart line _ _ e alone.0 (λ same. let n : 119 ≡ 43 = same in omega arith)
  | inr with_key ↦ apart line _ _ e with_key (λ same. let n : 119 ≡ 43 = same in omega arith)
])
walk_alone line text e build h = absurd (apart line _ _ e h (λ same. let n : 119 ≡ 98 = same in omega arith))
walk_alone line text e (query key) h = absurd (elim h [
  | inl alone ↦ apart line _ _ e alone.0 (λ same. let n : 119 ≡ 63 = same in omega arith)
  | inr with_key ↦ apart line _ _ e with_key (λ same. let n : 119 ≡ 63 = same in omega arith)
])
walk_alone line text e list h = absurd (apart line _ _ e h (λ same. let n : 119 ≡ 108 = same in omega arith))
walk_alone line text e (walk ops) h = (ops, refl)
