-- What the beginning of an input shows of which other file it is.
use Rattle.std.proofs.Common.{◌≡◌, ◌⊎◌, ℕ, zero, suc, ◌+◌, ◌<◌, ◌≤◌, List, [], ◌∷◌, ◌++◌, length, take, drop, get_or, Option, None, Some, Bool, true, false, refl, sym, ◌∙◌, ap, subst, inl, inr, arith}
use Rattle.std.specs.Prelude.{◌≢◌, ◌==◌, ◌||◌}
use Rattle.std.specs.List.{list_any}
use Rattle.std.proofs.lemmas.Bool.Decides.{eqb_tells, leb_tells}
use Rattle.std.proofs.lemmas.List.Folds.{list_any-append}
use Rattle.std.proofs.lemmas.List.{get_or-take, get_or_append_left, take_all, take-append-le, take-append-drop}
use Rattle.zerotrie_sealed.specs.Sealed.{magic}
use Rattle.zerotrie_making.specs.Others.{BeginsSealed, HasUtf16Mark, IsGzip, IsOther, IsSettled, IsUtf16}
use Rattle.zerotrie_making.specs.declared.others.OtherFile.{OtherFile}
use Rattle.zerotrie_making.specs.declared.others.OtherFile.TheVariants.{Utf16, Gzip, Sealed}

-- An input has so many bytes, or a line feed.
abbrev pub Reaches : ℕ → List ℕ → Type 0
Reaches n input = (n ≤ length input) ⊎ ((k : ℕ) × (k < length input) × (get_or input k 0 ≡ 10))

some_at : (a : ℕ) (input : List ℕ) → list_any (λ b. b == a) input ≡ true → (k : ℕ) × (k < length input) × (get_or input k 0 ≡ a)
some_at a [] h = absurd (cc)
some_at a (b ∷ input) h = elim (eqb_tells b a) [
  | inl is ↦ (0, omega arith, is.1)
  | inr other ↦ let more = some_at a input (rw other.0 at h) in (suc more.0, omega (arith, more.1), more.2)
]

same_front : (n : ℕ) (input more mark : List ℕ) → Reaches n input → ((k : ℕ) → k + 1 < n → get_or mark k 0 ≢ 10) → take n (input ++ more) ≡ mark → take n input ≡ mark
same_front n input more mark (inl long) none is = sym (take-append-le n input more long) ∙ is
same_front n input more mark (inr at) none is = elim (leb_tells n (length input)) [
  | inl long ↦ sym (take-append-le n input more long.1) ∙ is
  | inr short ↦ absurd (none at.0 (omega (arith, at.1, short.1))
      (ap (λ m. get_or m at.0 0) (sym is) ∙ get_or-take n (input ++ more) at.0 0 (omega (arith, at.1, short.1)) ∙ get_or_append_left input more 0 at.0 at.1 ∙ at.2))
]

more_front : (n : ℕ) (input more mark : List ℕ) → length mark ≡ n → take n input ≡ mark → take n (input ++ more) ≡ mark
more_front n input more mark len is = elim (leb_tells n (length input)) [
  | inl long ↦ take-append-le n input more long.1 ∙ is
  | inr short ↦ let all : input ≡ mark = sym (take_all n input (omega (arith, short.1))) ∙ is in absurd (omega (arith, short.1, ap length all, len))
]

fewer : (input : List ℕ) → Reaches 8 input → Reaches 2 input
fewer input (inl long) = inl (omega (arith, long))
fewer input (inr at) = inr at

-- no byte of these marks is a line feed, but the last of one
low_of_two : (a b : ℕ) → a ≢ 10 → (k : ℕ) → k + 1 < 2 → get_or (a ∷ b ∷ []) k 0 ≢ 10
low_of_two a b other zero few = other
low_of_two a b other (suc k) few = absurd (omega (arith, few))

low_of_magic : (k : ℕ) → k + 1 < 8 → get_or magic k 0 ≢ 10
low_of_magic zero few e = absurd (cc)
low_of_magic (suc zero) few e = absurd (cc)
low_of_magic (suc (suc zero)) few e = absurd (cc)
low_of_magic (suc (suc (suc zero))) few e = absurd (cc)
low_of_magic (suc (suc (suc (suc zero)))) few e = absurd (cc)
low_of_magic (suc (suc (suc (suc (suc zero))))) few e = absurd (cc)
low_of_magic (suc (suc (suc (suc (suc (suc zero)))))) few e = absurd (cc)
low_of_magic (suc (suc (suc (suc (suc (suc (suc k))))))) few e = absurd (omega (arith, few))

more_mark : (input more : List ℕ) → HasUtf16Mark input → HasUtf16Mark (input ++ more)
more_mark input more (inl is) = inl (more_front 2 input more (255 ∷ 254 ∷ []) refl is)
more_mark input more (inr is) = inr (more_front 2 input more (254 ∷ 255 ∷ []) refl is)

-- what follows another file leaves it that file
more_other : (input : List ℕ) (o : OtherFile) (more : List ℕ) → IsOther input (Some o) → IsOther (input ++ more) (Some o)
more_other input Utf16 more h = (more_mark input more h.0, list_any-append (λ b. b == 0) input more ∙ ap (λ t. t || list_any (λ b. b == 0) more) h.1)
more_other input Gzip more h = more_front 2 input more (31 ∷ 139 ∷ []) refl h
more_other input Sealed more h = more_front 8 input more magic refl h

-- a text in UTF-16 is one, whatever follows
pub marked_settled : (input : List ℕ) → HasUtf16Mark input → list_any (λ b. b == 0) input ≡ true → IsSettled input
marked_settled input mark has None more h = absurd (h.0 (mark, has))
marked_settled input mark has (Some o) more h = more_other input o more h

-- and what has eight bytes or a line feed, and no mark of UTF-16
pub unmarked_settled : (input : List ℕ) → Reaches 8 input → (HasUtf16Mark input → ⊥) → IsSettled input
unmarked_settled input reach none (Some o) more h = more_other input o more h
unmarked_settled input reach none None more h = (
  (λ u. elim u.0 [
    | inl is ↦ none (inl (same_front 2 input more (255 ∷ 254 ∷ []) (fewer input reach) (low_of_two 255 254 (λ e. absurd (cc))) is))
    | inr is ↦ none (inr (same_front 2 input more (254 ∷ 255 ∷ []) (fewer input reach) (low_of_two 254 255 (λ e. absurd (cc))) is))
  ]),
  (λ is. h.1 (same_front 2 input more (31 ∷ 139 ∷ []) (fewer input reach) (low_of_two 31 139 (λ e. absurd (cc))) is)),
  (λ is. h.2 (same_front 8 input more magic reach low_of_magic is)),
)

-- a zero behind a place is one of all bytes
pub any_behind : (n : ℕ) (input fresh : List ℕ) → fresh ≡ drop n input → list_any (λ b. b == 0) fresh ≡ true → list_any (λ b. b == 0) input ≡ true
any_behind n input fresh is h =
    let Has : List ℕ → Type 0 = λ xs. list_any (λ b. b == 0) xs ≡ true in
    subst Has (take-append-drop n input) (list_any-append (λ b. b == 0) (take n input) (drop n input) ∙ second (list_any (λ b. b == 0) (take n input)) _ (subst Has is h))
  where
    second : (p q : Bool) → q ≡ true → (p || q) ≡ true
    second true q h = refl
    second false q h = h

pub feed_reaches : (input : List ℕ) → list_any (λ b. b == 10) input ≡ true → Reaches 8 input
feed_reaches input h = inr (some_at 10 input h)
