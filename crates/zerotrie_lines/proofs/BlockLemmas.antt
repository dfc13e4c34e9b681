-- Whole lines at the front of bytes.
use Rattle.std.proofs.Common.{◌≡◌, ℕ, ◌+◌, ◌-◌, ◌<◌, ◌≤◌, List, [], ◌∷◌, ◌++◌, length, take, drop, get_or, Bool, true, false, refl, sym, ◌∙◌, ap, subst, arith}
use Rattle.std.specs.Prelude.{◌≢◌}
use Rattle.std.proofs.lemmas.Bool.{eqb-true}
use Rattle.std.proofs.lemmas.List.{take_all, take_more, length-drop, get_or-drop}
use Rattle.memchr.specs.Find.{Nowhere, Passes, is_byte}
use Rattle.zerotrie_lines.specs.Lines.{is_feed, onto_line, lines_of}
use Rattle.zerotrie_lines.specs.Blocks.{AreWhole, HasFeed}

-- a byte goes to the first line, whatever lines follow
onto_more : (b : ℕ) (lines more : List (List ℕ)) → lines ≢ [] → onto_line b (lines ++ more) ≡ onto_line b lines ++ more
onto_more b [] more some = absurd (some refl)
onto_more b (line ∷ lines) more some = refl

onto_some : (b : ℕ) (lines : List (List ℕ)) → onto_line b lines ≢ []
onto_some b [] e = absurd (cc)
onto_some b (line ∷ lines) e = absurd (cc)

-- what is not empty has a line
some_by : (b : ℕ) (xs : List ℕ) (t : Bool) → is_feed b ≡ t → lines_of (b ∷ xs) ≢ []
some_by b xs true is = rw is (λ e. absurd (cc))
some_by b xs false is = rw is (onto_some b (lines_of xs))

ends_some : (xs : List ℕ) → lines_of (xs ++ 10 ∷ []) ≢ []
ends_some [] e = some_by 10 [] (is_feed 10) refl e
ends_some (b ∷ xs) e = some_by b (xs ++ 10 ∷ []) (is_feed b) refl e

whole_by : (b : ℕ) (xs rest : List ℕ) (t : Bool) → is_feed b ≡ t → lines_of xs ≢ [] → lines_of (xs ++ rest) ≡ lines_of xs ++ lines_of rest → lines_of (b ∷ xs ++ rest) ≡ lines_of (b ∷ xs) ++ lines_of rest
whole_by b xs rest true is some h = rw is (ap (λ l. [] ∷ l) h)
whole_by b xs rest false is some h = rw is (ap (onto_line b) h ∙ onto_more b (lines_of xs) (lines_of rest) some)

-- bytes that end in a line feed are whole lines
whole_ends : (xs : List ℕ) → AreWhole (xs ++ 10 ∷ [])
whole_ends [] rest = refl
whole_ends (b ∷ xs) rest = whole_by b (xs ++ 10 ∷ []) rest (is_feed b) refl (ends_some xs) (whole_ends xs rest)

-- the bytes from a place on
pub fresh_is : (bytes fresh : List ℕ) (from : ℕ) → fresh ≡ take (length bytes - from) (drop from bytes) → fresh ≡ drop from bytes
fresh_is bytes fresh from is = is ∙ take_all (length bytes - from) (drop from bytes) (omega (arith, length-drop from bytes))

-- so are those up to a line feed
pub whole_cut : (bytes fresh : List ℕ) (from place : ℕ) → fresh ≡ drop from bytes → place < length fresh → is_feed (get_or fresh place 0) ≡ true → AreWhole (take (from + place + 1) bytes)
whole_cut bytes fresh from place is l here =
    let feed : get_or bytes (from + place) 0 ≡ 10 = sym (get_or-drop from bytes place 0) ∙ ap (λ x. get_or x place 0) (sym is) ∙ eqb-true (get_or fresh place 0) 10 here in
    let cut : take (from + place + 1) bytes ≡ take (from + place) bytes ++ 10 ∷ [] = take_more bytes (from + place) 0 (omega (arith, l, ap length is, length-drop from bytes)) ∙ ap (λ b. take (from + place) bytes ++ b ∷ []) feed in
    subst AreWhole (sym cut) (whole_ends (take (from + place) bytes))

-- a byte from a place on is none of those in which there is no line feed
none_at : (bytes fresh : List ℕ) (from n k : ℕ) → fresh ≡ drop from bytes → Nowhere (Passes (is_byte 10) fresh) n (length fresh) → from ≤ k → n ≤ k - from → HasFeed bytes k → ⊥
none_at bytes fresh from n k is none low later has =
    let there : get_or fresh (k - from) 0 ≡ 10 = ap (λ x. get_or x (k - from) 0) is ∙ get_or-drop from bytes (k - from) 0 ∙ ap (λ i. get_or bytes i 0) (omega (arith, low)) ∙ has.1 in
    none (k - from) later (omega (arith, low, has.0, ap length is, length-drop from bytes)) (rw there refl)

-- no line feed lies later than the last of the bytes from a place on, and none lies there if they have none
pub none_later : (bytes fresh : List ℕ) (from n : ℕ) → fresh ≡ drop from bytes → Nowhere (Passes (is_byte 10) fresh) n (length fresh) → (k : ℕ) → from ≤ k → from + n ≤ k → HasFeed bytes k → ⊥
none_later bytes fresh from n is none k low later has = none_at bytes fresh from n k is none low (omega (arith, low, later)) has
