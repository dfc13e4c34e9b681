-- The lines in which pairs are listed are these pairs, and no other file.
use Rattle.std.proofs.Common.{◌≡◌, ℕ, suc, ◌-◌, ◌^◌, ◌<◌, List, [], ◌∷◌, ◌++◌, take, Bool, true, false, Some, refl, sym, ap, ◌∙◌, subst, append_assoc, arith, inl, inr}
use Rattle.std.specs.Prelude.{◌≢◌, ◌⊎◌, ◌==◌, ◌&&◌, ◌||◌, nat_le, nat_lt, All, codes, decimal, if◌then◌else◌}
use Rattle.std.proofs.lemmas.Bool.{cases_Bool}
use Rattle.std.proofs.lemmas.List.Elements.{All-nil, All-cons, All-map, All-append}
use Rattle.zerotrie_core.specs.Kind.{Kind}
use Rattle.zerotrie_core.specs.Maps.{Pairs, with_front}
use Rattle.zerotrie_core.specs.Texts.{Lists, ListEach, nothing, value, literal, span, branch, no_edge, edge}
use Rattle.zerotrie_lines.specs.Escapes.{is_plain, shown_len, escape_of, escaped_behind, escaped}
use Rattle.zerotrie_lines.specs.Lines.{tsv_lines}
use Rattle.zerotrie_making.specs.Others.{IsOther}
use Rattle.zerotrie_making.specs.declared.others.OtherFile.{OtherFile}
use Rattle.zerotrie_making.specs.declared.others.OtherFile.TheVariants.{Utf16, Gzip, Sealed}
use Rattle.zerotrie_sealed.specs.Sealed.{magic}

-- an escape begins with a backslash
abbrev BeginsEscape : List ℕ → Type 0
BeginsEscape text = (more : List ℕ) × (text ≡ 92 ∷ more)

either : (b : Bool) (xs ys : List ℕ) → BeginsEscape xs → BeginsEscape ys → BeginsEscape (if b then xs else ys)
either true xs ys h k = h
either false xs ys h k = k

escape_begins : (b : ℕ) → BeginsEscape (escape_of b)
escape_begins b =
    either (b == 9) (codes "\\t") _ (_, refl) (either (b == 10) (codes "\\n") _ (_, refl) (either (b == 13) (codes "\\r") _ (_, refl) (either (b == 92) (codes "\\\\") _ (_, refl) (_, refl))))

heads : (a b : ℕ) (xs ys : List ℕ) → a ∷ xs ≡ b ∷ ys → (a ≡ b) × (xs ≡ ys)
heads a b xs ys is = (cc, cc)

-- a byte is never itself in a key that is written, or always by itself alone
abbrev IsNeverItself : ℕ → Type 0
IsNeverItself c = (more : List ℕ) → shown_len (c ∷ more) ≡ 0

abbrev IsAlwaysItself : ℕ → Type 0
IsAlwaysItself c = (more : List ℕ) → shown_len (c ∷ more) ≡ 1

-- the byte is itself in front of more of a key, and what follows it in the line is this
abbrev IsItself : (rest : List ℕ) → ℕ → (back : List ℕ) → Type 0
IsItself rest c back = (more : List ℕ) × ((shown_len (c ∷ more) == 0) ≡ false) × (escaped_behind (shown_len (c ∷ more) - 1) more ++ 9 ∷ rest ≡ back)

-- the first byte of a line is a tab, a backslash, or one that is itself
first_byte : (key rest : List ℕ) (c : ℕ) (back : List ℕ) → escaped key ++ 9 ∷ rest ≡ c ∷ back → (c ≡ 9) ⊎ (c ≡ 92) ⊎ IsItself rest c back
unfolding escaped
first_byte [] rest c back is = inl (sym (heads 9 c rest back is).0)
first_byte (b ∷ key) rest c back is = elim (cases_Bool (shown_len (b ∷ key) == 0)) [
  | inl none ↦ inr (inl (let e = escape_begins b in let h = rw (none, e.1) at is in sym (heads 92 c _ back h).0))
  | inr some ↦ inr (inr (
      let h = heads b c _ back (rw some at is) in
      (key, subst (λ x. (shown_len (x ∷ key) == 0) ≡ false) h.0 some, subst (λ x. escaped_behind (shown_len (x ∷ key) - 1) key ++ 9 ∷ rest ≡ back) h.0 h.1)))
]

-- a byte that is never itself begins no line
unbegun : (c : ℕ) → c ≢ 9 → c ≢ 92 → IsNeverItself c → (key rest back : List ℕ) → escaped key ++ 9 ∷ rest ≡ c ∷ back → ⊥
unbegun c tab slash never key rest back is = elim (first_byte key rest c back is) [
  | inl t ↦ tab t
  | inr other ↦ elim other [
    | inl s ↦ slash s
    | inr k ↦ (let h : (0 == 0) ≡ false = rw (never k.0) at k.1 in absurd (cc h))
  ]
]

-- behind a byte that alone is itself the rest of the line follows
behind_plain : (c : ℕ) → c ≢ 9 → c ≢ 92 → IsAlwaysItself c → (key rest back : List ℕ) → escaped key ++ 9 ∷ rest ≡ c ∷ back → (next : List ℕ) × (escaped next ++ 9 ∷ rest ≡ back)
unfolding escaped
behind_plain c tab slash one key rest back is = elim (first_byte key rest c back is) [
  | inl t ↦ absurd (tab t)
  | inr other ↦ elim other [
    | inl s ↦ absurd (slash s)
    | inr k ↦ (k.0, rw (one k.0) at k.2)
  ]
]

-- a byte of no character and no ASCII that can be seen is never itself
never : (c : ℕ) → (is_plain c || nat_le 256 c) ≡ false → (nat_le 194 c && nat_lt c 224) ≡ false → (nat_le 224 c && nat_lt c 240) ≡ false → (nat_le 240 c && nat_lt c 245) ≡ false
    → IsNeverItself c
never c low two three four [] = rw low refl
never c low two three four (x ∷ []) = rw (low, two) refl
never c low two three four (x ∷ y ∷ []) = rw (low, two, three) refl
never c low two three four (x ∷ y ∷ z ∷ more) = rw (low, two, three, four) refl

-- lines that are not empty begin with a key and a tab
first_line : (pairs : Pairs) (c : ℕ) (back : List ℕ) → tsv_lines pairs ≡ c ∷ back → (key rest : List ℕ) × (escaped key ++ 9 ∷ rest ≡ tsv_lines pairs)
first_line [] c back is = absurd (cc)
first_line (e ∷ pairs) c back is = let end = decimal e.1 ++ 10 ∷ [] in (e.0, end ++ tsv_lines pairs, sym (append_assoc (escaped e.0) (9 ∷ end) (tsv_lines pairs)))

front_of : (n : ℕ) (text : List ℕ) (c : ℕ) (more : List ℕ) → take (suc n) text ≡ c ∷ more → (back : List ℕ) × (text ≡ c ∷ back) × (take n back ≡ more)
front_of n [] c more is = absurd (cc)
front_of n (a ∷ text) c more is = let h = heads a c (take n text) more is in (text, ap (λ x. x ∷ text) h.0, h.1)

-- a line that begins with bytes of which the first alone is itself: a line with the others follows
next_byte : (c : ℕ) → c ≢ 9 → c ≢ 92 → IsAlwaysItself c → (n : ℕ) (key rest text more : List ℕ) → escaped key ++ 9 ∷ rest ≡ text → take (suc n) text ≡ c ∷ more
    → (next back : List ℕ) × (escaped next ++ 9 ∷ rest ≡ back) × (take n back ≡ more)
next_byte c tab slash one n key rest text more is begins =
    let front = front_of n text c more begins in let next = behind_plain c tab slash one key rest front.0 (is ∙ front.1) in (next.0, front.0, next.1, front.2)

-- a line does not begin with bytes of which the first is never itself
never_begins : (c : ℕ) → c ≢ 9 → c ≢ 92 → IsNeverItself c → (n : ℕ) (key rest text more : List ℕ) → escaped key ++ 9 ∷ rest ≡ text → take (suc n) text ≡ c ∷ more → ⊥
never_begins c tab slash none n key rest text more is begins = let front = front_of n text c more begins in unbegun c tab slash none key rest front.0 (is ∙ front.1)

-- nor do lines
not_begun : (c : ℕ) → c ≢ 9 → c ≢ 92 → IsNeverItself c → (pairs : Pairs) (more : List ℕ) → take 2 (tsv_lines pairs) ≡ c ∷ more → ⊥
not_begun c tab slash none pairs more begins =
    let front = front_of 1 (tsv_lines pairs) c more begins in
    let line = first_line pairs c front.0 front.1 in
    never_begins c tab slash none 1 line.0 line.1 (tsv_lines pairs) more line.2 begins

-- of the magic of sealed files four letters may begin a key, and the next byte is never itself
not_sealed : (pairs : Pairs) → take 8 (tsv_lines pairs) ≡ magic → ⊥
not_sealed pairs begins =
    let front = front_of 7 (tsv_lines pairs) 122 _ begins in
    let line = first_line pairs 122 front.0 front.1 in
    let z = next_byte 122 (λ h. omega (arith, h)) (λ h. omega (arith, h)) (λ more. refl) 7 line.0 line.1 (tsv_lines pairs) _ line.2 begins in
    let t = next_byte 116 (λ h. omega (arith, h)) (λ h. omega (arith, h)) (λ more. refl) 6 z.0 line.1 z.1 _ z.2 z.3 in
    let r = next_byte 114 (λ h. omega (arith, h)) (λ h. omega (arith, h)) (λ more. refl) 5 t.0 line.1 t.1 _ t.2 t.3 in
    let i = next_byte 105 (λ h. omega (arith, h)) (λ h. omega (arith, h)) (λ more. refl) 4 r.0 line.1 r.1 _ r.2 r.3 in
    never_begins 137 (λ h. omega (arith, h)) (λ h. omega (arith, h)) (never 137 refl refl refl refl) 3 i.0 line.1 i.1 _ i.2 i.3

pub no_other : (pairs : Pairs) (other : OtherFile) → IsOther (tsv_lines pairs) (Some other) → ⊥
no_other pairs Utf16 is = elim is.0 [
  | inl h ↦ not_begun 255 (λ h. omega (arith, h)) (λ h. omega (arith, h)) (never 255 refl refl refl refl) pairs _ h
  | inr h ↦ not_begun 254 (λ h. omega (arith, h)) (λ h. omega (arith, h)) (never 254 refl refl refl refl) pairs _ h
]
no_other pairs Gzip is = not_begun 31 (λ h. omega (arith, h)) (λ h. omega (arith, h)) (never 31 refl refl refl refl) pairs _ is
no_other pairs Sealed is = not_sealed pairs is

-- what bytes list has values below 2 ^ 64
abbrev Small : List ℕ × ℕ → Type 0
Small e = e.1 < 2 ^ 64

mutual
  pub values_below : {kind : Kind} {bytes : List ℕ} {pairs : Pairs} → Lists kind bytes pairs → All (λ e. e.1 < 2 ^ 64) pairs
  values_below nothing = All-nil Small
  values_below (value {v = v} {pairs = pairs} s n text) = All-cons Small ([], v) pairs s.below (values_below text)
  values_below (literal {b = b} {pairs = pairs} l n text) = All-map Small (λ e. (b ∷ e.0, e.1)) pairs (values_below text)
  values_below (span {pairs = pairs} run s some high n r f text) = All-map Small (λ e. (run ++ e.0, e.1)) pairs (values_below text)
  values_below (branch b each) = each_below each

  each_below : {kind : Kind} {edges : List ℕ} {targets : List (List ℕ)} {pairs : Pairs} → ListEach kind edges targets pairs → All (λ e. e.1 < 2 ^ 64) pairs
  each_below no_edge = All-nil Small
  each_below (edge {e = e} {pairs = pairs} {more = more} n text each) =
      All-append Small (with_front e pairs) more (All-map Small (λ p. (e ∷ p.0, p.1)) pairs (values_below text)) (each_below each)
