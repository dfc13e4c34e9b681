-- Lines whose keys stand in them as they are.
use Rattle.std.proofs.Common.{false, ◌≡◌, ℕ, ◌+◌, ◌-◌, ◌*◌, ◌^◌, ◌<◌, ◌≤◌, ◌⊎◌, inl, inr, zero, suc, List, [], ◌∷◌, ◌++◌, length, take, drop, get_or, refl, sym, ◌∙◌, ap, subst, arith, append_assoc}
use Rattle.std.specs.Prelude.{◌≢◌, ◌==◌, true}
use Rattle.std.specs.List.{Contains}
use Rattle.memchr.specs.Find.{Nowhere, Passes, is_byte3}
use Rattle.std.specs.List.{before_first, after_first, position_or_len}
use Rattle.std.proofs.lemmas.List.{take_more, drop_more, take_all, take-append-drop, get_or-take, length-append, length-take-le, append-nil}
use Rattle.std.proofs.Math.ListN.{drop_of_length-le}
use Rattle.std.proofs.Math.Nat.{pow-suc, pow-le-pow_right}
use Rattle.std.proofs.Math.Numerals.{add-one}
use Rattle.std.proofs.Math.Seq.{take-append_seam, take-append-add}
use Rattle.std.proofs.lemmas.Bool.Decides.{eqb_tells}
use Rattle.std.proofs.lemmas.List.Elements.{Contains-append_left, Contains-append_right}
use Rattle.zerotrie_lines.specs.Numbers.{AreDigits, number_behind, IsNumber}
use Rattle.zerotrie_lines.specs.Escapes.{Spells}
use Rattle.std.specs.Borrow.{Bor}
use Rattle.zerotrie_lines.specs.Tables.{pairs_of}
use Rattle.zerotrie_lines.specs.Lines.{is_feed, is_tab, ended, IsEnd, HasTab, IsPairLine}
use Rattle.zerotrie_lines.specs.Reads.{IsKeyOf, IsNotPlain}
use Rattle.zerotrie_lines.proofs.EscapeLemmas.{spells_itself}
use Rattle.zerotrie_lines.proofs.LineLemmas.{lacks_slash}
use Rattle.zerotrie_lines.specs.declared.reading.LineEnd.{LineEnd}
use Rattle.zerotrie_lines.proofs.BytesLemmas.{Lacks, lacks_by, lacks_append, lacks_low, lacks_next, digits_high, place_behind, place_on, no_place_of, drop_behind}
use Rattle.zerotrie_lines.proofs.EndLemmas.{ended_on, ended_high, ended_lacks, return_off}

-- The first count bytes are digits of the value.
pub record DigitsTo (text : List ℕ) (count value : ℕ) : Type 0 where
  pub all : AreDigits (take count text)
  pub is : value ≡ number_behind 0 (take count text)
  pub within : count ≤ length text
  pub below : value < 2 ^ 64

digits_push : (xs : List ℕ) (d : ℕ) → AreDigits xs → 48 ≤ d → d ≤ 57 → AreDigits (xs ++ d ∷ [])
digits_push [] d h low high = (low, high, tt)
digits_push (x ∷ xs) d h low high = (h.0, h.1, digits_push xs d h.2 low high)

number_push : (n : ℕ) (xs : List ℕ) (d : ℕ) → number_behind n (xs ++ d ∷ []) ≡ 10 * number_behind n xs + (d - 48)
number_push n [] d = refl
number_push n (x ∷ xs) d = number_push (10 * n + (x - 48)) xs d

pub digits_more : (text : List ℕ) (count value next : ℕ) → DigitsTo text count value → count < length text → 48 ≤ get_or text count 0 → get_or text count 0 ≤ 57
    → next ≡ value * 10 + (get_or text count 0 - 48) → next < 2 ^ 64 → DigitsTo text (count + 1) next
digits_more text count value next r h low high is below =
    let d = get_or text count 0 in
    let grown : take (count + 1) text ≡ take count text ++ d ∷ [] = take_more text count 0 h in
    let spelled : next ≡ number_behind 0 (take count text ++ d ∷ []) = (let p = number_push 0 (take count text) d in let v = r.is in omega (arith, p, v, is)) in record {
      all = subst AreDigits (sym grown) (digits_push (take count text) d r.all low high);
      is = spelled ∙ ap (number_behind 0) (sym grown);
      within = omega (arith, h);
      below = below;
    }

-- a number below 10 ^ count takes one more digit, without a carry
pub tens_more : (value digit count : ℕ) → value < 10 ^ count → digit ≤ 9 → value * 10 + digit < 10 ^ (count + 1)
tens_more value digit count h low = let p : 10 ^ (count + 1) ≡ 10 ^ count * 10 = ap (λ n. 10 ^ n) (add-one count) ∙ pow-suc 10 count in omega (arith, p, h, low)

-- below 18 digits, one more does not reach 2 ^ 64
pub tens_fit : (value count : ℕ) → value < 10 ^ count → count < 18 → value < 100000000000000000
tens_fit value count h few = let p : 10 ^ count ≤ 10 ^ 17 = pow-le-pow_right (omega arith) (let below : count ≤ 17 = omega (arith, few) in below) in omega (arith, p, h)

pub none_read : (text : List ℕ) → DigitsTo text 0 0
none_read text = record { all = tt; is = refl; within = omega arith; below = omega arith }

pub number_is : (text : List ℕ) (count value : ℕ) → DigitsTo text count value → 0 < count → count ≤ 20 → IsNumber (take count text) value
number_is text count value r some few = let l : length (take count text) ≡ count = length_take text count r.within in record {
  some = omega (arith, l, some);
  few = omega (arith, l, few);
  all = r.all;
  is = r.is;
  below = r.below;
}
  where
    length_take : (xs : List ℕ) (n : ℕ) → n ≤ length xs → length (take n xs) ≡ n
    length_take xs zero h = refl
    length_take [] (suc n) h = absurd (omega (arith, h))
    length_take (x ∷ xs) (suc n) h = ap suc (length_take xs n (omega (arith, h)))

-- a line without its line feed, whatever comes after it
first_is : (front tail rest : List ℕ) → Lacks 10 front → (tail ≡ 10 ∷ rest) ⊎ ((tail ≡ []) × (rest ≡ []))
    → (before_first is_feed (front ++ tail) ≡ front) × (rest ≡ after_first is_feed (front ++ tail))
first_is front tail rest lacks ends = elim ends [
  | inl feed ↦ rw (feed, place_behind 10 front rest lacks) (take-append_seam front (10 ∷ rest), sym (drop_behind 10 front rest))
  | inr none ↦ rw (none.0, none.1, append-nil front, no_place_of 10 front lacks)
      (take_all (length front) front (omega arith), sym (drop_of_length-le front (omega arith)))
]

-- a number, up to the end of a line
pub number_line : (end : LineEnd) (all rest : List ℕ) (count value : ℕ) → IsNumber (take count all) value → IsEnd end (drop count all) rest
    → IsNumber (ended end (before_first is_feed all)) value × (rest ≡ after_first is_feed all)
number_line end all rest count value number ends =
    let digits = take count all in
    let lacks : Lacks 10 digits = lacks_low 10 digits (omega arith) (digits_high digits number.all) in
    let Line : List ℕ → Type 0 = λ t. IsNumber (ended end (before_first is_feed t)) value × (rest ≡ after_first is_feed t) in
    subst Line (take-append-drop count all) (elim ends [
      | inl feed ↦ let line = first_is digits (drop count all) rest lacks (inl feed) in (rw (line.0, ended_high end digits (digits_high digits number.all)) number, line.1)
      | inr more ↦ elim more [
        | inl none ↦ let line = first_is digits (drop count all) rest lacks (inr none) in (rw (line.0, ended_high end digits (digits_high digits number.all)) number, line.1)
        | inr both ↦
            let joined : digits ++ drop count all ≡ (digits ++ 13 ∷ []) ++ 10 ∷ rest = ap (λ t. digits ++ t) both.1 ∙ sym (append_assoc digits (13 ∷ []) (10 ∷ rest)) in
            let low : Lacks 10 (digits ++ 13 ∷ []) = lacks_append 10 digits (13 ∷ []) lacks (lacks_next 10 13 [] refl (lacks_low 10 [] (omega arith) (digits_high [] tt))) in
            let line = first_is (digits ++ 13 ∷ []) (10 ∷ rest) rest low (inl refl) in
            subst Line (sym joined) (rw (both.0, line.0, return_off digits) number, line.1)
      ]
    ])

-- bytes without a line feed belong to the first line of what they stand before
before_on : (a : ℕ) (front rest : List ℕ) → Lacks a front → before_first (λ b. b == a) (front ++ rest) ≡ front ++ before_first (λ b. b == a) rest
before_on a front rest lacks = ap (λ n. take n (front ++ rest)) (place_on a front rest lacks) ∙ take-append-add front rest (position_or_len (λ b. b == a) rest)

after_on : (a : ℕ) (front rest : List ℕ) → Lacks a front → after_first (λ b. b == a) (front ++ rest) ≡ after_first (λ b. b == a) rest
after_on a front rest lacks = ap (λ n. drop (n + 1) (front ++ rest)) (place_on a front rest lacks) ∙ drop_on front rest (position_or_len (λ b. b == a) rest)
  where
    drop_on : (front rest : List ℕ) (n : ℕ) → drop (length front + n + 1) (front ++ rest) ≡ drop (n + 1) rest
    drop_on [] rest n = let e : 0 + n + 1 ≡ n + 1 = omega arith in rw e refl
    drop_on (b ∷ front) rest n = let e : suc (length front) + n + 1 ≡ suc (length front + n + 1) = omega arith in rw e (drop_on front rest n)

-- what the three bytes that are looked for are not
bytes_apart : (x : ℕ) → (is_byte3 9 92 10 x ≡ true → ⊥) → (x ≢ 9) × (x ≢ 92) × (x ≢ 10)
bytes_apart x none = (λ e. none (rw e refl), λ e. none (rw e refl), λ e. none (rw e refl))

-- the bytes in front of the first of them
pub none_before : (all : List ℕ) (place : ℕ) → place < length all → Nowhere (Passes (is_byte3 9 92 10) all) 0 place
    → (k : ℕ) → k < length (take place all) → (get_or (take place all) k 0 ≢ 9) × (get_or (take place all) k 0 ≢ 92) × (get_or (take place all) k 0 ≢ 10)
none_before all place within none k l =
    let few : k < place = omega (arith, l, length-take-le place all) in
    rw (get_or-take place all k 0 few) (bytes_apart (get_or all k 0) (none k (omega arith) few))

-- an input in parts: what is before a byte, the byte, and what is behind it
cut_at : (all : List ℕ) (place : ℕ) → place < length all → all ≡ take place all ++ get_or all place 0 ∷ drop (place + 1) all
cut_at all place within = sym (take-append-drop place all) ∙ ap (λ t. take place all ++ t) (drop_more all place 0 within)

-- an input whose first tab, backslash or line feed is a tab
pub record StopsAtTab (end : LineEnd) (all : List ℕ) (place : ℕ) : Type 0 where
  pub line : ended end (before_first is_feed all) ≡ take place all ++ 9 ∷ ended end (before_first is_feed (drop (place + 1) all))
  pub after : after_first is_feed all ≡ after_first is_feed (drop (place + 1) all)
  pub key : before_first is_tab (ended end (before_first is_feed all)) ≡ take place all
  pub digits : after_first is_tab (ended end (before_first is_feed all)) ≡ ended end (before_first is_feed (drop (place + 1) all))
  pub tab : HasTab (ended end (before_first is_feed all))
  pub plain : (k : ℕ) → k < length (take place all) → get_or (take place all) k 0 ≢ 92

pub at_tab : (end : LineEnd) (all : List ℕ) (place : ℕ) → place < length all → Nowhere (Passes (is_byte3 9 92 10) all) 0 place → get_or all place 0 ≡ 9 → StopsAtTab end all place
at_tab end all place within none tab =
    let key = take place all in
    let text = drop (place + 1) all in
    let digits = ended end (before_first is_feed text) in
    let apart = none_before all place within none in
    let whole : all ≡ key ++ 9 ∷ text = cut_at all place within ∙ ap (λ b. key ++ b ∷ text) tab in
    let joined : all ≡ (key ++ 9 ∷ []) ++ text = whole ∙ sym (append_assoc key (9 ∷ []) text) in
    let feed : Lacks 10 (key ++ 9 ∷ []) = lacks_append 10 key (9 ∷ []) (lacks_by 10 key (λ k l. (apart k l).2)) (lacks_next 10 9 [] refl (lacks_low 10 [] (omega arith) (digits_high [] tt))) in
    let line : ended end (before_first is_feed all) ≡ key ++ 9 ∷ digits =
    ap (λ t. ended end (before_first is_feed t)) joined ∙ ap (ended end) (before_on 10 (key ++ 9 ∷ []) text feed ∙ append_assoc key (9 ∷ []) (before_first is_feed text))
    ∙ ended_on end key 9 (before_first is_feed text) (λ is. absurd (omega (arith, is))) in
    let first : position_or_len is_tab (key ++ 9 ∷ digits) ≡ length key = place_behind 9 key digits (lacks_by 9 key (λ k l. (apart k l).0)) in
    let long = length-append key (9 ∷ digits) in record {
      line = line;
      after = ap (λ t. after_first is_feed t) joined ∙ after_on 10 (key ++ 9 ∷ []) text feed;
      key = ap (λ t. before_first is_tab t) line ∙ ap (λ n. take n (key ++ 9 ∷ digits)) first ∙ take-append_seam key (9 ∷ digits);
      digits = ap (λ t. after_first is_tab t) line ∙ ap (λ n. drop (n + 1) (key ++ 9 ∷ digits)) first ∙ drop_behind 9 key digits;
      tab = subst HasTab (sym line) (omega (arith, first, long));
      plain = λ k l. (apart k l).1;
    }

-- the first line is a pair if a number is behind the tab
pub plain_pair : (end : LineEnd) (all : List ℕ) (place value : ℕ) → StopsAtTab end all place → IsNumber (ended end (before_first is_feed (drop (place + 1) all))) value
    → IsPairLine false (ended end (before_first is_feed all)) (take place all, value)
plain_pair end all place value stop number =
    (stop.tab, subst (λ t. Spells t (take place all)) (sym stop.key) (spells_itself (take place all) stop.plain), subst (λ d. IsNumber d value) (sym stop.digits) number)

pub plain_key : (end : LineEnd) (all : List ℕ) (place : ℕ) → StopsAtTab end all place → IsKeyOf (ended end (before_first is_feed all)) (take place all)
plain_key end all place stop = (sym stop.key, lacks_slash (take place all) stop.plain)

-- and none if none is
pub no_number : (end : LineEnd) (all : List ℕ) (place : ℕ) → StopsAtTab end all place → ((value : ℕ) → IsNumber (ended end (before_first is_feed (drop (place + 1) all))) value → ⊥)
    → IsNotPlain false (ended end (before_first is_feed all))
no_number end all place stop none = inr (λ e h. none e.1 (subst (λ d. IsNumber d e.1) stop.digits h.2))

-- a line without a tab is no pair
no_tab : (line : List ℕ) → Lacks 9 line → IsNotPlain false line
no_tab line lacks = inr (λ e h. let end : position_or_len is_tab line ≡ length line = no_place_of 9 line lacks in omega (arith, h.0, end))

-- an input without a tab, a backslash and a line feed
pub no_stop : (end : LineEnd) (all : List ℕ) → Nowhere (Passes (is_byte3 9 92 10) all) 0 (length all) → IsNotPlain false (ended end (before_first is_feed all))
no_stop end all none =
    let apart : (k : ℕ) → k < length all → (get_or all k 0 ≢ 9) × (get_or all k 0 ≢ 92) × (get_or all k 0 ≢ 10) = λ k l. bytes_apart (get_or all k 0) (none k (omega arith) l) in
    let line : before_first is_feed all ≡ all = ap (λ n. take n all) (no_place_of 10 all (lacks_by 10 all (λ k l. (apart k l).2))) ∙ take_all (length all) all (omega arith) in
    subst (λ t. IsNotPlain false (ended end t)) (sym line) (no_tab (ended end all) (ended_lacks end 9 all (lacks_by 9 all (λ k l. (apart k l).0))))

-- which of the three bytes it is
one_of : (x : ℕ) → is_byte3 9 92 10 x ≡ true → x ≢ 9 → (x ≡ 92) ⊎ (x ≡ 10)
one_of x is other = elim (eqb_tells x 9) [
  | inl tab ↦ absurd (other tab.1)
  | inr f ↦ elim (eqb_tells x 92) [
    | inl slash ↦ inl slash.1
    | inr g ↦ elim (eqb_tells x 10) [ inl feed ↦ inr feed.1 | inr h ↦ absurd (cc (rw (f.0, g.0, h.0) at is)) ]
  ]
]

slash_is : Contains {X = ℕ} (92 ∷ []) 92
slash_is = (0, omega arith, refl)

-- an input whose first tab, backslash or line feed is no tab
pub other_stop : (end : LineEnd) (all : List ℕ) (place : ℕ) → place < length all → Nowhere (Passes (is_byte3 9 92 10) all) 0 place → Passes (is_byte3 9 92 10) all place
    → get_or all place 0 ≢ 9 → IsNotPlain false (ended end (before_first is_feed all))
other_stop end all place within none here other =
    let key = take place all in
    let text = drop (place + 1) all in
    let apart = none_before all place within none in
    let low : Lacks 9 key = lacks_by 9 key (λ k l. (apart k l).0) in
    let feed : Lacks 10 key = lacks_by 10 key (λ k l. (apart k l).2) in
    let whole = cut_at all place within in elim (one_of (get_or all place 0) here other) [
      | inl slash ↦
          let rest = ended end (before_first is_feed text) in
          let front : Lacks 10 (key ++ 92 ∷ []) = lacks_append 10 key (92 ∷ []) feed (lacks_next 10 92 [] refl (lacks_low 10 [] (omega arith) (digits_high [] tt))) in
          let tab : Lacks 9 (key ++ 92 ∷ []) = lacks_append 9 key (92 ∷ []) low (lacks_next 9 92 [] refl (lacks_low 9 [] (omega arith) (digits_high [] tt))) in
          let joined : all ≡ (key ++ 92 ∷ []) ++ text = whole ∙ ap (λ b. key ++ b ∷ text) slash ∙ sym (append_assoc key (92 ∷ []) text) in
          let line : ended end (before_first is_feed all) ≡ (key ++ 92 ∷ []) ++ rest =
          ap (λ t. ended end (before_first is_feed t)) joined ∙ ap (ended end) (before_on 10 (key ++ 92 ∷ []) text front ∙ append_assoc key (92 ∷ []) (before_first is_feed text))
          ∙ ended_on end key 92 (before_first is_feed text) (λ is. absurd (omega (arith, is))) ∙ sym (append_assoc key (92 ∷ []) rest) in
          let first : before_first is_tab (ended end (before_first is_feed all)) ≡ (key ++ 92 ∷ []) ++ before_first is_tab rest =
          ap (λ t. before_first is_tab t) line ∙ before_on 9 (key ++ 92 ∷ []) rest tab in
          inl (subst (λ t. Contains t 92) (sym first) (Contains-append_left (key ++ 92 ∷ []) (before_first is_tab rest) 92 (Contains-append_right key (92 ∷ []) 92 slash_is)))
      | inr is ↦
          let line : before_first is_feed all ≡ key =
          ap (λ t. before_first is_feed t) (whole ∙ ap (λ b. key ++ b ∷ text) is) ∙ ap (λ n. take n (key ++ 10 ∷ text)) (place_behind 10 key text feed) ∙ take-append_seam key (10 ∷ text) in
          subst (λ t. IsNotPlain false (ended end t)) (sym line) (no_tab (ended end key) (ended_lacks end 9 key low))
    ]

-- an item that is added
pub pairs_push : (items : List (Bor (List ℕ) × ℕ)) (item : Bor (List ℕ) × ℕ) → pairs_of (items ++ item ∷ []) ≡ pairs_of items ++ (item.0.now, item.1) ∷ []
pairs_push [] item = refl
pairs_push (e ∷ items) item = ap (λ p. (e.0.now, e.1) ∷ p) (pairs_push items item)
