-- What is written is read back, and nothing else is.
use Rattle.std.proofs.Common.{◌≡◌, ℕ, ◌+◌, ◌-◌, ◌*◌, ◌/◌, ◌%◌, ◌^◌, ◌<◌, ◌≤◌, inl, inr, map, List, [], ◌∷◌, ◌++◌, length, take, drop, refl, sym, ◌∙◌, ap, subst, arith, Bool, true, false, append_assoc, zero, suc}
use Rattle.std.specs.Prelude.{◌≢◌, ◌==◌, nat_lt, if◌then◌else◌, decimal, All}
use Rattle.std.specs.List.{before_first, after_first, position_or_len}
use Rattle.std.proofs.lemmas.Bool.{eqb-true, ltb-true, lt-ltb, le-ltb}
use Rattle.std.proofs.lemmas.Bool.Decides.{eqb_tells, leb_tells}
use Rattle.std.proofs.lemmas.Fmt.{decimal_by_steps, length-decimal-le}
use Rattle.std.proofs.lemmas.List.{length-append}
use Rattle.std.proofs.Math.Seq.{take-append_seam}
use Rattle.zerotrie_lines.specs.Numbers.{AreDigits, number_behind, IsNumber}
use Rattle.zerotrie_lines.specs.Tables.{Pair, Pairs}
use Rattle.zerotrie_lines.specs.Escapes.{IsHexDigit, SpellsHex, SpellsEscape, SpellsFirst, Spells, hex_digit, are_three, len_of_four, shown_len, escape_of, escaped_behind, has_mark, escaped}
use Rattle.csv.specs.Reading.{is_bom, strip_bom}
use Rattle.csv.specs.declared.parser.State.TheVariants as st
use Rattle.zerotrie_lines.specs.Records.{AreColumns, AreColumnsOf, ArePairRecords, Fields, IsColumn, IsPairRecord, config_of, field, tab_rows}
use Rattle.zerotrie_lines.specs.declared.fault.BadLine.{BadLine}
use Rattle.zerotrie_lines.specs.declared.fault.BadLine.TheVariants as bad
use Rattle.zerotrie_lines.specs.declared.fault.ReadError.TheVariants.{Line}
use Rattle.zerotrie_lines.proofs.RecordLemmas.{behind_more, one_rows, rows_on}
use Rattle.zerotrie_lines.specs.Lines.{is_tab, behind, onto_line, lines_of, ended, ended_lines, text_lines, IsKeyText, IsPairLine, IsPairOf, tsv_line, tsv_lines}
use Rattle.zerotrie_lines.specs.Laws.{tsv_form}
use Rattle.zerotrie_lines.specs.Reads.{IsPairIn, Reads, ReadsAs, ReadsLines, ReadsRows, ReadsTabbed, ExplainsAs, ExplainsTabbed, HasNoColumns, IsBadRow, IsNoColumn, first_number, tabbed, IsLineFault, IsRecordFault, IsBadLine}
use Rattle.zerotrie_lines.specs.declared.reading.Format.TheVariants.{Lines, Tsv, TsvRaw, Csv}
use Rattle.zerotrie_lines.specs.declared.reading.Format.{Format}
use Rattle.zerotrie_lines.specs.declared.columns.Columns.{Columns}
use Rattle.zerotrie_lines.specs.declared.reading.Header.{Header}
use Rattle.zerotrie_lines.specs.declared.reading.Header.TheVariants.{Absent, Present, Named}
use Rattle.zerotrie_lines.specs.declared.reading.LineEnd.{LineEnd}
use Rattle.zerotrie_lines.specs.declared.reading.TextForm.{TextForm}
use Rattle.zerotrie_lines.proofs.BytesLemmas.{High, high_append, digits_high, Lacks, lacks_low, lacks_append, place_behind, drop_behind}
use Rattle.zerotrie_lines.proofs.EndLemmas.{ended_on, ended_high, no_mark}
use Rattle.zerotrie_lines.proofs.EscapeLemmas.{one_rest}
use Rattle.zerotrie_lines.proofs.WrittenLemmas.{Wide, by_test, shown_by, no_bom}

hexes : (n : ℕ) → n < 16 → IsHexDigit (hex_digit n) n
hexes n most = by_test (λ d. IsHexDigit d n) (nat_lt n 10) (48 + n) (87 + n) (λ low. inl (ltb-true n 10 low, refl)) (λ high. inr (ten high, most, inl refl))
  where
    ten : nat_lt n 10 ≡ false → 10 ≤ n
    ten high = elim (leb_tells (suc n) 10) [ inl t ↦ absurd (cc (rw t.0 at high)) | inr f ↦ omega (arith, f.1) ]

itself : (b : ℕ) (rest : List ℕ) → b ≢ 92 → SpellsFirst (b ∷ rest) b rest
itself b [] other = (other, refl, refl)
itself b (c ∷ rest) other = inl (other, refl, refl)

-- an escape that is written is one of its byte
spells_of : (b : ℕ) (rest : List ℕ) → b < 256 → SpellsFirst (escape_of b ++ rest) b rest
spells_of b rest few =
    let Fact : List ℕ → Type 0 = λ t. SpellsFirst (t ++ rest) b rest in
    by_test Fact (b == 9) _ _ (λ e. inr (refl, inl (refl, eqb-true b 9 e, refl)))
    (λ _. by_test Fact (b == 10) _ _ (λ e. inr (refl, inr (inl (refl, eqb-true b 10 e, refl))))
    (λ _. by_test Fact (b == 13) _ _ (λ e. inr (refl, inr (inr (inl (refl, eqb-true b 13 e, refl)))))
    (λ _. by_test Fact (b == 92) _ _ (λ e. inr (refl, inr (inr (inr (inl (refl, eqb-true b 92 e, refl))))))
    (λ _. inr (refl, inr (inr (inr (inr (refl, (b / 16, b % 16, hexes (b / 16) (omega arith), hexes (b % 16) (omega arith), omega arith, refl))))))))))

behind_back : (n : ℕ) (key : List ℕ) → Wide n key → Spells (escaped_behind n key) key
unfolding Wide
behind_back zero [] w = refl
behind_back (suc n) [] w = absurd w
behind_back zero (b ∷ key) w = elim (shown_by b key) [
  | inl none ↦ rw none.0 (escaped_behind 0 key, spells_of b (escaped_behind 0 key) none.1, behind_back 0 key tt)
  | inr s ↦ rw s.some (escaped_behind (shown_len (b ∷ key) - 1) key, itself b (escaped_behind (shown_len (b ∷ key) - 1) key) s.other, behind_back (shown_len (b ∷ key) - 1) key s.wide)
]
behind_back (suc n) (b ∷ key) w = (escaped_behind n key, itself b (escaped_behind n key) (λ e. omega (arith, e, w.0)), behind_back n key w.1)

-- a key that is written spells that key
pub spells_back : (key : List ℕ) → Spells (escaped key) key
unfolding escaped Wide
spells_back key = behind_back 0 key tt

-- the byte that a text spells first
digit_of : ℕ → ℕ
digit_of d = if nat_lt d 58 then d - 48 else (if nat_lt d 97 then d - 55 else d - 87)

digit_is : (d n : ℕ) → IsHexDigit d n → n ≡ digit_of d
unfolding digit_of
digit_is d n h = elim h [
  | inl t ↦ rw (lt-ltb d 58 (omega (arith, t.0, t.1))) (omega (arith, t.1))
  | inr t ↦ elim t.2 [
    | inl l ↦ rw (le-ltb d 58 (omega (arith, t.0, l)), le-ltb d 97 (omega (arith, t.0, l))) (omega (arith, l))
    | inr u ↦ rw (le-ltb d 58 (omega (arith, t.0, u)), lt-ltb d 97 (omega (arith, t.1, u))) (omega (arith, u))
  ]
]

hex_of : List ℕ → ℕ
hex_of [] = 0
hex_of (high ∷ []) = 0
hex_of (high ∷ low ∷ more) = 16 * digit_of high + digit_of low

hex_is : (more rest : List ℕ) (b : ℕ) → SpellsHex more b rest → b ≡ hex_of more
unfolding hex_of
hex_is [] rest b h = absurd h
hex_is (high ∷ []) rest b h = absurd h
hex_is (high ∷ low ∷ more) rest b h = let first = digit_is high h.0 h.2 in let second = digit_is low h.1 h.3 in omega (arith, first, second, h.4)

meant : ℕ → List ℕ → ℕ
meant letter more = if letter == 116 then 9 else (if letter == 110 then 10 else (if letter == 114 then 13 else (if letter == 92 then 92 else hex_of more)))

escape_is : (letter b : ℕ) (more rest : List ℕ) → SpellsEscape letter more b rest → b ≡ meant letter more
unfolding meant
escape_is letter b more rest h = elim h [
  | inl t ↦ rw t.0 t.1
  | inr h ↦ elim h [
    | inl t ↦ rw t.0 t.1
    | inr h ↦ elim h [ inl t ↦ rw t.0 t.1 | inr h ↦ elim h [ inl t ↦ rw t.0 t.1 | inr t ↦ rw t.0 (hex_is more rest b t.1) ] ]
  ]
]

byte_of : List ℕ → ℕ
byte_of [] = 0
byte_of (c ∷ []) = c
byte_of (c ∷ letter ∷ more) = if c == 92 then meant letter more else c

byte_is : (text rest : List ℕ) (b : ℕ) → SpellsFirst text b rest → b ≡ byte_of text
unfolding byte_of
byte_is [] rest b h = absurd h
byte_is (c ∷ []) rest b h = h.1
byte_is (c ∷ letter ∷ more) rest b h = elim h [
  | inl t ↦ elim (eqb_tells c 92) [ inl slash ↦ absurd (t.0 slash.1) | inr other ↦ rw other.0 t.1 ]
  | inr t ↦ rw t.0 (escape_is letter b more rest t.1)
]

no_first : (text rest : List ℕ) (b : ℕ) → text ≡ [] → SpellsFirst text b rest → ⊥
no_first text rest b none h = subst (λ t. SpellsFirst t b rest) none h

-- a text spells one key at most
pub one_key : (text key other : List ℕ) → Spells text key → Spells text other → other ≡ key
one_key text [] [] h k = refl
one_key text [] (d ∷ other) h k = absurd (no_first text k.0 d h k.1)
one_key text (b ∷ key) [] h k = absurd (no_first text h.0 b k h.1)
one_key text (b ∷ key) (d ∷ other) h k =
    let same : d ≡ b = byte_is text k.0 d k.1 ∙ sym (byte_is text h.0 b h.1) in
    let rest : k.0 ≡ h.0 = one_rest text h.0 k.0 b d h.1 k.1 in
    rw (same, one_key h.0 key other h.2 (subst (λ r. Spells r other) rest k.2)) refl

high_hex : (n : ℕ) → n < 16 → 32 ≤ hex_digit n
high_hex n most = by_test (λ d. 32 ≤ d) (nat_lt n 10) (48 + n) (87 + n) (λ _. omega arith) (λ _. omega arith)

high_of : (b : ℕ) → b < 256 → High (escape_of b)
unfolding High
high_of b few =
    by_test High (b == 9) _ _ (λ _. (omega arith, (omega arith, tt)))
    (λ _. by_test High (b == 10) _ _ (λ _. (omega arith, (omega arith, tt)))
    (λ _. by_test High (b == 13) _ _ (λ _. (omega arith, (omega arith, tt)))
    (λ _. by_test High (b == 92) _ _ (λ _. (omega arith, (omega arith, tt)))
    (λ _. (omega arith, (omega arith, (high_hex (b / 16) (omega arith), (high_hex (b % 16) (omega arith), tt))))))))

behind_high : (n : ℕ) (key : List ℕ) → Wide n key → High (escaped_behind n key)
unfolding High Wide
behind_high zero [] w = tt
behind_high (suc n) [] w = tt
behind_high zero (b ∷ key) w = elim (shown_by b key) [
  | inl none ↦ rw none.0 (high_append (escape_of b) (escaped_behind 0 key) (high_of b none.1) (behind_high 0 key tt))
  | inr s ↦ rw s.some (s.high, behind_high (shown_len (b ∷ key) - 1) key s.wide)
]
behind_high (suc n) (b ∷ key) w = (omega (arith, w.0), behind_high n key w.1)

escaped_high : (key : List ℕ) → High (escaped key)
unfolding escaped Wide
escaped_high key = behind_high 0 key tt

low_start : (a : ℕ) (rest : List ℕ) → (a == 239) ≡ false → has_mark (a ∷ rest) ≡ false
low_start a [] other = refl
low_start a (b ∷ []) other = refl
low_start a (b ∷ c ∷ rest) other = rw other refl

escape_start : (b : ℕ) (rest : List ℕ) → has_mark (escape_of b ++ rest) ≡ false
escape_start b rest =
    let Fact : List ℕ → Type 0 = λ t. has_mark (t ++ rest) ≡ false in
    by_test Fact (b == 9) _ _ (λ _. low_start 92 (116 ∷ rest) refl)
    (λ _. by_test Fact (b == 10) _ _ (λ _. low_start 92 (110 ∷ rest) refl)
    (λ _. by_test Fact (b == 13) _ _ (λ _. low_start 92 (114 ∷ rest) refl)
    (λ _. by_test Fact (b == 92) _ _ (λ _. low_start 92 (92 ∷ rest) refl) (λ _. low_start 92 (120 ∷ hex_digit (b / 16) ∷ hex_digit (b % 16) ∷ rest) refl))))

no_four : (c d : ℕ) (rest : List ℕ) → len_of_four 239 c d rest ≡ 0
no_four c d [] = refl
no_four c d (e ∷ rest) = refl

mark_by : (c d n : ℕ) (rest more : List ℕ) (t : Bool) → n ≡ 0 → (t ≡ true → is_bom 239 c d ≡ false) → ((if t then 3 else n) == 0) ≡ false
    → has_mark (239 ∷ (escaped_behind ((if t then 3 else n) - 1) (c ∷ d ∷ rest) ++ 9 ∷ more)) ≡ false
mark_by c d n rest more true none apart some = apart refl
mark_by c d n rest more false none apart some = absurd (cc (rw none at some))

-- a character that is itself is no mark
mark_apart : (key more : List ℕ) → (shown_len (239 ∷ key) == 0) ≡ false → has_mark (239 ∷ (escaped_behind (shown_len (239 ∷ key) - 1) key ++ 9 ∷ more)) ≡ false
mark_apart [] more some = absurd (cc some)
mark_apart (c ∷ []) more some = absurd (cc some)
mark_apart (c ∷ d ∷ rest) more some = mark_by c d (len_of_four 239 c d rest) rest more (are_three 239 c d) (no_four c d rest) (no_bom c d) some

-- a key that is written begins with no mark
unmarked : (key more : List ℕ) → has_mark (escaped key ++ 9 ∷ more) ≡ false
unfolding escaped
unmarked [] more = low_start 9 more refl
unmarked (b ∷ key) more = elim (shown_by b key) [
  | inl none ↦ rw (none.0, append_assoc (escape_of b) (escaped_behind 0 key) (9 ∷ more)) (escape_start b (escaped_behind 0 key ++ 9 ∷ more))
  | inr s ↦ elim (eqb_tells b 239) [
    | inl is ↦ by_mark is.1 s.some
    | inr other ↦ rw s.some (low_start b (escaped_behind (shown_len (b ∷ key) - 1) key ++ 9 ∷ more) other.0)
  ]
]
  where
    by_mark : b ≡ 239 → (shown_len (b ∷ key) == 0) ≡ false → has_mark (escaped_behind 0 (b ∷ key) ++ 9 ∷ more) ≡ false
    by_mark is some = rw some (subst (λ a. (shown_len (a ∷ key) == 0) ≡ false → has_mark (a ∷ (escaped_behind (shown_len (a ∷ key) - 1) key ++ 9 ∷ more)) ≡ false) (sym is) (mark_apart key more) some)

-- a line and its line feed in front of an input
line_first : (line input : List ℕ) → Lacks 10 line → lines_of (line ++ 10 ∷ input) ≡ line ∷ lines_of input
unfolding Lacks
line_first [] input lacks = refl
line_first (b ∷ line) input lacks = rw lacks.0 (ap (onto_line b) (line_first line input lacks.1))

digits_append : (digits : List ℕ) (d : ℕ) → AreDigits digits → d < 10 → AreDigits (digits ++ (48 + d) ∷ [])
digits_append [] d h few = (omega arith, omega arith, tt)
digits_append (c ∷ digits) d h few = (h.0, h.1, digits_append digits d h.2 few)

number_append : (a : ℕ) (digits : List ℕ) (d : ℕ) → number_behind a (digits ++ (48 + d) ∷ []) ≡ 10 * number_behind a digits + d
number_append a [] d = omega arith
number_append a (c ∷ digits) d = number_append (10 * a + (c - 48)) digits d

IsDecimal : ℕ → List ℕ → Type 0
IsDecimal n digits = (1 ≤ length digits) × AreDigits digits × (n ≡ number_behind 0 digits)

is_decimal : (n : ℕ) → n < 2 ^ 64 → IsDecimal n (decimal n)
unfolding IsDecimal
is_decimal n h = decimal_by_steps IsDecimal (λ n few. (omega arith, (omega arith, omega arith, tt), omega arith))
    (λ n digits _ d. (
      omega (arith, length-append digits ((48 + n % 10) ∷ [])),
      digits_append digits (n % 10) d.1 (omega arith),
      (let l = number_append 0 digits (n % 10) in let is = d.2 in omega (arith, l, is)),
    )) n h

-- a number that is written is that number
pub number_back : (n : ℕ) → n < 2 ^ 64 → IsNumber (decimal n) n
unfolding IsDecimal
number_back n h = let d = is_decimal n h in record {
  some = d.0;
  few = length-decimal-le 20 n (omega arith) (omega (arith, h)) h;
  all = d.1;
  is = d.2;
  below = h;
}

-- the line of a pair without its line feed
line_of : Pair → List ℕ
line_of e = escaped e.0 ++ 9 ∷ decimal e.1

line_is : (e : Pair) (more : List ℕ) → tsv_line e ++ more ≡ line_of e ++ 10 ∷ more
unfolding line_of
line_is e more =
    append_assoc (escaped e.0) (9 ∷ (decimal e.1 ++ (10 ∷ []))) more
    ∙ ap (λ t. escaped e.0 ++ 9 ∷ t) (append_assoc (decimal e.1) (10 ∷ []) more)
    ∙ sym (append_assoc (escaped e.0) (9 ∷ decimal e.1) (10 ∷ more))

no_feed : (e : Pair) → e.1 < 2 ^ 64 → Lacks 10 (line_of e)
unfolding line_of Lacks
no_feed e h =
    lacks_append 10 (escaped e.0) (9 ∷ decimal e.1) (lacks_low 10 (escaped e.0) (omega arith) (escaped_high e.0))
    (refl, lacks_low 10 (decimal e.1) (omega arith) (digits_high (decimal e.1) (number_back e.1 h).all))

pair_back : (e : Pair) → e.1 < 2 ^ 64 → IsPairLine false (line_of e) e
unfolding line_of
pair_back e h =
    let place : position_or_len is_tab (line_of e) ≡ length (escaped e.0) = place_behind 9 (escaped e.0) (decimal e.1) (lacks_low 9 (escaped e.0) (omega arith) (escaped_high e.0)) in
    let front : before_first is_tab (line_of e) ≡ escaped e.0 = ap (λ n. take n (line_of e)) place ∙ take-append_seam (escaped e.0) (9 ∷ decimal e.1) in
    let behind : after_first is_tab (line_of e) ≡ decimal e.1 = ap (λ n. drop (n + 1) (line_of e)) place ∙ drop_behind 9 (escaped e.0) (decimal e.1) in (
      omega (arith, place, length-append (escaped e.0) (9 ∷ decimal e.1)),
      subst (λ t. Spells t e.0) (sym front) (spells_back e.0),
      subst (λ t. IsNumber t e.1) (sym behind) (number_back e.1 h),
    )

ended_line : (end : LineEnd) (e : Pair) → e.1 < 2 ^ 64 → ended end (line_of e) ≡ line_of e
unfolding line_of
ended_line end e h =
    ended_on end (escaped e.0) 9 (decimal e.1) (λ is. absurd (omega (arith, is)))
    ∙ ap (λ t. escaped e.0 ++ 9 ∷ t) (ended_high end (decimal e.1) (digits_high (decimal e.1) (number_back e.1 h).all))

back_on : (end : LineEnd) (pairs : Pairs) (n : ℕ) → All (λ e. e.1 < 2 ^ 64) pairs → ReadsLines Tsv n (ended_lines end (tsv_lines pairs)) pairs
back_on end [] n below = tt
back_on end (e ∷ pairs) n below =
    let h : e.1 < 2 ^ 64 = below 0 e (omega arith) in
    let first : lines_of (tsv_lines (e ∷ pairs)) ≡ line_of e ∷ lines_of (tsv_lines pairs) = ap lines_of (line_is e (tsv_lines pairs)) ∙ line_first (line_of e) (tsv_lines pairs) (no_feed e h) in
    let lines : ended_lines end (tsv_lines (e ∷ pairs)) ≡ line_of e ∷ ended_lines end (tsv_lines pairs) = ap (map (ended end)) first ∙ ap (λ l. l ∷ ended_lines end (tsv_lines pairs)) (ended_line end e h) in
    subst (λ lines. ReadsLines Tsv n lines (e ∷ pairs)) (sym lines) (pair_back e h, back_on end pairs (n + 1) (λ k d l. below (suc k) d (omega (arith, l))))

lines_unmarked : (pairs : Pairs) → has_mark (tsv_lines pairs) ≡ false
lines_unmarked [] = refl
lines_unmarked (e ∷ pairs) =
    rw (append_assoc (escaped e.0) (9 ∷ (decimal e.1 ++ (10 ∷ []))) (tsv_lines pairs)) (unmarked e.0 (decimal e.1 ++ (10 ∷ []) ++ tsv_lines pairs))

-- the lines of pairs are these pairs
pub lines_back : (end : LineEnd) (pairs : Pairs) → All (λ e. e.1 < 2 ^ 64) pairs → Reads (tsv_form end) (tsv_lines pairs) pairs
lines_back end pairs below = subst (λ t. ReadsLines Tsv 1 (ended_lines end t) pairs) (sym (no_mark (tsv_lines pairs) (lines_unmarked pairs))) (back_on end pairs 1 below)

one_key_text : (raw : Bool) (text key other : List ℕ) → IsKeyText raw text key → IsKeyText raw text other → other ≡ key
one_key_text true text key other h k = k ∙ sym h
one_key_text false text key other h k = one_key text key other h k

one_pair_of : (raw : Bool) (text digits : List ℕ) (e other : Pair) → IsPairOf raw text digits e → IsPairOf raw text digits other → other ≡ e
one_pair_of raw text digits e other h k =
    let keys : other.0 ≡ e.0 = one_key_text raw text e.0 other.0 h.0 k.0 in
    let values : other.1 ≡ e.1 = k.1.is ∙ sym h.1.is in
    ap (λ key. (key, other.1)) keys ∙ ap (λ v. (e.0, v)) values

one_pair : (raw : Bool) (line : List ℕ) (e other : Pair) → IsPairLine raw line e → IsPairLine raw line other → other ≡ e
one_pair raw line e other h k = one_pair_of raw (before_first is_tab line) (after_first is_tab line) e other (h.1, h.2) (k.1, k.2)

one_pair_in : (format : Format) (n : ℕ) (line : List ℕ) (e other : Pair) → IsPairIn format n line e → IsPairIn format n line other → other ≡ e
one_pair_in Lines n line e other h k = k ∙ sym h
one_pair_in Tsv n line e other h k = one_pair false line e other h k
one_pair_in TsvRaw n line e other h k = one_pair true line e other h k
one_pair_in Csv n line e other h k = absurd h

-- lines are one list of pairs at most
pub one_list : (format : Format) (lines : List (List ℕ)) (n : ℕ) (pairs others : Pairs) → ReadsLines format n lines pairs → ReadsLines format n lines others → others ≡ pairs
one_list format [] n [] [] h k = refl
one_list format [] n [] (o ∷ others) h k = absurd k
one_list format [] n (e ∷ pairs) others h k = absurd h
one_list format (line ∷ lines) n [] others h k = absurd h
one_list format (line ∷ lines) n (e ∷ pairs) [] h k = absurd k
one_list format (line ∷ lines) n (e ∷ pairs) (o ∷ others) h k = rw (one_pair_in format n line e o h.0 k.0, one_list format lines (n + 1) pairs others h.1 k.1) refl

one_records : (raw : Bool) (c : Columns) (rows : List Fields) (pairs others : Pairs) → ArePairRecords raw c rows pairs → ArePairRecords raw c rows others → others ≡ pairs
one_records raw c [] [] [] h k = refl
one_records raw c [] [] (o ∷ others) h k = absurd k
one_records raw c [] (e ∷ pairs) others h k = absurd h
one_records raw c (row ∷ rows) [] others h k = absurd h
one_records raw c (row ∷ rows) (e ∷ pairs) [] h k = absurd k
one_records raw c (row ∷ rows) (e ∷ pairs) (o ∷ others) h k =
    rw (one_pair_of raw (field row c.key) (field row c.value) e o (h.0.1, h.0.2) (k.0.1, k.0.2), one_records raw c rows pairs others h.1 k.1) refl

-- records have the columns of one header
columns : (key value count : ℕ) → Columns
columns key value count = record { key = key; value = value; count = count }

same_columns : (a b c x y z : ℕ) → x ≡ a → y ≡ b → z ≡ c → columns x y z ≡ columns a b c
same_columns a b c x y z p q r = rw (p, q, r) refl

one_columns : (header : Header) (rows : List Fields) (c d : Columns) → AreColumnsOf header rows c → AreColumnsOf header rows d → d ≡ c
unfolding columns
one_columns header [] c d h k = k ∙ sym h
one_columns Absent (names ∷ rows) c d h k = k ∙ sym h
one_columns Present (names ∷ rows) c d h k = k ∙ sym h
one_columns (Named of) (names ∷ rows) c d h k =
    same_columns c.key c.value c.count d.key d.value d.count (h.0.1 d.key k.0.0) (h.1.1 d.value k.1.0) (k.2 ∙ sym h.2)

one_read : (raw : Bool) (header : Header) (rows : List Fields) (pairs others : Pairs) → ReadsRows raw header rows pairs → ReadsRows raw header rows others → others ≡ pairs
one_read raw header rows pairs others h k =
    let same = one_columns header rows h.0 k.0 h.1 k.1 in
    one_records raw h.0 (behind header rows) pairs others h.2 (subst (λ c. ArePairRecords raw c (behind header rows) others) same k.2)

one_tabbed : (raw : Bool) (header : Header) (end : LineEnd) (input : List ℕ) (pairs others : Pairs) → ReadsTabbed raw header end input pairs → ReadsTabbed raw header end input others
    → others ≡ pairs
one_tabbed raw Absent end input pairs others h k = one_list (tabbed raw) (text_lines end Absent input) 1 pairs others h k
one_tabbed raw Present end input pairs others h k = one_list (tabbed raw) (text_lines end Present input) 2 pairs others h k
one_tabbed raw (Named of) end input pairs others h k = one_read raw (Named of) (tab_rows end input) pairs others h k

-- an input is one list of pairs at most
pub one_input : (format : Format) (form : TextForm) (input : List ℕ) (pairs others : Pairs) → ReadsAs format form input pairs → ReadsAs format form input others → others ≡ pairs
one_input Lines form input pairs others h k = one_list Lines (text_lines form.end form.header input) (first_number form.header) pairs others h k
one_input Tsv form input pairs others h k = one_tabbed false form.header form.end input pairs others h k
one_input TsvRaw form input pairs others h k = one_tabbed true form.header form.end input pairs others h k
one_input Csv form input pairs others h k =
    let rows = one_rows (config_of form) st.StartRecord (strip_bom input) h.0 k.0 h.1 k.1 in
    one_read true form.header h.0 pairs others h.2 (subst (λ r. ReadsRows true form.header r others) rows k.2)

no_empty : (raw : Bool) (line : List ℕ) (e : Pair) → line ≡ [] → IsPairLine raw line e → ⊥
no_empty raw line e none h = let t = rw none at h.0 in omega (arith, t)

-- a line that is bad is no pair
no_line : (raw : Bool) (line : List ℕ) (fault : BadLine) (e : Pair) → IsLineFault raw line fault → IsPairLine raw line e → ⊥
no_line raw line bad.Empty e f h = no_empty raw line e f h
no_line raw line bad.NoTab e f h = f.1 h.0
no_line raw line bad.Escape e f h = f.1 e.0 h.1
no_line raw line (bad.Value v) e f h = f.1.0 e.1 h.2
no_line raw line (bad.Fields found wanted) e f h = f.1
no_line raw line (bad.NoColumn name) e f h = f.1
no_line raw line (bad.SameColumns name) e f h = f.1

no_lines : (raw : Bool) (lines : List (List ℕ)) (n m : ℕ) (fault : BadLine) (pairs : Pairs) → IsBadLine raw n lines m fault → ReadsLines (tabbed raw) n lines pairs → ⊥
no_lines raw [] n m fault pairs f h = f
no_lines raw (line ∷ lines) n m fault [] f h = h
no_lines raw (line ∷ lines) n m fault (e ∷ pairs) f h = elim f [
  | inl here ↦ no_line raw line fault e here.1 (pair_of raw n line e h.0)
  | inr later ↦ no_lines raw lines (n + 1) m fault pairs later.2 h.1
]
  where
    pair_of : (raw : Bool) (n : ℕ) (line : List ℕ) (e : Pair) → IsPairIn (tabbed raw) n line e → IsPairLine raw line e
    pair_of true n line e h = h
    pair_of false n line e h = h

no_record : (raw : Bool) (c : Columns) (row : Fields) (fault : BadLine) (e : Pair) → IsRecordFault raw c row fault → IsPairRecord raw c row e → ⊥
no_record raw c row bad.Empty e f h = f.1
no_record raw c row bad.NoTab e f h = f.1
no_record raw c row bad.Escape e f h = f.1 e.0 h.1
no_record raw c row (bad.Value v) e f h = f.1.0 e.1 h.2
no_record raw c row (bad.Fields found wanted) e f h = f.2 (f.0 ∙ h.0 ∙ sym f.1)
no_record raw c row (bad.NoColumn name) e f h = f.1
no_record raw c row (bad.SameColumns name) e f h = f.1

no_records : (raw : Bool) (c : Columns) (rows more : List Fields) (row : Fields) (fault : BadLine) (pairs : Pairs) → IsRecordFault raw c row fault → ArePairRecords raw c (rows ++ row ∷ more) pairs → ⊥
no_records raw c [] more row fault [] f h = h
no_records raw c [] more row fault (e ∷ pairs) f h = no_record raw c row fault e f h.0
no_records raw c (r ∷ rows) more row fault [] f h = h
no_records raw c (r ∷ rows) more row fault (e ∷ pairs) f h = no_records raw c rows more row fault pairs f h.1

-- a header that lacks a column has none
no_column : (names : Fields) (name : List ℕ) (fault : BadLine) (i : ℕ) → IsNoColumn names name fault → IsColumn names name i → ⊥
no_column names name bad.Empty i f h = f
no_column names name bad.NoTab i f h = f
no_column names name bad.Escape i f h = f
no_column names name (bad.Value v) i f h = f
no_column names name (bad.Fields found wanted) i f h = f
no_column names name (bad.NoColumn text) i f h = f.1 i h.0
no_column names name (bad.SameColumns text) i f h = f.3 (h.1 f.1 f.4 ∙ sym (h.1 f.2 f.5))

no_columns : (header : Header) (names : Fields) (fault : BadLine) (c : Columns) → HasNoColumns header names fault → AreColumns header names c → ⊥
no_columns Absent names fault c f h = f
no_columns Present names fault c f h = f
no_columns (Named of) names fault c f h = elim f [
  | inl key ↦ no_column names of.key.now fault c.key key h.0
  | inr value ↦ no_column names of.value.now fault c.value value h.1
]

first_columns : (header : Header) (rows more : List Fields) (row : Fields) (c : Columns) → AreColumnsOf header (rows ++ row ∷ more) c → AreColumnsOf header (rows ++ row ∷ []) c
first_columns header [] more row c h = h
first_columns header (first ∷ rows) more row c h = h

-- records with one that is bad are no pairs
bad_row : (raw : Bool) (header : Header) (rows more : List Fields) (row : Fields) (fault : BadLine) (pairs : Pairs) → IsBadRow raw header rows row fault → ReadsRows raw header (rows ++ row ∷ more) pairs → ⊥
bad_row raw header rows more row fault pairs f h = elim f [
  | inl head ↦ no_columns header row fault h.0 head.1 (subst (λ r. AreColumnsOf header (r ++ row ∷ more) h.0) head.0 h.1)
  | inr g ↦
      let same = one_columns header (rows ++ row ∷ []) g.1 h.0 g.2 (first_columns header rows more row h.0 h.1) in
      let all = subst (λ r. ArePairRecords raw h.0 r pairs) (behind_more header rows (row ∷ more) g.0) h.2 in
      no_records raw g.1 (behind header rows) more row fault pairs g.5 (subst (λ c. ArePairRecords raw c (behind header rows ++ row ∷ more) pairs) same all)
]

no_tabbed : (raw : Bool) (header : Header) (end : LineEnd) (input : List ℕ) (m : ℕ) (fault : BadLine) (pairs : Pairs) → ExplainsTabbed raw header end input (Line m fault) → ReadsTabbed raw header end input pairs → ⊥
no_tabbed raw Absent end input m fault pairs f h = no_lines raw (text_lines end Absent input) 1 m fault pairs f h
no_tabbed raw Present end input m fault pairs f h = no_lines raw (text_lines end Present input) 2 m fault pairs f h
no_tabbed raw (Named of) end input m fault pairs f h = bad_row raw (Named of) f.0 f.2 f.1 fault pairs f.4.1 (subst (λ rows. ReadsRows raw (Named of) rows pairs) f.3 h)

-- an input with a line or record that is bad is no pairs
pub bad_unread : (format : Format) (form : TextForm) (input : List ℕ) (m : ℕ) (fault : BadLine) (pairs : Pairs)
    → ExplainsAs format form input (Line m fault) → ReadsAs format form input pairs → ⊥
bad_unread Lines form input m fault pairs f h = absurd (cc f)
bad_unread Tsv form input m fault pairs f h = no_tabbed false form.header form.end input m fault pairs f h
bad_unread TsvRaw form input m fault pairs f h = no_tabbed true form.header form.end input m fault pairs f h
bad_unread Csv form input m fault pairs f h =
    let first = f.2 in
    let all = h.1 in
    let more = rows_on (config_of form) st.StartRecord (strip_bom input) (f.0 ++ f.1 ∷ []) h.0 first.0 first.1 first.2 all in
    bad_row true form.header f.0 more.0 f.1 fault pairs f.3.1 (subst (λ rows. ReadsRows true form.header rows pairs) (more.1 ∙ append_assoc f.0 (f.1 ∷ []) more.0) h.2)
