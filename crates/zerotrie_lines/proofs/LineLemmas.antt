-- The first line of an input, and places of bytes.
use Rattle.std.proofs.Common.{◌≡◌, ℕ, ◌+◌, ◌-◌, ◌<◌, zero, suc, List, [], ◌∷◌, ◌++◌, length, take, drop, get_or, refl, sym, ◌∙◌, ap, arith, Bool, true, false, eq-eqb, map, append_assoc, subst, Option, Some, None}
use Rattle.std.specs.Borrow.{Bor}
use Rattle.std.proofs.lemmas.Bool.{eqb-true, eqb-false}
use Rattle.std.specs.Prelude.{◌≢◌, ◌==◌, IfNone, IfSome}
use Rattle.std.specs.List.{before_first, after_first, position_or_len}
use Rattle.std.proofs.lemmas.List.{take_all, length-drop, get_or_default}
use Rattle.std.specs.List.{Contains}
use Rattle.memchr.specs.Find.{Nowhere, Passes, is_byte}
use Rattle.zerotrie_lines.specs.Lines.{HasTab, IsKeyText, IsPairLine, IsPairOf, is_feed, is_tab, onto_line, lines_of}
use Rattle.zerotrie_lines.specs.Numbers.{IsNumber}
use Rattle.zerotrie_lines.specs.Reads.{IsLineFault, IsPairFault}
use Rattle.zerotrie_lines.specs.Records.{between_tabs, tab_fields}
use Rattle.zerotrie_lines.specs.Tables.{Pair, Pairs}
use Rattle.zerotrie_lines.specs.declared.fault.BadLine.{BadLine}
use Rattle.zerotrie_lines.specs.declared.fault.BadLine.TheVariants as bad

not_true : (b : Bool) → (b ≡ true → ⊥) → b ≡ false
not_true true h = absurd (h refl)
not_true false h = refl

add_one : (n : ℕ) → 1 + n ≡ suc n
add_one n = omega arith

-- the first place that passes
pub place_is : (test : ℕ → Bool) (hay : List ℕ) (k : ℕ) → k < length hay → Nowhere (Passes test hay) 0 k → Passes test hay k → position_or_len test hay ≡ k
place_is test [] k l none here = absurd (omega arith)
place_is test (b ∷ hay) zero l none here = rw here refl
place_is test (b ∷ hay) (suc k) l none here =
    let first : test b ≡ false = not_true (test b) (none 0 (omega arith) (omega arith)) in
    rw first (ap (λ n. 1 + n) (place_is test hay k (omega arith) (λ j low high. none (suc j) (omega arith) (omega arith)) here) ∙ add_one k)

pub no_place : (test : ℕ → Bool) (hay : List ℕ) → Nowhere (Passes test hay) 0 (length hay) → position_or_len test hay ≡ length hay
no_place test [] none = refl
no_place test (b ∷ hay) none =
    let first : test b ≡ false = not_true (test b) (none 0 (omega arith) (omega arith)) in
    rw first (ap (λ n. 1 + n) (no_place test hay (λ j low high. none (suc j) (omega arith) (omega arith))) ∙ add_one (length hay))

-- no byte from 0 on passes the test that it is a
pub none_is : (a : ℕ) (hay : List ℕ) → Nowhere (Passes (is_byte a) hay) 0 (length hay) → (k : ℕ) → k < length hay → get_or hay k 0 ≢ a
none_is a hay none k l is = none k (omega arith) l (ap (λ b. b == a) is ∙ same a)
  where
    same : (a : ℕ) → (a == a) ≡ true
    same a = eq-eqb a a refl

take_next : (b n : ℕ) (xs : List ℕ) → take (1 + n) (b ∷ xs) ≡ b ∷ take n xs
take_next b n xs = rw (add_one n) refl

drop_next : (b n : ℕ) (xs : List ℕ) → drop (1 + n + 1) (b ∷ xs) ≡ drop (n + 1) xs
drop_next b n xs = let e : 1 + n + 1 ≡ suc (n + 1) = omega arith in rw e refl

by_first : (b : ℕ) (input : List ℕ) → onto_line b (lines_of input) ≡ (b ∷ before_first is_feed input) ∷ lines_of (after_first is_feed input)
    → (t : Bool) → is_feed b ≡ t → lines_of (b ∷ input) ≡ before_first is_feed (b ∷ input) ∷ lines_of (after_first is_feed (b ∷ input))
by_first b input onward true is = rw is refl
by_first b input onward false is = rw (is, take_next b (position_or_len is_feed input) input, drop_next b (position_or_len is_feed input) input) onward

-- what is not empty begins with a line
pub first_line : (input : List ℕ) → input ≢ [] → lines_of input ≡ before_first is_feed input ∷ lines_of (after_first is_feed input)
first_line [] some = absurd (some refl)
first_line (b ∷ []) some = by_first b [] refl (is_feed b) refl
first_line (b ∷ c ∷ more) some = by_first b (c ∷ more) (ap (onto_line b) (first_line (c ∷ more) (λ e. absurd (cc)))) (is_feed b) refl

-- behind the first line are the others
pub lines_behind : (input : List ℕ) → lines_of (after_first is_feed input) ≡ drop 1 (lines_of input)
lines_behind [] = refl
lines_behind (b ∷ input) = sym (ap (drop 1) (first_line (b ∷ input) (λ e. absurd (cc))))

pub first_lines : (rest line after : List ℕ) → rest ≢ [] → line ≡ before_first is_feed rest → after ≡ after_first is_feed rest → lines_of rest ≡ line ∷ lines_of after
first_lines rest line after some is are = rw (is, are) (first_line rest some)

pub is_nil : (xs : List ℕ) → true ≡ (length xs == 0) → xs ≡ []
is_nil [] h = refl
is_nil (x ∷ xs) h = absurd (let n : length (x ∷ xs) ≡ 0 = eqb-true (length (x ∷ xs)) 0 (sym h) in omega arith)

pub not_nil : (xs : List ℕ) → false ≡ (length xs == 0) → xs ≢ []
not_nil xs h e = eqb-false (length xs) 0 (sym h) (ap length e)

-- what is before the first place that passes, and what is after it
pub front_is : (test : ℕ → Bool) (hay : List ℕ) (k : ℕ) → k < length hay → Nowhere (Passes test hay) 0 k → Passes test hay k → take k hay ≡ before_first test hay
front_is test hay k l none here = ap (λ n. take n hay) (sym (place_is test hay k l none here))

pub behind_is : (test : ℕ → Bool) (hay : List ℕ) (k : ℕ) → k < length hay → Nowhere (Passes test hay) 0 k → Passes test hay k
    → take (length hay - (k + 1)) (drop (k + 1) hay) ≡ after_first test hay
behind_is test hay k l none here =
    take_all (length hay - (k + 1)) (drop (k + 1) hay) (omega (arith, length-drop (k + 1) hay))
    ∙ ap (λ n. drop (n + 1) hay) (sym (place_is test hay k l none here))

texts_push : (lines : List (Bor (List ℕ))) (line : Bor (List ℕ)) → map {B = List ℕ} (λ l. l.now) (lines ++ line ∷ []) ≡ map {B = List ℕ} (λ l. l.now) lines ++ line.now ∷ []
texts_push [] line = refl
texts_push (l ∷ lines) line = ap (λ t. l.now ∷ t) (texts_push lines line)

-- what is behind a place
pub all_behind : (hay : List ℕ) (k : ℕ) → take (length hay - (k + 1)) (drop (k + 1) hay) ≡ drop (k + 1) hay
all_behind hay k = take_all (length hay - (k + 1)) (drop (k + 1) hay) (omega (arith, length-drop (k + 1) hay))

-- nothing is said of what is there
pub none_so : {X : Type 0} {P : Type 0} (r : Option X) → P → IfNone r P
none_so None h = h
none_so (Some x) h = tt

-- one line more
pub read_on : (all rows after : List (List ℕ)) (done : List (Bor (List ℕ))) (line : Bor (List ℕ)) → map {B = List ℕ} (λ l. l.now) done ++ rows ≡ all → rows ≡ line.now ∷ after
    → map {B = List ℕ} (λ l. l.now) (done ++ line ∷ []) ++ after ≡ all
read_on all rows after done line old is =
    ap (λ t. t ++ after) (texts_push done line) ∙ append_assoc (map {B = List ℕ} (λ l. l.now) done) (line.now ∷ []) after
    ∙ ap (λ t. map {B = List ℕ} (λ l. l.now) done ++ t) (sym is) ∙ old

pub after_shorter : (input : List ℕ) → input ≢ [] → length (after_first is_feed input) < length input
after_shorter [] some = absurd (some refl)
after_shorter (b ∷ input) some = omega (arith, length-drop (position_or_len is_feed (b ∷ input) + 1) (b ∷ input))

-- a text none of whose bytes is a backslash
pub lacks_slash : (key : List ℕ) → ((k : ℕ) → k < length key → get_or key k 0 ≢ 92) → Contains key 92 → ⊥
lacks_slash key none h = none h.0 h.1 (get_or_default key h.0 0 92 h.1 ∙ h.2)

-- the first of the texts that tabs are between
pub first_tab : (rest : List ℕ) (k : ℕ) → k < length rest → Nowhere (Passes is_tab rest) 0 k → Passes is_tab rest k → between_tabs rest ≡ take k rest ∷ between_tabs (drop (k + 1) rest)
first_tab [] k l none here = absurd (omega (arith, l))
first_tab (b ∷ rest) zero l none here = rw here refl
first_tab (b ∷ rest) (suc k) l none here =
    let first : is_tab b ≡ false = not_true (is_tab b) (none 0 (omega arith) (omega arith)) in
    let e : suc k + 1 ≡ suc (k + 1) = omega arith in
    rw (first, e) (ap (onto_line b) (first_tab rest k (omega arith) (λ j low high. none (suc j) (omega arith) (omega arith)) here))

-- and the last
pub no_tab : (rest : List ℕ) → Nowhere (Passes is_tab rest) 0 (length rest) → between_tabs rest ≡ rest ∷ []
no_tab [] none = refl
no_tab (b ∷ rest) none =
    let first : is_tab b ≡ false = not_true (is_tab b) (none 0 (omega arith) (omega arith)) in
    rw first (ap (onto_line b) (no_tab rest (λ j low high. none (suc j) (omega arith) (omega arith))))

pub all_tabs : (line : List ℕ) → line ≢ [] → tab_fields line ≡ between_tabs line
all_tabs [] some = absurd (some refl)
all_tabs (b ∷ line) some = refl

-- what is wrong with a pair is wrong with its line
pub line_fault : (raw : Bool) (line text digits : List ℕ) (fault : BadLine) → HasTab line → text ≡ before_first is_tab line → digits ≡ after_first is_tab line
    → IsPairFault raw text digits fault → IsLineFault raw line fault
line_fault raw line text digits bad.Empty tab t d f = absurd f
line_fault raw line text digits bad.NoTab tab t d f = absurd f
line_fault raw line text digits bad.Escape tab t d f = (tab, subst (λ x. IsPairFault raw x digits bad.Escape) t f)
line_fault raw line text digits (bad.Value v) tab t d f = (tab, subst (λ x. IsPairFault raw text x (bad.Value v)) d f)
line_fault raw line text digits (bad.Fields found wanted) tab t d f = absurd f
line_fault raw line text digits (bad.NoColumn name) tab t d f = absurd f
line_fault raw line text digits (bad.SameColumns name) tab t d f = absurd f

pub line_faults : (raw : Bool) (line text digits : List ℕ) (fault : Option BadLine) → HasTab line → text ≡ before_first is_tab line → digits ≡ after_first is_tab line
    → IfSome fault (IsPairFault raw text digits) → IfSome fault (IsLineFault raw line)
line_faults raw line text digits None tab t d f = f
line_faults raw line text digits (Some fault) tab t d f = line_fault raw line text digits fault tab t d f

pub line_pair : (raw : Bool) (line text digits : List ℕ) (fault : Option BadLine) (old new : Pairs) → HasTab line → text ≡ before_first is_tab line → digits ≡ after_first is_tab line
    → IfNone fault ((e : Pair) × IsPairOf raw text digits e × (new ≡ old ++ e ∷ [])) → IfNone fault ((e : Pair) × IsPairLine raw line e × (new ≡ old ++ e ∷ []))
line_pair raw line text digits None old new tab t d h =
    (h.0, (tab, subst (λ x. IsKeyText raw x h.0.0) t h.1.0, subst (λ x. IsNumber x h.0.1) d h.1.1), h.2)
line_pair raw line text digits (Some fault) old new tab t d h = h
