-- A window of one item whose rest is short.
use Rattle.std.proofs.Common.{◌≡◌, ℕ, zero, suc, ◌+◌, ◌-◌, ◌<◌, ◌≤◌, inl, inr, List, [], ◌∷◌, length, refl, sym, ◌∙◌, ap, subst, arith, drop, Some, None, get_or, true, false, leb}
use Rattle.std.proofs.lemmas.Bool.{eq-eqb, lt-ltb, cases_lt}
use Rattle.std.proofs.lemmas.Bool.Decides.{leb_tells}
use Rattle.std.proofs.lemmas.List.{length-drop, drop-drop, drop_all}
use Rattle.std.proofs.lemmas.Option.{slice_get_past, slice_get-get_or}
use Rattle.std.proofs.Math.Seq.{drop-cons}
use Rattle.zerotrie_base.specs.Kind.{Kind, has_spans}
use Rattle.zerotrie_base.specs.Numbers.{value_form, span_form, spelled_as}
use Rattle.zerotrie_base.specs.Maps.{Pairs}
use Rattle.zerotrie_build.specs.declared.windows.Window.{Window}
use Rattle.zerotrie_build.specs.declared.windows.Step.TheVariants.{Value, Literal, Span}
use Rattle.zerotrie_build.specs.passes.Windows.{item_no, byte_of, high_front, short_size, step_of, IsSingleItem, IsRestLen}
use Rattle.zerotrie_build.specs.passes.Measured.{Passes}
use Rattle.zerotrie_build.specs.passes.Measured.Passes.{here, value, literal, span}
use Rattle.zerotrie_build.proofs.WriteLemmas.Puts.{spelled_len}
use Rattle.zerotrie_build.proofs.WindowLemmas.Steps.{high_most}
use Rattle.zerotrie_build.proofs.WindowLemmas.NodeRuns.{lone_run}

-- the length of a short span has one byte
short_span : (n : ℕ) → n < 16 → length (spelled_as span_form n) ≡ 1
short_span n few = spelled_len span_form 16 n n [] (inl refl) refl (omega arith) few (record { is_trail = tt; short = omega arith; room = omega arith; value = omega arith })

front_some : (b : ℕ) (rest : List ℕ) → leb 128 b ≡ true → high_front (b ∷ rest) (b ∷ rest) ≡ suc (high_front rest rest)
front_some b rest high = rw (eq-eqb b b refl, high) (let e : 1 + high_front rest rest ≡ suc (high_front rest rest) = omega arith in e)

-- bytes from 128 on after another add no more than themselves
short_high : (rest : List ℕ) → short_size true rest ≡ high_front rest rest + short_size false (drop (high_front rest rest) rest)
short_high [] = refl
short_high (b ∷ rest) = elim (leb_tells 128 b) [
  | inl high ↦
      let some = front_some b rest high.0 in
      let more : short_size true (b ∷ rest) ≡ 1 + short_size true rest = rw high.0 refl in
      let cut = ap (λ n. short_size false (drop n (b ∷ rest))) some in
      let r = short_high rest in
      omega arith
  | inr low ↦
      let none : high_front (b ∷ rest) (b ∷ rest) ≡ 0 = rw (eq-eqb b b refl, low.0) refl in
      let same : short_size true (b ∷ rest) ≡ short_size false (b ∷ rest) = rw low.0 refl in
      let cut = ap (λ n. short_size false (drop n (b ∷ rest))) none in
      omega arith
]

-- what stands in a window of one item at a depth
one_value : (kind : Kind) (all : Pairs) (w : Window) (d : ℕ) → w.to ≡ w.from + 1 → length (item_no all w.from).0 ≤ d → step_of kind all (record w { depth = d }) ≡ Value (item_no all w.from).1
one_value kind all w d one past =
    let none : byte_of all w.from d ≡ None = slice_get_past (item_no all w.from).0 d past in
    rw (lt-ltb w.from w.to (omega arith), none) refl

one_low : (kind : Kind) (all : Pairs) (w : Window) (d b : ℕ) → w.to ≡ w.from + 1 → byte_of all w.from d ≡ Some b → leb 128 b ≡ false → step_of kind all (record w { depth = d }) ≡ Literal b
one_low kind all w d b one is low =
    let last : w.to - 1 ≡ w.from = omega arith in
    rw (lt-ltb w.from w.to (omega arith), last, is, eq-eqb b b refl, low) refl

one_high : (kind : Kind) (all : Pairs) (w : Window) (d b : ℕ) → w.to ≡ w.from + 1 → byte_of all w.from d ≡ Some b → leb 128 b ≡ true → has_spans kind ≡ true
    → step_of kind all (record w { depth = d }) ≡ Span (high_front (drop d (item_no all w.from).0) (drop d (item_no all w.from).0))
one_high kind all w d b one is high spans =
    let last : w.to - 1 ≡ w.from = omega arith in
    rw (lt-ltb w.from w.to (omega arith), last, is, eq-eqb b b refl, high, spans) refl

size_low : (b : ℕ) (rest : List ℕ) → leb 128 b ≡ false → short_size false (b ∷ rest) ≡ 1 + short_size false rest
size_low b rest low = rw low refl

size_high : (b : ℕ) (rest : List ℕ) → leb 128 b ≡ true → short_size false (b ∷ rest) ≡ 1 + short_size true (b ∷ rest)
size_high b rest high = rw high (let e : 2 + short_size true rest ≡ 1 + (1 + short_size true rest) = omega arith in e)

-- From a depth on, the text of a window of one item has this many bytes.
abbrev ShortFrom : Kind → Pairs → Window → ℕ → Type 0
ShortFrom kind all w d = Passes kind all (record w { depth = d }) (record { from = w.to; to = w.to; depth = length (item_no all w.from).0 })
    (short_size false (drop d (item_no all w.from).0) + length (spelled_as value_form (item_no all w.from).1))

short_past : (kind : Kind) (all : Pairs) (w : Window) (d : ℕ) → w.to ≡ w.from + 1 → d ≡ length (item_no all w.from).0 → ShortFrom kind all w d
short_past kind all w d one at =
    let key = (item_no all w.from).0 in
    let k = length (spelled_as value_form (item_no all w.from).1) in
    let last : Window = record { from = w.to; to = w.to; depth = length key } in
    let next : w.from + 1 ≡ w.to = omega arith in
    let none : short_size false (drop d key) ≡ 0 = ap (short_size false) (drop_all d key (omega arith)) in
    let count : k + 0 ≡ short_size false (drop d key) + k = omega arith in
    let ends : Passes kind all (record { from = w.from + 1; to = w.to; depth = d }) last 0 =
    subst (λ f. Passes kind all (record { from = f; to = w.to; depth = d }) last 0) (sym next) (subst (λ x. Passes kind all (record { from = w.to; to = w.to; depth = x }) last 0) (sym at) here) in
    subst (Passes kind all (record w { depth = d }) last) count (value (item_no all w.from).1 (one_value kind all w d one (omega arith)) ends)

short_more : (kind : Kind) (all : Pairs) (w : Window) (d : ℕ) → w.to ≡ w.from + 1 → has_spans kind ≡ true → d < length (item_no all w.from).0 → length (item_no all w.from).0 - d < 16
    → ((e : ℕ) → d < e → e ≤ length (item_no all w.from).0 → ShortFrom kind all w e) → ShortFrom kind all w d
short_more kind all w d one spans less few behind =
    let key = (item_no all w.from).0 in
    let k = length (spelled_as value_form (item_no all w.from).1) in
    let last : Window = record { from = w.to; to = w.to; depth = length key } in
    let b = get_or key d 0 in
    let is : byte_of all w.from d ≡ Some b = slice_get-get_or key d 0 less in
    let cut : drop d key ≡ b ∷ drop (suc d) key = drop-cons key d 0 less in
    elim (leb_tells 128 b) [
      | inl high ↦
          let m = high_front (drop d key) (drop d key) in
          let some = ap (λ x. high_front x x) cut ∙ front_some b (drop (suc d) key) high.0 in
          let most = high_most (drop d key) (drop d key) in
          let long = length-drop d key in
          let after = short_high (drop d key) in
          let at : short_size false (drop m (drop d key)) ≡ short_size false (drop (d + m) key) = ap (short_size false) (drop-drop m d key) in
          let size = ap (short_size false) cut ∙ size_high b (drop (suc d) key) high.0 ∙ ap (λ x. 1 + short_size true x) (sym cut) in
          let lead = short_span m (omega arith) in
          let count : length (spelled_as span_form m) + m + (short_size false (drop (d + m) key) + k) ≡ short_size false (drop d key) + k = omega arith in
          subst (Passes kind all (record w { depth = d }) last) count (span m (one_high kind all w d b one is high.0 spans) (behind (d + m) (omega arith) (omega arith)))
      | inr low ↦
          let deeper : suc d ≡ d + 1 = omega arith in
          let size = ap (short_size false) (cut ∙ ap (λ i. b ∷ drop i key) deeper) ∙ size_low b (drop (d + 1) key) low.0 in
          let count : 1 + (short_size false (drop (d + 1) key) + k) ≡ short_size false (drop d key) + k = omega arith in
          subst (Passes kind all (record w { depth = d }) last) count (literal b (one_low kind all w d b one is low.0) (behind (d + 1) (omega arith) (omega arith)))
    ]

short_from : (n : ℕ) (kind : Kind) (all : Pairs) (w : Window) (d : ℕ) → w.to ≡ w.from + 1 → has_spans kind ≡ true → d ≤ length (item_no all w.from).0 → length (item_no all w.from).0 - d ≤ n → length (item_no all w.from).0 - d < 16
    → ShortFrom kind all w d
short_from zero kind all w d one spans deep fuel few = short_past kind all w d one (omega arith)
short_from (suc n) kind all w d one spans deep fuel few = elim (cases_lt d (length (item_no all w.from).0)) [
  | inl less ↦ short_more kind all w d one spans less few (λ e past within. short_from n kind all w e one spans within (omega arith) (omega arith))
  | inr past ↦ short_past kind all w d one (omega arith)
]

-- the one item is all of the window's text
pub one_run : (kind : Kind) (all : Pairs) (w : Window) (rest : List ℕ) (v n : ℕ) → IsSingleItem all w rest v → IsRestLen kind rest n
    → Passes kind all w (record { from = w.to; to = w.to; depth = w.depth + length rest }) (n + length (spelled_as value_form v))
one_run kind all w rest v n o (inl low) =
    let behind : Window = record { from = w.to; to = w.to; depth = w.depth + length rest } in
    subst (λ i. Passes kind all w behind (i + length (spelled_as value_form v))) (sym low.1)
    (lone_run kind all w rest v (record { one = o.one; deep = o.deep; rest_is = o.rest_is; value_is = o.value_is; low = low.0 }))
one_run kind all w rest v n o (inr short) =
    let key = (item_no all w.from).0 in
    let long = ap length o.rest_is ∙ length-drop w.depth key in
    let deep = o.deep in
    let few = short.1 in
    let end : length key ≡ w.depth + length rest = omega arith in
    let size : short_size false (drop w.depth key) ≡ n = ap (short_size false) (sym o.rest_is) ∙ sym short.2 in
    let run = short_from (length key) kind all w w.depth o.one short.0 deep (omega arith) (omega arith) in
    subst (λ x. Passes kind all w (record { from = w.to; to = w.to; depth = x }) (n + length (spelled_as value_form v))) end
    (subst (λ x. Passes kind all w (record { from = w.to; to = w.to; depth = length key }) (n + length (spelled_as value_form x))) (sym o.value_is)
    (subst (λ i. Passes kind all w (record { from = w.to; to = w.to; depth = length key }) (i + length (spelled_as value_form (item_no all w.from).1))) size run))
