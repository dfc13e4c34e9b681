-- Windows that begin with a literal or a span.
use Rattle.std.proofs.Common.{◌≡◌, ℕ, zero, suc, ◌+◌, ◌-◌, ◌<◌, ◌≤◌, inl, inr, List, [], ◌∷◌, length, refl, sym, ◌∙◌, ap, subst, arith, get_or, take, drop, Some, length-drop, true, cond, eqb, leb}
use Rattle.std.specs.Prelude.{◌&&◌}
use Rattle.std.proofs.lemmas.Bool.{cases_lt, lt-leb, le-leb, eq-eqb}
use Rattle.std.proofs.lemmas.Bool.Decides.{eqb_tells}
use Rattle.std.proofs.lemmas.List.{drop-drop, get_or-drop}
use Rattle.zerotrie_base.specs.Kind.{Kind, has_spans, edge_limit, simple_ascii, ignore_case, perfect_hash, extended_capacity}
use Rattle.zerotrie_base.specs.Maps.{Pairs, with_front, with_run}
use Rattle.zerotrie_base.specs.Texts.{AreHigh}
use Rattle.zerotrie_build.specs.Order.{Ordered, AreKeys}
use Rattle.zerotrie_build.specs.declared.windows.Window.{Window}
use Rattle.zerotrie_build.specs.declared.windows.Step.TheVariants.{Literal, Span}
use Rattle.zerotrie_build.specs.passes.Windows.{cut, window, item_no, byte_of, high_front, step_of}
use Rattle.zerotrie_build.proofs.Runs.{with_run-nil, with_run-front}
use Rattle.zerotrie_build.proofs.WindowLemmas.Windows.{tests, at_literal, High, at_span, key_cut, cut_shared, ordered_front, key_byte, low_without}

-- What a literal in front means: the byte is below 128 if a span could take it, and stands in front of all keys.
pub record IsLiteral (kind : Kind) (all : Pairs) (w : Window) (b : ℕ) : Type 0 where
  pub inside : w.from < w.to
  pub byte : byte_of all w.from w.depth ≡ Some b
  pub low : b < 128
  pub is : window all w ≡ with_front b (window all (record w { depth = w.depth + 1 }))

pub step_literal : (kind : Kind) (all : Pairs) (w : Window) (b : ℕ) → w.to ≤ length all → AreKeys kind all → Ordered kind (window all w) → step_of kind all w ≡ Literal b → IsLiteral kind all w b
step_literal kind all w b within keys up e =
    let t = tests kind all w (Literal b) (λ h. cc) e in
    let a = at_literal kind _ _ _ _ b t.is in
    let inside = t.inside in
    record {
      inside = t.inside;
      byte = a.0;
      low = low_without kind b (key_byte kind all w.from w.depth b keys (omega arith) a.0) a.2;
      is = cut_shared kind all w.from w.to w.depth b _ _ t.inside within up (key_cut (item_no all w.from).0 w.depth b a.0) (key_cut (item_no all (w.to - 1)).0 w.depth b a.1);
    }

-- What a literal in front says of the first and the last key.
pub record IsLiteralByte (all : Pairs) (w : Window) (b : ℕ) : Type 0 where
  pub inside : w.from < w.to
  pub low : b < 128
  pub first : byte_of all w.from w.depth ≡ Some b
  pub last : byte_of all (w.to - 1) w.depth ≡ Some b

pub literal_byte : (kind : Kind) (all : Pairs) (w : Window) (b : ℕ) → w.to ≤ length all → AreKeys kind all → step_of kind all w ≡ Literal b → IsLiteralByte all w b
literal_byte kind all w b within keys e =
    let t = tests kind all w (Literal b) (λ h. cc) e in
    let a = at_literal kind _ _ _ _ b t.is in
    let inside = t.inside in
    record {
      inside = t.inside;
      low = low_without kind b (key_byte kind all w.from w.depth b keys (omega arith) a.0) a.2;
      first = a.0;
      last = a.1;
    }

-- What is in common begins with this byte.
record Common (k l : List ℕ) (n : ℕ) : Type 0 where
  pub byte : ℕ
  pub first_rest : List ℕ
  pub last_rest : List ℕ
  pub first : k ≡ byte ∷ first_rest
  pub last_too : l ≡ byte ∷ last_rest
  pub high : 128 ≤ byte
  pub rest : high_front first_rest last_rest ≡ n

common : (k l : List ℕ) (n : ℕ) → high_front k l ≡ suc n → Common k l n
common [] l n h = absurd (omega arith)
common (a ∷ k) [] n h = absurd (omega arith)
common (a ∷ k) (b ∷ l) n h = elim (eqb_tells a b) [
  | inl same ↦ elim (cases_lt a 128) [
    | inl low ↦ absurd (let h' = rw (same.0, lt-leb 128 a low) at h in omega arith)
    | inr high ↦ (let h' = rw (same.0, le-leb 128 a high) at h in
        record { byte = a; first_rest = k; last_rest = l; first = refl; last_too = ap (λ x. x ∷ l) (sym same.1); high = high; rest = omega arith })
  ]
  | inr other ↦ absurd (let h' = rw other.0 at h in omega arith)
]

-- What the first and the last key have in common stands in front of all, and no more does.
pub record Front (kind : Kind) (all : Pairs) (from to d n : ℕ) : Type 0 where
  pub high : AreHigh (take n (drop d (item_no all from).0))
  pub long : length (take n (drop d (item_no all from).0)) ≡ n
  pub is : cut all from to d ≡ with_run (take n (drop d (item_no all from).0)) (cut all from to (d + n))
  pub ordered : Ordered kind (cut all from to (d + n))
  pub ends : high_front (drop (d + n) (item_no all from).0) (drop (d + n) (item_no all (to - 1)).0) ≡ 0

edge_most : (kind : Kind) (b : ℕ) → b < edge_limit kind → b < 256
edge_most simple_ascii b h = omega arith
edge_most ignore_case b h = omega arith
edge_most perfect_hash b h = h
edge_most extended_capacity b h = h

-- the first byte after the depth is one of the kind
pub rest_byte : (kind : Kind) (all : Pairs) (i d b : ℕ) (k : List ℕ) → AreKeys kind all → i < length all → drop d (item_no all i).0 ≡ b ∷ k → b < edge_limit kind
rest_byte kind all i d b k keys h is =
    let key = (item_no all i).0 in
    let long = length-drop d key in
    let n = ap length is in
    let z : d + 0 ≡ d = omega arith in
    let at : get_or key d 0 ≡ b = ap (λ j. get_or key j 0) (sym z) ∙ sym (get_or-drop d key 0 0) ∙ ap (λ xs. get_or xs 0 0) is in
    subst (λ x. x < edge_limit kind) at (keys i ([], 0) h d 0 (omega arith))

drop_next : (key : List ℕ) (d b : ℕ) (k : List ℕ) → drop d key ≡ b ∷ k → drop (d + 1) key ≡ k
drop_next key d b k is = sym (drop-drop 1 d key) ∙ ap (drop 1) is

front_run : (n : ℕ) (kind : Kind) (all : Pairs) (from to d : ℕ) → from < to → to ≤ length all → AreKeys kind all → Ordered kind (cut all from to d)
    → high_front (drop d (item_no all from).0) (drop d (item_no all (to - 1)).0) ≡ n → Front kind all from to d n
front_run zero kind all from to d inside within keys up h =
    let z : d ≡ d + 0 = omega arith in
    record {
      high = tt;
      long = refl;
      is = ap (cut all from to) z ∙ sym (with_run-nil (cut all from to (d + 0)));
      ordered = subst (λ x. Ordered kind (cut all from to x)) z up;
      ends = subst (λ x. high_front (drop x (item_no all from).0) (drop x (item_no all (to - 1)).0) ≡ 0) z h;
    }
front_run (suc n) kind all from to d inside within keys up h =
    let first = (item_no all from).0 in
    let last = (item_no all (to - 1)).0 in
    let c = common (drop d first) (drop d last) n h in
    let b = c.byte in
    let is = cut_shared kind all from to d b c.first_rest c.last_rest inside within up c.first c.last_too in
    let up' : Ordered kind (cut all from to (d + 1)) = ordered_front kind b (cut all from to (d + 1)) (subst (Ordered kind) is up) in
    let k = drop_next first d b c.first_rest c.first in
    let l = drop_next last d b c.last_rest c.last_too in
    let r = front_run n kind all from to (d + 1) inside within keys up' (ap (λ x. high_front x (drop (d + 1) last)) k ∙ ap (high_front c.first_rest) l ∙ c.rest) in
    let s : d + 1 + n ≡ d + suc n = omega arith in
    let run : take (suc n) (drop d first) ≡ b ∷ take n (drop (d + 1) first) = ap (take (suc n)) c.first ∙ ap (λ x. b ∷ take n x) (sym k) in
    let low = edge_most kind b (rest_byte kind all from d b c.first_rest keys (omega arith) c.first) in
    record {
      high = subst AreHigh (sym run) (c.high, low, r.high);
      long = ap length run ∙ ap suc r.long;
      is = is ∙ ap (with_front b) r.is ∙ sym (with_run-front b (take n (drop (d + 1) first)) (cut all from to (d + 1 + n)))
          ∙ ap (λ x. with_run x (cut all from to (d + 1 + n))) (sym run) ∙ ap (λ x. with_run (take (suc n) (drop d first)) (cut all from to x)) s;
      ordered = subst (λ x. Ordered kind (cut all from to x)) s r.ordered;
      ends = subst (λ x. high_front (drop x first) (drop x last) ≡ 0) s r.ends;
    }

-- What a span in front means: a run of bytes from 128 on stands in front of all keys.
pub record IsSpan (kind : Kind) (all : Pairs) (w : Window) (n : ℕ) : Type 0 where
  pub inside : w.from < w.to
  pub spans : has_spans kind ≡ true
  pub some : 0 < n
  pub front : Front kind all w.from w.to w.depth n

span_high : (kind : Kind) (all : Pairs) (w : Window) (n : ℕ) → step_of kind all w ≡ Span n
    → High kind (byte_of all w.from w.depth) (byte_of all (w.to - 1) w.depth) (high_front (drop w.depth (item_no all w.from).0) (drop w.depth (item_no all (w.to - 1)).0)) n
span_high kind all w n e = let t = tests kind all w (Span n) (λ h. cc) e in at_span kind _ _ _ _ n t.is

-- the keys have some bytes in common if a span stands
pub span_some : (kind : Kind) (all : Pairs) (w : Window) (n : ℕ) → step_of kind all w ≡ Span n → (0 < n) × (high_front (drop w.depth (item_no all w.from).0) (drop w.depth (item_no all (w.to - 1)).0) ≡ n)
span_some kind all w n e =
    let a = span_high kind all w n e in
    let first = (item_no all w.from).0 in
    let last = (item_no all (w.to - 1)).0 in
    let k = key_cut first w.depth a.byte a.first in
    let l = key_cut last w.depth a.byte a.last_too in
    let is : high_front (drop w.depth first) (drop w.depth last) ≡ cond (eqb a.byte a.byte && leb 128 a.byte) (1 + high_front (drop (suc w.depth) first) (drop (suc w.depth) last)) 0 =
    ap (λ x. high_front x (drop w.depth last)) k ∙ ap (high_front (a.byte ∷ drop (suc w.depth) first)) l in
    let one : cond (eqb a.byte a.byte && leb 128 a.byte) (1 + high_front (drop (suc w.depth) first) (drop (suc w.depth) last)) 0 ≡ 1 + high_front (drop (suc w.depth) first) (drop (suc w.depth) last) = rw (eq-eqb a.byte a.byte refl, a.high) refl in
    let n_is = a.is in
    (omega arith, a.is)

pub step_span : (kind : Kind) (all : Pairs) (w : Window) (n : ℕ) → w.to ≤ length all → AreKeys kind all → Ordered kind (window all w) → step_of kind all w ≡ Span n → IsSpan kind all w n
step_span kind all w n within keys up e =
    let t = tests kind all w (Span n) (λ h. cc) e in
    let a = span_high kind all w n e in
    let s = span_some kind all w n e in
    record {
      inside = t.inside;
      spans = a.spans;
      some = s.0;
      front = front_run n kind all w.from w.to w.depth t.inside within keys up s.1;
    }

-- after a span stands no span
pub span_once : (kind : Kind) (all : Pairs) (w : Window) (n m : ℕ) → IsSpan kind all w n → step_of kind all (record w { depth = w.depth + n }) ≡ Span m → ⊥
span_once kind all w n m is e =
    let s = span_some kind all (record w { depth = w.depth + n }) m e in
    let ends = is.front.ends in
    omega (arith, s.0, s.1)
