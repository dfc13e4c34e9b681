-- What the values, literals and spans in front of a window's first branch say of its text.
use Rattle.std.proofs.Common.{◌≡◌, ℕ, zero, suc, ◌+◌, ◌-◌, ◌^◌, ◌<◌, ◌≤◌, ◌⊎◌, inl, inr, List, [], ◌∷◌, ◌++◌, length, refl, sym, ◌∙◌, ap, subst, arith, get_or, take, drop, Option, Some, None, slice_get, true, false, cond, eqb, leb, Bool}
use Rattle.std.specs.Prelude.{◌&&◌, ◌||◌}
use Rattle.std.proofs.lemmas.Bool.{eq-eqb, lt-ltb, lt-leb, le-ltb}
use Rattle.std.proofs.lemmas.Bool.Decides.{eqb_tells}
use Rattle.std.proofs.lemmas.List.{length-drop, get_or-drop}
use Rattle.std.proofs.lemmas.Option.{slice_get-get_or, slice_get_past}
use Rattle.zerotrie_base.specs.Kind.{Kind, has_spans}
use Rattle.zerotrie_base.specs.Numbers.{value_form, span_form, spelled_as}
use Rattle.zerotrie_base.specs.Maps.{Pairs, with_run, begins_some, residual, behind_all, edges, run_of}
use Rattle.zerotrie_base.specs.Canonical.{size_of}
use Rattle.zerotrie_base.proofs.CallerLemmas.{residual-front, size_value, size_literal, size_span, run_of-literal, run_of-value, run_of-many, member, member-edges, edge_limit_to}
use Rattle.zerotrie_build.specs.Order.{Before, BeforeFirst, Ordered, AreKeys}
use Rattle.zerotrie_build.specs.declared.windows.Window.{Window}
use Rattle.zerotrie_build.specs.declared.windows.Step.{Step}
use Rattle.zerotrie_build.specs.declared.windows.Step.TheVariants.{End, Value, Literal, Span, Branch}
use Rattle.zerotrie_build.specs.passes.Windows.{cut, window, item_no, byte_of, high_front, step_at, step_of, HasLiteralAt, IsAsciiLeaf}
use Rattle.zerotrie_build.specs.passes.Measured.{Passes}
use Rattle.zerotrie_build.specs.passes.Measured.Passes.{here, value, literal, span}
use Rattle.zerotrie_build.specs.passes.Walking.{IsBehindFront}
use Rattle.zerotrie_build.proofs.Runs.{behind_all-run}
use Rattle.zerotrie_build.proofs.WindowLemmas.Spans.{literal_byte, step_literal, step_span, span_once}
use Rattle.zerotrie_build.proofs.WindowLemmas.Windows.{cut_first, tests, last_key, last_cut, key_cut, key_byte, step_end, step_value, none_empty, ordered_front, no_byte}

-- What a branch in front means: the first key goes on with a byte, and the last one does not go on with the same.
pub record IsParting (all : Pairs) (w : Window) : Type 0 where
  pub inside : w.from < w.to
  pub byte : ℕ
  pub first : byte_of all w.from w.depth ≡ Some byte
  pub other : byte_of all (w.to - 1) w.depth ≡ Some byte → ⊥

at_branch : (kind : Kind) (o last : Option ℕ) (x n : ℕ) → step_at kind o last x n ≡ Branch → (b : ℕ) × (o ≡ Some b) × (last ≡ Some b → ⊥)
at_branch kind None last x n h = absurd (cc)
at_branch kind (Some b) None x n h = (b, refl, λ e. cc)
at_branch kind (Some b) (Some c) x n h = elim (eqb_tells c b) [
  | inl same ↦ absurd (chosen (leb 128 b && has_spans kind) (rw same.0 at h))
  | inr other ↦ (b, refl, λ e. differ e (eq-eqb c b (out e)) other.0)
]
  where
    chosen : (is : Bool) → cond is (Span n) (Literal b) ≡ Branch → ⊥
    chosen true h = cc
    chosen false h = cc

    out : Some c ≡ Some b → c ≡ b
    out e = cc

    differ : Some c ≡ Some b → eqb c b ≡ true → eqb c b ≡ false → ⊥
    differ e t f = cc

pub step_branch : (kind : Kind) (all : Pairs) (w : Window) → step_of kind all w ≡ Branch → IsParting all w
step_branch kind all w e =
    let t = tests kind all w Branch (λ h. cc) e in
    let a = at_branch kind (byte_of all w.from w.depth) (byte_of all (w.to - 1) w.depth) (item_no all w.from).1 (high_front (drop w.depth (item_no all w.from).0) (drop w.depth (item_no all (w.to - 1)).0)) t.is in
    record { inside = t.inside; byte = a.0; first = a.1; other = a.2 }

-- the keys of a window ascend
pub follows_cut : (n : ℕ) (kind : Kind) (all : Pairs) (from to d : ℕ) → from + suc n < to → to ≤ length all → Ordered kind (cut all from to d)
    → Before kind (drop d (item_no all (from + n)).0) (drop d (item_no all (from + suc n)).0)
follows_cut zero kind all from to d h within up =
    let first = subst (Ordered kind) (cut_first all from to d (omega arith) within) up in
    let second : BeforeFirst kind (drop d (item_no all from).0) ((drop d (item_no all (from + 1)).0, (item_no all (from + 1)).1) ∷ cut all (from + 1 + 1) to d) =
    subst (BeforeFirst kind (drop d (item_no all from).0)) (cut_first all (from + 1) to d (omega arith) within) first.0 in
    let z : from ≡ from + 0 = omega arith in
    let s : from + 1 ≡ from + suc 0 = omega arith in
    subst (λ i. Before kind (drop d (item_no all i).0) (drop d (item_no all (from + suc 0)).0)) z
    (subst (λ i. Before kind (drop d (item_no all from).0) (drop d (item_no all i).0)) s second)
follows_cut (suc n) kind all from to d h within up =
    let first = subst (Ordered kind) (cut_first all from to d (omega arith) within) up in
    let more = follows_cut n kind all (from + 1) to d (omega arith) within first.1 in
    let a : from + 1 + n ≡ from + suc n = omega arith in
    let b : from + 1 + suc n ≡ from + suc (suc n) = omega arith in
    subst (λ i. Before kind (drop d (item_no all i).0) (drop d (item_no all (from + suc (suc n))).0)) a
    (subst (λ i. Before kind (drop d (item_no all (from + 1 + n)).0) (drop d (item_no all i).0)) b more)

-- a key after one that goes on goes on
goes_on : (kind : Kind) (b d : ℕ) (k key : List ℕ) (o : Option ℕ) → slice_get key d ≡ o → Before kind (b ∷ k) (drop d key) → (c : ℕ) × (slice_get key d ≡ Some c)
goes_on kind b d k key (Some c) is before = (c, is)
goes_on kind b d k key None is before = absurd (subst (Before kind (b ∷ k)) (no_byte key d is) before)

pub all_long : (n : ℕ) (kind : Kind) (all : Pairs) (from to d b : ℕ) → from + n < to → to ≤ length all → Ordered kind (cut all from to d) → byte_of all from d ≡ Some b → (c : ℕ) × (byte_of all (from + n) d ≡ Some c)
all_long zero kind all from to d b h within up first = let z : from ≡ from + 0 = omega arith in (b, subst (λ i. byte_of all i d ≡ Some b) z first)
all_long (suc n) kind all from to d b h within up first =
    let r = all_long n kind all from to d b (omega arith) within up first in
    let before = follows_cut n kind all from to d h within up in
    let key = (item_no all (from + n)).0 in
    goes_on kind r.0 d (drop (suc d) key) (item_no all (from + suc n)).0 (byte_of all (from + suc n) d) refl
    (subst (λ x. Before kind x (drop d (item_no all (from + suc n)).0)) (key_cut key d r.0 r.1) before)

begins_first : (b : ℕ) (k : List ℕ) (v : ℕ) (more : Pairs) → begins_some ((b ∷ k, v) ∷ more) b ≡ true
begins_first b k v more = rw (eq-eqb b b refl) refl

or_true : (x : Bool) → (x || true) ≡ true
or_true true = refl
or_true false = refl

begins_last : (b : ℕ) (k : List ℕ) (pairs : Pairs) → last_key pairs ≡ b ∷ k → begins_some pairs b ≡ true
begins_last b k [] e = absurd (cc)
begins_last b k ((l, v) ∷ []) e = ap (λ x. begins_some ((x, v) ∷ []) b) e ∙ begins_first b k v []
begins_last b k (([], v) ∷ f ∷ more) e = begins_last b k (f ∷ more) e
begins_last b k ((c ∷ l, v) ∷ f ∷ more) e = ap (λ x. eqb c b || x) (begins_last b k (f ∷ more) e) ∙ or_true (eqb c b)

one_member : (e b : ℕ) → (eqb e b || false) ≡ true → e ≡ b
one_member e b h = elim (eqb_tells e b) [
  | inl same ↦ same.1
  | inr other ↦ absurd (let h' = rw other.0 at h in cc)
]

two_members : (es : List ℕ) (b c : ℕ) → member b es ≡ true → member c es ≡ true → (b ≡ c → ⊥) → 2 ≤ length es
two_members [] b c m n apart = absurd (cc)
two_members (e ∷ []) b c m n apart = absurd (apart (sym (one_member e b m) ∙ one_member e c n))
two_members (e ∷ f ∷ es) b c m n apart = omega arith

-- if the keys part, there are two edges
parting_edges : (kind : Kind) (all : Pairs) (w : Window) → w.to ≤ length all → AreKeys kind all → Ordered kind (window all w) → IsParting all w → 2 ≤ length (edges (window all w))
parting_edges kind all w within keys up p =
    let inside = p.inside in
    let key = (item_no all w.from).0 in
    let last = (item_no all (w.to - 1)).0 in
    let n = w.to - 1 - w.from in
    let at : w.from + n ≡ w.to - 1 = omega arith in
    let r = all_long n kind all w.from w.to w.depth p.byte (omega arith) within up p.first in
    let c = r.0 in
    let has : byte_of all (w.to - 1) w.depth ≡ Some c = subst (λ i. byte_of all i w.depth ≡ Some c) at r.1 in
    let apart : p.byte ≡ c → ⊥ = λ same. p.other (has ∙ ap Some (sym same)) in
    let limit = edge_limit_to kind in
    let low_b = key_byte kind all w.from w.depth p.byte keys (omega arith) p.first in
    let low_c = key_byte kind all (w.to - 1) w.depth c keys (omega arith) has in
    let begins_b : begins_some (window all w) p.byte ≡ true =
    ap (λ x. begins_some x p.byte) (cut_first all w.from w.to w.depth inside within ∙ ap (λ x. (x, (item_no all w.from).1) ∷ cut all (w.from + 1) w.to w.depth) (key_cut key w.depth p.byte p.first))
    ∙ begins_first p.byte (drop (suc w.depth) key) (item_no all w.from).1 (cut all (w.from + 1) w.to w.depth) in
    let begins_c = begins_last c (drop (suc w.depth) last) (window all w) (last_cut all w.from w.to w.depth inside within ∙ key_cut last w.depth c has) in
    two_members (edges (window all w)) p.byte c (member-edges (window all w) p.byte (omega arith) ∙ begins_b) (member-edges (window all w) c (omega arith) ∙ begins_c) apart

pub some_items : (all : Pairs) (w : Window) → w.from < w.to → w.to ≤ length all → window all w ≡ [] → ⊥
some_items all w inside within none = let first = sym (cut_first all w.from w.to w.depth inside within) ∙ none in cc

-- no run of bytes from 128 on stands in front of all keys unless a span stands there
no_run : (kind : Kind) (all : Pairs) (w : Window) (s : Step) → step_of kind all w ≡ s → ((m : ℕ) → s ≡ Span m → ⊥) → w.from < w.to → w.to ≤ length all → AreKeys kind all → Ordered kind (window all w) → run_of (window all w) ≡ []
no_run kind all w End is none inside within keys up = absurd (let past = step_end kind all w is in omega arith)
no_run kind all w (Value v) is none inside within keys up = let a = step_value kind all w v within is in ap run_of a.1 ∙ run_of-value v (window all (record w { from = w.from + 1 }))
no_run kind all w (Literal b) is none inside within keys up =
    let a = step_literal kind all w b within keys up is in
    ap run_of a.is ∙ run_of-literal b (window all (record w { depth = w.depth + 1 })) a.low (some_items all (record w { depth = w.depth + 1 }) inside within)
no_run kind all w (Span m) is none inside within keys up = absurd (none m refl)
no_run kind all w Branch is none inside within keys up = run_of-many (window all w) (parting_edges kind all w within keys up (step_branch kind all w is))

behind_more : (front more : List ℕ) (pairs : Pairs) → behind_all (front ++ more) pairs ≡ behind_all more (behind_all front pairs)
behind_more [] more pairs = refl
behind_more (b ∷ front) more pairs = behind_more front more (residual b pairs)

-- what is after a byte more
pub behind_byte : (all : Pairs) (w c : Window) (b : ℕ) → residual b (window all w) ≡ window all c → IsBehindFront all w → IsBehindFront all c
behind_byte all w c b is at =
    let there : behind_all (at.0 ++ b ∷ []) all ≡ window all c = behind_more at.0 (b ∷ []) all ∙ at.1 b ∙ is in
    (at.0 ++ b ∷ [], λ x. ap (residual x) there)

behind_bytes : (all : Pairs) (w c : Window) (run : List ℕ) → (run ≡ [] → ⊥) → window all w ≡ with_run run (window all c) → IsBehindFront all w → IsBehindFront all c
behind_bytes all w c [] some is at = absurd (some refl)
behind_bytes all w c (b ∷ run) some is at =
    let there : behind_all (at.0 ++ b ∷ run) all ≡ window all c = behind_more at.0 (b ∷ run) all ∙ ap (behind_all run) (at.1 b) ∙ ap (λ x. behind_all run (residual b x)) is ∙ behind_all-run (b ∷ run) (window all c) in
    (at.0 ++ b ∷ run, λ x. ap (residual x) there)

-- What a run says of the window after it.
pub record Along (kind : Kind) (all : Pairs) (w behind : Window) (n : ℕ) : Type 0 where
  pub to_is : behind.to ≡ w.to
  pub order : w.from ≤ w.to → behind.from ≤ behind.to
  pub ordered : Ordered kind (window all behind)
  pub size : size_of kind (window all w) ≡ n + size_of kind (window all behind)
  pub at : IsBehindFront all w → IsBehindFront all behind

long_run : (run : List ℕ) (n : ℕ) → length run ≡ n → 0 < n → run ≡ [] → ⊥
long_run run n is some none = let z = ap length none in omega arith

pub along : {kind : Kind} {all : Pairs} {w behind : Window} {n : ℕ} → Passes kind all w behind n → w.to ≤ length all → AreKeys kind all → Ordered kind (window all w) → Along kind all w behind n
along here within keys up = record { to_is = refl; order = λ le. le; ordered = up; size = omega arith; at = λ at. at }
along {kind = kind} {all = all} {w = w} {behind = behind} (value {n = n} v is run) within keys up =
    let a = step_value kind all w v within is in
    let w' : Window = record w { from = w.from + 1 } in
    let up' = subst (Ordered kind) a.1 up in
    let r = along run within keys up'.1 in
    let size = ap (size_of kind) a.1 ∙ size_value kind v (window all w') (none_empty kind v (window all w') up') in
    let rest = r.size in
    record {
      to_is = r.to_is;
      order = λ le. r.order (let inside = a.0 in omega arith);
      ordered = r.ordered;
      size = omega arith;
      at = λ at. r.at (at.0, λ b. at.1 b ∙ ap (residual b) a.1);
    }
along {kind = kind} {all = all} {w = w} {behind = behind} (literal {n = n} b is run) within keys up =
    let a = step_literal kind all w b within keys up is in
    let w' : Window = record w { depth = w.depth + 1 } in
    let up' = ordered_front kind b (window all w') (subst (Ordered kind) a.is up) in
    let r = along run within keys up' in
    let size = ap (size_of kind) a.is ∙ size_literal kind b (window all w') a.low (some_items all w' a.inside within) in
    let rest = r.size in
    record {
      to_is = r.to_is;
      order = r.order;
      ordered = r.ordered;
      size = omega arith;
      at = λ at. r.at (behind_byte all w w' b (ap (residual b) a.is ∙ residual-front b (window all w')) at);
    }
along {kind = kind} {all = all} {w = w} {behind = behind} (span {n = n} m is run) within keys up =
    let a = step_span kind all w m within keys up is in
    let f = a.front in
    let bytes = take m (drop w.depth (item_no all w.from).0) in
    let w' : Window = record w { depth = w.depth + m } in
    let r = along run within keys f.ordered in
    let there = long_run bytes m f.long a.some in
    let ends = no_run kind all w' (step_of kind all w') refl (λ k e. span_once kind all w m k a e) a.inside within keys f.ordered in
    let size = ap (size_of kind) f.is ∙ size_span kind bytes (window all w') a.spans there f.high (some_items all w' a.inside within) ends ∙ ap (λ x. length (spelled_as span_form x) + x + size_of kind (window all w')) f.long in
    let rest = r.size in
    record {
      to_is = r.to_is;
      order = r.order;
      ordered = r.ordered;
      size = omega arith;
      at = λ at. r.at (behind_bytes all w w' bytes there f.is at);
    }

-- a run of 2^64 bytes or more
pub too_long : {kind : Kind} {all : Pairs} {w behind : Window} {n : ℕ} → Passes kind all w behind n → w.to ≤ length all → AreKeys kind all → Ordered kind (window all w) → 2 ^ 64 ≤ n → 2 ^ 64 ≤ size_of kind (window all w)
too_long run within keys up large = let size = (along run within keys up).size in omega arith

-- if no node stands first and there are items, a branch does
pub stopped : (kind : Kind) (all : Pairs) (w : Window) → (step_of kind all w ≡ End) ⊎ (step_of kind all w ≡ Branch) → w.from < w.to → step_of kind all w ≡ Branch
stopped kind all w (inl end) inside = absurd (let past = step_end kind all w end in omega arith)
stopped kind all w (inr branch) inside = branch

-- a byte below 128 with which the first and the last key go on is a literal
pub low_literal : (kind : Kind) (all : Pairs) (w : Window) (i : ℕ) → w.from < w.to → (l : HasLiteralAt all w i) → step_of kind all (record w { depth = i }) ≡ Literal l.byte
low_literal kind all w i inside l = rw (lt-ltb w.from w.to inside, l.first, l.last, eq-eqb l.byte l.byte refl, lt-leb 128 l.byte l.low) refl

-- a literal is such a byte
pub literal_low : (kind : Kind) (all : Pairs) (w : Window) (b : ℕ) → w.to ≤ length all → AreKeys kind all → step_of kind all w ≡ Literal b → (w.from < w.to) × HasLiteralAt all w w.depth
literal_low kind all w b within keys e =
    let a = literal_byte kind all w b within keys e in
    (a.inside, record { byte = b; low = a.low; first = a.first; last = a.last })

-- this many such bytes one after another lead on
pub literals_run : (n : ℕ) {kind : Kind} {all : Pairs} {w last : Window} {m : ℕ} → w.from < w.to → ((i : ℕ) → w.depth ≤ i → i < w.depth + n → HasLiteralAt all w i)
    → Passes kind all (record w { depth = w.depth + n }) last m → Passes kind all w last (n + m)
literals_run zero {kind = kind} {all = all} {w = w} {last = last} {m = m} inside low run =
    let here : w.depth + 0 ≡ w.depth = omega arith in
    let count : m ≡ 0 + m = omega arith in
    subst (Passes kind all w last) count (subst (λ d. Passes kind all (record w { depth = d }) last m) here run)
literals_run (suc n) {kind = kind} {all = all} {w = w} {last = last} {m = m} inside low run =
    let l = low (w.depth + n) (omega arith) (omega arith) in
    let next : w.depth + suc n ≡ w.depth + n + 1 = omega arith in
    let one = literal l.byte (low_literal kind all w (w.depth + n) inside l) (subst (λ d. Passes kind all (record w { depth = d }) last m) next run) in
    let count : n + (1 + m) ≡ suc n + m = omega arith in
    subst (Passes kind all w last) count (literals_run n inside (λ i from below. low i from (omega arith)) one)

pub literals_to : {kind : Kind} {all : Pairs} {w last : Window} {m : ℕ} (end : ℕ) → w.from < w.to → w.depth ≤ end → ((i : ℕ) → w.depth ≤ i → i < end → HasLiteralAt all w i)
    → Passes kind all (record w { depth = end }) last m → Passes kind all w last (end - w.depth + m)
literals_to {kind = kind} {all = all} {w = w} {last = last} {m = m} end inside past low run =
    let there : end ≡ w.depth + (end - w.depth) = omega arith in
    literals_run (end - w.depth) inside (λ i from below. low i from (omega arith)) (subst (λ d. Passes kind all (record w { depth = d }) last m) there run)

-- the rest of the one key of a window has a byte at each place, and it is ASCII
pub lone_low : (all : Pairs) (w : Window) (rest : List ℕ) (v : ℕ) → IsAsciiLeaf all w rest v → (i : ℕ) → w.depth ≤ i → i < w.depth + length rest → HasLiteralAt all w i
lone_low all w rest v l i from below =
    let key = (item_no all w.from).0 in
    let long = ap length l.rest_is ∙ length-drop w.depth key in
    let deep = l.deep in
    let one = l.one in
    let b = get_or key i 0 in
    let at : w.depth + (i - w.depth) ≡ i = omega arith in
    let is : get_or rest (i - w.depth) 0 ≡ b = ap (λ x. get_or x (i - w.depth) 0) l.rest_is ∙ get_or-drop w.depth key (i - w.depth) 0 ∙ ap (λ j. get_or key j 0) at in
    let here : byte_of all w.from i ≡ Some b = slice_get-get_or key i 0 (omega arith) in
    let same : w.from ≡ w.to - 1 = omega arith in
    record {
      byte = b;
      low = subst (λ x. x < 128) is (l.low (i - w.depth) 0 (omega arith));
      first = here;
      last = subst (λ j. byte_of all j i ≡ Some b) same here;
    }

-- after it stands the value
pub lone_value : (kind : Kind) (all : Pairs) (w : Window) (rest : List ℕ) (v : ℕ) → IsAsciiLeaf all w rest v → step_of kind all (record w { depth = w.depth + length rest }) ≡ Value v
lone_value kind all w rest v l =
    let key = (item_no all w.from).0 in
    let long = ap length l.rest_is ∙ length-drop w.depth key in
    let deep = l.deep in
    let one = l.one in
    let none : byte_of all w.from (w.depth + length rest) ≡ None = slice_get_past key (w.depth + length rest) (omega arith) in
    rw (lt-ltb w.from w.to (omega arith), none) (ap Value (sym l.value_is))

-- so it is all of the window's text
pub lone_run : (kind : Kind) (all : Pairs) (w : Window) (rest : List ℕ) (v : ℕ) → IsAsciiLeaf all w rest v
    → Passes kind all w (record { from = w.to; to = w.to; depth = w.depth + length rest }) (length rest + length (spelled_as value_form v))
lone_run kind all w rest v l =
    let one = l.one in
    let n = length (spelled_as value_form v) in
    let none : n + 0 ≡ n = omega arith in
    let last : Passes kind all (record w { depth = w.depth + length rest }) (record { from = w.from + 1; to = w.to; depth = w.depth + length rest }) (n + 0) = value v (lone_value kind all w rest v l) here in
    let ends : Passes kind all (record w { depth = w.depth + length rest }) (record { from = w.to; to = w.to; depth = w.depth + length rest }) n =
    subst (λ f. Passes kind all (record w { depth = w.depth + length rest }) (record { from = f; to = w.to; depth = w.depth + length rest }) n) (sym one) (subst (Passes kind all _ _) none last) in
    literals_run (length rest) (omega arith) (lone_low all w rest v l) ends

-- and then there is nothing
pub lone_end : (kind : Kind) (all : Pairs) (w : Window) (rest : List ℕ) (v d : ℕ) → IsAsciiLeaf all w rest v → step_of kind all (record { from = w.from + 1; to = w.to; depth = d }) ≡ End
lone_end kind all w rest v d l = let one = l.one in rw (le-ltb (w.from + 1) w.to (omega arith)) refl
