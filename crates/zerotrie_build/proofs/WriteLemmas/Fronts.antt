-- A window is written up to its first branch.
use Rattle.std.proofs.Common.{◌≡◌, ℕ, zero, suc, ◌+◌, ◌-◌, ◌<◌, ◌≤◌, inl, inr, List, [], ◌∷◌, ◌++◌, length, refl, sym, ◌∙◌, ap, subst, arith, take, drop, append_assoc, length-append, length-drop, None}
use Rattle.std.proofs.lemmas.Bool.{cases_lt}
use Rattle.std.proofs.lemmas.List.{take_all, length-take-le}
use Rattle.zerotrie_base.specs.Kind.{Kind, simple_ascii}
use Rattle.zerotrie_base.specs.Numbers.{value_form, span_form, SpellsAs, spelled_as}
use Rattle.zerotrie_base.specs.Maps.{Pairs, value_at}
use Rattle.zerotrie_base.specs.Canonical.{size_of}
use Rattle.zerotrie_build.specs.Order.{Ordered, AreKeys}
use Rattle.zerotrie_build.specs.declared.windows.Window.{Window}
use Rattle.zerotrie_build.specs.declared.windows.Step.TheVariants.{Value, Literal, Span}
use Rattle.zerotrie_build.specs.passes.Windows.{cut, window, item_no, high_front, step_of, HasLiteralAt, IsAsciiLeaf}
use Rattle.zerotrie_build.specs.passes.Measured.{Passes, NoneFirst, HasFirstTargets}
use Rattle.zerotrie_build.specs.passes.Measured.Passes.{here, value as run_value, literal as run_literal, span as run_span}
use Rattle.zerotrie_build.specs.passes.Written.{Written}
use Rattle.zerotrie_build.specs.passes.Writes.{HasRoom, FrontFits, Writes, FrontWritten}
use Rattle.zerotrie_build.specs.passes.Writing.{Listed}
use Rattle.zerotrie_build.proofs.WriteLemmas.Puts.{puts_nothing, puts_then, grows}
use Rattle.zerotrie_build.proofs.WindowLemmas.NodeRuns.{low_literal, literal_low, lone_low, lone_value, along}
use Rattle.zerotrie_build.proofs.WindowLemmas.Windows.{cut_first, key_cut, last_key, last_cut, step_value, none_empty, ordered_front}
use Rattle.zerotrie_build.proofs.WindowLemmas.Spans.{step_literal, step_span}
use Rattle.zerotrie_build.proofs.WriteLemmas.Listed.{listed_value, listed_literal, listed_span}

-- The window was written as far as the rest, in front of what is after its values, literals and spans.
pub record Going (kind : Kind) (all : Pairs) (w : Window) (bytes : ℕ) (behind : Window) (old new : Written) (rest : Window) : Type 0 where
  pub done : List ℕ
  pub left : ℕ
  pub puts : Writes old new done
  pub sized : length done + left ≡ bytes
  pub run : Passes kind all rest behind left
  pub lists : (t : List ℕ) → Listed kind t (window all rest) → Listed kind (done ++ t) (window all w)
  pub ordered : Ordered kind (window all rest)
  pub to_is : rest.to ≡ w.to

pub going_start : {kind : Kind} {all : Pairs} {w : Window} {cs : List Window} (start : Written) (o : HasFirstTargets kind all w cs) → Going kind all w o.bytes o.behind start start w
going_start start o = record {
  done = [];
  left = o.bytes;
  puts = puts_nothing start;
  sized = omega arith;
  run = o.run;
  lists = λ t l. l;
  ordered = o.ordered;
  to_is = refl;
}

-- where the run goes on
pub record OnValue (kind : Kind) (all : Pairs) (w behind : Window) (v left : ℕ) : Type 0 where
  pub less : ℕ
  pub run : Passes kind all (record w { from = w.from + 1 }) behind less
  pub is : left ≡ length (spelled_as value_form v) + less

pub record OnLiteral (kind : Kind) (all : Pairs) (w behind : Window) (left : ℕ) : Type 0 where
  pub less : ℕ
  pub run : Passes kind all (record w { depth = w.depth + 1 }) behind less
  pub is : left ≡ 1 + less

pub record OnSpan (kind : Kind) (all : Pairs) (w behind : Window) (n left : ℕ) : Type 0 where
  pub less : ℕ
  pub run : Passes kind all (record w { depth = w.depth + n }) behind less
  pub is : left ≡ length (spelled_as span_form n) + n + less

on_value : {kind : Kind} {all : Pairs} {w behind : Window} {left : ℕ} → Passes kind all w behind left → NoneFirst kind all behind → (v : ℕ) → step_of kind all w ≡ Value v → OnValue kind all w behind v left
on_value here (inl s) v e = absurd (cc)
on_value here (inr s) v e = absurd (cc)
on_value (run_value {n = n} u f run) s v e = let same : u ≡ v = cc in record { less = n; run = run; is = ap (λ x. length (spelled_as value_form x) + n) same }
on_value (run_literal b f run) s v e = absurd (cc)
on_value (run_span m f run) s v e = absurd (cc)

on_literal : {kind : Kind} {all : Pairs} {w behind : Window} {left : ℕ} → Passes kind all w behind left → NoneFirst kind all behind → (b : ℕ) → step_of kind all w ≡ Literal b → OnLiteral kind all w behind left
on_literal here (inl s) b e = absurd (cc)
on_literal here (inr s) b e = absurd (cc)
on_literal (run_value v f run) s b e = absurd (cc)
on_literal (run_literal {n = n} c f run) s b e = record { less = n; run = run; is = refl }
on_literal (run_span m f run) s b e = absurd (cc)

on_span : {kind : Kind} {all : Pairs} {w behind : Window} {left : ℕ} → Passes kind all w behind left → NoneFirst kind all behind → (n : ℕ) → step_of kind all w ≡ Span n → OnSpan kind all w behind n left
on_span here (inl s) n e = absurd (cc)
on_span here (inr s) n e = absurd (cc)
on_span (run_value v f run) s n e = absurd (cc)
on_span (run_literal c f run) s n e = absurd (cc)
on_span {kind = kind} {all = all} {w = w} {behind = behind} (run_span {n = k} m f run) s n e =
    let same : m ≡ n = cc in record {
      less = k;
      run = subst (λ x. Passes kind all (record w { depth = w.depth + x }) behind k) same run;
      is = ap (λ x. length (spelled_as span_form x) + x + k) same;
    }

pub on_stop : {kind : Kind} {all : Pairs} {w behind : Window} {left : ℕ} → Passes kind all w behind left → NoneFirst kind all w → (behind ≡ w) × (left ≡ 0)
on_stop here s = (refl, refl)
on_stop (run_value v f run) (inl s) = absurd (cc)
on_stop (run_value v f run) (inr s) = absurd (cc)
on_stop (run_literal b f run) (inl s) = absurd (cc)
on_stop (run_literal b f run) (inr s) = absurd (cc)
on_stop (run_span m f run) (inl s) = absurd (cc)
on_stop (run_span m f run) (inr s) = absurd (cc)

-- the window after the run is known
pub behind_same : {kind : Kind} {all : Pairs} {w behind last : Window} {m n : ℕ} → Passes kind all w behind m → NoneFirst kind all behind → Passes kind all w last n → NoneFirst kind all last → behind ≡ last
behind_same here s run stops = sym (on_stop run s).0
behind_same (run_value v f r) s run stops = behind_same r s (on_value run stops v f).run stops
behind_same (run_literal b f r) s run stops = behind_same r s (on_literal run stops b f).run stops
behind_same (run_span n f r) s run stops = behind_same r s (on_span run stops n f).run stops

-- the value of the empty key is the same to each kind
exact_none : (kind : Kind) (pairs : Pairs) → value_at kind pairs [] ≡ None → value_at simple_ascii pairs [] ≡ None
exact_none kind [] h = refl
exact_none kind (([], v) ∷ pairs) h = absurd (cc)
exact_none kind ((b ∷ key, v) ∷ pairs) h = exact_none kind pairs h

pub going_value : {kind : Kind} {all : Pairs} {w behind : Window} {bytes : ℕ} {old new : Written} {rest : Window} (newer : Written) (v : ℕ)
    → Going kind all w bytes behind old new rest → NoneFirst kind all behind → w.to ≤ length all → step_of kind all rest ≡ Value v → SpellsAs value_form v (spelled_as value_form v)
    → Writes new newer (spelled_as value_form v) → Going kind all w bytes behind old newer (record rest { from = rest.from + 1 })
going_value {kind = kind} {all = all} {w = w} {rest = rest} newer v g stops within e s p =
    let o = on_value g.run stops v e in
    let to_is = g.to_is in
    let st = step_value kind all rest v (omega arith) e in
    let sp = spelled_as value_form v in
    let pairs = window all (record rest { from = rest.from + 1 }) in
    let up : Ordered kind (([], v) ∷ pairs) = subst (Ordered kind) st.1 g.ordered in
    record {
      done = g.done ++ sp;
      left = o.less;
      puts = puts_then g.puts p;
      sized = (let a = length-append g.done sp in let b = g.sized in let c = o.is in omega arith);
      run = o.run;
      lists = λ t l. subst (λ x. Listed kind x (window all w)) (sym (append_assoc g.done sp t))
          (g.lists (sp ++ t) (subst (Listed kind (sp ++ t)) (sym st.1) (listed_value kind v sp t pairs s (exact_none kind pairs (none_empty kind v pairs up)) l)));
      ordered = up.1;
      to_is = g.to_is;
    }

cut_some : (all : Pairs) (from to d : ℕ) → from < to → to ≤ length all → cut all from to d ≡ [] → ⊥
cut_some all from to d h within none = let e = sym (cut_first all from to d h within) ∙ none in cc

pub window_some : (all : Pairs) (w : Window) → w.from < w.to → w.to ≤ length all → window all w ≡ [] → ⊥
window_some all w h within = cut_some all w.from w.to w.depth h within

-- this many literals that stand first in a window
record Literals (kind : Kind) (all : Pairs) (w behind : Window) (n left : ℕ) : Type 0 where
  less : ℕ
  run : Passes kind all (record w { depth = w.depth + n }) behind less
  is : left ≡ n + less
  ordered : Ordered kind (window all (record w { depth = w.depth + n }))
  lists : (t : List ℕ) → Listed kind t (window all (record w { depth = w.depth + n })) → Listed kind (take n (drop w.depth (item_no all w.from).0) ++ t) (window all w)

literals : (n : ℕ) (kind : Kind) (all : Pairs) (w behind : Window) (left : ℕ) → Passes kind all w behind left → NoneFirst kind all behind → w.from < w.to → w.to ≤ length all → AreKeys kind all → Ordered kind (window all w)
    → ((i : ℕ) → w.depth ≤ i → i < w.depth + n → HasLiteralAt all w i) → Literals kind all w behind n left
literals zero kind all w behind left run stops inside within keys up low =
    let here : w.depth ≡ w.depth + 0 = omega arith in record {
      less = left;
      run = subst (λ d. Passes kind all (record w { depth = d }) behind left) here run;
      is = omega arith;
      ordered = subst (λ d. Ordered kind (window all (record w { depth = d }))) here up;
      lists = λ t l. subst (λ d. Listed kind t (window all (record w { depth = d }))) (sym here) l;
    }
literals (suc n) kind all w behind left run stops inside within keys up low =
    let l = low w.depth (omega arith) (omega arith) in
    let b = l.byte in
    let e = low_literal kind all w w.depth inside l in
    let o = on_literal run stops b e in
    let st = step_literal kind all w b within keys up e in
    let next : Window = record w { depth = w.depth + 1 } in
    let more = literals n kind all next behind o.less o.run stops inside within keys (ordered_front kind b (window all next) (subst (Ordered kind) st.is up)) (λ i from below. let k = low i (omega arith) (omega arith) in record { byte = k.byte; low = k.low; first = k.first; last = k.last }) in
    let there : w.depth + 1 + n ≡ w.depth + suc n = omega arith in
    let key = (item_no all w.from).0 in
    let deep : suc w.depth ≡ w.depth + 1 = omega arith in
    let cut : drop w.depth key ≡ b ∷ drop (w.depth + 1) key = key_cut key w.depth b l.first ∙ ap (λ d. b ∷ drop d key) deep in
    record {
      less = more.less;
      run = subst (λ d. Passes kind all (record w { depth = d }) behind more.less) there more.run;
      is = (let a = o.is in let c = more.is in omega arith);
      ordered = subst (λ d. Ordered kind (window all (record w { depth = d }))) there more.ordered;
      lists = λ t k.
          let rest = more.lists t (subst (λ d. Listed kind t (window all (record w { depth = d }))) (sym there) k) in
          subst (λ x. Listed kind (take (suc n) x ++ t) (window all w)) (sym cut)
          (subst (Listed kind _) (sym st.is) (listed_literal kind b (take n (drop (w.depth + 1) key) ++ t) (window all next) st.low (cut_some all w.from w.to (w.depth + 1) inside within) rest));
    }

pub going_literals : {kind : Kind} {all : Pairs} {w behind : Window} {bytes : ℕ} {old new : Written} {rest : Window} (newer : Written) (b end : ℕ)
    → Going kind all w bytes behind old new rest → NoneFirst kind all behind → w.to ≤ length all → AreKeys kind all → step_of kind all rest ≡ Literal b
    → rest.depth < end → ((i : ℕ) → rest.depth ≤ i → i < end → HasLiteralAt all rest i) → end ≤ length (item_no all rest.from).0
    → Writes new newer (take (end - rest.depth) (drop rest.depth (item_no all rest.from).0)) → Going kind all w bytes behind old newer (record rest { depth = end })
going_literals {kind = kind} {all = all} {w = w} {behind = behind} {rest = rest} newer b end g stops within keys e past low ends p =
    let to_is = g.to_is in
    let inside = (literal_low kind all rest b (omega arith) keys e).0 in
    let n = end - rest.depth in
    let there : rest.depth + n ≡ end = omega arith in
    let o = literals n kind all rest behind g.left g.run stops inside (omega arith) keys g.ordered (λ i from below. low i from (omega arith)) in
    let run = take n (drop rest.depth (item_no all rest.from).0) in
    let long : length run ≡ n = length-take-le n (drop rest.depth (item_no all rest.from).0) (let l = length-drop rest.depth (item_no all rest.from).0 in omega arith) in
    record {
      done = g.done ++ run;
      left = o.less;
      puts = puts_then g.puts p;
      sized = (let a = length-append g.done run in let c = g.sized in let d = o.is in omega arith);
      run = subst (λ d. Passes kind all (record rest { depth = d }) behind o.less) there o.run;
      lists = λ t l. subst (λ x. Listed kind x (window all w)) (sym (append_assoc g.done run t))
          (g.lists (run ++ t) (o.lists t (subst (λ d. Listed kind t (window all (record rest { depth = d }))) (sym there) l)));
      ordered = subst (λ d. Ordered kind (window all (record rest { depth = d }))) there o.ordered;
      to_is = g.to_is;
    }

-- all that is left of a window
pub going_lone : {kind : Kind} {all : Pairs} {w behind : Window} {bytes : ℕ} {old new : Written} {rest : Window} (newer : Written) (key : List ℕ) (v : ℕ)
    → Going kind all w bytes behind old new rest → NoneFirst kind all behind → w.to ≤ length all → AreKeys kind all → IsAsciiLeaf all rest key v → SpellsAs value_form v (spelled_as value_form v)
    → Writes new newer (key ++ spelled_as value_form v) → Going kind all w bytes behind old newer (record { from = rest.from + 1; to = rest.to; depth = rest.depth + length key })
going_lone {kind = kind} {all = all} {w = w} {behind = behind} {rest = rest} newer key v g stops within keys lone s p =
    let to_is = g.to_is in
    let one = lone.one in
    let n = length key in
    let o = literals n kind all rest behind g.left g.run stops (omega arith) (omega arith) keys g.ordered (lone_low all rest key v lone) in
    let mid : Window = record rest { depth = rest.depth + n } in
    let e = lone_value kind all rest key v lone in
    let ov = on_value o.run stops v e in
    let st = step_value kind all mid v (omega arith) e in
    let sp = spelled_as value_form v in
    let pairs = window all (record mid { from = rest.from + 1 }) in
    let up : Ordered kind (([], v) ∷ pairs) = subst (Ordered kind) st.1 o.ordered in
    let whole : take n (drop rest.depth (item_no all rest.from).0) ≡ key = ap (take n) (sym lone.rest_is) ∙ take_all n key (omega arith) in
    record {
      done = g.done ++ (key ++ sp);
      left = ov.less;
      puts = puts_then g.puts p;
      sized = (let a = length-append g.done (key ++ sp) in let b = length-append key sp in let c = g.sized in let d = o.is in let f = ov.is in omega arith);
      run = ov.run;
      lists = λ t l. subst (λ x. Listed kind x (window all w)) (sym (append_assoc g.done (key ++ sp) t))
          (g.lists ((key ++ sp) ++ t) (subst (λ x. Listed kind x (window all rest)) (ap (λ x. x ++ (sp ++ t)) whole ∙ sym (append_assoc key sp t))
          (o.lists (sp ++ t) (subst (Listed kind (sp ++ t)) (sym st.1) (listed_value kind v sp t pairs s (exact_none kind pairs (none_empty kind v pairs up)) l)))));
      ordered = up.1;
      to_is = g.to_is;
    }

run_some : (n : ℕ) (run : List ℕ) → 0 < n → length run ≡ n → run ≡ [] → ⊥
run_some n run some long none = let l = ap length none in omega arith

pub going_span : {kind : Kind} {all : Pairs} {w behind : Window} {bytes : ℕ} {old new : Written} {rest : Window} (newer : Written) (n : ℕ)
    → Going kind all w bytes behind old new rest → NoneFirst kind all behind → w.to ≤ length all → AreKeys kind all → step_of kind all rest ≡ Span n → SpellsAs span_form n (spelled_as span_form n)
    → Writes new newer (spelled_as span_form n ++ take n (drop rest.depth (item_no all rest.from).0)) → Going kind all w bytes behind old newer (record rest { depth = rest.depth + n })
going_span {kind = kind} {all = all} {w = w} {rest = rest} newer n g stops within keys e s p =
    let o = on_span g.run stops n e in
    let to_is = g.to_is in
    let st = step_span kind all rest n (omega arith) keys g.ordered e in
    let f = st.front in
    let sp = spelled_as span_form n in
    let first = (item_no all rest.from).0 in
    let d = rest.depth + n in
    let run = take n (drop rest.depth first) in
    let pairs = cut all rest.from rest.to d in
    let ends : high_front (drop d first) (last_key pairs) ≡ 0 = ap (high_front (drop d first)) (last_cut all rest.from rest.to d st.inside (omega arith)) ∙ f.ends in
    record {
      done = g.done ++ (sp ++ run);
      left = o.less;
      puts = puts_then g.puts p;
      sized = (let a = length-append g.done (sp ++ run) in let b = length-append sp run in let l = f.long in let c = g.sized in let i = o.is in omega arith);
      run = o.run;
      lists = λ t l. subst (λ x. Listed kind x (window all w)) (ap (λ x. g.done ++ x) (sym (append_assoc sp run t)) ∙ sym (append_assoc g.done (sp ++ run) t))
          (g.lists (sp ++ (run ++ t)) (subst (Listed kind (sp ++ (run ++ t))) (sym f.is)
          (listed_span kind run sp t pairs st.spans (run_some n run st.some f.long) f.high (subst (λ k. SpellsAs span_form k sp) (sym f.long) s)
          _ _ (cut_first all rest.from rest.to d st.inside (omega arith)) ends l)));
      ordered = f.ordered;
      to_is = g.to_is;
    }

pub no_more : (n : ℕ) → n ≤ n
no_more n = omega arith

-- room for all of a window is room for its front
pub front_fits : {kind : Kind} {all : Pairs} {w : Window} (start : Written) → w.to ≤ length all → AreKeys kind all → Ordered kind (window all w) → HasRoom start (size_of kind (window all w)) → FrontFits kind all w start
front_fits start within keys up room = λ rest n run stops. let size = (along run within keys up).size in let r = room in omega arith

-- the bytes of what is left fit
pub open_bytes : {kind : Kind} {all : Pairs} {w : Window} {cs : List Window} (o : HasFirstTargets kind all w cs) → o.bytes ≤ size_of kind (window all w)
open_bytes o = elim o.stops [
  | inl e ↦ let n = o.none e in let l = n.1 in omega arith
  | inr e ↦ let n = o.some e in let l = n.1 in omega arith
]

pub room_value : {kind : Kind} {all : Pairs} {w behind : Window} {bytes : ℕ} {old new : Written} {rest : Window} (v len : ℕ)
    → Going kind all w bytes behind old new rest → NoneFirst kind all behind → step_of kind all rest ≡ Value v → bytes ≤ len → HasRoom old len → HasRoom new (length (spelled_as value_form v))
room_value v len g s e b r = let o = on_value g.run s v e in let a = grows g.puts in let l = g.puts.same in let z = g.sized in let i = o.is in omega arith

pub room_literals : {kind : Kind} {all : Pairs} {w behind : Window} {bytes : ℕ} {old new : Written} {rest : Window} (b end len : ℕ)
    → Going kind all w bytes behind old new rest → NoneFirst kind all behind → w.to ≤ length all → AreKeys kind all → step_of kind all rest ≡ Literal b
    → rest.depth < end → ((i : ℕ) → rest.depth ≤ i → i < end → HasLiteralAt all rest i) → bytes ≤ len → HasRoom old len → HasRoom new (end - rest.depth)
room_literals {kind = kind} {all = all} {behind = behind} {rest = rest} b end len g stops within keys e past low h r =
    let to_is = g.to_is in
    let inside = (literal_low kind all rest b (omega arith) keys e).0 in
    let o = literals (end - rest.depth) kind all rest behind g.left g.run stops inside (omega arith) keys g.ordered (λ i from below. low i from (omega arith)) in
    let a = grows g.puts in let l = g.puts.same in let z = g.sized in let i = o.is in omega arith

pub room_lone : {kind : Kind} {all : Pairs} {w behind : Window} {bytes : ℕ} {old new : Written} {rest : Window} (key : List ℕ) (v len : ℕ)
    → Going kind all w bytes behind old new rest → NoneFirst kind all behind → w.to ≤ length all → AreKeys kind all → IsAsciiLeaf all rest key v → bytes ≤ len → HasRoom old len
    → HasRoom new (length key + length (spelled_as value_form v))
room_lone {kind = kind} {all = all} {behind = behind} {rest = rest} key v len g stops within keys lone h r =
    let to_is = g.to_is in
    let one = lone.one in
    let o = literals (length key) kind all rest behind g.left g.run stops (omega arith) (omega arith) keys g.ordered (lone_low all rest key v lone) in
    let last = on_value o.run stops v (lone_value kind all rest key v lone) in
    let a = grows g.puts in let l = g.puts.same in let z = g.sized in let i = o.is in let j = last.is in omega arith

pub room_span : {kind : Kind} {all : Pairs} {w behind : Window} {bytes : ℕ} {old new : Written} {rest : Window} (n len : ℕ)
    → Going kind all w bytes behind old new rest → NoneFirst kind all behind → step_of kind all rest ≡ Span n → bytes ≤ len → HasRoom old len → HasRoom new (length (spelled_as span_form n) + n)
room_span n len g s e h r = let o = on_span g.run s n e in let a = grows g.puts in let l = g.puts.same in let z = g.sized in let i = o.is in omega arith

-- the bytes of a span are in the first key
pub span_within : {kind : Kind} {all : Pairs} {w behind : Window} {bytes : ℕ} {old new : Written} {rest : Window} (n : ℕ)
    → Going kind all w bytes behind old new rest → w.to ≤ length all → AreKeys kind all → step_of kind all rest ≡ Span n
    → (rest.from < length all) × (rest.depth + n ≤ length (item_no all rest.from).0)
span_within {kind = kind} {all = all} {rest = rest} n g within keys e =
    let to_is = g.to_is in
    let st = step_span kind all rest n (omega arith) keys g.ordered e in
    let inside = st.inside in
    let key = (item_no all rest.from).0 in
    (omega arith, fits key rest.depth n st.some st.front.long)
  where
    fits : (key : List ℕ) (d n : ℕ) → 0 < n → length (take n (drop d key)) ≡ n → d + n ≤ length key
    fits key d n some long = elim (cases_lt (length (drop d key)) n) [
      | inl short ↦ absurd (let all_of = ap length (take_all n (drop d key) (omega arith)) in omega arith)
      | inr enough ↦ let l = length-drop d key in omega arith
    ]

-- nothing is left of the values, literals and spans
pub front_written : {kind : Kind} {all : Pairs} {w : Window} {cs : List Window} {old new : Written} {rest : Window} (o : HasFirstTargets kind all w cs)
    → Going kind all w o.bytes o.behind old new rest → NoneFirst kind all rest → FrontWritten kind all w rest old new
front_written {kind = kind} {all = all} {w = w} {rest = rest} o g stops =
    let s = on_stop g.run stops in
    let long : o.bytes ≡ length g.done = (let a = g.sized in let b = s.1 in omega arith) in
    record {
      front = g.done;
      writes = g.puts;
      run = subst (λ n. Passes kind all w rest n) long (subst (λ x. Passes kind all w x o.bytes) s.0 o.run);
      lists = g.lists;
    }

-- all of them are written
pub going_front : {kind : Kind} {all : Pairs} {w : Window} {cs : List Window} {old new : Written} {rest : Window} (o : HasFirstTargets kind all w cs) → AreKeys kind all
    → FrontWritten kind all w rest old new → NoneFirst kind all rest → Going kind all w o.bytes o.behind old new rest
going_front {kind = kind} {all = all} {rest = rest} o keys f stops =
    let same : o.behind ≡ rest = behind_same o.run o.stops f.run stops in
    let a = along o.run o.within keys o.ordered in
    let b = along f.run o.within keys o.ordered in
    let size = ap (λ x. size_of kind (window all x)) same in
    record {
      done = f.front;
      left = 0;
      puts = f.writes;
      sized = (let x = a.size in let y = b.size in omega arith);
      run = subst (λ x. Passes kind all rest x 0) (sym same) here;
      lists = f.lists;
      ordered = b.ordered;
      to_is = b.to_is;
    }
