-- A text of pairs as it grows: the nodes in front of a branch, and the groups of a branch.
use Rattle.std.proofs.Common.{◌≡◌, ℕ, zero, suc, ◌+◌, ◌*◌, ◌%◌, ◌^◌, ◌<◌, ◌≤◌, List, [], ◌∷◌, ◌++◌, length, refl, sym, ◌∙◌, ap, subst, arith, get_or, take, drop, inl, inr, ◌⊎◌, append_assoc, length-append}
use Rattle.std.specs.List.{concat}
use Rattle.zerotrie_base.specs.Kind.{simple_ascii}
use Rattle.zerotrie_base.specs.Numbers.{value_form, branch_form, SpellsAs}
use Rattle.zerotrie_base.specs.Maps.{Pairs, with_front, residual, Ascends, FirstAbove}
use Rattle.zerotrie_base.specs.Branches.{IsWidth, offsets, blocks}
use Rattle.zerotrie_base.specs.Canonical.{branch_node}
use Rattle.zerotrie_base.specs.Texts.{Lists, ListEach}
use Rattle.zerotrie_base.specs.Texts.Lists.{nothing, value, literal}
use Rattle.zerotrie_base.specs.Texts.ListEach.{no_edge, edge}
use Rattle.zerotrie_base.specs.Fits.{OverflowsAt}
use Rattle.zerotrie_base.specs.plain.Encoding.{AsciiKeys, weight, IsBranching, CannotWrite, Overflows, Writes, WritesFront, AreTargets}
use Rattle.zerotrie_base.specs.declared.error.ZeroTrieBuildError.{ZeroTrieBuildError}
use Rattle.zerotrie_base.specs.declared.error.ZeroTrieBuildError.TheVariants.{OutOfMemory, CapacityExceeded}
use Rattle.zerotrie_base.proofs.MapLemmas.Edges.{Rise, residual-append, residual-front, edges_value}
use Rattle.zerotrie_base.proofs.CanonicalLemmas.Canonical.{rise_bytes, residual_none, nil_end, bytes_end}
use Rattle.zerotrie_base.proofs.NodeLemmas.Offsets.{length-offsets, get_or-offsets}
use Rattle.zerotrie_base.proofs.MapLemmas.Ordered.{rise_rises, member-past}
use Rattle.zerotrie_base.proofs.CanonicalLemmas.Encoded.{compare_first, not_empty_text, node_lists}
use Rattle.zerotrie_base.proofs.NodeLemmas.Fronts.{front_written, node_many}
use Rattle.zerotrie_base.proofs.NodeLemmas.Tables.{Rises, rises_distinct}
use Rattle.zerotrie_base.proofs.CanonicalLemmas.Lengths.{targets_each, edges_count}
use Rattle.zerotrie_base.proofs.MapLemmas.Listed.{targets_value, no_value_first, each_push, each_count, residual_above, Rise-push, Rise-below, Rise-higher, FirstFrom, first_from}

pub weight-append : (xs ys : Pairs) → weight (xs ++ ys) ≡ weight xs + weight ys
weight-append [] ys = omega arith
weight-append (e ∷ xs) ys = let more = weight-append xs ys in omega arith

pub weight-front : (b : ℕ) (pairs : Pairs) → weight (with_front b pairs) ≡ weight pairs + length pairs
weight-front b [] = refl
weight-front b (e ∷ pairs) = let more = weight-front b pairs in omega arith

pub some_long : (pairs : Pairs) → (pairs ≡ [] → ⊥) → 0 < length pairs
some_long [] some = absurd (some refl)
some_long (e ∷ pairs) some = omega arith

-- a branch that is too wide after a byte
pub too_wide_front : (b : ℕ) (pairs behind : Pairs) → residual b pairs ≡ behind → Overflows behind → Overflows pairs
too_wide_front b pairs behind e w = (b ∷ w.0, subst (OverflowsAt simple_ascii w.0) (sym e) w.1)

too_wide_value : (v : ℕ) (pairs : Pairs) (front : List ℕ) → OverflowsAt simple_ascii front pairs → Overflows (([], v) ∷ pairs)
too_wide_value v pairs [] over =
    ([], (subst (λ es. 2 ≤ length es) (sym (edges_value v pairs)) over.0, subst (λ n. 2 ^ 32 ≤ n) (sym (targets_value simple_ascii v pairs)) over.1))
too_wide_value v pairs (b ∷ front) over = (b ∷ front, over)

above_behind : (b : ℕ) (key : List ℕ) (pairs : Pairs) → FirstAbove (b ∷ key) (with_front b pairs) → FirstAbove key pairs
above_behind b key [] h = tt
above_behind b key (e ∷ pairs) h = elim (compare_first b b key e.0 h) [ inl less ↦ absurd (omega arith) | inr same ↦ same.1 ]

pub Ascends-behind : (b : ℕ) (pairs : Pairs) → Ascends (with_front b pairs) → Ascends pairs
Ascends-behind b [] h = tt
Ascends-behind b (e ∷ pairs) h = (above_behind b e.0 pairs h.0, Ascends-behind b pairs h.1)

pub AsciiKeys-behind : (b : ℕ) (pairs : Pairs) → AsciiKeys (with_front b pairs) → AsciiKeys pairs
AsciiKeys-behind b [] h = tt
AsciiKeys-behind b (e ∷ pairs) h = (h.0.1, AsciiKeys-behind b pairs h.1)

first_of : (key : List ℕ) (xs ys : Pairs) → FirstAbove key (xs ++ ys) → FirstAbove key xs
first_of key [] ys h = tt
first_of key (x ∷ xs) ys h = h

pub Ascends-parts : (xs ys : Pairs) → Ascends (xs ++ ys) → Ascends xs × Ascends ys
Ascends-parts [] ys h = (tt, h)
Ascends-parts (x ∷ xs) ys h = let r = Ascends-parts xs ys h.1 in ((first_of x.0 xs ys h.0, r.0), r.1)

pub AsciiKeys-parts : (xs ys : Pairs) → AsciiKeys (xs ++ ys) → AsciiKeys xs × AsciiKeys ys
AsciiKeys-parts [] ys h = (tt, h)
AsciiKeys-parts (x ∷ xs) ys h = let r = AsciiKeys-parts xs ys h.1 in ((h.0, r.0), r.1)

front_ascii : (b : ℕ) (pairs : Pairs) → (pairs ≡ [] → ⊥) → AsciiKeys (with_front b pairs) → b < 128
front_ascii b [] some h = absurd (some refl)
front_ascii b (e ∷ pairs) some h = h.0.0

pub writes_nothing : (before : List ℕ) → Writes before before []
writes_nothing before = record { text = []; lists = nothing; is = sym (bytes_end before) }

-- a value node more
pub leads_value : (before out out' spelling : List ℕ) (v : ℕ) (all left : Pairs) → WritesFront before all out (([], v) ∷ left) → SpellsAs value_form v spelling → out' ≡ out ++ spelling → WritesFront before all out' left
leads_value before out out' spelling v all left l s e = record {
  finish = λ after w. l.finish after (record {
    text = spelling ++ w.text;
    lists = value s (no_value_first w.lists l.ascends.0) w.lists;
    is = w.is ∙ ap (λ x. x ++ w.text) e ∙ append_assoc out spelling w.text;
  });
  wide = λ w. l.wide (too_wide_value v left w.0 w.1);
  ascends = l.ascends.1;
  ascii = l.ascii.1;
  lighter = let h = l.lighter in omega arith;
}

-- a literal more
pub leads_literal : (before out out' : List ℕ) (b : ℕ) (all left : Pairs) → WritesFront before all out (with_front b left) → (left ≡ [] → ⊥) → out' ≡ out ++ b ∷ [] → WritesFront before all out' left
leads_literal before out out' b all left l some e = record {
  finish = λ after w. l.finish after (record {
    text = b ∷ w.text;
    lists = literal (front_ascii b left some l.ascii) (not_empty_text w.lists some) w.lists;
    is = w.is ∙ ap (λ x. x ++ w.text) e ∙ append_assoc out (b ∷ []) w.text;
  });
  wide = λ w. l.wide (too_wide_front b (with_front b left) left (residual-front b left) w);
  ascends = Ascends-behind b left l.ascends;
  ascii = AsciiKeys-behind b left l.ascii;
  lighter = let h = l.lighter in let more = weight-front b left in omega arith;
}

-- where each target begins
abbrev pub starts_from : ℕ → List (List ℕ) → List ℕ
starts_from n [] = []
starts_from n (t ∷ targets) = n ∷ starts_from (n + length t) targets

starts_push : (n : ℕ) (targets : List (List ℕ)) (t : List ℕ) → starts_from n (targets ++ t ∷ []) ≡ starts_from n targets ++ (n + length (concat targets)) ∷ []
starts_push n [] t = ap (λ x. x ∷ []) (let e : n ≡ n + 0 = omega arith in e)
starts_push n (u ∷ targets) t =
    let e : n + length u + length (concat targets) ≡ n + length (u ++ concat targets) = omega (arith, length-append u (concat targets)) in
    ap (λ x. n ∷ x) (starts_push (n + length u) targets t ∙ ap (λ x. starts_from (n + length u) targets ++ x ∷ []) e)

length-starts : (n : ℕ) (targets : List (List ℕ)) → length (starts_from n targets) ≡ length targets
length-starts n [] = refl
length-starts n (t ∷ targets) = ap suc (length-starts (n + length t) targets)

get_or-starts : (n : ℕ) (targets : List (List ℕ)) (i : ℕ) → i < length targets → get_or (starts_from n targets) i 0 ≡ n + length (concat (take i targets))
get_or-starts n [] i h = absurd (omega arith)
get_or-starts n (t ∷ targets) zero h = omega arith
get_or-starts n (t ∷ targets) (suc i) h = get_or-starts (n + length t) targets i (omega arith) ∙ omega (arith, length-append t (concat (take i targets)))

same_places : (xs ys : List ℕ) → length xs ≡ length ys → ((i : ℕ) → i < length xs → get_or xs i 0 ≡ get_or ys i 0) → xs ≡ ys
same_places [] [] n h = refl
same_places [] (y ∷ ys) n h = absurd (omega arith)
same_places (x ∷ xs) [] n h = absurd (omega arith)
same_places (x ∷ xs) (y ∷ ys) n h = let e = h 0 (omega arith) in let f = same_places xs ys (omega arith) (λ i l. h (suc i) (omega arith)) in cc

-- where each target but the first begins, the one before it ends
pub starts_offsets : (targets : List (List ℕ)) → 0 < length targets → drop 1 (starts_from 0 targets) ≡ offsets targets
starts_offsets [] h = absurd (omega arith)
starts_offsets (t ∷ targets) h =
    let n = length-starts (0 + length t) targets in
    let m = length-offsets (t ∷ targets) in
    same_places (starts_from (0 + length t) targets) (offsets (t ∷ targets)) (omega arith) (λ i l.
    let inside : i < length targets = omega arith in
    get_or-starts (0 + length t) targets i inside ∙ (let a = length-append t (concat (take i targets)) in let e : 0 + length t + length (concat (take i targets)) ≡ length (t ++ concat (take i targets)) = omega arith in e) ∙ sym (get_or-offsets (t ∷ targets) i (omega arith)))

concat_push : (targets : List (List ℕ)) (t : List ℕ) → concat (targets ++ t ∷ []) ≡ concat targets ++ t
concat_push [] t = bytes_end t
concat_push (u ∷ targets) t = ap (λ x. u ++ x) (concat_push targets t) ∙ sym (append_assoc u (concat targets) t)

-- The groups of the branch of all the pairs were written but for those left.
pub record Grown (all : Pairs) (edge_bytes starts target_bytes : List ℕ) (left : Pairs) : Type 0 where
  pub done : Pairs
  pub texts : List (List ℕ)
  pub low : ℕ
  pub whole : all ≡ done ++ left
  pub lists : ListEach simple_ascii edge_bytes texts done
  pub rise : Rise 0 low edge_bytes
  pub low_ascii : low ≤ 128
  pub from_low : FirstFrom low left
  pub bytes : target_bytes ≡ concat texts
  pub starts_are : starts ≡ starts_from 0 texts
  pub ascends : Ascends left
  pub ascii : AsciiKeys left

-- no pair ends here
abbrev pub NoneEnds : Pairs → Type 0
NoneEnds [] = Unit {0}
NoneEnds (([], v) ∷ pairs) = ⊥
NoneEnds ((b ∷ k, v) ∷ pairs) = NoneEnds pairs

first_zero : (pairs : Pairs) → NoneEnds pairs → FirstFrom 0 pairs
first_zero [] h = tt
first_zero (([], v) ∷ pairs) h = absurd h
first_zero ((b ∷ k, v) ∷ pairs) h = omega arith

grown_none : (all : Pairs) → NoneEnds all → Ascends all → AsciiKeys all → Grown all [] [] [] all
grown_none all none up ascii = record {
  done = [];
  texts = [];
  low = 0;
  whole = refl;
  lists = no_edge;
  rise = tt;
  low_ascii = omega arith;
  from_low = first_zero all none;
  bytes = refl;
  starts_are = refl;
  ascends = up;
  ascii = ascii;
}

-- the first key, if there is one, begins with another byte
abbrev pub FirstOther : ℕ → Pairs → Type 0
FirstOther b [] = Unit {0}
FirstOther b (([], v) ∷ pairs) = Unit {0}
FirstOther b ((c ∷ k, v) ∷ pairs) = c ≡ b → ⊥

last_from : (b : ℕ) (x : List ℕ × ℕ) (p more : Pairs) → Ascends (with_front b (x ∷ p) ++ more) → FirstFrom b more
last_from b x [] more up = first_from b b x.0 more (omega arith) up.0
last_from b x (y ∷ p) more up = last_from b y p more up.1

next_from : (b : ℕ) (more : Pairs) → FirstFrom b more → FirstOther b more → FirstFrom (suc b) more
next_from b [] from other = tt
next_from b (([], v) ∷ more) from other = absurd from
next_from b ((c ∷ k, v) ∷ more) from other = below_or b c from other
  where
    below_or : (a c : ℕ) → a ≤ c → (c ≡ a → ⊥) → suc a ≤ c
    below_or a c le ne = omega arith

-- the first group of the pairs left, and the pairs after it
pub record Group (b : ℕ) (p more left : Pairs) : Type 0 where
  pub pairs : left ≡ with_front b p ++ more
  pub some : p ≡ [] → ⊥
  pub other : FirstOther b more

module _ {all : Pairs} {edge_bytes starts target_bytes : List ℕ} {left : Pairs} (g : Grown all edge_bytes starts target_bytes left) {b : ℕ} {p more : Pairs} (h : Group b p more left) where
  parts_up : Ascends (with_front b p) × Ascends more
  parts_up = Ascends-parts (with_front b p) more (subst Ascends h.pairs g.ascends)

  parts_ascii : AsciiKeys (with_front b p) × AsciiKeys more
  parts_ascii = AsciiKeys-parts (with_front b p) more (subst AsciiKeys h.pairs g.ascii)

  pub group_up : Ascends p
  group_up = Ascends-behind b p parts_up.0

  pub group_ascii : AsciiKeys p
  group_ascii = AsciiKeys-behind b p parts_ascii.0

  pub group_lighter : weight p < weight all
  group_lighter =
      let a = ap weight g.whole ∙ weight-append g.done left in
      let c = ap weight h.pairs ∙ weight-append (with_front b p) more in
      let d = weight-front b p in
      let n = some_long p h.some in
      omega arith

  low_first : (q more' : Pairs) (low : ℕ) → (q ≡ [] → ⊥) → FirstFrom low (with_front b q ++ more') → low ≤ b
  low_first [] more' low some from = absurd (some refl)
  low_first (x ∷ q) more' low some from = from

  from_next : (q more' : Pairs) → (q ≡ [] → ⊥) → FirstOther b more' → Ascends (with_front b q ++ more') → FirstFrom (suc b) more'
  from_next [] more' some other up = absurd (some refl)
  from_next (x ∷ q) more' some other up = next_from b more' (last_from b x q more' up) other

  low_here : g.low ≤ b
  low_here = low_first p more g.low h.some (subst (FirstFrom g.low) h.pairs g.from_low)

  next_low : FirstFrom (suc b) more
  next_low = from_next p more h.some h.other (subst Ascends h.pairs g.ascends)

  group_residual : residual b all ≡ p
  group_residual =
      ap (residual b) (g.whole ∙ ap (λ x. g.done ++ x) h.pairs)
      ∙ residual-append b g.done (with_front b p ++ more)
      ∙ ap (λ x. x ++ residual b (with_front b p ++ more)) (residual_none g.lists b (member-past 0 g.low b edge_bytes g.rise low_here))
      ∙ residual-append b (with_front b p) more
      ∙ ap (λ x. x ++ residual b more) (residual-front b p)
      ∙ ap (λ x. p ++ x) (residual_above b (suc b) more (omega arith) next_low parts_up.1)
      ∙ nil_end p

  -- a group that is too wide
  pub group_wide : Overflows p → Overflows all
  group_wide = too_wide_front b all p group_residual

  -- one group more
  pub grown_more : (edge_bytes' starts' target_bytes' : List ℕ) → edge_bytes' ≡ edge_bytes ++ b ∷ [] → starts' ≡ starts ++ length target_bytes ∷ [] → Writes target_bytes target_bytes' p → Grown all edge_bytes' starts' target_bytes' more
  grown_more edge_bytes' starts' target_bytes' es ss w = record {
    done = g.done ++ with_front b p;
    texts = g.texts ++ w.text ∷ [];
    low = suc b;
    whole = g.whole ∙ ap (λ x. g.done ++ x) h.pairs ∙ sym (append_assoc g.done (with_front b p) more);
    lists = subst (λ x. ListEach simple_ascii x (g.texts ++ w.text ∷ []) (g.done ++ with_front b p)) (sym es) (each_push g.lists b w.text p (not_empty_text w.lists h.some) w.lists);
    rise = subst (Rise 0 (suc b)) (sym es) (Rise-push 0 g.low b edge_bytes g.rise (omega arith) low_here);
    low_ascii = front_ascii b p h.some parts_ascii.0;
    from_low = next_low;
    bytes = w.is ∙ ap (λ x. x ++ w.text) g.bytes ∙ sym (concat_push g.texts w.text);
    starts_are = ss ∙ ap (λ x. x ++ length target_bytes ∷ []) g.starts_are ∙ ap (λ n. starts_from 0 g.texts ++ n ∷ []) (let e = ap length g.bytes in let z : length target_bytes ≡ 0 + length (concat g.texts) = omega arith in z) ∙ sym (starts_push 0 g.texts w.text);
    ascends = parts_up.1;
    ascii = parts_ascii.1;
  }

two_edges : {es : List ℕ} {targets : List (List ℕ)} {pairs : Pairs} → ListEach simple_ascii es targets pairs → IsBranching pairs → 2 ≤ length es
two_edges no_edge branching = absurd (branching 0 [] refl)
two_edges (edge {e = e} {pairs = p} n text no_edge) branching = absurd (branching e p (nil_end (with_front e p)))
two_edges (edge n text (edge n' text' each)) branching = omega arith

module _ {all : Pairs} {edge_bytes starts target_bytes : List ℕ} (g : Grown all edge_bytes starts target_bytes []) (branching : IsBranching all) where
  all_lists : ListEach simple_ascii edge_bytes g.texts all
  all_lists = subst (ListEach simple_ascii edge_bytes g.texts) (sym (g.whole ∙ nil_end g.done)) g.lists

  rise_128 : Rise 0 128 edge_bytes
  rise_128 = Rise-higher 0 g.low 128 edge_bytes g.low_ascii g.rise

  rise_256 : Rise 0 256 edge_bytes
  rise_256 = Rise-higher 0 128 256 edge_bytes (omega arith) rise_128

  edges_rise : Rises simple_ascii edge_bytes
  edges_rise = rise_rises simple_ascii (λ b. refl) 0 256 edge_bytes rise_256

  two : 2 ≤ length edge_bytes
  two = two_edges all_lists branching

  -- the branch of all the groups
  pub grown_lists : length target_bytes < 2 ^ 32 → Lists simple_ascii (branch_node edge_bytes g.texts) all
  grown_lists narrow =
      let low : (i d : ℕ) → i < length edge_bytes → get_or edge_bytes i d < 128 = λ i d h. Rise-below 0 128 edge_bytes rise_128 i d h in
      let made = node_lists tt all_lists edges_rise low (each_count all_lists) (λ many. subst (λ x. length x < 2 ^ 32) g.bytes narrow) in
      subst (λ x. Lists simple_ascii x all) (node_many edge_bytes g.texts two) made.lists

  pub grown_targets : AreTargets g.texts edge_bytes (drop 1 starts) target_bytes
  grown_targets =
      let count = each_count all_lists in
      let some = two in
      record { count = count; offsets_are = ap (drop 1) g.starts_are ∙ starts_offsets g.texts (omega arith); bytes_are = g.bytes }

  -- the targets together are too wide
  pub grown_wide : 2 ^ 32 ≤ length target_bytes → Overflows all
  grown_wide h =
      let apart = rises_distinct simple_ascii edge_bytes edges_rise in
      let bytes = rise_bytes 0 edge_bytes rise_256 in
      let size = targets_each all_lists apart bytes ∙ ap length (sym g.bytes) in
      ([], (subst (λ n. 2 ≤ n) (sym (edges_count all_lists apart bytes)) two, subst (λ n. 2 ^ 32 ≤ n) (sym size) h))

  -- there is a first target
  pub grown_starts : 1 ≤ length starts
  grown_starts =
      let count = each_count all_lists in
      let most = two in
      let n = ap length g.starts_are ∙ length-starts 0 g.texts in
      omega arith

pub grown_start : (all : Pairs) (edge_bytes starts target_bytes : List ℕ) → edge_bytes ≡ [] → starts ≡ [] → target_bytes ≡ [] → NoneEnds all → Ascends all → AsciiKeys all → Grown all edge_bytes starts target_bytes all
grown_start all edge_bytes starts target_bytes a b c none up ascii =
    subst (λ x. Grown all x starts target_bytes all) (sym a) (subst (λ x. Grown all [] x target_bytes all) (sym b) (subst (λ x. Grown all [] [] x all) (sym c) (grown_none all none up ascii)))

-- a refusal of a group is one of all the pairs
pub refused_up : (all p : Pairs) (e : ZeroTrieBuildError) → (Overflows p → Overflows all) → CannotWrite p e → CannotWrite all e
refused_up all p e up r = elim r [ inl memory ↦ inl memory | inr wide ↦ inr (wide.0, up wide.1) ]

-- if no pairs are left, the text is whole
pub leads_end : (before out : List ℕ) (all left : Pairs) → left ≡ [] → WritesFront before all out left → Writes before out all
leads_end before out all left none l = l.finish out (subst (Writes out out) (sym none) (writes_nothing out))

-- the offsets and the targets as they are passed on
pub same_targets : (texts : List (List ℕ)) (es es' os os' ts ts' : List ℕ) → es ≡ es' → os ≡ os' → ts ≡ ts' → AreTargets texts es' os' ts' → AreTargets texts es os ts
same_targets texts es es' os os' ts ts' a b c h = record { count = h.count ∙ ap length (sym a); offsets_are = b ∙ h.offsets_are; bytes_are = c ∙ h.bytes_are }

-- a head, a table, offsets and targets are the branch
pub branch_written : (texts : List (List ℕ)) (es os ts head : List ℕ) (w : ℕ) → AreTargets texts es os ts → IsWidth (length ts) w → SpellsAs branch_form (256 * w + length es % 256) head
    → head ++ (es ++ (blocks (w + 1) os ++ ts)) ≡ branch_node es texts
branch_written texts es os ts head w t is spells =
    ap (λ x. head ++ (es ++ (blocks (w + 1) os ++ x))) t.bytes_are
    ∙ ap (λ x. head ++ (es ++ (blocks (w + 1) x ++ concat texts))) t.offsets_are
    ∙ front_written es head w (length es) texts t.count (subst (λ x. IsWidth (length x) w) t.bytes_are is) spells

-- a branch that is not written
pub refused_branch : (all : Pairs) (e : ZeroTrieBuildError) (total : ℕ) → (2 ^ 32 ≤ total → Overflows all) → (e ≡ OutOfMemory) ⊎ ((e ≡ CapacityExceeded) × (2 ^ 32 ≤ total)) → CannotWrite all e
refused_branch all e total up r = elim r [ inl memory ↦ inl memory | inr wide ↦ inr (wide.0, up wide.1) ]
