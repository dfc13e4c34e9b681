-- The texts of siblings, and how many of them wait.
use Rattle.std.proofs.Common.{◌≡◌, ℕ, zero, suc, ◌+◌, ◌^◌, ◌<◌, ◌≤◌, ◌⊎◌, inl, inr, List, [], ◌∷◌, ◌++◌, length, refl, sym, ◌∙◌, ap, subst, arith, map, take, get_or, append_assoc, length-append}
use Rattle.std.proofs.lemmas.Bool.{cases_lt}
use Rattle.std.specs.List.{concat}
use Rattle.zerotrie_base.specs.Kind.{Kind, fold_byte}
use Rattle.zerotrie_base.specs.Maps.{Pairs, with_front, with_run, behind_all, edges}
use Rattle.zerotrie_base.specs.Branches.{total}
use Rattle.zerotrie_base.specs.Texts.{ListEach}
use Rattle.zerotrie_base.specs.Texts.ListEach.{no_edge, edge}
use Rattle.zerotrie_base.specs.Stack.{branch_need, stack_of}
use Rattle.zerotrie_base.proofs.CallerLemmas.{Rises, AllAbove, behind_all-nil, lists_some, edge_once, residual_first, residual_later, not_first, branch_agree, above, above_edge}
use Rattle.zerotrie_build.specs.declared.array.text.Sibling.{Sibling}
use Rattle.zerotrie_build.specs.array.Texts.{Counts, bytes_of, lens_of}
use Rattle.zerotrie_build.specs.array.Growing.{DepthsBelow, NoneAt, AllAt, ComesBefore, Aside, SomeBegins, AreAmong}
use Rattle.zerotrie_build.proofs.Runs.{with_run-push, behind_all-other}
use Rattle.zerotrie_build.proofs.ArrayLemmas.Text.{total_first}
use Rattle.zerotrie_build.proofs.ArrayLemmas.Runs.{with_run-append, behind_all-append, among_left, among_right, leads_run, leads_edge, beside, beside_more, beside_within}

pub next_below : (kind : Kind) (d : ℕ) (s : Sibling) (siblings : List Sibling) → s.depth < d → ComesBefore kind s siblings → DepthsBelow d siblings
next_below kind d s [] h b = tt
next_below kind d s (t ∷ siblings) h b = elim b [ inl less ↦ omega arith | inr same ↦ let e = same.0 in omega arith ]

pub below_here : (d : ℕ) (siblings : List Sibling) → NoneAt d siblings → DepthsBelow (suc d) siblings → DepthsBelow d siblings
below_here d [] n h = tt
below_here d (s ∷ siblings) n h = omega (arith, n)

-- Up to this depth the siblings of one key are siblings of another that is as low there.
pub moved : (kind : Kind) (k : ℕ) (key other : List ℕ) (d : ℕ) (siblings : List Sibling) (bytes : List ℕ) (pairs : Pairs) → d ≤ length other
    → ((j : ℕ) → j < d → take j other ≡ take j key) → ((j : ℕ) → j < d → fold_byte kind (get_or other j 0) ≤ fold_byte kind (get_or key j 0))
    → DepthsBelow d siblings → Aside kind k key siblings bytes pairs → Aside kind k other siblings bytes pairs
moved kind k key other d [] bytes pairs within same low below aside = aside
moved kind k key other d (s ∷ siblings) bytes pairs within same low below aside =
    let a = aside.1 in (
      aside.0,
      record {
        text = a.text;
        rest = a.rest;
        inner = a.inner;
        others = a.others;
        within = omega arith;
        above = let l = low s.depth below in let h = a.above in omega arith;
        low = a.low;
        some = a.some;
        lists = a.lists;
        counts = a.counts;
        enough = a.enough;
        behind = moved kind k key other d siblings a.rest a.others within same low (next_below kind d s siblings below aside.0) a.behind;
        bytes_are = a.bytes_are;
        pairs_are = a.pairs_are ∙ ap (λ run. with_run (run ++ s.byte ∷ []) a.inner ++ a.others) (sym (same s.depth below));
      },
    )

-- the siblings that lie before a depth list nothing after that depth's front
pub nothing_aside : (kind : Kind) (k : ℕ) (key : List ℕ) (d : ℕ) (siblings : List Sibling) (bytes : List ℕ) (pairs : Pairs) → d ≤ length key → DepthsBelow d siblings → Aside kind k key siblings bytes pairs
    → behind_all (take d key) pairs ≡ []
nothing_aside kind k key d [] bytes pairs within below aside = ap (behind_all (take d key)) aside.1 ∙ behind_all-nil (take d key)
nothing_aside kind k key d (s ∷ siblings) bytes pairs within below aside =
    let a = aside.1 in
    ap (behind_all (take d key)) a.pairs_are
    ∙ behind_all-append (take d key) (with_run (take s.depth key ++ s.byte ∷ []) a.inner) a.others
    ∙ ap (λ x. x ++ behind_all (take d key) a.others) (behind_all-other key s.depth d s.byte a.inner below within (λ e. let f = ap (fold_byte kind) e in let h = a.above in omega arith))
    ∙ nothing_aside kind k key d siblings a.rest a.others within (next_below kind d s siblings below aside.0) a.behind

-- the fold of the byte of the first sibling, if there is one, is above this one
abbrev pub FirstFrom : Kind → ℕ → List Sibling → Type 0
FirstFrom kind low [] = Unit {0}
FirstFrom kind low (s ∷ siblings) = low < fold_byte kind s.byte

-- counts of texts, and of them together
pub counts_more : (a b m n : ℕ) → Counts a m → Counts b n → Counts (a + b) (m + n)
counts_more a b m n p q = record {
  small = λ h. let x = p.small (omega arith) in let y = q.small (omega arith) in omega arith;
  large = λ h. elim (cases_lt a (2 ^ 32)) [
    | inr large ↦ let x = p.large large in omega arith
    | inl small ↦ elim (cases_lt b (2 ^ 32)) [
      | inr large ↦ let y = q.large large in omega arith
      | inl too ↦ let x = p.small small in let y = q.small too in omega arith
    ]
  ];
}

pub counts_same : (a m n : ℕ) → m ≡ n → Counts a m → Counts a n
counts_same a m n e = subst (Counts a) e

-- the siblings at one depth, as the targets of a branch, and what stands after them
pub record Gathered (kind : Kind) (k : ℕ) (key : List ℕ) (d low : ℕ) (taken after : List Sibling) (rest : List ℕ) (others : Pairs) : Type 0 where
  pub targets : List (List ℕ)
  pub node : Pairs
  pub rest_after : List ℕ
  pub others_after : Pairs
  pub each : ListEach kind (bytes_of taken) targets node
  pub above : AllAbove kind low (bytes_of taken)
  pub rises : Rises kind (bytes_of taken)
  pub ascii : (i e : ℕ) → i < length (bytes_of taken) → get_or (bytes_of taken) i e < 128
  pub count : length targets ≡ length (bytes_of taken)
  pub counts : Counts (total (lens_of taken)) (length (concat targets))
  pub lens : total (lens_of taken) < 2 ^ 32 → map length targets ≡ lens_of taken
  pub enough : length (taken ++ after) ≤ k → length after + branch_need (stack_of kind) node (bytes_of taken) ≤ k
  pub aside : Aside kind k key after rest_after others_after
  pub rest_is : rest ≡ concat targets ++ rest_after
  pub others_are : others ≡ with_run (take d key) node ++ others_after

first_of_rest : (kind : Kind) (d : ℕ) (s : Sibling) (taken after : List Sibling) → s.depth ≡ d → AllAt d taken → ComesBefore kind s (taken ++ after) → FirstFrom kind (fold_byte kind s.byte) taken
first_of_rest kind d s [] after e level b = tt
first_of_rest kind d s (t ∷ taken) after e level b =
    elim b [ inl less ↦ let f = level.0 in absurd (omega arith) | inr same ↦ same.1 ]

above_lower : (kind : Kind) (x y : ℕ) (es : List ℕ) → x < y → AllAbove kind y es → AllAbove kind x es
above_lower kind x y [] h a = tt
above_lower kind x y (e ∷ es) h a = (omega (arith, a.0), above_lower kind x y es h a.1)

pub each_low : {b : ℕ} (es : List ℕ) → b < 128 → ((i e : ℕ) → i < length es → get_or es i e < 128) → (i e : ℕ) → i < length (b ∷ es) → get_or (b ∷ es) i e < 128
each_low es l h zero e g = l
each_low es l h (suc i) e g = h i e (let k : suc i < suc (length es) = g in omega arith)

-- the need of a branch with one edge more in front
pub need_more : {es : List ℕ} {targets : List (List ℕ)} {node : Pairs} (kind : Kind) (b : ℕ) (inner : Pairs) (base k : ℕ) → ListEach kind es targets node → AllAbove kind (fold_byte kind b) es
    → base + (1 + length es) ≤ k → base + length es + stack_of kind inner ≤ k → base + branch_need (stack_of kind) node es ≤ k → base + branch_need (stack_of kind) (with_front b inner ++ node) (b ∷ es) ≤ k
need_more {es = es} {node = node} kind b inner base k each above all first rest =
    let out = edge_once kind b es above in
    let here = ap (stack_of kind) (residual_first b inner each out) in
    let later = branch_agree (stack_of kind) (stack_of kind) (with_front b inner ++ node) node es (λ c h. ap (stack_of kind) (residual_later c b inner node (not_first b c es out h))) in
    omega arith

bytes-length : (ss : List Sibling) → length (bytes_of ss) ≡ length ss
bytes-length [] = refl
bytes-length (s ∷ ss) = ap suc (bytes-length ss)

first_len : (s : Sibling) (m : ℕ) (text : List ℕ) → Counts s.len (length text) → s.len + m < 2 ^ 32 → length text ≡ s.len
first_len s m text c h = let e = c.small (omega arith) in omega arith

pub gather : (kind : Kind) (k : ℕ) (key : List ℕ) (d low : ℕ) (taken after : List Sibling) (rest : List ℕ) (others : Pairs) → AllAt d taken → FirstFrom kind low taken → Aside kind k key (taken ++ after) rest others
    → Gathered kind k key d low taken after rest others
gather kind k key d low [] after rest others level first aside = record {
  targets = [];
  node = [];
  rest_after = rest;
  others_after = others;
  each = no_edge;
  above = tt;
  rises = tt;
  ascii = λ i e h. absurd (let g : i < 0 = h in omega arith);
  count = refl;
  counts = record { small = λ h. refl; large = λ h. h };
  lens = λ h. refl;
  enough = λ h. omega arith;
  aside = aside;
  rest_is = refl;
  others_are = refl;
}
gather kind k key d low (s ∷ taken) after rest others level first aside =
    let a = aside.1 in
    let g = gather kind k key d (fold_byte kind s.byte) taken after a.rest a.others level.1 (first_of_rest kind d s taken after level.0 level.1 aside.0) a.behind in
    let sum = total_first s.len (lens_of taken) in
    record {
      targets = a.text ∷ g.targets;
      node = with_front s.byte a.inner ++ g.node;
      rest_after = g.rest_after;
      others_after = g.others_after;
      each = edge a.some a.lists g.each;
      above = (first, above_lower kind low (fold_byte kind s.byte) (bytes_of taken) first g.above);
      rises = (g.above, g.rises);
      ascii = each_low (bytes_of taken) a.low g.ascii;
      count = ap suc g.count;
      counts = subst (λ x. Counts x (length (a.text ++ concat g.targets))) (sym sum)
          (counts_same _ _ _ (sym (length-append a.text (concat g.targets))) (counts_more s.len (total (lens_of taken)) (length a.text) (length (concat g.targets)) a.counts g.counts));
      lens = λ h.
          ap (λ n. n ∷ map length g.targets) (first_len s (total (lens_of taken)) a.text a.counts (omega arith))
          ∙ ap (λ ns. s.len ∷ ns) (g.lens (omega arith));
      enough = λ h.
          need_more kind s.byte a.inner (length after) k g.each g.above
          (let b = bytes-length taken in let e = length-append taken after in omega arith)
          (let b = bytes-length taken in let e = length-append taken after in let n = a.enough in omega arith)
          (g.enough (let e = length-append taken after in omega arith));
      aside = g.aside;
      rest_is = a.bytes_are ∙ ap (λ r. a.text ++ r) g.rest_is ∙ sym (append_assoc a.text (concat g.targets) g.rest_after);
      others_are =
          a.pairs_are
          ∙ ap (λ j. with_run (take j key ++ s.byte ∷ []) a.inner ++ a.others) level.0
          ∙ ap (λ x. x ++ a.others) (with_run-push (take d key) s.byte a.inner)
          ∙ ap (λ o. with_run (take d key) (with_front s.byte a.inner) ++ o) g.others_are
          ∙ sym (append_assoc (with_run (take d key) (with_front s.byte a.inner)) (with_run (take d key) g.node) g.others_after)
          ∙ ap (λ x. x ++ g.others_after) (sym (with_run-append (take d key) (with_front s.byte a.inner) g.node));
    }

-- the first sibling stands above the key at this depth or lies lower
abbrev pub AboveAt : Kind → ℕ → ℕ → List Sibling → Type 0
AboveAt kind d low [] = Unit {0}
AboveAt kind d low (s ∷ siblings) = ((s.depth ≡ d) × (fold_byte kind low < fold_byte kind s.byte)) ⊎ (s.depth < d)

-- after one sibling, the next one is so beside it
next_above : (kind : Kind) (s : Sibling) (siblings : List Sibling) → ComesBefore kind s siblings → AboveAt kind s.depth s.byte siblings
next_above kind s [] b = tt
next_above kind s (t ∷ siblings) b = elim b [ inl less ↦ inr less | inr same ↦ inl (same.0, same.1) ]

-- As many siblings wait as there are edges above the key, at this depth and beside the front.
pub waiting : (kind : Kind) (k : ℕ) (key : List ℕ) (d low : ℕ) (siblings : List Sibling) (bytes : List ℕ) (others all : Pairs) → d < length key → AboveAt kind d low siblings → Aside kind k key siblings bytes others
    → AreAmong others all → length siblings ≤ beside kind (take d key) all + above kind low (edges (behind_all (take d key) all))
waiting kind k key d low [] bytes others all within up aside among = omega arith
waiting kind k key d low (s ∷ siblings) bytes others all within up aside among =
    let a = aside.1 in
    let some : a.inner ≡ [] → ⊥ = lists_some a.lists a.some in
    let here : SomeBegins all (take s.depth key) s.byte =
    among (take s.depth key) s.byte (subst (λ p. SomeBegins p (take s.depth key) s.byte) (sym a.pairs_are)
    (among_left (with_run (take s.depth key ++ s.byte ∷ []) a.inner) a.others (take s.depth key) s.byte (leads_run (take s.depth key) s.byte a.inner some))) in
    let low_byte = a.low in
    let there = leads_edge all (take s.depth key) s.byte (omega arith) here in
    let rest = waiting kind k key s.depth s.byte siblings a.rest a.others all a.within (next_above kind s siblings aside.0) a.behind
    (λ front b h. among front b (subst (λ p. SomeBegins p front b) (sym a.pairs_are) (among_right (with_run (take s.depth key ++ s.byte ∷ []) a.inner) a.others front b h))) in
    elim up [
      | inl at ↦
          let one = above_edge kind (behind_all (take s.depth key) all) low s.byte at.1 there in
          subst (λ e. suc (length siblings) ≤ beside kind (take e key) all + above kind low (edges (behind_all (take e key) all))) at.0 (omega arith)
      | inr less ↦
          let one = above_edge kind (behind_all (take s.depth key) all) (get_or key s.depth 0) s.byte a.above there in
          let step = beside_more kind key s.depth all a.within in
          let up_to = beside_within kind key (suc s.depth) d all less in
          omega arith
    ]
