-- The node that bytes begin with, as a function.
use Rattle.std.proofs.Common.{◌≡◌, ℕ, suc, ◌+◌, ◌-◌, ◌*◌, ◌/◌, ◌%◌, ◌^◌, ◌<◌, ◌≤◌, List, [], ◌∷◌, ◌++◌, length, refl, sym, ◌∙◌, ap, subst, arith, Option, Some, None, cond, ltb, Bool, true, false, take, drop, inl, inr, length-append}
use Rattle.std.specs.Prelude.{◌&&◌, nat_lt, nat_le, ◌==◌, if◌then◌else◌}
use Rattle.std.proofs.lemmas.List.{take_at, drop_at, length-drop, length-take-le, take-append-drop}
use Rattle.std.proofs.lemmas.Bool.{ltb-true, ltb-false, lt-ltb, le-ltb, le-leb, leb-true, eq-eqb, ne_eqb, cases_lt, cases_eq}
use Rattle.zerotrie_base.specs.Kind.{Kind, has_spans, greatest_width}
use Rattle.zerotrie_base.specs.Numbers.{BeginsWith}
use Rattle.zerotrie_base.specs.Branches.{table_size, before_edges}
use Rattle.zerotrie_base.specs.Nodes.{Shape, Begins, targets_behind}
use Rattle.zerotrie_base.specs.Nodes.Shape.{value, literal, span, branch}
use Rattle.zerotrie_core.specs.listing.Listed.{trail_read, number_read, as_value, as_span, as_branch, is_whole, node_of}
use Rattle.zerotrie_base.proofs.NumberLemmas.Numbers.{IsBytes, read_from, read, read_alone, read_on, read_is, is_read, some_bytes, cons_parts}
use Rattle.zerotrie_base.proofs.MapLemmas.Kinds.{greatest_width_most}
use Rattle.zerotrie_base.proofs.NodeLemmas.Tables.{table_parts}
use Rattle.zerotrie_base.proofs.NodeLemmas.Nodes.{value_begins, span_begins, branch_begins}

trail_is : (L a : ℕ) (ts : List ℕ) → trail_read L a ts ≡ read_from L a ts
trail_is L a [] = refl
trail_is L a (t ∷ ts) = ap (λ x. cond (ltb t 128) (Some (128 * a + t % 128 + L, ts)) x) (trail_is L (128 * a + t % 128 + L) ts)

number_is : (L lead : ℕ) (rest : List ℕ) → number_read L lead rest ≡ read L lead rest
number_is L lead rest = elim (cases_eq (lead / L % 2) 0) [
  | inl none ↦ rw (eq-eqb (lead / L % 2) 0 none) (sym (read_alone L lead rest none))
  | inr some ↦ rw (ne_eqb (lead / L % 2) 0 some) (trail_is L (lead % L) rest ∙ sym (read_on L lead rest some))
]

-- a spelling at the front is the number that is read
number_at : (L metadata v lead : ℕ) (rest after : List ℕ) → BeginsWith L metadata v (lead ∷ rest) after → number_read L lead rest ≡ Some (v, after)
number_at L metadata v lead rest after b = number_is L lead rest ∙ read_is L metadata v lead rest after b

both : (a b : Bool) → a ≡ true → b ≡ true → (a && b) ≡ true
both true true p q = refl
both true false p q = absurd (cc)
both false b p q = absurd (cc)

-- the count of edges and the width that a head tells
head_edges : (n w : ℕ) → 2 ≤ n → n ≤ 256 → (if (256 * w + n % 256) % 256 == 0 then 256 else (256 * w + n % 256) % 256) ≡ n
head_edges n w two most = elim (cases_lt n 256) [
  | inl less ↦ let e : (256 * w + n % 256) % 256 ≡ n = omega arith in rw e (rw (ne_eqb n 0 (λ z. omega arith)) refl)
  | inr all ↦ let is : n ≡ 256 = omega arith in let e : (256 * w + n % 256) % 256 ≡ 0 = omega arith in rw e (sym is)
]

head_width : (n w : ℕ) → 1 ≤ w → (256 * (w - 1) + n % 256) / 256 + 1 ≡ w
head_width n w some = omega arith

whole : (kind : Kind) (n w : ℕ) (body : List ℕ) → 2 ≤ n → w ≤ greatest_width kind + 1 → table_size kind n + w * (n - 1) ≤ length body → is_whole kind n w body ≡ true
whole kind n w body two fits holds =
    both _ _ (both _ _ (le-leb 2 n two) (le-leb w (greatest_width kind + 1) fits)) (le-leb (table_size kind n + w * (n - 1)) (length body) holds)

-- bytes that begin with a node are read as it
pub node_begun : (kind : Kind) (bytes : List ℕ) (s : Shape) → Begins kind bytes s → node_of kind bytes ≡ Some s
node_begun kind [] (value v rest) b = absurd (some_bytes 16 4 v rest b)
node_begun kind [] (literal c rest) b = absurd (let e = b.1 in cc)
node_begun kind [] (span run rest) b = absurd (some_bytes 16 5 (length run) (run ++ rest) b.1)
node_begun kind [] (branch n w table behind) b = absurd (some_bytes 32 3 _ b.body b.begins)
node_begun kind (lead ∷ rest) (value v after) b =
    let bounds = value_begins v lead rest after b in
    let low : ltb lead 128 ≡ false = le-ltb lead 128 bounds.0 in
    let high : ltb lead 160 ≡ true = lt-ltb lead 160 bounds.1 in
    rw (low, high) (rw (number_at 16 4 v lead rest after b) (rw (lt-ltb v (2 ^ 64) b.spells.below) refl))
node_begun kind (lead ∷ rest) (literal c after) b =
    let parts = cons_parts lead c rest after b.1 in
    let low : ltb lead 128 ≡ true = lt-ltb lead 128 (omega (arith, parts.0, b.0)) in
    rw low (ap (λ x. Some (literal x rest)) parts.0 ∙ ap (λ x. Some (literal c x)) parts.1)
node_begun kind (lead ∷ rest) (span run after) b =
    let bounds = span_begins (length run) lead rest (run ++ after) b.1 in
    let low : ltb lead 128 ≡ false = le-ltb lead 128 (omega (arith, bounds.0)) in
    let mid : ltb lead 160 ≡ false = le-ltb lead 160 bounds.0 in
    let high : ltb lead 192 ≡ true = lt-ltb lead 192 bounds.1 in
    let all = length-append run after in
    let fits : (nat_lt (length run) (2 ^ 64) && nat_le (length run) (length (run ++ after))) ≡ true =
    both _ _ (lt-ltb (length run) (2 ^ 64) b.1.spells.below) (le-leb (length run) (length (run ++ after)) (omega arith)) in
    rw (low, mid, high, b.0) (rw (number_at 16 5 (length run) lead rest (run ++ after) b.1) (rw fits
    (ap (λ x. Some (span x (drop (length run) (run ++ after)))) (take_at run after (length run) refl) ∙ ap (λ x. Some (span run x)) (drop_at run after (length run) refl))))
node_begun kind (lead ∷ rest) (branch n w table behind) b =
    let low192 = branch_begins _ lead rest b.body b.begins in
    let low : ltb lead 128 ≡ false = le-ltb lead 128 (omega (arith, low192)) in
    let mid : ltb lead 160 ≡ false = le-ltb lead 160 (omega (arith, low192)) in
    let high : ltb lead 192 ≡ false = le-ltb lead 192 low192 in
    rw (low, mid, high) (rw (number_at 32 3 _ lead rest b.body b.begins)
    (rw (head_edges n (w - 1) b.two b.at_most, head_width n w b.some) (rw (whole kind n w b.body b.two b.fits b.holds)
    (ap (λ x. Some (branch n w x (drop (before_edges kind n) b.body))) (sym b.table_is) ∙ ap (λ x. Some (branch n w table x)) (sym b.behind_is)))))

-- a fact of the node, if there is one
abbrev pub InSome : {X : Type 0} → (X → Type 0) → Option X → Type 0
InSome Fact None = Unit {0}
InSome Fact (Some x) = Fact x

pub by_test : {X : Type 0} (Fact : X → Type 0) (b : Bool) (x y : X) → (b ≡ true → Fact x) → (b ≡ false → Fact y) → Fact (if b then x else y)
by_test Fact true x y f g = f refl
by_test Fact false x y f g = g refl

by_option : {X : Type 0} (Fact : Option X → Type 0) (r : Option X) → (r ≡ None → Fact None) → ((x : X) → r ≡ Some x → Fact (Some x)) → Fact r
by_option Fact None f g = f refl
by_option Fact (Some x) f g = g x refl

left_of : (a b : Bool) → (a && b) ≡ true → a ≡ true
left_of true b e = refl
left_of false b e = absurd (cc)

right_of : (a b : Bool) → (a && b) ≡ true → b ≡ true
right_of true b e = e
right_of false b e = absurd (cc)

-- A branch that is whole.
record IsWhole (kind : Kind) (n w : ℕ) (body : List ℕ) : Type 0 where
  two : 2 ≤ n
  fits : w ≤ greatest_width kind + 1
  holds : table_size kind n + w * (n - 1) ≤ length body

is_whole_so : (kind : Kind) (n w : ℕ) (body : List ℕ) → is_whole kind n w body ≡ true → IsWhole kind n w body
is_whole_so kind n w body e =
    let front = left_of (nat_le 2 n && nat_le w (greatest_width kind + 1)) _ e in
    record {
      two = leb-true 2 n (left_of (nat_le 2 n) _ front);
      fits = leb-true w (greatest_width kind + 1) (right_of (nat_le 2 n) _ front);
      holds = leb-true (table_size kind n + w * (n - 1)) (length body) (right_of (nat_le 2 n && nat_le w (greatest_width kind + 1)) _ e);
    }

abbrev edges_of : ℕ → ℕ
edges_of head = if head % 256 == 0 then 256 else head % 256

head_is : (head : ℕ) → (edges_of head ≤ 256) × (256 * (head / 256 + 1 - 1) + edges_of head % 256 ≡ head)
head_is head = elim (cases_eq (head % 256) 0) [
  | inl none ↦ rw (eq-eqb (head % 256) 0 none) (omega arith, omega arith)
  | inr some ↦ rw (ne_eqb (head % 256) 0 some) (omega arith, omega arith)
]

-- what is read begins the bytes, if it is below 2 ^ 64
abbrev IsReadOf : ℕ → ℕ → List ℕ → Option (ℕ × List ℕ) → Type 0
IsReadOf L lead rest = InSome (λ r. r.0 < 2 ^ 64 → BeginsWith L (lead / (2 * L)) r.0 (lead ∷ rest) r.1)

read_of_bytes : (L lead : ℕ) (rest : List ℕ) → 0 < L → IsBytes rest → IsReadOf L lead rest (number_read L lead rest)
read_of_bytes L lead rest some bytes =
    by_option (IsReadOf L lead rest) (number_read L lead rest) (λ _. tt)
    (λ r e below. is_read L r.0 lead rest r.1 some bytes below (sym (number_is L lead rest) ∙ e))

as_value_so : (kind : Kind) (lead : ℕ) (rest : List ℕ) (r : Option (ℕ × List ℕ)) → lead / 32 ≡ 4 → IsReadOf 16 lead rest r → InSome (Begins kind (lead ∷ rest)) (as_value r)
as_value_so kind lead rest None is h = tt
as_value_so kind lead rest (Some r) is h =
    by_test (InSome (Begins kind (lead ∷ rest))) (nat_lt r.0 (2 ^ 64)) (Some (value r.0 r.1)) None
    (λ e. subst (λ m. BeginsWith 16 m r.0 (lead ∷ rest) r.1) is (h (ltb-true r.0 (2 ^ 64) e))) (λ _. tt)

as_span_so : (kind : Kind) (lead : ℕ) (rest : List ℕ) (r : Option (ℕ × List ℕ)) → has_spans kind ≡ true → lead / 32 ≡ 5 → IsReadOf 16 lead rest r → InSome (Begins kind (lead ∷ rest)) (as_span r)
as_span_so kind lead rest None spans is h = tt
as_span_so kind lead rest (Some r) spans is h =
    by_test (InSome (Begins kind (lead ∷ rest))) (nat_lt r.0 (2 ^ 64) && nat_le r.0 (length r.1)) (Some (span (take r.0 r.1) (drop r.0 r.1))) None
    (λ e.
    let below = ltb-true r.0 (2 ^ 64) (left_of (nat_lt r.0 (2 ^ 64)) _ e) in
    let fits = leb-true r.0 (length r.1) (right_of (nat_lt r.0 (2 ^ 64)) _ e) in
    let len : length (take r.0 r.1) ≡ r.0 = length-take-le r.0 r.1 fits in (
      spans,
      subst (λ x. BeginsWith 16 5 (length (take r.0 r.1)) (lead ∷ rest) x) (sym (take-append-drop r.0 r.1))
          (subst (λ n. BeginsWith 16 5 n (lead ∷ rest) r.1) (sym len) (subst (λ m. BeginsWith 16 m r.0 (lead ∷ rest) r.1) is (h below))),
    ))
    (λ _. tt)

as_branch_so : (kind : Kind) (lead : ℕ) (rest : List ℕ) (r : Option (ℕ × List ℕ)) → lead / 64 ≡ 3 → IsReadOf 32 lead rest r → InSome (Begins kind (lead ∷ rest)) (as_branch kind r)
as_branch_so kind lead rest None is h = tt
as_branch_so kind lead rest (Some r) is h =
    let n = edges_of r.0 in
    let w = r.0 / 256 + 1 in
    by_test (InSome (Begins kind (lead ∷ rest))) (is_whole kind n w r.1) (Some (branch n w (take (table_size kind n) r.1) (drop (before_edges kind n) r.1))) None
    (λ e.
    let whole_is = is_whole_so kind n w r.1 e in
    let most = greatest_width_most kind in
    let fits = whole_is.fits in
    let head = head_is r.0 in
    let below : r.0 < 2 ^ 64 = omega arith in
    record {
      two = whole_is.two;
      at_most = head.0;
      some = omega arith;
      fits = fits;
      body = r.1;
      begins = subst (λ v. BeginsWith 32 3 v (lead ∷ rest) r.1) (sym head.1) (subst (λ m. BeginsWith 32 m r.0 (lead ∷ rest) r.1) is (h below));
      table_is = refl;
      behind_is = refl;
      holds = whole_is.holds;
    })
    (λ _. tt)

-- what is read is there
pub node_found : (kind : Kind) (bytes : List ℕ) → IsBytes bytes → InSome (Begins kind bytes) (node_of kind bytes)
node_found kind [] bytes = tt
node_found kind (lead ∷ rest) bytes =
    let Fact : Option Shape → Type 0 = InSome (Begins kind (lead ∷ rest)) in
    let below : lead < 256 = bytes 0 in
    let more : IsBytes rest = λ i. bytes (suc i) in
    by_test Fact (nat_lt lead 128) _ _ (λ low. (ltb-true lead 128 low, refl)) (λ from128.
    by_test Fact (nat_lt lead 160) _ _
    (λ low. as_value_so kind lead rest (number_read 16 lead rest) (let a = ltb-false lead 128 from128 in let b = ltb-true lead 160 low in omega arith) (read_of_bytes 16 lead rest (omega arith) more))
    (λ from160. by_test Fact (nat_lt lead 192) _ _
    (λ low. by_test Fact (has_spans kind) _ _
    (λ spans. as_span_so kind lead rest (number_read 16 lead rest) spans (let a = ltb-false lead 160 from160 in let b = ltb-true lead 192 low in omega arith) (read_of_bytes 16 lead rest (omega arith) more)) (λ _. tt))
    (λ from192. as_branch_so kind lead rest (number_read 32 lead rest) (let a = ltb-false lead 192 from192 in omega arith) (read_of_bytes 32 lead rest (omega arith) more))))

-- if no node begins, none is read
pub none_begun : (kind : Kind) (bytes : List ℕ) → IsBytes bytes → ((s : Shape) → Begins kind bytes s → ⊥) → node_of kind bytes ≡ None
none_begun kind bytes is none = by_option (λ r. InSome (Begins kind bytes) r → r ≡ None) (node_of kind bytes) (λ _ _. refl) (λ s _ b. absurd (none s b)) (node_found kind bytes is)

-- what stands after a node is shorter than n bytes; with the edges, a branch and its targets are
abbrev pub Within : ℕ → Shape → Type 0
Within n (value v rest) = length rest < n
Within n (literal b rest) = length rest < n
Within n (span run rest) = length rest < n
Within n (branch edges w table behind) = edges + length (targets_behind edges w behind) + 1 < n

abbrev NoLonger : ℕ → Option (ℕ × List ℕ) → Type 0
NoLonger n = InSome (λ r. length r.1 ≤ n)

longer : (n : ℕ) (r : Option (ℕ × List ℕ)) → NoLonger n r → NoLonger (suc n) r
longer n None h = tt
longer n (Some r) h = omega arith

trail_shorter : (L a : ℕ) (ts : List ℕ) → NoLonger (length ts) (trail_read L a ts)
trail_shorter L a [] = tt
trail_shorter L a (t ∷ ts) =
    by_test (NoLonger (suc (length ts))) (nat_lt t 128) (Some (128 * a + t % 128 + L, ts)) (trail_read L (128 * a + t % 128 + L) ts) (λ _. omega arith)
    (λ _. longer (length ts) _ (trail_shorter L (128 * a + t % 128 + L) ts))

number_shorter : (L lead : ℕ) (rest : List ℕ) → NoLonger (length rest) (number_read L lead rest)
number_shorter L lead rest =
    by_test (NoLonger (length rest)) (lead / L % 2 == 0) (Some (lead % L, rest)) (trail_read L (lead % L) rest) (λ _. omega arith) (λ _. trail_shorter L (lead % L) rest)

value_within : (n : ℕ) (r : Option (ℕ × List ℕ)) → NoLonger n r → InSome (Within (suc n)) (as_value r)
value_within n None h = tt
value_within n (Some r) h = by_test (InSome (Within (suc n))) (nat_lt r.0 (2 ^ 64)) (Some (value r.0 r.1)) None (λ _. omega arith) (λ _. tt)

span_within : (n : ℕ) (r : Option (ℕ × List ℕ)) → NoLonger n r → InSome (Within (suc n)) (as_span r)
span_within n None h = tt
span_within n (Some r) h =
    by_test (InSome (Within (suc n))) (nat_lt r.0 (2 ^ 64) && nat_le r.0 (length r.1)) (Some (span (take r.0 r.1) (drop r.0 r.1))) None (λ _. let len = length-drop r.0 r.1 in omega arith) (λ _. tt)

some_offsets : (w n : ℕ) → 2 ≤ n → 1 ≤ (w + 1) * (n - 1)
some_offsets w n two = omega arith

branch_within : (kind : Kind) (n : ℕ) (r : Option (ℕ × List ℕ)) → NoLonger n r → InSome (Within (suc n)) (as_branch kind r)
branch_within kind n None h = tt
branch_within kind n (Some r) h =
    let e = edges_of r.0 in
    let w = r.0 / 256 + 1 in
    by_test (InSome (Within (suc n))) (is_whole kind e w r.1) (Some (branch e w (take (table_size kind e) r.1) (drop (before_edges kind e) r.1))) None
    (λ t.
    let whole_is = is_whole_so kind e w r.1 t in
    let holds = whole_is.holds in
    let behind = drop (before_edges kind e) r.1 in
    let a = length-drop (before_edges kind e) r.1 in
    let b = length-drop e behind in
    let c = length-drop (w * (e - 1)) (drop e behind) in
    let parts = table_parts kind e in
    let some = some_offsets (r.0 / 256) e whole_is.two in
    omega arith)
    (λ _. tt)

pub node_within : (kind : Kind) (bytes : List ℕ) → InSome (Within (length bytes)) (node_of kind bytes)
node_within kind [] = tt
node_within kind (lead ∷ rest) =
    let n = length rest in
    let Fact : Option Shape → Type 0 = InSome (Within (suc n)) in
    by_test Fact (nat_lt lead 128) _ _ (λ low. omega arith) (λ _.
    by_test Fact (nat_lt lead 160) _ _ (λ _. value_within n (number_read 16 lead rest) (number_shorter 16 lead rest)) (λ _.
    by_test Fact (nat_lt lead 192) _ _
    (λ _. by_test Fact (has_spans kind) _ _ (λ _. span_within n (number_read 16 lead rest) (number_shorter 16 lead rest)) (λ _. tt))
    (λ _. branch_within kind n (number_read 32 lead rest) (number_shorter 32 lead rest))))

-- if bytes have no node, none begins
pub nothing_begins : (kind : Kind) (bytes : List ℕ) → node_of kind bytes ≡ None → (s : Shape) → Begins kind bytes s → ⊥
nothing_begins kind bytes none s b = let is = node_begun kind bytes s b in cc
