-- The text of an ASCII kind is the canonical one.
use Rattle.std.proofs.Common.{◌≡◌, ℕ, zero, suc, ◌<◌, ◌≤◌, List, [], ◌∷◌, ◌++◌, length, refl, sym, ◌∙◌, ap, subst, arith, inl, inr, map, Bool, true, false, get_or, None}
use Rattle.std.specs.List.{concat}
use Rattle.std.proofs.lemmas.Bool.{cases_lt}
use Rattle.std.proofs.lemmas.Bool.Decides.{eqb_tells}
use Rattle.zerotrie_base.specs.Kind.{Kind, simple_ascii, ignore_case, perfect_hash, extended_capacity, IsAscii, fold_byte, ordered, sorted_by}
use Rattle.zerotrie_base.specs.Numbers.{value_form, spelled_as}
use Rattle.zerotrie_base.specs.Maps.{Pairs, with_front, begins_some, edges, residual, value_at}
use Rattle.zerotrie_base.specs.Branches.{IsBranch, branch_front}
use Rattle.zerotrie_base.specs.Texts.{Lists, ListEach, NoValueFirst}
use Rattle.zerotrie_base.specs.Texts.Lists.{nothing, value, literal, span, branch}
use Rattle.zerotrie_base.specs.Texts.ListEach.{no_edge, edge}
use Rattle.zerotrie_base.specs.Canonical.{enc_to, node, branch_node, value_node}
use Rattle.zerotrie_base.proofs.MapLemmas.Edges.{Rise, member, member_head, member_later, member_other, begins_some-append, begins_some-front, residual-append, residual-front, residual-other, edges_front, edges_none, edges_value}
use Rattle.zerotrie_base.proofs.MapLemmas.Ordered.{ordered_is, sorted_is, edges_rise, member-edges, member-edges_past, not_member}
use Rattle.zerotrie_base.proofs.NumberLemmas.Numbers.{extender_one}
use Rattle.zerotrie_base.proofs.MapLemmas.Kinds.{ascii_sorted, ascii_spanless, edge_limit_to}
use Rattle.zerotrie_base.proofs.NodeLemmas.Tables.{Distinct, Rises, AllAbove, table_rises, table_is_edges}
use Rattle.zerotrie_base.proofs.MapLemmas.Values.{value_at-no_key, behind_none}
use Rattle.zerotrie_base.proofs.MapLemmas.Spans.{run_none, value_at-no_run}
use Rattle.zerotrie_base.proofs.MapLemmas.Alike.{some_pair, begins_behind}
use Rattle.zerotrie_base.proofs.NumberLemmas.Spellings.{spelling_is}
use Rattle.zerotrie_base.proofs.NodeLemmas.Fronts.{branch_is_front, node_many}

-- each key is shorter than d
abbrev pub Shorter : ℕ → Pairs → Type 0
Shorter d [] = Unit {0}
Shorter d (e ∷ pairs) = (length e.0 < d) × Shorter d pairs

pub Shorter-front : (d b : ℕ) (pairs : Pairs) → Shorter (suc d) (with_front b pairs) → Shorter d pairs
Shorter-front d b [] h = tt
Shorter-front d b (e ∷ pairs) h = (omega (arith, h.0), Shorter-front d b pairs h.1)

pub Shorter-parts : (d : ℕ) (xs ys : Pairs) → Shorter d (xs ++ ys) → Shorter d xs × Shorter d ys
Shorter-parts d [] ys h = (tt, h)
Shorter-parts d (e ∷ xs) ys h = let r = Shorter-parts d xs ys h.1 in ((h.0, r.0), r.1)

pub front_none : (b : ℕ) (pairs : Pairs) → with_front b pairs ≡ [] → pairs ≡ []
front_none b [] e = refl
front_none b (x ∷ pairs) e = absurd (cc)

append_none : (xs ys : Pairs) → xs ++ ys ≡ [] → xs ≡ []
append_none [] ys e = refl
append_none (x ∷ xs) ys e = absurd (cc)

no_edges : {kind : Kind} {es : List ℕ} {targets : List (List ℕ)} {bytes : List ℕ} → IsBranch kind es targets bytes → es ≡ [] → ⊥
no_edges b e = let two = b.two in let n = ap length e in omega arith

-- bytes that are there list some pair
mutual
  pub lists_some : {kind : Kind} {bytes : List ℕ} {pairs : Pairs} → Lists kind bytes pairs → (bytes ≡ [] → ⊥) → pairs ≡ [] → ⊥
  lists_some nothing some none = some refl
  lists_some (value s n text) some none = absurd (cc)
  lists_some (literal {b = b} {pairs = p} low n text) some none = lists_some text n (front_none b p none)
  lists_some (span {pairs = p} run h there high s n f text) some none = lists_some text n (run_none run p none)
  lists_some (branch b each) some none = each_some each (no_edges b) none

  each_some : {kind : Kind} {es : List ℕ} {targets : List (List ℕ)} {pairs : Pairs} → ListEach kind es targets pairs → (es ≡ [] → ⊥) → pairs ≡ [] → ⊥
  each_some no_edge some none = some refl
  each_some (edge {e = e} {pairs = p} {more = m} n text each) some none = lists_some text n (front_none e p (append_none (with_front e p) m none))

pub begins_each : {kind : Kind} {es : List ℕ} {targets : List (List ℕ)} {pairs : Pairs} → ListEach kind es targets pairs → (b : ℕ) → begins_some pairs b ≡ member b es
begins_each no_edge b = refl
begins_each (edge {e = e} {pairs = p} {more = m} n text each) b =
    begins_some-append (with_front e p) m b ∙ rw (begins_some-front e b p (lists_some text n), begins_each each b) refl

pub branch_rises : {kind : Kind} {es : List ℕ} {targets : List (List ℕ)} {bytes : List ℕ} → IsAscii kind → IsBranch kind es targets bytes → Rises kind es
branch_rises {kind = kind} {es = es} ascii b = table_rises (ascii_sorted kind ascii (length es)) b.is_table

-- each of the edges is a byte
abbrev pub Bytes : List ℕ → Type 0
Bytes es = (b : ℕ) → member b es ≡ true → b < 256

pub bytes_all : (es : List ℕ) → ((i d : ℕ) → i < length es → get_or es i d < 256) → Bytes es
bytes_all [] h b is = absurd (cc)
bytes_all (e ∷ es) h b is = elim (eqb_tells e b) [
  | inl same ↦ let first = h 0 0 (omega arith) in let s = same.1 in omega arith
  | inr other ↦ bytes_all es (λ i d l. h (suc i) d (omega arith)) b (sym (member_other b e es other.1) ∙ is)
]

pub rise_bytes : (low : ℕ) (es : List ℕ) → Rise low 256 es → Bytes es
rise_bytes low [] rise b is = absurd (cc)
rise_bytes low (e ∷ es) rise b is = elim (eqb_tells e b) [
  | inl same ↦ let s = same.1 in omega (arith, rise.1)
  | inr other ↦ rise_bytes (suc e) es rise.2 b (sym (member_other b e es other.1) ∙ is)
]

pub branch_bytes : {kind : Kind} {es : List ℕ} {targets : List (List ℕ)} {bytes : List ℕ} → IsBranch kind es targets bytes → Bytes es
branch_bytes {kind = kind} {es = es} b = let most = edge_limit_to kind in bytes_all es (λ i d h. let low = b.edge_bytes i d h in omega arith)

no_byte : (is : Bool) (b : ℕ) → 256 ≤ b → (is ≡ true → b < 256) → is ≡ false
no_byte true b high h = absurd (let low = h refl in omega arith)
no_byte false b high h = refl

-- the edges of a branch are the first bytes of its pairs
members_each : {kind : Kind} {es : List ℕ} {targets : List (List ℕ)} {pairs : Pairs} → ListEach kind es targets pairs → Bytes es → (b : ℕ) → member b (edges pairs) ≡ member b es
members_each {es = es} {pairs = pairs} each bytes b =
    elim (cases_lt b 256) [
      | inl low ↦ member-edges pairs b low ∙ begins_each each b
      | inr high ↦ member-edges_past pairs b high ∙ sym (no_byte (member b es) b high (bytes b))
    ]

-- ascending by byte, or, if they rise, in the order of the kind
pub edges_sorted : {kind : Kind} {es : List ℕ} {targets : List (List ℕ)} {pairs : Pairs} → ListEach kind es targets pairs → Distinct kind es → Bytes es → edges pairs ≡ sorted_by (λ b. b) es
edges_sorted {kind = kind} {es = es} {pairs = pairs} each apart bytes = sorted_is kind 0 256 (edges pairs) es (edges_rise pairs) apart (members_each each bytes)

pub edges_listed : {kind : Kind} {es : List ℕ} {targets : List (List ℕ)} {pairs : Pairs} → ListEach kind es targets pairs → Rises kind es → Bytes es → ordered kind (edges pairs) ≡ es
edges_listed {kind = kind} {es = es} {pairs = pairs} each rises bytes = ordered_is kind 0 256 (edges pairs) es (edges_rise pairs) rises (members_each each bytes)

ordered_none : (kind : Kind) → ordered kind [] ≡ []
ordered_none simple_ascii = refl
ordered_none ignore_case = refl
ordered_none perfect_hash = refl
ordered_none extended_capacity = refl

ordered_one : (kind : Kind) (b : ℕ) → ordered kind (b ∷ []) ≡ b ∷ []
ordered_one simple_ascii b = refl
ordered_one ignore_case b = refl
ordered_one perfect_hash b = refl
ordered_one extended_capacity b = refl

pub ordered_front : (kind : Kind) (b : ℕ) (pairs : Pairs) → b < 256 → (pairs ≡ [] → ⊥) → ordered kind (edges (with_front b pairs)) ≡ b ∷ []
ordered_front kind b pairs low some = ap (ordered kind) (edges_front b pairs low some) ∙ ordered_one kind b

pub no_edge_ordered : (kind : Kind) → ordered kind (edges []) ≡ []
no_edge_ordered kind = ap (ordered kind) edges_none ∙ ordered_none kind

pub nil_end : (pairs : Pairs) → pairs ++ [] ≡ pairs
nil_end [] = refl
nil_end (e ∷ pairs) = ap (λ x. e ∷ x) (nil_end pairs)

pub bytes_end : (bytes : List ℕ) → bytes ++ [] ≡ bytes
bytes_end [] = refl
bytes_end (e ∷ bytes) = ap (λ x. e ∷ x) (bytes_end bytes)

no_pair : (pairs : Pairs) → some_pair pairs ≡ false → pairs ≡ []
no_pair [] h = refl
no_pair (e ∷ pairs) h = absurd (cc)

-- no pair is after a byte that is no edge
pub residual_none : {kind : Kind} {es : List ℕ} {targets : List (List ℕ)} {pairs : Pairs} → ListEach kind es targets pairs → (b : ℕ) → member b es ≡ false → residual b pairs ≡ []
residual_none {pairs = pairs} each b h = no_pair (residual b pairs) (sym (begins_behind pairs b) ∙ begins_each each b ∙ h)

-- the pairs of the first target, and those after it
pub residual_first : {kind : Kind} {es : List ℕ} {targets : List (List ℕ)} {more : Pairs} (e : ℕ) (p : Pairs) → ListEach kind es targets more → member e es ≡ false → residual e (with_front e p ++ more) ≡ p
residual_first {more = more} e p each h =
    residual-append e (with_front e p) more ∙ ap (λ x. x ++ residual e more) (residual-front e p) ∙ ap (λ x. p ++ x) (residual_none each e h) ∙ nil_end p

pub residual_later : (b e : ℕ) (p more : Pairs) → (e ≡ b → ⊥) → residual b (with_front e p ++ more) ≡ residual b more
residual_later b e p more apart = residual-append b (with_front e p) more ∙ ap (λ x. x ++ residual b more) (residual-other b e p apart)

-- the first edge is not among the later ones, and none of them is the first
pub edge_once : (kind : Kind) (e : ℕ) (es : List ℕ) → AllAbove kind (fold_byte kind e) es → member e es ≡ false
edge_once kind e es above = not_member kind (fold_byte kind e) e es (omega arith) above

pub not_first : (e b : ℕ) (es : List ℕ) → member e es ≡ false → member b es ≡ true → e ≡ b → ⊥
not_first e b es out there same = let t = ap (λ x. member x es) same in absurd (cc)

pub no_value : {kind : Kind} {bytes : List ℕ} {pairs : Pairs} → Lists kind bytes pairs → NoValueFirst bytes → value_at kind pairs [] ≡ None
no_value nothing none = refl
no_value (value {v = v} {spelling = sp} {rest = r} s n text) none =
    let digit = s.digit_below in
    let one = extender_one s.trail in
    let not_four = subst NoValueFirst (ap (λ x. x ++ r) s.bytes_are) none in
    absurd (not_four (omega arith))
no_value {kind = kind} (literal {b = b} {pairs = p} low n text) none = value_at-no_key kind b p
no_value {kind = kind} (span {pairs = p} run h some high s n f text) none = value_at-no_run kind run p some
no_value (branch b each) none = behind_none each

pub enc_step : (d : ℕ) (kind : Kind) (pairs : Pairs) (es : List ℕ) → ordered kind (edges pairs) ≡ es → enc_to (suc d) kind pairs ≡ value_node (value_at kind pairs []) ++ node es (map (λ b. enc_to d kind (residual b pairs)) es)
enc_step d kind pairs es e = ap (λ x. value_node (value_at kind pairs []) ++ node x (map (λ b. enc_to d kind (residual b pairs)) x)) e

branch_is_node : {kind : Kind} {es : List ℕ} {targets : List (List ℕ)} {bytes : List ℕ} → IsAscii kind → IsBranch kind es targets bytes → bytes ≡ branch_node es targets
branch_is_node {kind = kind} {es = es} {targets = targets} ascii b =
    branch_is_front b ∙ ap (λ t. branch_front t (map length targets) ++ concat targets) (table_is_edges (ascii_sorted kind ascii (length es)) b.is_table)

pub shorter_none : (pairs : Pairs) → Shorter 0 pairs → pairs ≡ []
shorter_none [] h = refl
shorter_none (e ∷ pairs) h = absurd (omega (arith, h.0))

-- bytes that list pairs are their canonical text, and so each target is that of a residual
mutual
  pub lists_enc : {kind : Kind} {bytes : List ℕ} {pairs : Pairs} → IsAscii kind → Lists kind bytes pairs → (d : ℕ) → Shorter d pairs → bytes ≡ enc_to d kind pairs
  lists_enc ascii nothing zero short = refl
  lists_enc {kind = kind} ascii nothing (suc d) short = sym (enc_step d kind [] [] (no_edge_ordered kind))
  lists_enc ascii (value s n text) zero short = absurd (omega (arith, short.0))
  lists_enc {kind = kind} ascii (value {v = v} {spelling = sp} {rest = r} {pairs = p} s n text) (suc d) short =
      let es = ordered kind (edges p) in
      let rest : r ≡ enc_to (suc d) kind p = lists_enc ascii text (suc d) short.1 in
      let behind : enc_to (suc d) kind p ≡ node es (map (λ b. enc_to d kind (residual b p)) es) = ap (λ o. value_node o ++ node es (map (λ b. enc_to d kind (residual b p)) es)) (no_value text n) in
      ap (λ x. x ++ r) (spelling_is value_form v sp (inl refl) s)
      ∙ ap (λ x. spelled_as value_form v ++ x) (rest ∙ behind)
      ∙ sym (enc_step d kind (([], v) ∷ p) es (ap (ordered kind) (edges_value v p)))
  lists_enc ascii (literal {b = b} {pairs = p} low n text) zero short = absurd (lists_some text n (front_none b p (shorter_none (with_front b p) short)))
  lists_enc {kind = kind} ascii (literal {b = b} {rest = r} {pairs = p} low n text) (suc d) short =
      let rest : r ≡ enc_to d kind p = lists_enc ascii text d (Shorter-front d b p short) in
      ap (λ x. b ∷ x) (rest ∙ ap (enc_to d kind) (sym (residual-front b p)) ∙ sym (bytes_end (enc_to d kind (residual b (with_front b p)))))
      ∙ ap (λ o. value_node o ++ node (b ∷ []) (map (λ c. enc_to d kind (residual c (with_front b p))) (b ∷ []))) (sym (value_at-no_key kind b p))
      ∙ sym (enc_step d kind (with_front b p) (b ∷ []) (ordered_front kind b p (omega arith) (lists_some text n)))
  lists_enc {kind = kind} ascii (span run h some high s n f text) d short = absurd (let not = ascii_spanless kind ascii in cc)
  lists_enc ascii (branch {pairs = p} b each) zero short = absurd (each_some each (no_edges b) (shorter_none p short))
  lists_enc {kind = kind} ascii (branch {edges = es} {targets = ts} {pairs = p} b each) (suc d) short =
      let targets_are = each_enc ascii each d p short (branch_rises ascii b) (λ x h. refl) in
      branch_is_node ascii b
      ∙ sym (node_many es ts b.two)
      ∙ ap (node es) (sym targets_are)
      ∙ ap (λ o. value_node o ++ node es (map (λ c. enc_to d kind (residual c p)) es)) (sym (behind_none each))
      ∙ sym (enc_step d kind p es (edges_listed each (branch_rises ascii b) (branch_bytes b)))

  pub each_enc : {kind : Kind} {es : List ℕ} {targets : List (List ℕ)} {pairs : Pairs} → IsAscii kind → ListEach kind es targets pairs → (d : ℕ) (all : Pairs) → Shorter (suc d) pairs → Rises kind es → ((b : ℕ) → member b es ≡ true → residual b all ≡ residual b pairs)
      → map (λ b. enc_to d kind (residual b all)) es ≡ targets
  each_enc ascii no_edge d all short rises same = refl
  each_enc {kind = kind} ascii (edge {e = e} {edges = es} {target = t} {targets = ts} {pairs = p} {more = m} n text each) d all short rises same =
      let parts = Shorter-parts (suc d) (with_front e p) m short in
      let out = edge_once kind e es rises.0 in
      let here : residual e all ≡ p = same e (member_head e es) ∙ residual_first e p each out in
      let first : t ≡ enc_to d kind p = lists_enc ascii text d (Shorter-front d e p parts.0) in
      let rest : map (λ b. enc_to d kind (residual b all)) es ≡ ts = each_enc ascii each d all parts.1 rises.1 (λ b h.
      same b (member_later b e es h) ∙ residual_later b e p m (not_first e b es out h)) in
      ap (λ x. enc_to d kind x ∷ map (λ b. enc_to d kind (residual b all)) es) here
      ∙ ap (λ x. x ∷ map (λ b. enc_to d kind (residual b all)) es) (sym first)
      ∙ ap (λ x. t ∷ x) rest
