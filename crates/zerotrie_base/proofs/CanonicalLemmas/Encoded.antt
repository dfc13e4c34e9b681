-- The canonical text of pairs that fit lists what they answer.
use Rattle.std.proofs.Common.{◌≡◌, ℕ, zero, suc, ◌+◌, ◌*◌, ◌%◌, ◌^◌, ◌<◌, ◌≤◌, List, [], ◌∷◌, ◌++◌, length, refl, sym, ◌∙◌, ap, subst, arith, inl, inr, ◌⊎◌, map, get_or, Option, Some, None, Ordering, Less, Equal, Greater, Bool, true, false, cond}
use Rattle.std.specs.List.{concat}
use Rattle.std.specs.List.Sorted.{IsStrictlyIncreasing}
use Rattle.std.specs.Ordering.{nat_cmp, ordering_then, MatchOrdering}
use Rattle.std.specs.Cmp.Lexicographic.{slice_cmp}
use Rattle.std.specs.Cmp.{ranked}
use Rattle.std.specs.Prelude.{◌==◌}
use Rattle.std.proofs.lemmas.Bool.{eq-eqb, ne_eqb, cases_eq, cases_lt, false_from_ne_true}
use Rattle.zerotrie_base.specs.Kind.{Kind, simple_ascii, ignore_case, perfect_hash, extended_capacity, IsAscii, fold_byte, same_byte, ordered, greatest_width}
use Rattle.zerotrie_base.specs.Numbers.{branch_form, spelled_as}
use Rattle.zerotrie_base.specs.Maps.{Pairs, with_front, begins_some, edges, residual, behind_all, value_at, FirstAbove, common_front}
use Rattle.zerotrie_base.specs.Branches.{IsBranch, blocks, offsets, width, total}
use Rattle.zerotrie_base.specs.Branches.IsTable.{sorted}
use Rattle.zerotrie_base.specs.plain.Encoding.{AsciiKey}
use Rattle.zerotrie_base.specs.Texts.{Lists, ListEach, NoValueFirst}
use Rattle.zerotrie_base.specs.Texts.Lists.{nothing, value, literal, branch}
use Rattle.zerotrie_base.specs.Texts.ListEach.{no_edge, edge}
use Rattle.zerotrie_base.specs.Canonical.{enc_to, size_of, node, branch_node, value_node}
use Rattle.zerotrie_base.specs.Fits.{targets_size}
use Rattle.zerotrie_base.proofs.MapLemmas.Kinds.{edge_limit_is, greatest_width_is, ascii_sorted}
use Rattle.zerotrie_base.proofs.MapLemmas.Edges.{member}
use Rattle.zerotrie_base.proofs.MapLemmas.Ordered.{Each-member, member-ordered, length-ordered, total-ordered, rises_ordered, rise_apart, not_member, edges_rise, member-edges, member-edges_past}
use Rattle.zerotrie_base.proofs.MapLemmas.Alike.{Same, same-none, same-size_of, map_agree, value_exact, value_at-residual, some_pair, begins_behind, first_found}
use Rattle.zerotrie_base.proofs.CanonicalLemmas.Canonical.{nil_end, bytes_end}
use Rattle.zerotrie_base.proofs.NodeLemmas.Fronts.{IsWidth-width, front_targets, total-lengths}
use Rattle.zerotrie_base.proofs.CanonicalLemmas.Lengths.{listed_size}
use Rattle.std.proofs.lemmas.Simd.{map-map}
use Rattle.zerotrie_base.proofs.NumberLemmas.Numbers.{extender_one}
use Rattle.zerotrie_base.proofs.NodeLemmas.Tables.{Each, Rises, AllAbove}
use Rattle.zerotrie_base.proofs.MapLemmas.Values.{behind_none, value_at-some, value_at-front, value_at-append, value_at-other}
use Rattle.zerotrie_base.proofs.CanonicalLemmas.Texts.{lists_once}
use Rattle.zerotrie_base.proofs.NumberLemmas.Spellings.{spells_spelled}

cmp_cases : {e f : ℕ} (r o : Ordering) → MatchOrdering r (e < f) (e ≡ f) (f < e) → ordering_then r o ≡ Less → (e < f) ⊎ ((e ≡ f) × (o ≡ Less))
cmp_cases Less o m h = inl m
cmp_cases Equal o m h = inr (m, h)
cmp_cases Greater o m h = absurd (cc)

pub compare_first : (e f : ℕ) (k l : List ℕ) → slice_cmp nat_cmp (e ∷ k) (f ∷ l) ≡ Less → (e < f) ⊎ ((e ≡ f) × (slice_cmp nat_cmp k l ≡ Less))
compare_first e f k l h = cmp_cases (nat_cmp e f) (slice_cmp nat_cmp k l) (ranked e f (nat_cmp e f) refl) h

pub above_nil : (key : List ℕ) (pairs : Pairs) → FirstAbove key pairs → FirstAbove [] pairs
above_nil key [] h = tt
above_nil [] (e ∷ pairs) h = h
above_nil (b ∷ key) (([], v) ∷ pairs) h = absurd (cc)
above_nil (b ∷ key) ((c ∷ k, v) ∷ pairs) h = refl

-- values below 2 ^ 64
abbrev pub SmallValues : Pairs → Type 0
SmallValues [] = Unit {0}
SmallValues (e ∷ pairs) = (e.1 < 2 ^ 64) × SmallValues pairs

pub not_empty_text : {kind : Kind} {bytes : List ℕ} {pairs : Pairs} → Lists kind bytes pairs → (pairs ≡ [] → ⊥) → bytes ≡ [] → ⊥
not_empty_text text some none = some (sym (lists_once nothing (sym none) text))

lower : (b : ℕ) → b < 128 → fold_byte ignore_case b < 128
lower b h = grind arith

-- the fold of an ASCII byte is one
pub fold_ascii : (kind : Kind) (b : ℕ) → b < 128 → fold_byte kind b < 128
fold_ascii simple_ascii b h = h
fold_ascii ignore_case b h = lower b h
fold_ascii perfect_hash b h = h
fold_ascii extended_capacity b h = h

-- as many edges as folds below the bound at most
count_above : (kind : Kind) (x high : ℕ) (es : List ℕ) → x < high → AllAbove kind x es → Rises kind es → ((i d : ℕ) → i < length es → fold_byte kind (get_or es i d) < high) → length es + suc x ≤ high
count_above kind x high [] h a up low = omega arith
count_above kind x high (e ∷ es) h a up low =
    let more = count_above kind (fold_byte kind e) high es (low 0 0 (omega arith)) up.0 up.1 (λ i d l. low (suc i) d (omega arith)) in
    omega (arith, a.0)

pub rises_count : (kind : Kind) (es : List ℕ) → Rises kind es → ((i d : ℕ) → i < length es → get_or es i d < 128) → length es ≤ 128
rises_count kind [] up low = omega arith
rises_count kind (e ∷ es) up low =
    let more = count_above kind (fold_byte kind e) 128 es (fold_ascii kind e (low 0 0 (omega arith))) up.0 up.1 (λ i d l. fold_ascii kind (get_or es i d) (low (suc i) d (omega arith))) in
    omega arith

rises_next : (kind : Kind) (es : List ℕ) → Rises kind es → (k : ℕ) → suc k < length (map (fold_byte kind) es) → get_or (map (fold_byte kind) es) k 0 < get_or (map (fold_byte kind) es) (suc k) 0
rises_next kind [] up k h = absurd (omega arith)
rises_next kind (e ∷ []) up k h = absurd (omega arith)
rises_next kind (e ∷ f ∷ es) up zero h = up.0.0
rises_next kind (e ∷ f ∷ es) up (suc k) h = rises_next kind (f ∷ es) up.1 k (omega arith)

pub rises_increasing : (kind : Kind) (es : List ℕ) → Rises kind es → IsStrictlyIncreasing (map (fold_byte kind) es)
rises_increasing kind es up k h =
    let e : k + 1 ≡ suc k = omega arith in
    subst (λ j. get_or (map (fold_byte kind) es) k 0 < get_or (map (fold_byte kind) es) j 0) (sym e) (rises_next kind es up k (omega arith))

branch_made : (kind : Kind) → IsAscii kind → (es : List ℕ) (targets : List (List ℕ)) → Rises kind es → ((i d : ℕ) → i < length es → get_or es i d < 128) → 2 ≤ length es → length targets ≡ length es → length (concat targets) < 2 ^ 32 → IsBranch kind es targets (branch_node es targets)
branch_made kind is_ascii es targets up ascii two count fits =
    let right = IsWidth-width (length (concat targets)) in
    let narrow = right.least 3 fits in
    let most = rises_count kind es up ascii in
    let limit = edge_limit_is kind is_ascii in
    let widest = greatest_width_is kind is_ascii in
    record {
      head = spelled_as branch_form (256 * width (length (concat targets)) + length es % 256);
      table = es;
      width = width (length (concat targets));
      two = two;
      at_most = omega arith;
      a_target_each = count;
      edge_bytes = λ i d h. (let low = ascii i d h in omega arith);
      is_width = right;
      fits = omega arith;
      is_head = spells_spelled 32 3 _ (omega arith) (inr refl);
      is_table = sorted (ascii_sorted kind is_ascii (length es)) (rises_increasing kind es up);
      bytes_are = front_targets es targets (length es) count;
    }

pub branch_no_value : {kind : Kind} {es : List ℕ} {targets : List (List ℕ)} {bytes : List ℕ} → IsBranch kind es targets bytes → NoValueFirst bytes
branch_no_value {targets = targets} b =
    subst NoValueFirst (ap (λ h. h ++ (b.table ++ (blocks (b.width + 1) (offsets targets) ++ concat targets))) (sym b.is_head.bytes_are) ∙ sym b.bytes_are)
    (λ four. let digit = b.is_head.digit_below in let one = extender_one b.is_head.trail in omega arith)

pub record Behind (kind : Kind) (bytes : List ℕ) (pairs : Pairs) : Type 0 where
  pub lists : Lists kind bytes pairs
  pub no_value : NoValueFirst bytes

-- the canonical node in front of texts lists what they list
pub node_lists : {kind : Kind} {es : List ℕ} {targets : List (List ℕ)} {pairs : Pairs} → IsAscii kind → ListEach kind es targets pairs → Rises kind es → ((i d : ℕ) → i < length es → get_or es i d < 128) → length targets ≡ length es → (2 ≤ length es → length (concat targets) < 2 ^ 32) → Behind kind (node es targets) pairs
node_lists is_ascii no_edge up ascii count fits = record { lists = nothing; no_value = tt }
node_lists {kind = kind} is_ascii (edge {e = e} {target = t} {pairs = p} n text no_edge) up ascii count fits = record {
  lists = subst (λ y. Lists kind (e ∷ y) (with_front e p ++ [])) (sym (bytes_end t)) (subst (Lists kind (e ∷ t)) (sym (nil_end (with_front e p))) (literal (ascii 0 0 (omega arith)) n text));
  no_value = λ four. let low = ascii 0 0 (omega arith) in omega arith;
}
node_lists {kind = kind} is_ascii (edge {e = e} {edges = es} {target = t} {targets = ts} n text (edge {e = e'} {edges = es'} {target = t'} {targets = ts'} n' text' each)) up ascii count fits =
    let made = branch_made kind is_ascii (e ∷ e' ∷ es') (t ∷ t' ∷ ts') up ascii (omega arith) count (fits (omega arith)) in
    record { lists = branch made (edge n text (edge n' text' each)); no_value = branch_no_value made }

-- What the canonical text needs of the pairs, by what they answer: keys shorter than d, of ASCII bytes, that
-- agree in case, and small values.
pub record Sound (kind : Kind) (d : ℕ) (pairs : Pairs) : Type 0 where
  pub shorter : (key : List ℕ) (v : ℕ) → value_at simple_ascii pairs key ≡ Some v → length key < d
  pub ascii : (key : List ℕ) (v : ℕ) → value_at simple_ascii pairs key ≡ Some v → AsciiKey key
  pub small : (key : List ℕ) (v : ℕ) → value_at simple_ascii pairs key ≡ Some v → v < 2 ^ 64
  pub agree : (k l : List ℕ) (v w : ℕ) → value_at simple_ascii pairs k ≡ Some v → value_at simple_ascii pairs l ≡ Some w
      → common_front (same_byte kind) k l ≡ common_front (λ a b. a == b) k l

-- after the front the targets can be reached by an offset of the kind, if there is a branch
abbrev pub NarrowBehind : Kind → List ℕ → Pairs → Type 0
NarrowBehind kind front pairs = 2 ≤ length (edges (behind_all front pairs)) → targets_size kind (behind_all front pairs) < 256 ^ (greatest_width kind + 1)

one_more : (kind : Kind) (b : ℕ) (k l : List ℕ) → common_front (same_byte kind) (b ∷ k) (b ∷ l) ≡ common_front (λ a c. a == c) (b ∷ k) (b ∷ l) → common_front (same_byte kind) k l ≡ common_front (λ a c. a == c) k l
one_more kind b k l h = let g = rw (eq-eqb (fold_byte kind b) (fold_byte kind b) refl, eq-eqb b b refl) at h in omega arith

sound_behind : (kind : Kind) (d : ℕ) (pairs : Pairs) → Sound kind (suc d) pairs → (b : ℕ) → Sound kind d (residual b pairs)
sound_behind kind d pairs s b =
    let there : (k : List ℕ) (v : ℕ) → value_at simple_ascii (residual b pairs) k ≡ Some v → value_at simple_ascii pairs (b ∷ k) ≡ Some v = λ k v h. sym (value_at-residual b pairs k) ∙ h in
    record {
      shorter = λ k v h. (let n = s.shorter (b ∷ k) v (there k v h) in omega arith);
      ascii = λ k v h. (s.ascii (b ∷ k) v (there k v h)).1;
      small = λ k v h. s.small (b ∷ k) v (there k v h);
      agree = λ k l v w h g. one_more kind b k l (s.agree (b ∷ k) (b ∷ l) v w (there k v h) (there l w g));
    }

-- a key that begins with the edge
record Key (b : ℕ) (pairs : Pairs) : Type 0 where
  key : List ℕ
  v : ℕ
  is : value_at simple_ascii pairs (b ∷ key) ≡ Some v

some_key : (b : ℕ) (pairs behind : Pairs) → behind ≡ residual b pairs → some_pair behind ≡ true → Key b pairs
some_key b pairs [] e h = absurd (cc)
some_key b pairs (x ∷ behind) e h = record {
  key = x.0;
  v = x.1;
  is = sym (value_at-residual b pairs x.0) ∙ ap (λ p. value_at simple_ascii p x.0) (sym e) ∙ first_found x behind;
}

edge_key : (b : ℕ) (pairs : Pairs) → begins_some pairs b ≡ true → Key b pairs
edge_key b pairs h = some_key b pairs (residual b pairs) refl (sym (begins_behind pairs b) ∙ h)

edge_ascii : (kind : Kind) (d b : ℕ) (pairs : Pairs) → Sound kind d pairs → begins_some pairs b ≡ true → b < 128
edge_ascii kind d b pairs s h = let k = edge_key b pairs h in (s.ascii (b ∷ k.key) k.v k.is).0

-- the first bytes of the keys are the edges
edge_begins : (kind : Kind) (d b : ℕ) (pairs : Pairs) → Sound kind d pairs → member b (edges pairs) ≡ begins_some pairs b
edge_begins kind d b pairs s = elim (cases_lt b 256) [
  | inl low ↦ member-edges pairs b low
  | inr high ↦ member-edges_past pairs b high ∙ sym (false_from_ne_true (begins_some pairs b) (λ h. let low = edge_ascii kind d b pairs s h in omega arith))
]

-- edges of one fold are one edge
one_front : (kind : Kind) (b c : ℕ) (k l : List ℕ) → common_front (same_byte kind) (b ∷ k) (c ∷ l) ≡ common_front (λ a e. a == e) (b ∷ k) (c ∷ l) → fold_byte kind b ≡ fold_byte kind c → b ≡ c
one_front kind b c k l h f = elim (cases_eq b c) [
  | inl same ↦ same
  | inr other ↦ absurd (let g = rw (eq-eqb (fold_byte kind b) (fold_byte kind c) f, ne_eqb b c other) at h in omega arith)
]

edge_once : (kind : Kind) (d : ℕ) (pairs : Pairs) → Sound kind d pairs → (b c : ℕ) → member b (edges pairs) ≡ true → member c (edges pairs) ≡ true → fold_byte kind b ≡ fold_byte kind c → b ≡ c
edge_once kind d pairs s b c m n f =
    let k = edge_key b pairs (sym (edge_begins kind d b pairs s) ∙ m) in
    let l = edge_key c pairs (sym (edge_begins kind d c pairs s) ∙ n) in
    one_front kind b c k.key l.key (s.agree (b ∷ k.key) (c ∷ l.key) k.v l.v k.is l.is) f

-- The bytes list pairs that answer as these.
pub record Listed (kind : Kind) (bytes : List ℕ) (pairs : Pairs) : Type 0 where
  pub listed : Pairs
  pub lists : Lists kind bytes listed
  pub same : Same listed pairs

-- The targets list the answers after these edges.
record ListedEach (kind : Kind) (es : List ℕ) (targets : List (List ℕ)) (pairs : Pairs) : Type 0 where
  listed : Pairs
  each : ListEach kind es targets listed
  same : (c : ℕ) (key : List ℕ) → value_at simple_ascii listed (c ∷ key) ≡ cond (member c es) (value_at simple_ascii pairs (c ∷ key)) None

-- the answers after the first edge, and after the others
answers_first : (e c : ℕ) (key es : List ℕ) (p more pairs : Pairs) → member e es ≡ false → Same p (residual e pairs)
    → ((key : List ℕ) → value_at simple_ascii more (c ∷ key) ≡ cond (member c es) (value_at simple_ascii pairs (c ∷ key)) None)
    → value_at simple_ascii (with_front e p ++ more) (c ∷ key) ≡ cond (member c (e ∷ es)) (value_at simple_ascii pairs (c ∷ key)) None
answers_first e c key es p more pairs once same rest = elim (cases_eq e c) [
  | inl here ↦
      let none : value_at simple_ascii more (c ∷ key) ≡ None = rest key ∙ rw (subst (λ x. member x es ≡ false) here once) refl in
      value_at-some simple_ascii (c ∷ key) (with_front e p) more none
      ∙ value_at-front simple_ascii e c key p (eq-eqb e c here)
      ∙ same key ∙ value_at-residual e pairs key
      ∙ ap (λ x. value_at simple_ascii pairs (x ∷ key)) here
      ∙ rw (eq-eqb e c here) refl
  | inr other ↦
      value_at-append simple_ascii (c ∷ key) (with_front e p) more (value_at-other simple_ascii e c key p (ne_eqb e c other))
      ∙ rest key ∙ rw (ne_eqb e c other) refl
]

no_listed : (p q : Pairs) → Same p q → (q ≡ [] → ⊥) → p ≡ [] → ⊥
no_listed p q same some none = some (same-none q (λ key. sym (same key) ∙ ap (λ x. value_at simple_ascii x key) none))

some_behind : (b : ℕ) (pairs : Pairs) → begins_some pairs b ≡ true → residual b pairs ≡ [] → ⊥
some_behind b pairs h none = let e = sym (begins_behind pairs b) ∙ h in let f : some_pair (residual b pairs) ≡ false = ap some_pair none in absurd (cc)

targets_listed : (d : ℕ) (kind : Kind) (pairs : Pairs) → ((b : ℕ) → Listed kind (enc_to d kind (residual b pairs)) (residual b pairs)) → (es : List ℕ) → Rises kind es → Each (λ b. begins_some pairs b ≡ true) es
    → ListedEach kind es (map (λ b. enc_to d kind (residual b pairs)) es) pairs
targets_listed d kind pairs below [] up begin = record { listed = []; each = no_edge; same = λ c key. refl }
targets_listed d kind pairs below (e ∷ es) up begin =
    let first = below e in
    let rest = targets_listed d kind pairs below es up.1 begin.1 in
    record {
      listed = with_front e first.listed ++ rest.listed;
      each = edge (not_empty_text first.lists (no_listed first.listed (residual e pairs) first.same (some_behind e pairs begin.0))) first.lists rest.each;
      same = λ c key. answers_first e c key es first.listed rest.listed pairs (not_member kind (fold_byte kind e) e es (omega arith) up.0) first.same (rest.same c);
    }

-- a value in front of what lists the longer keys
with_value : (kind : Kind) (o : Option ℕ) (bytes : List ℕ) (below pairs : Pairs) → Behind kind bytes below → value_at simple_ascii pairs [] ≡ o → ((v : ℕ) → o ≡ Some v → v < 2 ^ 64)
    → value_at simple_ascii below [] ≡ None → ((c : ℕ) (key : List ℕ) → value_at simple_ascii below (c ∷ key) ≡ value_at simple_ascii pairs (c ∷ key)) → Listed kind (value_node o ++ bytes) pairs
with_value kind None bytes below pairs b is small none same = record { listed = below; lists = b.lists; same = by_key }
  where
    by_key : Same below pairs
    by_key [] = none ∙ sym is
    by_key (c ∷ key) = same c key
with_value kind (Some v) bytes below pairs b is small none same = record {
  listed = ([], v) ∷ below;
  lists = value (spells_spelled 16 4 v (small v refl) (inl refl)) b.no_value b.lists;
  same = by_key;
}
  where
    by_key : Same (([], v) ∷ below) pairs
    by_key [] = sym is
    by_key (c ∷ key) = same c key

targets_count : (f : ℕ → List ℕ) (es : List ℕ) → length (map f es) ≡ length es
targets_count f [] = refl
targets_count f (e ∷ es) = ap suc (targets_count f es)

Each-at : (P : ℕ → Type 0) (es : List ℕ) → Each P es → (i d : ℕ) → i < length es → P (get_or es i d)
Each-at P [] each i d h = absurd (omega arith)
Each-at P (e ∷ es) each zero d h = each.0
Each-at P (e ∷ es) each (suc i) d h = Each-at P es each.1 i d (omega arith)

no_pairs : (kind : Kind) (pairs : Pairs) → Sound kind 0 pairs → Same [] pairs
no_pairs kind pairs s key = go (value_at simple_ascii pairs key) refl
  where
    go : (o : Option ℕ) → value_at simple_ascii pairs key ≡ o → None ≡ o
    go None h = refl
    go (Some v) h = absurd (let n = s.shorter key v h in omega arith)

none_at : (key : List ℕ) (p : Pairs) → some_pair p ≡ false → value_at simple_ascii p key ≡ None
none_at key [] h = refl
none_at key (e ∷ p) h = absurd (cc)

-- the edges that are not there have no answers
all_answers : (c : ℕ) (key : List ℕ) (pairs : Pairs) (t : Bool) → begins_some pairs c ≡ t → cond t (value_at simple_ascii pairs (c ∷ key)) None ≡ value_at simple_ascii pairs (c ∷ key)
all_answers c key pairs true h = refl
all_answers c key pairs false h = sym (none_at key (residual c pairs) (sym (begins_behind pairs c) ∙ h)) ∙ value_at-residual c pairs key

-- the bytes of the canonical targets
targets_enc : (d : ℕ) (kind : Kind) (pairs : Pairs) → ((b : ℕ) → Listed kind (enc_to d kind (residual b pairs)) (residual b pairs))
    → targets_size kind pairs ≡ length (concat (map (λ b. enc_to d kind (residual b pairs)) (ordered kind (edges pairs))))
unfolding targets_size
targets_enc d kind pairs below =
    let text : ℕ → List ℕ = λ b. enc_to d kind (residual b pairs) in
    ap total (map_agree (λ b. size_of kind (residual b pairs)) (λ b. length (text b)) (edges pairs)
    (λ b. let behind = below b in sym (same-size_of kind behind.listed (residual b pairs) behind.same) ∙ listed_size behind.lists))
    ∙ sym (total-ordered kind (λ b. length (text b)) (edges pairs))
    ∙ ap total (sym (map-map length text (ordered kind (edges pairs))))
    ∙ total-lengths (map text (ordered kind (edges pairs)))

-- The canonical text lists what the pairs answer.
pub listed_enc : (d : ℕ) (kind : Kind) (pairs : Pairs) → IsAscii kind → Sound kind d pairs → ((front : List ℕ) → NarrowBehind kind front pairs) → Listed kind (enc_to d kind pairs) pairs
listed_enc zero kind pairs is_ascii s narrow = record { listed = []; lists = nothing; same = no_pairs kind pairs s }
listed_enc (suc d) kind pairs is_ascii s narrow =
    let es = ordered kind (edges pairs) in
    let rise = edges_rise pairs in
    let begin : (b : ℕ) → member b es ≡ begins_some pairs b = λ b. member-ordered kind b (edges pairs) ∙ edge_begins kind (suc d) b pairs s in
    let up = rises_ordered kind 0 256 (edges pairs) rise (rise_apart kind 0 256 (edges pairs) rise (edge_once kind (suc d) pairs s)) in
    let below : (b : ℕ) → Listed kind (enc_to d kind (residual b pairs)) (residual b pairs) = λ b. listed_enc d kind (residual b pairs) is_ascii (sound_behind kind d pairs s b) (λ front. narrow (b ∷ front)) in
    let each = targets_listed d kind pairs below es up (Each-member (λ b. begins_some pairs b ≡ true) es (λ b m. sym (begin b) ∙ m)) in
    let low = Each-at (λ b. b < 128) es (Each-member (λ b. b < 128) es (λ b m. edge_ascii kind (suc d) b pairs s (sym (begin b) ∙ m))) in
    let narrowed : 2 ≤ length es → length (concat (map (λ b. enc_to d kind (residual b pairs)) es)) < 2 ^ 32 = λ two.
    subst (λ n. n < 2 ^ 32) (targets_enc d kind pairs below)
    (subst (λ w. targets_size kind pairs < 256 ^ (w + 1)) (greatest_width_is kind is_ascii) (narrow [] (subst (λ n. 2 ≤ n) (length-ordered kind (edges pairs)) two))) in
    let node = node_lists is_ascii each.each up low (targets_count (λ b. enc_to d kind (residual b pairs)) es) narrowed in
    with_value kind (value_at kind pairs []) _ each.listed pairs node (sym (value_exact kind pairs)) (λ v h. s.small [] v (sym (value_exact kind pairs) ∙ h))
    (sym (value_exact kind each.listed) ∙ behind_none each.each)
    (λ c key. each.same c key ∙ ap (λ t. cond t (value_at simple_ascii pairs (c ∷ key)) None) (begin c) ∙ all_answers c key pairs (begins_some pairs c) refl)
