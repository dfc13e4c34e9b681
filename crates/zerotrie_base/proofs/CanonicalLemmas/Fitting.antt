-- Bytes mean only maps that fit.
use Rattle.std.proofs.Common.{◌≡◌, ℕ, zero, suc, ◌+◌, ◌^◌, ◌<◌, ◌≤◌, List, [], ◌∷◌, ◌++◌, length, refl, sym, ◌∙◌, ap, subst, arith, get_or, inl, inr, Ordering, Less, Equal, Greater}
use Rattle.std.specs.Prelude.{All}
use Rattle.std.specs.List.{concat, AllByRecursion}
use Rattle.std.specs.FinMap.{entries, entries-insert, put, slice_cmp-IsAntisymmetric, nat_cmp-IsAntisymmetric}
use Rattle.std.specs.FinMap.Entries.{by_order}
use Rattle.std.specs.Ordering.{nat_cmp}
use Rattle.std.specs.Cmp.Lexicographic.{slice_cmp, nat_list_cmp_total}
use Rattle.std.proofs.lemmas.Bool.Decides.{eqb_tells}
use Rattle.zerotrie_base.specs.Kind.{Kind, edge_limit, greatest_width}
use Rattle.zerotrie_base.specs.Maps.{Pairs, Map, map_of, with_front, edges, residual, behind_all, IsCaseConsistent}
use Rattle.zerotrie_base.specs.Branches.{IsBranch}
use Rattle.zerotrie_base.specs.Texts.{Lists, ListEach, Means}
use Rattle.zerotrie_base.specs.Texts.Lists.{nothing, value, literal, span, branch}
use Rattle.zerotrie_base.specs.Texts.ListEach.{no_edge, edge}
use Rattle.zerotrie_base.specs.Fits.{Fits}
use Rattle.zerotrie_base.proofs.MapLemmas.Edges.{edges_front, edges_none, edges_value, residual-front, residual-other}
use Rattle.zerotrie_base.proofs.NodeLemmas.Tables.{Distinct, none_member, table_distinct}
use Rattle.zerotrie_base.proofs.MapLemmas.Alike.{Same, same-edges, same-behind, same-targets}
use Rattle.zerotrie_base.proofs.MapLemmas.Cases.{Agrees, every_all, every_more, every_front, every_append, lists_consistent}
use Rattle.zerotrie_base.proofs.MapLemmas.Kinds.{edge_limit_from, spans_limit}
use Rattle.zerotrie_base.proofs.MapLemmas.Spans.{by_fronts}
use Rattle.zerotrie_base.proofs.NodeLemmas.Fronts.{within_width}
use Rattle.zerotrie_base.proofs.CanonicalLemmas.Canonical.{front_none, branch_bytes, residual_first, residual_later, lists_some}
use Rattle.zerotrie_base.proofs.CanonicalLemmas.Lengths.{targets_each}
use Rattle.zerotrie_base.proofs.CanonicalLemmas.Order.{entries-map_of, means_same, means_size}
use Rattle.zerotrie_base.proofs.CanonicalLemmas.Encoded.{SmallValues, NarrowBehind}
use Rattle.zerotrie_base.proofs.MapLemmas.Listed.{targets_value, behind_all-nil}

pub narrow_none : (kind : Kind) (front : List ℕ) → NarrowBehind kind front []
narrow_none kind front two = absurd (let none = ap length (ap edges (behind_all-nil front) ∙ edges_none) in omega arith)

pub narrow_value : (kind : Kind) (v : ℕ) (pairs : Pairs) → NarrowBehind kind [] pairs → NarrowBehind kind [] (([], v) ∷ pairs)
narrow_value kind v pairs narrow two =
    subst (λ n. n < 256 ^ (greatest_width kind + 1)) (sym (targets_value kind v pairs)) (narrow (subst (λ es. 2 ≤ length es) (edges_value v pairs) two))

pub narrow_at : (kind : Kind) (c : ℕ) (front : List ℕ) (pairs behind : Pairs) → residual c pairs ≡ behind → NarrowBehind kind front behind → NarrowBehind kind (c ∷ front) pairs
narrow_at kind c front pairs behind e = subst (NarrowBehind kind front) (sym e)

-- pairs that answer alike need the same branches
pub narrow-same : (kind : Kind) (front : List ℕ) (p q : Pairs) → Same p q → NarrowBehind kind front q → NarrowBehind kind front p
narrow-same kind front p q s narrow two =
    let behind = same-behind front p q s in
    subst (λ n. n < 256 ^ (greatest_width kind + 1)) (sym (same-targets kind (behind_all front p) (behind_all front q) behind))
    (narrow (subst (λ es. 2 ≤ length es) (same-edges (behind_all front p) (behind_all front q) behind) two))

narrow_branch : {kind : Kind} {es : List ℕ} {targets : List (List ℕ)} {bytes : List ℕ} {pairs : Pairs} → IsBranch kind es targets bytes → ListEach kind es targets pairs → NarrowBehind kind [] pairs
narrow_branch {kind = kind} {targets = targets} b each two =
    subst (λ n. n < 256 ^ (greatest_width kind + 1)) (sym (targets_each each (table_distinct b.is_table) (branch_bytes b)))
    (within_width (greatest_width kind) b.width (length (concat targets)) b.fits b.is_width)

-- after any front
abbrev pub AllNarrow : Kind → Pairs → Type 0
AllNarrow kind pairs = (pairs ≡ [] → ⊥) × ((front : List ℕ) → NarrowBehind kind front pairs)

-- pairs that all begin with one byte need no branch there
pub narrow_front : (kind : Kind) (b : ℕ) (pairs : Pairs) → b < 256 → AllNarrow kind pairs → AllNarrow kind (with_front b pairs)
narrow_front kind b pairs low all = ((λ none. all.0 (front_none b pairs none)), behind)
  where
    behind : (front : List ℕ) → NarrowBehind kind front (with_front b pairs)
    behind [] = λ two. absurd (let one = ap length (edges_front b pairs low all.0) in omega arith)
    behind (c ∷ front) = elim (eqb_tells b c) [
      | inl same ↦ narrow_at kind c front (with_front b pairs) pairs (ap (λ x. residual c (with_front x pairs)) same.1 ∙ residual-front c pairs) (all.1 front)
      | inr other ↦ narrow_at kind c front (with_front b pairs) [] (residual-other c b pairs other.1) (narrow_none kind front)
    ]

mutual
  narrow_lists : {kind : Kind} {bytes : List ℕ} {pairs : Pairs} → Lists kind bytes pairs → (front : List ℕ) → NarrowBehind kind front pairs
  narrow_lists {kind = kind} nothing front = narrow_none kind front
  narrow_lists {kind = kind} (value {v = v} {pairs = p} s n text) [] = narrow_value kind v p (narrow_lists text [])
  narrow_lists (value {v = v} {pairs = p} s n text) (c ∷ front) = narrow_lists text (c ∷ front)
  narrow_lists {kind = kind} (literal {b = b} {pairs = p} low n text) front = (narrow_front kind b p (omega arith) (lists_some text n, narrow_lists text)).1 front
  narrow_lists {kind = kind} (span {pairs = p} run h some high s n f text) front = (by_fronts (AllNarrow kind) run p high (narrow_front kind) (lists_some text n, narrow_lists text)).1 front
  narrow_lists (branch b each) [] = narrow_branch b each
  narrow_lists (branch b each) (c ∷ front) = narrow_each each (table_distinct b.is_table) c front

  narrow_each : {kind : Kind} {es : List ℕ} {targets : List (List ℕ)} {pairs : Pairs} → ListEach kind es targets pairs → Distinct kind es → (c : ℕ) (front : List ℕ) → NarrowBehind kind (c ∷ front) pairs
  narrow_each {kind = kind} no_edge apart c front = narrow_none kind front
  narrow_each {kind = kind} (edge {e = e} {edges = es} {pairs = p} {more = m} n text each) apart c front =
      elim (eqb_tells e c) [
        | inl same ↦ narrow_at kind c front (with_front e p ++ m) p (ap (λ x. residual x (with_front e p ++ m)) (sym same.1) ∙ residual_first e p each (none_member kind e es apart.0)) (narrow_lists text front)
        | inr other ↦ narrow_at kind c front (with_front e p ++ m) (residual c m) (residual_later c e p m other.1) (narrow_each each apart.1 c front)
      ]

-- each byte of the key is below the bound
abbrev pub KeyBelow : ℕ → List ℕ → Type 0
KeyBelow bound [] = Unit {0}
KeyBelow bound (b ∷ key) = (b < bound) × KeyBelow bound key

abbrev pub KeysBelow : ℕ → Pairs → Type 0
KeysBelow bound pairs = AllByRecursion (λ e. KeyBelow bound e.0) pairs

keys_front : (bound b : ℕ) (pairs : Pairs) → b < bound → KeysBelow bound pairs → KeysBelow bound (with_front b pairs)
keys_front bound b pairs low h = every_front (λ e. KeyBelow bound e.0) (λ e. KeyBelow bound e.0) b pairs (λ e key. (low, key)) h

-- each of these bytes may be an edge
abbrev Low : ℕ → List ℕ → Type 0
Low bound es = (i d : ℕ) → i < length es → get_or es i d < bound

low_byte : (kind : Kind) (b : ℕ) → b < 128 → b < edge_limit kind
low_byte kind b low = let most = edge_limit_from kind in omega arith

mutual
  pub keys_lists : {kind : Kind} {bytes : List ℕ} {pairs : Pairs} → Lists kind bytes pairs → KeysBelow (edge_limit kind) pairs
  keys_lists nothing = tt
  keys_lists (value s n text) = (tt, keys_lists text)
  keys_lists {kind = kind} (literal {b = b} {pairs = p} low n text) = keys_front (edge_limit kind) b p (low_byte kind b low) (keys_lists text)
  keys_lists {kind = kind} (span {pairs = p} run h some high s n f text) =
      by_fronts (KeysBelow (edge_limit kind)) run p high (λ b ps low. keys_front (edge_limit kind) b ps (subst (λ n. b < n) (sym (spans_limit kind h)) low)) (keys_lists text)
  keys_lists (branch b each) = keys_each each b.edge_bytes

  keys_each : {kind : Kind} {es : List ℕ} {targets : List (List ℕ)} {pairs : Pairs} → ListEach kind es targets pairs → Low (edge_limit kind) es → KeysBelow (edge_limit kind) pairs
  keys_each no_edge low = tt
  keys_each {kind = kind} (edge {e = e} {pairs = p} {more = m} n text each) low =
      every_append (λ x. KeyBelow (edge_limit kind) x.0) (with_front e p) m (keys_front (edge_limit kind) e p (low 0 0 (omega arith)) (keys_lists text)) (keys_each each (λ i d h. low (suc i) d (omega arith)))

SmallValues-front : (b : ℕ) (pairs : Pairs) → SmallValues pairs → SmallValues (with_front b pairs)
SmallValues-front b [] h = tt
SmallValues-front b (e ∷ pairs) h = (h.0, SmallValues-front b pairs h.1)

SmallValues-append : (xs ys : Pairs) → SmallValues xs → SmallValues ys → SmallValues (xs ++ ys)
SmallValues-append [] ys a b = b
SmallValues-append (e ∷ xs) ys a b = (a.0, SmallValues-append xs ys a.1 b)

mutual
  small_lists : {kind : Kind} {bytes : List ℕ} {pairs : Pairs} → Lists kind bytes pairs → SmallValues pairs
  small_lists nothing = tt
  small_lists (value s n text) = (s.below, small_lists text)
  small_lists (literal {b = b} {pairs = p} low n text) = SmallValues-front b p (small_lists text)
  small_lists (span {pairs = p} run h some high s n f text) = by_fronts SmallValues run p high (λ b ps low. SmallValues-front b ps) (small_lists text)
  small_lists (branch b each) = small_each each

  small_each : {kind : Kind} {es : List ℕ} {targets : List (List ℕ)} {pairs : Pairs} → ListEach kind es targets pairs → SmallValues pairs
  small_each no_edge = tt
  small_each (edge {e = e} {pairs = p} {more = m} n text each) = SmallValues-append (with_front e p) m (SmallValues-front e p (small_lists text)) (small_each each)

all_below : (bound : ℕ) (key : List ℕ) → KeyBelow bound key → All (λ b. b < bound) key
all_below bound [] h i d l = absurd (omega arith)
all_below bound (b ∷ key) h zero d l = h.0
all_below bound (b ∷ key) h (suc i) d l = all_below bound key h.1 i d (omega arith)

all_keys : (bound : ℕ) (pairs : Pairs) → KeysBelow bound pairs → All (λ e. All (λ b. b < bound) e.0) pairs
all_keys bound pairs h = every_all (λ e. All (λ b. b < bound) e.0) pairs (every_more (λ e. KeyBelow bound e.0) (λ e. All (λ b. b < bound) e.0) pairs (λ e key. all_below bound e.0 key) h)

all_values : (pairs : Pairs) → SmallValues pairs → All (λ e. e.1 < 2 ^ 64) pairs
all_values [] h i d l = absurd (omega arith)
all_values (e ∷ pairs) h zero d l = h.0
all_values (e ∷ pairs) h (suc i) d l = all_values pairs h.1 i d (omega arith)

-- what holds of each pair holds of each entry of their map
every_put : (P : List ℕ × ℕ → Type 0) (key : List ℕ) (v : ℕ) (pairs : Pairs) → P (key, v) → AllByRecursion P pairs → AllByRecursion P (put (slice_cmp nat_cmp) key v pairs)
every_put P key v [] here h = (here, tt)
every_put P key v (e ∷ pairs) here h = go (slice_cmp nat_cmp key e.0) refl (every_put P key v pairs here h.1)
  where
    go : (o : Ordering) → slice_cmp nat_cmp key e.0 ≡ o → AllByRecursion P (put (slice_cmp nat_cmp) key v pairs) → AllByRecursion P (by_order o ((key, v) ∷ e ∷ pairs) ((e.0, v) ∷ pairs) (e ∷ put (slice_cmp nat_cmp) key v pairs))
    go Less is rest = (here, h)
    go Equal is rest = (subst (λ k. P (k, v)) (slice_cmp-IsAntisymmetric nat_cmp-IsAntisymmetric key e.0 is) here, h.1)
    go Greater is rest = (h.0, rest)

pub every_entry : (P : List ℕ × ℕ → Type 0) (pairs : Pairs) → AllByRecursion P pairs → AllByRecursion P (entries (map_of pairs))
every_entry P [] h = subst (AllByRecursion P) (sym (entries-map_of [] tt)) tt
every_entry P (e ∷ pairs) h =
    subst (AllByRecursion P) (sym (entries-insert nat_list_cmp_total (map_of pairs) e.0 e.1)) (every_put P e.0 e.1 (entries (map_of pairs)) h.0 (every_entry P pairs h.1))

by_recursion : (P : List ℕ × ℕ → Type 0) (pairs : Pairs) → All P pairs → AllByRecursion P pairs
by_recursion P [] h = tt
by_recursion P (e ∷ pairs) h = (h 0 e (omega arith), by_recursion P pairs (λ i d l. h (suc i) d (omega arith)))

pub all_entries : (P : List ℕ × ℕ → Type 0) (pairs : Pairs) → All P pairs → All P (entries (map_of pairs))
all_entries P pairs h = every_all P (entries (map_of pairs)) (every_entry P pairs (by_recursion P pairs h))

-- the entries agree in case if the pairs do
pub consistent_entries : (kind : Kind) (pairs : Pairs) → IsCaseConsistent kind pairs → IsCaseConsistent kind (entries (map_of pairs))
consistent_entries kind pairs h =
    all_entries (λ e. All (λ f. Agrees kind e.0 f.0) (entries (map_of pairs))) pairs
    (λ i d l. all_entries (λ f. Agrees kind (get_or pairs i d).0 f.0) pairs (h i d l))

pub fits_meant : (kind : Kind) (bytes : List ℕ) (m : Map) → Means kind bytes m → Fits kind m
fits_meant kind bytes m means =
    let pairs = means.pairs in
    let e : entries (map_of pairs) ≡ entries m = ap entries (sym means.is) in
    let low = all_keys (edge_limit kind) pairs (keys_lists means.lists) in
    record {
      values = subst (All (λ f. f.1 < 2 ^ 64)) e (all_entries (λ f. f.1 < 2 ^ 64) pairs (all_values pairs (small_lists means.lists)));
      key_bytes = subst (All (λ f. All (λ b. b < edge_limit kind) f.0)) e (all_entries (λ f. All (λ b. b < edge_limit kind) f.0) pairs low);
      case = subst (IsCaseConsistent kind) e (consistent_entries kind pairs (lists_consistent means.lists));
      narrow = λ front. narrow-same kind front (entries m) pairs (means_same means) (narrow_lists means.lists front);
      short = subst (λ n. n < 2 ^ 64) (means_size kind bytes m means) means.short;
    }
