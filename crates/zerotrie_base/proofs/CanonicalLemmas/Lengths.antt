-- A text is as long as the size of the pairs that it lists.
use Rattle.std.proofs.Common.{◌≡◌, ℕ, ◌+◌, ◌≤◌, List, [], ◌∷◌, ◌++◌, length, refl, sym, ◌∙◌, ap, subst, arith, map, true, inl, length-append}
use Rattle.std.specs.List.{concat}
use Rattle.std.proofs.lemmas.List.{length-map}
use Rattle.zerotrie_base.specs.Kind.{Kind, sorted_by}
use Rattle.zerotrie_base.specs.Numbers.{value_form, span_form}
use Rattle.zerotrie_base.specs.Maps.{Pairs, edges, residual, run_of}
use Rattle.zerotrie_base.specs.Branches.{IsBranch, total, branch_front, table_size}
use Rattle.zerotrie_base.specs.Texts.{Lists, ListEach, NoSpanFirst}
use Rattle.zerotrie_base.specs.Texts.Lists.{nothing, value, literal, span, branch}
use Rattle.zerotrie_base.specs.Texts.ListEach.{no_edge, edge}
use Rattle.zerotrie_base.specs.Canonical.{size_of, branch_size}
use Rattle.zerotrie_base.specs.Fits.{targets_size}
use Rattle.zerotrie_base.proofs.MapLemmas.Edges.{member, member_head, member_later}
use Rattle.zerotrie_base.proofs.NumberLemmas.Numbers.{extender_one}
use Rattle.zerotrie_base.proofs.NumberLemmas.Spellings.{spelling_is}
use Rattle.zerotrie_base.proofs.MapLemmas.Values.{behind_none}
use Rattle.zerotrie_base.proofs.NodeLemmas.Tables.{Distinct, none_member, table_distinct, length-table}
use Rattle.zerotrie_base.proofs.MapLemmas.Ordered.{length-sorted_by, total-sorted_by}
use Rattle.zerotrie_base.proofs.NodeLemmas.Fronts.{front_len, length-branch_front, branch_is_front, total-lengths}
use Rattle.zerotrie_base.proofs.MapLemmas.Spans.{run_of-literal, run_of-value, run_of-many}
use Rattle.zerotrie_base.proofs.CanonicalLemmas.Canonical.{Bytes, edges_sorted, branch_bytes, residual_first, residual_later, not_first, no_value, lists_some}
use Rattle.zerotrie_base.proofs.CanonicalLemmas.Sizes.{size_none, size_value, size_literal, size_span, size_branch}

-- how many edges the pairs have
pub edges_count : {kind : Kind} {es : List ℕ} {targets : List (List ℕ)} {pairs : Pairs} → ListEach kind es targets pairs → Distinct kind es → Bytes es → length (edges pairs) ≡ length es
edges_count {es = es} each apart bytes = ap length (edges_sorted each apart bytes) ∙ length-sorted_by (λ b. b) es

branch_parts : {kind : Kind} {es : List ℕ} {targets : List (List ℕ)} {bytes : List ℕ} {pairs : Pairs} → IsBranch kind es targets bytes → ListEach kind es targets pairs → 2 ≤ length (edges pairs)
branch_parts b each = let count = edges_count each (table_distinct b.is_table) (branch_bytes b) in let two = b.two in omega arith

-- what does not begin with a span lists keys without a run in front of all
no_run : {kind : Kind} {bytes : List ℕ} {pairs : Pairs} → Lists kind bytes pairs → (bytes ≡ [] → ⊥) → NoSpanFirst bytes → run_of pairs ≡ []
no_run nothing some none = absurd (some refl)
no_run (value {v = v} {pairs = p} s n text) some none = run_of-value v p
no_run (literal {b = b} {pairs = p} low n text) some none = run_of-literal b p low (lists_some text n)
no_run (span {spelling = spelling} {rest = rest} run h there high s n f text) some none =
    let digit = s.digit_below in
    let one = extender_one s.trail in
    let not_five = subst NoSpanFirst (ap (λ x. x ++ (run ++ rest)) s.bytes_are) none in
    absurd (not_five (omega arith))
no_run (branch {pairs = p} b each) some none = run_of-many p (branch_parts b each)

-- the bytes of a branch don't depend on the order of its targets
branch_size_total : (kind : Kind) (xs ys : List ℕ) → length xs ≡ length ys → total xs ≡ total ys → branch_size kind xs ≡ branch_size kind ys
branch_size_total kind xs ys n t =
    let a = length-branch_front [] xs ∙ ap (λ k. 0 + front_len (total xs) k) n ∙ ap (λ k. 0 + front_len k (length ys)) t in
    let b = length-branch_front [] ys in
    ap (λ k. k + table_size kind (length xs)) (a ∙ sym b) ∙ ap (λ k. length (branch_front [] ys) + table_size kind k) n

-- a branch is as long as its front and its targets
branch_long : {kind : Kind} {es : List ℕ} {targets : List (List ℕ)} {bytes : List ℕ} → IsBranch kind es targets bytes → length bytes ≡ branch_size kind (map length targets) + length (concat targets)
branch_long {kind = kind} {es = es} {targets = targets} b =
    let lengths = map length targets in
    let whole = ap length (branch_is_front b) ∙ length-append (branch_front b.table lengths) (concat targets) in
    let front = length-branch_front b.table lengths in
    let bare = length-branch_front [] lengths in
    let table = length-table b.is_table ∙ ap (table_size kind) (sym (length-map targets length ∙ b.a_target_each)) in
    omega arith

-- the bytes of the targets of a branch, by those of each
targets_total : (kind : Kind) (es : List ℕ) (targets : List (List ℕ)) (pairs : Pairs) → edges pairs ≡ sorted_by (λ b. b) es → map (λ b. size_of kind (residual b pairs)) es ≡ map length targets → targets_size kind pairs ≡ length (concat targets)
unfolding targets_size
targets_total kind es targets pairs are sizes =
    ap (λ fs. total (map (λ b. size_of kind (residual b pairs)) fs)) are
    ∙ total-sorted_by (λ b. b) (λ b. size_of kind (residual b pairs)) es
    ∙ ap total sizes
    ∙ total-lengths targets

cons_sizes : (a b : ℕ) (xs ys : List ℕ) → a ≡ b → xs ≡ ys → a ∷ xs ≡ b ∷ ys
cons_sizes a b xs ys e f = cc

mutual
  pub listed_size : {kind : Kind} {bytes : List ℕ} {pairs : Pairs} → Lists kind bytes pairs → size_of kind pairs ≡ length bytes
  listed_size {kind = kind} nothing = size_none kind
  listed_size {kind = kind} (value {v = v} {spelling = spelling} {rest = rest} {pairs = p} s n text) =
      let first = ap length (spelling_is value_form v spelling (inl refl) s) in
      let whole = length-append spelling rest in
      let behind = listed_size text in
      let size = size_value kind v p (no_value text n) in
      omega arith
  listed_size {kind = kind} (literal {b = b} {pairs = p} low n text) = let behind = listed_size text in let size = size_literal kind b p low (lists_some text n) in omega arith
  listed_size {kind = kind} (span {spelling = spelling} {rest = rest} {pairs = p} run h some high s n f text) =
      let first = ap length (spelling_is span_form (length run) spelling (inl refl) s) in
      let whole = length-append spelling (run ++ rest) in
      let more = length-append run rest in
      let behind = listed_size text in
      let size = size_span kind run p h some high (lists_some text n) (no_run text n f) in
      omega arith
  listed_size {kind = kind} (branch {edges = es} {targets = targets} {pairs = p} b each) =
      let apart = table_distinct b.is_table in
      let are = edges_sorted each apart (branch_bytes b) in
      let f : ℕ → ℕ = λ e. size_of kind (residual e p) in
      let sizes = each_sizes each p apart (λ e h. refl) in
      let count = length-map (edges p) f ∙ edges_count each apart (branch_bytes b) ∙ sym (length-map targets length ∙ b.a_target_each) in
      let targets_are = targets_total kind es targets p are sizes in
      let sum = ap (λ fs. total (map f fs)) are ∙ total-sorted_by (λ e. e) f es ∙ ap total sizes in
      let front = branch_size_total kind (map f (edges p)) (map length targets) count sum in
      let size = size_branch kind p (branch_parts b each) (behind_none each) in
      let long = branch_long b in
      omega arith

  pub each_sizes : {kind : Kind} {es : List ℕ} {targets : List (List ℕ)} {pairs : Pairs} → ListEach kind es targets pairs → (all : Pairs) → Distinct kind es → ((b : ℕ) → member b es ≡ true → residual b all ≡ residual b pairs)
      → map (λ b. size_of kind (residual b all)) es ≡ map length targets
  each_sizes no_edge all apart same = refl
  each_sizes {kind = kind} (edge {e = e} {edges = es} {target = t} {targets = ts} {pairs = p} {more = m} n text each) all apart same =
      let out = none_member kind e es apart.0 in
      cons_sizes (size_of kind (residual e all)) (length t) _ _
      (ap (size_of kind) (same e (member_head e es) ∙ residual_first e p each out) ∙ listed_size text)
      (each_sizes each all apart.1 (λ b h. same b (member_later b e es h) ∙ residual_later b e p m (not_first e b es out h)))

-- the bytes of the targets of a branch
pub targets_each : {kind : Kind} {es : List ℕ} {targets : List (List ℕ)} {pairs : Pairs} → ListEach kind es targets pairs → Distinct kind es → Bytes es → targets_size kind pairs ≡ length (concat targets)
targets_each {kind = kind} {es = es} {targets = targets} {pairs = pairs} each apart bytes =
    targets_total kind es targets pairs (edges_sorted each apart bytes) (each_sizes each pairs apart (λ b h. refl))
