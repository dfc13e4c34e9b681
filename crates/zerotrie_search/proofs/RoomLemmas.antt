-- The bytes that the edges of a set and their targets have.
use Rattle.std.proofs.Common.{◌≡◌, ℕ, suc, ◌+◌, ◌<◌, ◌≤◌, List, [], ◌∷◌, ◌++◌, length, refl, sym, ◌∙◌, ap, subst, arith, Bool, true, false, cond, inl, inr, length-append, length-drop, map}
use Rattle.std.specs.Prelude.{◌≢◌, ◌==◌, ◌||◌, ◌&&◌, not}
use Rattle.std.specs.List.{concat}
use Rattle.std.proofs.lemmas.Bool.{eq-eqb, ne_eqb, cases_eq}
use Rattle.std.proofs.lemmas.List.{length-take}
use Rattle.std.proofs.lemmas.List.Sums.{sum_by-cons}
use Rattle.zerotrie_base.specs.Kind.{Kind}
use Rattle.zerotrie_base.specs.Maps.{Pairs, residual, edges, begins_some}
use Rattle.zerotrie_base.specs.Branches.{total, blocks, offsets}
use Rattle.zerotrie_base.specs.Canonical.{size_of}
use Rattle.zerotrie_base.specs.Fits.{targets_size}
use Rattle.zerotrie_base.specs.Nodes.{BeginsBranch}
use Rattle.zerotrie_base.specs.Texts.{Lists}
use Rattle.zerotrie_base.specs.Texts.Lists.{nothing, value, literal, span, branch}
use Rattle.zerotrie_base.proofs.NumberLemmas.Numbers.{some_bytes}
use Rattle.zerotrie_base.proofs.MapLemmas.Edges.{member}
use Rattle.zerotrie_base.proofs.CanonicalLemmas.Canonical.{begins_each, branch_bytes}
use Rattle.zerotrie_base.proofs.NodeLemmas.Nodes.{branch_begins, value_no_branch, span_no_branch}
use Rattle.zerotrie_base.proofs.NodeLemmas.Opened.{is_held}
use Rattle.zerotrie_base.proofs.NodeLemmas.Tables.{table_distinct}
use Rattle.zerotrie_core.proofs.CallerLemmas.{edges_count, targets_each, some_pair, begins_behind, member-edges}
use Rattle.zerotrie_core.specs.ByteSets.{is_in}
use Rattle.zerotrie_core.specs.declared.byte_set.ByteSet.{ByteSet}
use Rattle.zerotrie_search.specs.Forks.{need}

one_more : (s t : Bool) (n a b : ℕ) → (s ≡ true → t ≡ true) → a ≤ b → cond s n 0 + a ≤ cond t n 0 + b
one_more true true n a b h less = omega (arith, less)
one_more true false n a b h less = absurd (let e = h refl in cc)
one_more false true n a b h less = omega (arith, less)
one_more false false n a b h less = omega (arith, less)

-- fewer edges need fewer bytes
pub need_fewer : (kind : Kind) (pairs : Pairs) (set fewer : ByteSet) (es : List ℕ) → ((c : ℕ) → is_in fewer c ≡ true → is_in set c ≡ true) → need kind pairs fewer es ≤ need kind pairs set es
need_fewer kind pairs set fewer [] h = omega arith
need_fewer kind pairs set fewer (c ∷ es) h =
    one_more (is_in fewer c) (is_in set c) (suc (size_of kind (residual c pairs))) (need kind pairs fewer es) (need kind pairs set es) (h c) (need_fewer kind pairs set fewer es h)

gone : (s t : Bool) (n m a b : ℕ) → s ≡ false → t ≡ true → m ≡ n → a ≤ b → m + (cond s n 0 + a) ≤ cond t n 0 + b
gone true t n m a b out there is less = absurd (cc)
gone false true n m a b out there is less = omega (arith, is, less)
gone false false n m a b out there is less = absurd (cc)

later : (s t : Bool) (n m a b : ℕ) → s ≡ t → m + a ≤ b → m + (cond s n 0 + a) ≤ cond t n 0 + b
later true true n m a b is less = omega (arith, less)
later true false n m a b is less = absurd (cc)
later false true n m a b is less = absurd (cc)
later false false n m a b is less = omega (arith, less)

-- what an edge that is taken off needs
pub need_without : (kind : Kind) (pairs : Pairs) (set fewer : ByteSet) (e : ℕ) (es : List ℕ) → member e es ≡ true → is_in set e ≡ true → ((c : ℕ) → is_in fewer c ≡ (not (c == e) && is_in set c))
    → suc (size_of kind (residual e pairs)) + need kind pairs fewer es ≤ need kind pairs set es
need_without kind pairs set fewer e [] here there is = absurd (cc)
need_without kind pairs set fewer e (c ∷ es) here there is = elim (cases_eq c e) [
  | inl same ↦
      gone (is_in fewer c) (is_in set c) (suc (size_of kind (residual c pairs))) (suc (size_of kind (residual e pairs))) (need kind pairs fewer es) (need kind pairs set es)
      (is c ∙ ap (λ t. not t && is_in set c) (eq-eqb c e same)) (ap (is_in set) same ∙ there) (ap (λ x. suc (size_of kind (residual x pairs))) (sym same))
      (need_fewer kind pairs set fewer es (λ d h. yes_second (not (d == e)) (is_in set d) (sym (is d) ∙ h)))
  | inr other ↦
      later (is_in fewer c) (is_in set c) (suc (size_of kind (residual c pairs))) (suc (size_of kind (residual e pairs))) (need kind pairs fewer es) (need kind pairs set es)
      (is c ∙ ap (λ t. not t && is_in set c) (ne_eqb c e other))
      (need_without kind pairs set fewer e es (sym (ap (λ t. t || member e es) (ne_eqb c e other)) ∙ here) there is)
]
  where
    yes_second : (a b : Bool) → (a && b) ≡ true → b ≡ true
    yes_second true b e = e
    yes_second false b e = absurd (cc)

all_of : (s : Bool) (n m a b : ℕ) → n ≡ suc m → a ≤ b → cond s n 0 + a ≤ suc (m + b)
all_of true n m a b is less = omega (arith, is, less)
all_of false n m a b is less = omega (arith, less)

need_all : (kind : Kind) (pairs : Pairs) (set : ByteSet) (es : List ℕ) → need kind pairs set es ≤ length es + total (map (λ b. size_of kind (residual b pairs)) es)
need_all kind pairs set [] = omega arith
need_all kind pairs set (c ∷ es) =
    let rest = need_all kind pairs set es in
    let size : ℕ = size_of kind (residual c pairs) in
    let sizes : ℕ = total (map (λ b. size_of kind (residual b pairs)) es) in
    let sum : total (map (λ b. size_of kind (residual b pairs)) (c ∷ es)) ≡ size + sizes = sum_by-cons (λ n. n) size (map (λ b. size_of kind (residual b pairs)) es) in
    let first : cond (is_in set c) (suc size) 0 + need kind pairs set es ≤ suc (size + (length es + sizes)) = all_of (is_in set c) (suc size) size (need kind pairs set es) (length es + sizes) refl rest in
    subst (λ n. cond (is_in set c) (suc size) 0 + need kind pairs set es ≤ suc (length es) + n) (sym sum) (omega (arith, first))

-- a branch has the bytes of its edges and targets behind its head
behind_long : {kind : Kind} {bytes : List ℕ} {below : Pairs} → Lists kind bytes below → (n w : ℕ) (table behind : List ℕ) → BeginsBranch kind bytes n w table behind → length (edges below) + targets_size kind below ≤ length behind
behind_long nothing n w table behind b = absurd (some_bytes 32 3 _ b.body b.begins)
behind_long (value {v = v} {spelling = spelling} {rest = after} s m text) n w table behind b = absurd (value_no_branch v _ (spelling ++ after) after b.body (record { spelling = spelling; spells = s; bytes_are = refl }) b.begins)
behind_long (literal {b = c} {rest = after} low m text) n w table behind b = absurd (let lead = branch_begins _ c after b.body b.begins in omega arith)
behind_long (span {spelling = spelling} {rest = after} run h some high s m f text) n w table behind b =
    absurd (span_no_branch (length run) _ (spelling ++ (run ++ after)) (run ++ after) b.body (record { spelling = spelling; spells = s; bytes_are = refl }) b.begins)
behind_long (branch {edges = es} {targets = targets} i each) n w table behind b =
    let h = is_held n w table behind i b in
    let apart = table_distinct i.is_table in
    let count = edges_count each apart (branch_bytes i) in
    let size = targets_each each apart (branch_bytes i) in
    let edges_len = ap length h.edges_are in
    let taken = length-take n behind in
    let parts = ap length h.has_targets.bytes_are in
    let dropped = length-drop n behind in
    let both = length-append (blocks w (offsets targets)) (concat targets) in
    omega (arith, count, size, edges_len, taken, parts, dropped, both, h.count)

pub need_opened : {kind : Kind} {bytes : List ℕ} {below : Pairs} → Lists kind bytes below → (n w : ℕ) (table behind : List ℕ) → BeginsBranch kind bytes n w table behind → (set : ByteSet) → need kind below set (edges below) ≤ length behind
unfolding targets_size
need_opened {kind = kind} {below = below} text n w table behind b set =
    let all = need_all kind below set (edges below) in
    let long = behind_long text n w table behind b in
    omega (arith, all, long)

-- the edges of a branch are bytes
pub edge_byte : {kind : Kind} {bytes : List ℕ} {below : Pairs} → Lists kind bytes below → (n w : ℕ) (table behind : List ℕ) → BeginsBranch kind bytes n w table behind → (c : ℕ) → begins_some below c ≡ true → c < 256
edge_byte nothing n w table behind b c here = absurd (some_bytes 32 3 _ b.body b.begins)
edge_byte (value {v = v} {spelling = spelling} {rest = after} s m text) n w table behind b c here = absurd (value_no_branch v _ (spelling ++ after) after b.body (record { spelling = spelling; spells = s; bytes_are = refl }) b.begins)
edge_byte (literal {b = e} {rest = after} low m text) n w table behind b c here = absurd (let lead = branch_begins _ e after b.body b.begins in omega arith)
edge_byte (span {spelling = spelling} {rest = after} run h some high s m f text) n w table behind b c here =
    absurd (span_no_branch (length run) _ (spelling ++ (run ++ after)) (run ++ after) b.body (record { spelling = spelling; spells = s; bytes_are = refl }) b.begins)
edge_byte (branch {edges = es} i each) n w table behind b c here = branch_bytes i c (sym (begins_each each c) ∙ here)

-- an edge that leads to some pair is one of the edges
pub leads_member : (pairs : Pairs) (e : ℕ) → e < 256 → residual e pairs ≢ [] → member e (edges pairs) ≡ true
leads_member pairs e low some = member-edges pairs e low ∙ begins_behind pairs e ∙ by (residual e pairs) some
  where
    by : (ps : Pairs) → ps ≢ [] → some_pair ps ≡ true
    by [] some = absurd (some refl)
    by (x ∷ ps) some = refl
