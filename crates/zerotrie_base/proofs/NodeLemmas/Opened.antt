-- What a text lists, by its first node.
use Rattle.std.proofs.Common.{◌≡◌, ℕ, ◌+◌, ◌-◌, ◌*◌, ◌%◌, ◌^◌, ◌<◌, ◌≤◌, List, [], ◌∷◌, ◌++◌, length, refl, sym, ◌∙◌, ap, subst, arith, get_or, take, drop, length-append, true}
use Rattle.std.specs.Option.{option_map_or}
use Rattle.std.specs.List.{concat}
use Rattle.std.proofs.lemmas.List.{take_at, drop_at, drop-append-le, get_or-take}
use Rattle.zerotrie_base.specs.Kind.{Kind, has_spans}
use Rattle.zerotrie_base.specs.Maps.{Pairs, with_front, with_run, after_run}
use Rattle.zerotrie_base.specs.Numbers.{BeginsWith}
use Rattle.zerotrie_base.specs.Branches.{IsBranch, IsTable, table_size, before_edges, blocks, offsets}
use Rattle.zerotrie_base.specs.Texts.{Lists, ListEach, NoValueFirst, nodes, nodes_behind}
use Rattle.zerotrie_base.specs.Texts.Lists.{nothing, value, literal, span, branch}
use Rattle.zerotrie_base.specs.Texts.ListEach.{no_edge, edge}
use Rattle.zerotrie_base.specs.Nodes.{Shape, Begins, BeginsSpan, BeginsBranch}
use Rattle.zerotrie_base.specs.Nodes as shapes
use Rattle.zerotrie_base.proofs.NumberLemmas.Numbers.{some_bytes, one_reading, cons_parts}
use Rattle.zerotrie_base.proofs.CanonicalLemmas.Canonical.{nil_end}
use Rattle.zerotrie_base.proofs.NodeLemmas.Tables.{Distinct, table_distinct, length-table, before_within, edges_of_table}
use Rattle.zerotrie_base.proofs.NodeLemmas.Offsets.{HasTargets, length-blocks, length-offsets}
use Rattle.zerotrie_base.proofs.NodeLemmas.Nodes.{value_begins, span_begins, branch_begins, value_no_branch, value_no_span, span_no_branch}

-- The text begins with a value.
pub record HasValue {kind : Kind} {bytes : List ℕ} {pairs : Pairs} (text : Lists kind bytes pairs) (v : ℕ) (rest : List ℕ) : Type 0 where
  pub below : Pairs
  pub inner : Lists kind rest below
  pub is : pairs ≡ ([], v) ∷ below
  pub apart : NoValueFirst rest
  pub here : nodes text [] ≡ 1
  pub counts : (c : ℕ) (key : List ℕ) → nodes text (c ∷ key) ≡ 1 + nodes inner (c ∷ key)

-- It begins with edges, each with a target.
pub record Opens {kind : Kind} {bytes : List ℕ} {pairs : Pairs} (text : Lists kind bytes pairs) (edges : List ℕ) (targets : List (List ℕ)) : Type 0 where
  pub all : Pairs
  pub same : pairs ≡ all
  pub each : ListEach kind edges targets all
  pub distinct : Distinct kind edges
  pub here : nodes text [] ≡ 1
  pub counts : (c : ℕ) (key : List ℕ) → nodes text (c ∷ key) ≡ 1 + nodes_behind each c key

-- It has no node.
pub record HasNothing {kind : Kind} {bytes : List ℕ} {pairs : Pairs} (text : Lists kind bytes pairs) : Type 0 where
  pub is : pairs ≡ []
  pub counts : (key : List ℕ) → nodes text key ≡ 0

-- It begins with a span, whose run stands in front of the rest.
pub record HasSpan {kind : Kind} {bytes : List ℕ} {pairs : Pairs} (text : Lists kind bytes pairs) (run rest : List ℕ) : Type 0 where
  pub below : Pairs
  pub inner : Lists kind rest below
  pub is : pairs ≡ with_run run below
  pub spans : has_spans kind ≡ true
  pub some : run ≡ [] → ⊥
  pub more : rest ≡ [] → ⊥
  pub counts : (key : List ℕ) → nodes text key ≡ 1 + option_map_or (λ k. nodes inner k) (after_run run key) 0

-- What a branch has: the edges, their search table, and its targets.
pub record Holds (kind : Kind) (edges : List ℕ) (targets : List (List ℕ)) (n w : ℕ) (table behind : List ℕ) : Type 0 where
  pub edges_are : take n behind ≡ edges
  pub count : length edges ≡ n
  pub is_table : IsTable kind edges table
  pub has_targets : HasTargets targets n w behind

pub held_edge : {kind : Kind} {edges : List ℕ} {targets : List (List ℕ)} {n w : ℕ} {table behind : List ℕ} → Holds kind edges targets n w table behind → (place : ℕ) → place < n → get_or edges place 0 ≡ get_or behind place 0
held_edge {n = n} {behind = behind} h place inside = ap (λ t. get_or t place 0) (sym h.edges_are) ∙ get_or-take n behind place 0 inside

-- The text begins with a branch.
pub record OpensBranch {kind : Kind} {bytes : List ℕ} {pairs : Pairs} (text : Lists kind bytes pairs) (n w : ℕ) (table behind : List ℕ) : Type 0 where
  pub edges : List ℕ
  pub targets : List (List ℕ)
  pub opens : Opens text edges targets
  pub holds : Holds kind edges targets n w table behind

-- the bytes after the head of a branch
abbrev pub body_of : {kind : Kind} {edges : List ℕ} {targets : List (List ℕ)} {bytes : List ℕ} → IsBranch kind edges targets bytes → List ℕ
body_of {targets = targets} b = b.table ++ (blocks (b.width + 1) (offsets targets) ++ concat targets)

pub head_begins : {kind : Kind} {edges : List ℕ} {targets : List (List ℕ)} {bytes : List ℕ} (b : IsBranch kind edges targets bytes) → BeginsWith 32 3 (256 * b.width + length edges % 256) bytes (body_of b)
head_begins b = record { spelling = b.head; spells = b.is_head; bytes_are = b.bytes_are }

pub body_long : {kind : Kind} {edges : List ℕ} {targets : List (List ℕ)} {bytes : List ℕ} (b : IsBranch kind edges targets bytes) → table_size kind (length edges) + (b.width + 1) * (length edges - 1) ≤ length (body_of b)
body_long {kind = kind} {edges = edges} {targets = targets} b =
    let table = length-table b.is_table in
    let all = length-append b.table (blocks (b.width + 1) (offsets targets) ++ concat targets) in
    let behind = length-append (blocks (b.width + 1) (offsets targets)) (concat targets) in
    let offsets_len = length-blocks (b.width + 1) (offsets targets) ∙ ap (λ n. (b.width + 1) * n) (length-offsets targets ∙ ap (λ n. n - 1) b.a_target_each) in
    omega arith

pub width_is : (w x n e : ℕ) → 1 ≤ w → 2 ≤ e → e ≤ 256 → 2 ≤ n → n ≤ 256 → 256 * x + n % 256 ≡ 256 * (w - 1) + e % 256 → (x + 1 ≡ w) × (n ≡ e)
width_is w x n e some two most two' most' is = (omega arith, omega arith)

-- from the edges on, the table is in front of the offsets
pub from_edges : (kind : Kind) (n : ℕ) (edges table more : List ℕ) → IsTable kind edges table → length edges ≡ n → drop (before_edges kind n) (table ++ more) ≡ edges ++ more
from_edges kind n edges table more is count =
    let within = before_within is in
    ap (λ k. drop (before_edges kind k) (table ++ more)) (sym count)
    ∙ drop-append-le (before_edges kind (length edges)) table more within
    ∙ ap (λ t. t ++ more) (edges_of_table is)

-- the bytes from the edges of a branch on
abbrev behind_of : {kind : Kind} {edges : List ℕ} {targets : List (List ℕ)} {bytes : List ℕ} → IsBranch kind edges targets bytes → List ℕ
behind_of {edges = edges} {targets = targets} b = edges ++ (blocks (b.width + 1) (offsets targets) ++ concat targets)

-- a branch begins as one
pub is_begun : {kind : Kind} {edges : List ℕ} {targets : List (List ℕ)} {bytes : List ℕ} (b : IsBranch kind edges targets bytes) → BeginsBranch kind bytes (length edges) (b.width + 1) b.table (behind_of b)
is_begun {kind = kind} {edges = edges} {targets = targets} b =
    let back : b.width + 1 - 1 ≡ b.width = omega arith in
    let more = blocks (b.width + 1) (offsets targets) ++ concat targets in
    record {
      two = b.two;
      at_most = b.at_most;
      some = omega arith;
      fits = let f = b.fits in omega arith;
      body = body_of b;
      begins = rw back (head_begins b);
      table_is = sym (take_at b.table more (table_size kind (length edges)) (length-table b.is_table));
      behind_is = sym (from_edges kind (length edges) edges b.table more b.is_table refl);
      holds = body_long b;
    }

-- and as no other
pub is_held : {kind : Kind} {edges : List ℕ} {targets : List (List ℕ)} {bytes : List ℕ} (n w : ℕ) (table behind : List ℕ) → IsBranch kind edges targets bytes → BeginsBranch kind bytes n w table behind
    → Holds kind edges targets n w table behind
is_held {kind = kind} {edges = edges} {targets = targets} {bytes = bytes} n w table behind i b =
    let one = one_reading 32 3 3 _ _ bytes _ b.body (head_begins i) b.begins in
    let parts = width_is w i.width (length edges) n b.some b.two b.at_most i.two i.at_most one.0 in
    let more = blocks (i.width + 1) (offsets targets) ++ concat targets in
    let tabled : table ≡ i.table =
    b.table_is ∙ ap (take (table_size kind n)) (sym one.1) ∙ take_at i.table more (table_size kind n) (length-table i.is_table ∙ ap (table_size kind) parts.1) in
    let body : behind ≡ edges ++ more = b.behind_is ∙ ap (drop (before_edges kind n)) (sym one.1) ∙ from_edges kind n edges i.table more i.is_table parts.1 in
    record {
      edges_are = ap (take n) body ∙ take_at edges more n parts.1;
      count = parts.1;
      is_table = subst (IsTable kind edges) (sym tabled) i.is_table;
      has_targets = record {
        count = i.a_target_each ∙ parts.1;
        enough = subst (λ x. length (concat targets) < 256 ^ x) parts.0 i.is_width.enough;
        bytes_are = ap (drop n) body ∙ drop_at edges more n parts.1 ∙ ap (λ x. blocks x (offsets targets) ++ concat targets) parts.0;
      };
    }

pub value_opens : {kind : Kind} {bytes : List ℕ} {pairs : Pairs} (text : Lists kind bytes pairs) (v : ℕ) (rest : List ℕ) → BeginsWith 16 4 v bytes rest → HasValue text v rest
value_opens nothing v rest b = absurd (some_bytes 16 4 v rest b)
value_opens (value {v = w} {spelling = spelling} {rest = after} {pairs = below} s n text) v rest b =
    let one = one_reading 16 4 4 w v (spelling ++ after) after rest (record { spelling = spelling; spells = s; bytes_are = refl }) b in
    subst (λ r. HasValue (value s n text) v r) one.1
    (subst (λ x. HasValue (value s n text) x after) one.0 (record { below = below; inner = text; is = refl; apart = n; here = refl; counts = λ c key. refl }))
value_opens (literal {b = c} {rest = after} low n text) v rest b = absurd (let lead = value_begins v c after rest b in omega arith)
value_opens (span {spelling = spelling} {rest = after} run h some high s n f text) v rest b =
    absurd (value_no_span v (length run) (spelling ++ (run ++ after)) rest (run ++ after) b (record { spelling = spelling; spells = s; bytes_are = refl }))
value_opens (branch {bytes = bytes} i each) v rest b = absurd (value_no_branch v _ bytes rest _ b (head_begins i))

pub literal_opens : {kind : Kind} {bytes : List ℕ} {pairs : Pairs} (text : Lists kind bytes pairs) (c : ℕ) (rest : List ℕ) → c < 128 → bytes ≡ c ∷ rest → Opens text (c ∷ []) (rest ∷ [])
literal_opens nothing c rest low e = absurd (cc)
literal_opens (value {v = v} {spelling = spelling} {rest = after} s n text) c rest low e =
    absurd (let lead = value_begins v c rest after (record { spelling = spelling; spells = s; bytes_are = sym e }) in omega arith)
literal_opens {kind = kind} (literal {b = b} {rest = after} {pairs = below} low n text) c rest low' e =
    let is = cons_parts b c after rest e in
    subst (λ r. Opens (literal {b = b} low n text) (c ∷ []) (r ∷ [])) is.1
    (subst (λ x. Opens (literal {b = b} low n text) (x ∷ []) (after ∷ [])) is.0 (record {
      all = with_front b below ++ [];
      same = sym (nil_end (with_front b below));
      each = edge n text no_edge;
      distinct = (tt, tt);
      here = refl;
      counts = λ x key. refl;
    }))
literal_opens (span {spelling = spelling} {rest = after} run h some high s n f text) c rest low e =
    absurd (let lead = span_begins (length run) c rest (run ++ after) (record { spelling = spelling; spells = s; bytes_are = sym e }) in omega arith)
literal_opens (branch {edges = edges} i each) c rest low e =
    absurd (let lead = branch_begins _ c rest (body_of i) (subst (λ x. BeginsWith 32 3 (256 * i.width + length edges % 256) x (body_of i)) e (head_begins i)) in omega arith)

pub branch_opens : {kind : Kind} {bytes : List ℕ} {pairs : Pairs} (text : Lists kind bytes pairs) (n w : ℕ) (table behind : List ℕ) → BeginsBranch kind bytes n w table behind → OpensBranch text n w table behind
branch_opens nothing n w table behind b = absurd (some_bytes 32 3 _ b.body b.begins)
branch_opens (value {v = v} {spelling = spelling} {rest = after} s m text) n w table behind b = absurd (value_no_branch v _ (spelling ++ after) after b.body (record { spelling = spelling; spells = s; bytes_are = refl }) b.begins)
branch_opens (literal {b = c} {rest = after} low m text) n w table behind b = absurd (let lead = branch_begins _ c after b.body b.begins in omega arith)
branch_opens (span {spelling = spelling} {rest = after} run h some high s m f text) n w table behind b =
    absurd (span_no_branch (length run) _ (spelling ++ (run ++ after)) (run ++ after) b.body (record { spelling = spelling; spells = s; bytes_are = refl }) b.begins)
branch_opens (branch {edges = edges} {targets = targets} i each) n w table behind b = record {
  edges = edges;
  targets = targets;
  opens = record { all = _; same = refl; each = each; distinct = table_distinct i.is_table; here = refl; counts = λ c key. refl };
  holds = is_held n w table behind i b;
}

-- two lists of one length in front of others
pub same_parts : (xs ys more more' : List ℕ) → length xs ≡ length ys → xs ++ more ≡ ys ++ more' → (xs ≡ ys) × (more ≡ more')
same_parts [] [] more more' n e = (refl, e)
same_parts [] (y ∷ ys) more more' n e = absurd (omega arith)
same_parts (x ∷ xs) [] more more' n e = absurd (omega arith)
same_parts (x ∷ xs) (y ∷ ys) more more' n e =
    let heads = cons_parts x y (xs ++ more) (ys ++ more') e in
    let rest = same_parts xs ys more more' (omega arith) heads.1 in
    (ap (λ z. z ∷ xs) heads.0 ∙ ap (λ zs. y ∷ zs) rest.0, rest.1)

pub span_opens : {kind : Kind} {bytes : List ℕ} {pairs : Pairs} (text : Lists kind bytes pairs) (run rest : List ℕ) → BeginsSpan bytes run rest → HasSpan text run rest
span_opens nothing run rest b = absurd (some_bytes 16 5 (length run) (run ++ rest) b)
span_opens (value {v = v} {spelling = spelling} {rest = after} s m text) run rest b =
    absurd (value_no_span v (length run) (spelling ++ after) after (run ++ rest) (record { spelling = spelling; spells = s; bytes_are = refl }) b)
span_opens (literal {b = c} {rest = after} low m text) run rest b = absurd (let lead = span_begins (length run) c after (run ++ rest) b in omega arith)
span_opens (span {spelling = spelling} {rest = after} {pairs = below} front h some high s m f text) run rest b =
    let one = one_reading 16 5 5 (length front) (length run) (spelling ++ (front ++ after)) (front ++ after) (run ++ rest) (record { spelling = spelling; spells = s; bytes_are = refl }) b in
    let parts = same_parts front run after rest one.0 one.1 in
    subst (λ r. HasSpan (span front h some high s m f text) run r) parts.1
    (subst (λ r. HasSpan (span front h some high s m f text) r after) parts.0 (record { below = below; inner = text; is = refl; spans = h; some = some; more = m; counts = λ key. refl }))
span_opens (branch {bytes = bytes} i each) run rest b = absurd (span_no_branch (length run) _ bytes (run ++ rest) _ b (head_begins i))

-- no bytes list nothing
pub nothing_listed : {kind : Kind} {bytes : List ℕ} {pairs : Pairs} → Lists kind bytes pairs → bytes ≡ [] → pairs ≡ []
nothing_listed nothing e = refl
nothing_listed (value {v = v} {rest = rest} s n text) e = absurd (some_bytes 16 4 v rest (subst (λ x. BeginsWith 16 4 v x rest) e (record { spelling = _; spells = s; bytes_are = refl })))
nothing_listed (literal low n text) e = absurd (cc)
nothing_listed (span {rest = rest} run h some high s n f text) e =
    absurd (some_bytes 16 5 (length run) (run ++ rest) (subst (λ x. BeginsWith 16 5 (length run) x (run ++ rest)) e (record { spelling = _; spells = s; bytes_are = refl })))
nothing_listed (branch {edges = edges} i each) e =
    absurd (some_bytes 32 3 _ (body_of i) (subst (λ x. BeginsWith 32 3 (256 * i.width + length edges % 256) x (body_of i)) e (head_begins i)))

-- if no node begins, nothing is listed
pub no_node : {kind : Kind} {bytes : List ℕ} {pairs : Pairs} → (text : Lists kind bytes pairs) → ((s : Shape) → Begins kind bytes s → ⊥) → HasNothing text
no_node nothing none = record { is = refl; counts = λ key. refl }
no_node (value {v = v} {spelling = spelling} {rest = rest} s n text) none = absurd (none (shapes.Shape.value v rest) (record { spelling = spelling; spells = s; bytes_are = refl }))
no_node (literal {b = b} {rest = rest} low n text) none = absurd (none (shapes.Shape.literal b rest) (low, refl))
no_node (span {spelling = spelling} {rest = rest} run h some high s n f text) none =
    absurd (none (shapes.Shape.span run rest) (h, record { spelling = spelling; spells = s; bytes_are = refl }))
no_node (branch {edges = edges} i each) none = absurd (none (shapes.Shape.branch (length edges) (i.width + 1) i.table (behind_of i)) (is_begun i))
