-- Texts one after another, as a row of nodes, and how many pairs they list together.
use Rattle.std.proofs.Common.{◌≡◌, ℕ, ◌+◌, ◌-◌, ◌*◌, ◌<◌, ◌≤◌, List, [], ◌∷◌, ◌++◌, length, refl, sym, ◌∙◌, ap, subst, arith, drop, Option, Some, None, length-append, append_assoc}
use Rattle.std.specs.List.{concat}
use Rattle.std.proofs.lemmas.List.{take_at, drop_at, append-nil, length-map}
use Rattle.zerotrie_base.specs.Kind.{Kind}
use Rattle.zerotrie_base.specs.Maps.{Pairs, with_front, with_run}
use Rattle.zerotrie_base.specs.Branches.{IsBranch, table_size, blocks, offsets}
use Rattle.zerotrie_base.specs.Texts.{Lists, ListEach}
use Rattle.zerotrie_base.specs.Texts.Lists.{nothing, value, literal, span, branch}
use Rattle.zerotrie_base.specs.Texts.ListEach.{no_edge, edge}
use Rattle.zerotrie_base.specs.Nodes.{Shape, Begins, BeginsBranch, targets_behind}
use Rattle.zerotrie_base.specs.Nodes as shapes
use Rattle.zerotrie_core.specs.listing.Listed.{node_of}
use Rattle.zerotrie_core.specs.walk.Row.{row_behind, values_in}
use Rattle.zerotrie_core.proofs.NodeLemmas.Read.{node_begun}
use Rattle.zerotrie_base.proofs.NodeLemmas.Tables.{length-table}
use Rattle.zerotrie_core.proofs.ListingLemmas.Left.{read_shorter}
use Rattle.zerotrie_base.proofs.NodeLemmas.Offsets.{length-blocks, length-offsets}
use Rattle.zerotrie_base.proofs.NodeLemmas.Opened.{body_of, body_long, from_edges}

-- The bytes are texts one after another, which list this many pairs together.
pub data Counts (kind : Kind) : List ℕ → ℕ → Type 0 where
  none : Counts kind [] 0
  text : {bytes more : List ℕ} {pairs : Pairs} {n : ℕ} → Lists kind bytes pairs → Counts kind more n → Counts kind (bytes ++ more) (length pairs + n)

-- by the first node: its value counts, and then what stands after it
abbrev pub CountsOn : Kind → Option Shape → ℕ → Type 0
CountsOn kind None n = n ≡ 0
CountsOn kind (Some s) n = (left : ℕ) × (n ≡ values_in s + left) × Counts kind (row_behind s) left

-- a text by itself
pub counts_text : {kind : Kind} {bytes : List ℕ} {pairs : Pairs} → Lists kind bytes pairs → Counts kind bytes (length pairs)
counts_text {kind = kind} {bytes = bytes} {pairs = pairs} t =
    let same : length pairs + 0 ≡ length pairs = omega arith in
    subst (Counts kind bytes) same (subst (λ x. Counts kind x (length pairs + 0)) (append-nil bytes) (text t none))

-- the offsets and targets of a branch, and then more
abbrev behind_edges : {kind : Kind} {edges : List ℕ} {targets : List (List ℕ)} {bytes : List ℕ} → IsBranch kind edges targets bytes → List ℕ → List ℕ
behind_edges {targets = targets} b more = (blocks (b.width + 1) (offsets targets) ++ concat targets) ++ more

-- a branch in front of more bytes begins as it does alone
begun_on : {kind : Kind} {edges : List ℕ} {targets : List (List ℕ)} {bytes : List ℕ} (b : IsBranch kind edges targets bytes) (more : List ℕ)
    → BeginsBranch kind (bytes ++ more) (length edges) (b.width + 1) b.table (edges ++ behind_edges b more)
begun_on {kind = kind} {edges = edges} {targets = targets} {bytes = bytes} b more =
    let back : b.width + 1 - 1 ≡ b.width = omega arith in
    let front = blocks (b.width + 1) (offsets targets) ++ concat targets in
    let apart : body_of b ++ more ≡ b.table ++ (front ++ more) = append_assoc b.table front more in
    let all : bytes ++ more ≡ b.head ++ (body_of b ++ more) = ap (λ x. x ++ more) b.bytes_are ∙ append_assoc b.head (body_of b) more in
    record {
      two = b.two;
      at_most = b.at_most;
      some = omega arith;
      fits = let f = b.fits in omega arith;
      body = body_of b ++ more;
      begins = rw back (record { spelling = b.head; spells = b.is_head; bytes_are = all });
      table_is = rw apart (sym (take_at b.table (front ++ more) (table_size kind (length edges)) (length-table b.is_table)));
      behind_is = rw apart (sym (from_edges kind (length edges) edges b.table (front ++ more) b.is_table refl));
      holds = (let long = body_long b in let sum = length-append (body_of b) more in omega arith);
    }

-- and its targets stand in front of them
targets_on : {kind : Kind} {edges : List ℕ} {targets : List (List ℕ)} {bytes : List ℕ} (b : IsBranch kind edges targets bytes) (more : List ℕ)
    → targets_behind (length edges) (b.width + 1) (edges ++ behind_edges b more) ≡ concat targets ++ more
targets_on {edges = edges} {targets = targets} b more =
    let w = b.width + 1 in
    let table = blocks w (offsets targets) in
    let long : length table ≡ w * (length edges - 1) = length-blocks w (offsets targets) ∙ ap (λ n. w * n) (length-offsets targets ∙ ap (λ n. n - 1) b.a_target_each) in
    ap (drop (w * (length edges - 1))) (drop_at edges (behind_edges b more) (length edges) refl ∙ append_assoc table (concat targets) more)
    ∙ drop_at table (concat targets ++ more) (w * (length edges - 1)) long

-- targets one after another, in front of more texts
counts_each : {kind : Kind} {edges : List ℕ} {targets : List (List ℕ)} {pairs : Pairs} {more : List ℕ} {n : ℕ} → ListEach kind edges targets pairs → Counts kind more n
    → Counts kind (concat targets ++ more) (length pairs + n)
counts_each {kind = kind} {more = more} {n = n} no_edge c = let same : n ≡ 0 + n = omega arith in subst (Counts kind more) same c
counts_each {kind = kind} {more = more} {n = n} (edge {e = e} {target = target} {targets = targets} {pairs = pairs} {more = others} some t each) c =
    let front : length (with_front e pairs) ≡ length pairs = length-map pairs _ in
    let both = length-append (with_front e pairs) others in
    let sum : length pairs + (length others + n) ≡ length (with_front e pairs ++ others) + n = omega arith in
    subst (Counts kind ((target ++ concat targets) ++ more)) sum
    (subst (λ x. Counts kind x (length pairs + (length others + n))) (sym (append_assoc target (concat targets) more)) (text t (counts_each each c)))

-- what is read first in a row of texts counts
pub counts_node : {kind : Kind} {bytes : List ℕ} {n : ℕ} → Counts kind bytes n → CountsOn kind (node_of kind bytes) n
counts_node none = refl
counts_node {kind = kind} (text {more = more} {n = n} nothing c) = let same : n ≡ 0 + n = omega arith in subst (CountsOn kind (node_of kind more)) same (counts_node c)
counts_node {kind = kind} (text {more = more} {n = n} (value {v = v} {spelling = spelling} {rest = rest} {pairs = pairs} s apart t) c) =
    rw (node_begun kind ((spelling ++ rest) ++ more) (shapes.Shape.value v (rest ++ more)) (record { spelling = spelling; spells = s; bytes_are = append_assoc spelling rest more }))
    (length pairs + n, omega arith, text t c)
counts_node {kind = kind} (text {more = more} {n = n} (literal {b = b} {rest = rest} {pairs = pairs} low some t) c) =
    let front : length (with_front b pairs) ≡ length pairs = length-map pairs _ in
    rw (node_begun kind (b ∷ (rest ++ more)) (shapes.Shape.literal b (rest ++ more)) (low, refl))
    (length pairs + n, omega arith, text t c)
counts_node {kind = kind} (text {more = more} {n = n} (span {spelling = spelling} {rest = rest} {pairs = pairs} run h some high s m f t) c) =
    let front : length (with_run run pairs) ≡ length pairs = length-map pairs _ in
    let all : (spelling ++ (run ++ rest)) ++ more ≡ spelling ++ (run ++ (rest ++ more)) = append_assoc spelling (run ++ rest) more ∙ ap (λ x. spelling ++ x) (append_assoc run rest more) in
    rw (node_begun kind ((spelling ++ (run ++ rest)) ++ more) (shapes.Shape.span run (rest ++ more)) (h, record { spelling = spelling; spells = s; bytes_are = all }))
    (length pairs + n, omega arith, text t c)
counts_node {kind = kind} (text {more = more} {n = n} (branch {edges = edges} {targets = targets} {bytes = bytes} {pairs = pairs} i each) c) =
    rw (node_begun kind (bytes ++ more) (shapes.Shape.branch (length edges) (i.width + 1) i.table (edges ++ behind_edges i more)) (begun_on i more))
    (length pairs + n, omega arith, subst (λ x. Counts kind x (length pairs + n)) (sym (targets_on i more)) (counts_each each c))

-- What was counted, and what the rest of the row still counts, are all.
pub record Counted (kind : Kind) (bytes : List ℕ) (count : ℕ) (rest : List ℕ) : Type 0 where
  pub within : count + length rest ≤ length bytes
  pub counts : (n : ℕ) → Counts kind bytes n → (left : ℕ) × (n ≡ count + left) × Counts kind rest left

-- a node is longer than what stands after it
pub row_shorter : (kind : Kind) (bytes : List ℕ) (s : Shape) → node_of kind bytes ≡ Some s → length (row_behind s) + values_in s ≤ length bytes × length (row_behind s) < length bytes
row_shorter kind bytes (shapes.Shape.value v rest) e = let h = read_shorter kind bytes (shapes.Shape.value v rest) e in (omega arith, h)
row_shorter kind bytes (shapes.Shape.literal b rest) e = let h = read_shorter kind bytes (shapes.Shape.literal b rest) e in (omega arith, h)
row_shorter kind bytes (shapes.Shape.span run rest) e = let h = read_shorter kind bytes (shapes.Shape.span run rest) e in (omega arith, h)
row_shorter kind bytes (shapes.Shape.branch n w table behind) e = let h = read_shorter kind bytes (shapes.Shape.branch n w table behind) e in (omega arith, omega arith)

pub counted_more : (kind : Kind) (bytes : List ℕ) (count : ℕ) (rest : List ℕ) (s : Shape) → Counted kind bytes count rest → node_of kind rest ≡ Some s
    → Counted kind bytes (count + values_in s) (row_behind s)
counted_more kind bytes count rest s counted e =
    let short = row_shorter kind rest s e in
    record {
      within = let w = counted.within in omega (arith, short.0);
      counts = λ n c. (
          let before = counted.counts n c in
          let on : CountsOn kind (Some s) before.0 = subst (λ r. CountsOn kind r before.0) e (counts_node before.2) in
          (on.0, omega (arith, before.1, on.1), on.2)
          );
    }

-- at the end of the row all is counted
pub counted_all : {kind : Kind} {bytes : List ℕ} {pairs : Pairs} (count : ℕ) (rest : List ℕ) → Counted kind bytes count rest → node_of kind rest ≡ None → Lists kind bytes pairs → count ≡ length pairs
counted_all {kind = kind} {pairs = pairs} count rest counted e t =
    let before = counted.counts (length pairs) (counts_text t) in
    let none : before.0 ≡ 0 = subst (λ r. CountsOn kind r before.0) e (counts_node before.2) in
    omega (arith, before.1)
