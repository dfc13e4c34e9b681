-- A branch that was tested is a branch of the grammar, and one of the grammar passes the test.
use Rattle.std.proofs.Common.{◌≡◌, ℕ, ◌+◌, ◌-◌, ◌*◌, ◌%◌, ◌^◌, ◌<◌, ◌≤◌, List, ◌++◌, length, refl, sym, ◌∙◌, ap, subst, arith, take, drop}
use Rattle.std.specs.List.{concat}
use Rattle.std.proofs.lemmas.List.{take-append-drop, length-take-le, drop-drop}
use Rattle.zerotrie_base.specs.Kind.{Kind}
use Rattle.zerotrie_base.specs.Maps.{Pairs}
use Rattle.zerotrie_base.specs.Numbers.{branch_form, SpellsAs}
use Rattle.zerotrie_base.specs.Branches.{IsBranch, IsWidth, table_size, before_edges, blocks, offsets}
use Rattle.zerotrie_base.specs.Texts.{Lists, ListEach}
use Rattle.zerotrie_base.specs.Texts.Lists.{nothing, value, literal, span, branch}
use Rattle.zerotrie_base.specs.Nodes.{Shape, BeginsBranch, targets_behind}
use Rattle.zerotrie_base.specs.Nodes as shapes
use Rattle.zerotrie_core.specs.WellFormed.{deep, deeps, greatest, one_more_but, longest_place}
use Rattle.zerotrie_core.specs.well_formed.Branching.{HasTable, HasFront, InOrder}
use Rattle.zerotrie_core.specs.well_formed.Testing.{AlwaysNoText}
use Rattle.zerotrie_base.proofs.NumberLemmas.Numbers.{some_bytes, one_reading}
use Rattle.zerotrie_base.proofs.NodeLemmas.Tables.{table_parts}
use Rattle.zerotrie_base.proofs.NodeLemmas.Offsets.{HasTargets, targets_are}
use Rattle.zerotrie_base.proofs.NodeLemmas.Nodes.{branch_begins, value_no_branch, span_no_branch}
use Rattle.zerotrie_base.proofs.NodeLemmas.Opened.{Holds, head_begins, width_is, is_held}
use Rattle.zerotrie_core.proofs.WellFormedLemmas.Depth.{each_at}
use Rattle.zerotrie_core.proofs.WellFormedLemmas.Pieces.{pieces, length-pieces, concat_pieces, has_pieces, in_order}

-- A text that begins with a branch: the branch, and its targets.
pub record OpensOn {kind : Kind} {bytes : List ℕ} {pairs : Pairs} (text : Lists kind bytes pairs) (n w : ℕ) (table behind : List ℕ) : Type 0 where
  pub edges : List ℕ
  pub targets : List (List ℕ)
  pub is_branch : IsBranch kind edges targets bytes
  pub each : ListEach kind edges targets pairs
  pub deep_is : deep text ≡ greatest (one_more_but (longest_place targets) (deeps each))
  pub holds : Holds kind edges targets n w table behind
  pub widths : is_branch.width + 1 ≡ w

pub opens_on : {kind : Kind} {bytes : List ℕ} {pairs : Pairs} (text : Lists kind bytes pairs) (n w : ℕ) (table behind : List ℕ) → BeginsBranch kind bytes n w table behind → OpensOn text n w table behind
opens_on nothing n w table behind b = absurd (some_bytes 32 3 _ b.body b.begins)
opens_on (value {v = v} {spelling = spelling} {rest = after} s m text) n w table behind b = absurd (value_no_branch v _ (spelling ++ after) after b.body (record { spelling = spelling; spells = s; bytes_are = refl }) b.begins)
opens_on (literal {b = c} {rest = after} low m text) n w table behind b = absurd (let lead = branch_begins _ c after b.body b.begins in omega arith)
opens_on (span {spelling = spelling} {rest = after} run h some high s m f text) n w table behind b =
    absurd (span_no_branch (length run) _ (spelling ++ (run ++ after)) (run ++ after) b.body (record { spelling = spelling; spells = s; bytes_are = refl }) b.begins)
opens_on (branch {edges = edges} {targets = targets} {bytes = bytes} i each) n w table behind b =
    let one = one_reading 32 3 3 _ _ bytes _ b.body (head_begins i) b.begins in
    let parts = width_is w i.width (length edges) n b.some b.two b.at_most i.two i.at_most one.0 in
    record {
      edges = edges;
      targets = targets;
      is_branch = i;
      each = each;
      deep_is = refl;
      holds = is_held n w table behind i b;
      widths = parts.0;
    }

-- how long the table of a branch is
pub table_long : {kind : Kind} {bytes : List ℕ} (n w : ℕ) (table behind : List ℕ) → BeginsBranch kind bytes n w table behind → length table ≡ table_size kind n
table_long {kind = kind} n w table behind b =
    let long = b.holds in
    ap length b.table_is ∙ length-take-le (table_size kind n) b.body (omega arith)

-- each target of a branch of the grammar is there
pub targets_there : {kind : Kind} {bytes : List ℕ} {pairs : Pairs} {text : Lists kind bytes pairs} {n w : ℕ} {table behind : List ℕ} → OpensOn text n w table behind → InOrder n w behind n
targets_there o = let has = o.holds.has_targets in in_order has (λ i h. (each_at o.each i (let c = has.count in omega arith)).some)

-- a wrong width, a wrong table or offsets in disorder make no text
pub no_width : (kind : Kind) (n w : ℕ) (table behind : List ℕ) → (IsWidth (length (targets_behind n w behind)) (w - 1) → ⊥) → AlwaysNoText kind (shapes.Shape.branch n w table behind)
no_width kind n w table behind wrong bytes b text =
    let o = opens_on text.1 n w table behind b in
    let there = subst (λ x. IsWidth (length x) o.is_branch.width) (sym (targets_are o.holds.has_targets)) o.is_branch.is_width in
    let widths = o.widths in
    let less : o.is_branch.width ≡ w - 1 = omega arith in
    wrong (subst (IsWidth (length (targets_behind n w behind))) less there)

pub no_table : (kind : Kind) (n w : ℕ) (table behind : List ℕ) → (length table ≡ table_size kind n → HasTable kind (take n behind) table → ⊥) → AlwaysNoText kind (shapes.Shape.branch n w table behind)
no_table kind n w table behind wrong bytes b text =
    let o = opens_on text.1 n w table behind b in
    wrong (table_long n w table behind b) (subst (λ es. HasTable kind es table) (sym o.holds.edges_are) (o.holds.is_table, o.is_branch.edge_bytes))

pub no_order : (kind : Kind) (n w : ℕ) (table behind : List ℕ) → (InOrder n w behind n → ⊥) → AlwaysNoText kind (shapes.Shape.branch n w table behind)
no_order kind n w table behind wrong bytes b text = wrong (targets_there (opens_on text.1 n w table behind b))

body_parts : (before n ts : ℕ) (table behind body : List ℕ) → before + n ≡ ts → table ≡ take ts body → behind ≡ drop before body → body ≡ table ++ drop n behind
body_parts before n ts table behind body parts table_is behind_is =
    sym (take-append-drop ts body)
    ∙ ap (λ x. x ++ drop ts body) (sym table_is)
    ∙ ap (λ x. table ++ x) (ap (λ k. drop k body) (sym parts) ∙ sym (drop-drop n before body) ∙ ap (drop n) (sym behind_is))

-- a branch that passed the test is one of the grammar
module _ {kind : Kind} {n w : ℕ} {table behind : List ℕ} (front : HasFront kind n w table behind) (order : InOrder n w behind n) (long : n + w * (n - 1) ≤ length behind) (two : 2 ≤ n) (some : 1 ≤ w) where
  pub sound_targets : HasTargets (pieces n w behind) n w behind
  sound_targets =
      let enough = front.is_width.enough in
      let up : w - 1 + 1 ≡ w = omega arith in
      has_pieces n w behind two front.bytes long (subst (λ k. length (targets_behind n w behind) < 256 ^ k) up enough) order

  pub sound_is : {bytes : List ℕ} → BeginsBranch kind bytes n w table behind → IsBranch kind (take n behind) (pieces n w behind) bytes
  sound_is {bytes = bytes} b =
      let has = sound_targets in
      let count : length (take n behind) ≡ n = length-take-le n behind (omega arith) in
      let tabled = front.has_table (table_long n w table behind b) in
      let up : w ≡ w - 1 + 1 = omega arith in
      let fits = b.fits in
      let most = b.at_most in
      record {
        head = b.begins.spelling;
        table = table;
        width = w - 1;
        two = omega arith;
        at_most = omega arith;
        a_target_each = length-pieces n w behind ∙ sym count;
        edge_bytes = tabled.1;
        is_width = subst (λ x. IsWidth (length x) (w - 1)) (sym (concat_pieces n w behind (omega arith) order)) front.is_width;
        fits = omega arith;
        is_head = subst (λ k. SpellsAs branch_form (256 * (w - 1) + k % 256) b.begins.spelling) (sym count) b.begins.spells;
        is_table = tabled.0;
        bytes_are = b.begins.bytes_are
            ∙ ap (λ x. b.begins.spelling ++ x) (body_parts (before_edges kind n) n (table_size kind n) table behind b.body (table_parts kind n) b.table_is b.behind_is
            ∙ ap (λ x. table ++ x) (has.bytes_are ∙ ap (λ k. blocks k (offsets (pieces n w behind)) ++ concat (pieces n w behind)) up));
      }
