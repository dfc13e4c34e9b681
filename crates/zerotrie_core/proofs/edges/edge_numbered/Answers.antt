use Rattle.std.proofs.Common.{refl, ℕ, [], ◌∷◌, ◌++◌, None}
use Rattle.std.specs.Option.{option_map}
use Rattle.zerotrie_base.specs.Texts.{Lists}
use Rattle.zerotrie_core.specs.Places.{ListsAt}
use Rattle.zerotrie_core.specs.cursor.Edges.{place_along}
use Rattle.zerotrie_core.proofs.NodeLemmas.Read.{nothing_begins}
use Rattle.zerotrie_core.proofs.CursorLemmas.Calls.{edges_past, probe_over, nothing_probes, span_probes}
use Rattle.std.proofs.lemmas.Option.{IfSome_then}
use Rattle.zerotrie_core.proofs.CursorLemmas.Runs.{same_span, same_after, literal_meets, branch_meets, follows_plain, follows_span}
use Rattle.zerotrie_core.proofs.ListingLemmas.Left.{branch_end, value_end}
use Rattle.zerotrie_core.proofs.CursorLemmas.Parts.{ends_more, lies_past}
use Rattle.zerotrie_core.proofs.edges.edge_numbered.Goals as goal

pub loop-node-preserved : goal.loop-node-preserved
loop-node-preserved g c =
    let begins = rw c.in-Value.is at c.in-Some.ensures.begins in
    let kind = g.K.ZeroTrieWithOptions.kind in
    let old = c.loop-node.invariant in
    record {
      edges = edges_past kind c.args.bytes.now c.loop-node.rest.now c.in-Value._value c.in-Value.after.now begins old.edges;
      ends = ends_more c.args.bytes.now c.loop-node.rest.now c.in-Value.after.now old.ends (value_end kind c.loop-node.rest.now c.in-Value.after.now c.in-Value._value begins);
      span = same_after kind c.args.bytes.now c.loop-node.rest.now c.in-Value._value c.in-Value.after.now begins old.span;
    }

pub loop-node-init : goal.loop-node-init
loop-node-init g c = record {
  edges = λ pairs text. (pairs, text, refl, λ edge. refl);
  ends = ([], refl);
  span = same_span g.K.ZeroTrieWithOptions.kind c.args.bytes.now;
}

pub returns-in-Literal-clause-probe : goal.returns-in-Literal-clause-probe
returns-in-Literal-clause-probe g c =
    let kind = g.K.ZeroTrieWithOptions.kind in
    let begins = rw c.in-Literal.is at c.in-Some.ensures.begins in
    let found = c.literal_numbered.result in
    probe_over kind c.args.bytes.now c.loop-node.rest.now c.args.index (option_map {U = ℕ × ℕ} (λ r. (r.0.edge, r.1)) found) (ListsAt kind (place_along (option_map (λ r. r.0) found))) c.loop-node.invariant.edges
    (c.literal_numbered.ensures.probe kind c.loop-node.rest.now begins)

pub returns-in-Span-clause-probe : goal.returns-in-Span-clause-probe
returns-in-Span-clause-probe g c =
    let kind = g.K.ZeroTrieWithOptions.kind in
    let begins = rw c.in-Span.is at c.in-Some.ensures.begins in
    let answer = option_map {U = ℕ × ℕ} (λ r. (r.0.edge, r.1)) c.run_edge_numbered.result in
    let place = place_along (option_map (λ r. r.0) c.run_edge_numbered.result) in
    probe_over kind c.args.bytes.now c.loop-node.rest.now c.args.index answer (ListsAt kind place) c.loop-node.invariant.edges
    (span_probes kind c.loop-node.rest.now c.in-Span.run'.now c.in-Span.trie.now c.args.index answer (ListsAt kind place) begins (c.run_edge_numbered.ensures.probe kind))

pub returns-in-Branch-clause-probe : goal.returns-in-Branch-clause-probe
returns-in-Branch-clause-probe g c =
    let kind = g.K.ZeroTrieWithOptions.kind in
    let begins = rw c.in-Branch.is at c.in-Some.ensures.begins in
    let found = c.branch_edge_numbered.result in
    probe_over kind c.args.bytes.now c.loop-node.rest.now c.args.index (option_map {U = ℕ × ℕ} (λ r. (r.0.edge, r.1)) found) (ListsAt kind (place_along (option_map (λ r. r.0) found))) c.loop-node.invariant.edges
    (c.branch_edge_numbered.ensures.probe kind c.loop-node.rest.now begins)

pub returns-clause-probe : goal.returns-clause-probe
returns-clause-probe g c =
    let kind = g.K.ZeroTrieWithOptions.kind in
    probe_over kind c.args.bytes.now c.loop-node.rest.now c.args.index None (Lists kind []) c.loop-node.invariant.edges
    (nothing_probes kind c.loop-node.rest.now c.args.index (nothing_begins g.K.ZeroTrieWithOptions.kind c.loop-node.rest.now c.in_default.ensures.node))

pub returns-in-Literal-clause-run : goal.returns-in-Literal-clause-run
returns-in-Literal-clause-run g c =
    let kind = g.K.ZeroTrieWithOptions.kind in
    let begins = rw c.in-Literal.is at c.in-Some.ensures.begins in
    IfSome_then c.literal_numbered.result c.literal_numbered.ensures.run
    (λ r none. follows_plain kind c.args.bytes.now c.loop-node.rest.now r.0.edge r.0.run.now r.0.trie.now none c.loop-node.invariant.span
    (λ run t. literal_meets kind c.loop-node.rest.now c.in-Literal.edge c.in-Literal.trie.now run t begins))

pub returns-in-Span-clause-run : goal.returns-in-Span-clause-run
returns-in-Span-clause-run g c =
    let kind = g.K.ZeroTrieWithOptions.kind in
    let begins = rw c.in-Span.is at c.in-Some.ensures.begins in
    IfSome_then c.run_edge_numbered.result c.run_edge_numbered.ensures.run
    (λ r h. follows_span kind c.args.bytes.now c.loop-node.rest.now c.in-Span.run'.now c.in-Span.trie.now r.0.edge r.0.run.now r.0.trie.now c.loop-node.invariant.span begins h.0 h.1)

pub returns-in-Branch-clause-run : goal.returns-in-Branch-clause-run
returns-in-Branch-clause-run g c =
    let kind = g.K.ZeroTrieWithOptions.kind in
    let begins = rw c.in-Branch.is at c.in-Some.ensures.begins in
    let b = c.in-Branch.branch in
    IfSome_then c.branch_edge_numbered.result c.branch_edge_numbered.ensures.run
    (λ r none. follows_plain kind c.args.bytes.now c.loop-node.rest.now r.0.edge r.0.run.now r.0.trie.now none c.loop-node.invariant.span
    (λ run t. branch_meets kind c.loop-node.rest.now b.edges b.width b.table.now b.behind.now run t begins))

pub returns-in-Literal-clause-lies : goal.returns-in-Literal-clause-lies
returns-in-Literal-clause-lies g c =
    let begins = rw c.in-Literal.is at c.in-Some.ensures.begins in
    let trie = c.in-Literal.trie.now in
    lies_past c.args.bytes.now trie (option_map (λ r. r.0) c.literal_numbered.result) (ends_more c.args.bytes.now c.loop-node.rest.now trie c.loop-node.invariant.ends (c.in-Literal.edge ∷ [], begins.1)) c.literal_numbered.ensures.lies

pub returns-in-Span-clause-lies : goal.returns-in-Span-clause-lies
returns-in-Span-clause-lies g c =
    let begins = rw c.in-Span.is at c.in-Some.ensures.begins in
    let both = c.in-Span.run'.now ++ c.in-Span.trie.now in
    lies_past c.args.bytes.now both (option_map (λ r. r.0) c.run_edge_numbered.result) (ends_more c.args.bytes.now c.loop-node.rest.now both c.loop-node.invariant.ends (begins.1.spelling, begins.1.bytes_are))
    c.run_edge_numbered.ensures.lies

pub returns-in-Branch-clause-lies : goal.returns-in-Branch-clause-lies
returns-in-Branch-clause-lies g c =
    let begins = rw c.in-Branch.is at c.in-Some.ensures.begins in
    let b = c.in-Branch.branch in
    let ends = branch_end g.K.ZeroTrieWithOptions.kind c.loop-node.rest.now b.edges b.width b.table.now b.behind.now begins in
    lies_past c.args.bytes.now b.behind.now (option_map (λ r. r.0) c.branch_edge_numbered.result) (ends_more c.args.bytes.now c.loop-node.rest.now b.behind.now c.loop-node.invariant.ends ends) c.branch_edge_numbered.ensures.lies
