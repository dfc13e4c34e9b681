use Rattle.std.proofs.Common.{refl, [], ◌∷◌, ◌++◌, None}
use Rattle.std.specs.Option.{option_map}
use Rattle.zerotrie_base.specs.Texts.{Lists}
use Rattle.zerotrie_core.specs.Places.{ListsAt}
use Rattle.zerotrie_core.specs.cursor.Edges.{place_along}
use Rattle.zerotrie_core.proofs.NodeLemmas.Read.{nothing_begins}
use Rattle.zerotrie_core.proofs.CursorLemmas.Calls.{edges_past, step_over, nothing_steps, span_steps}
use Rattle.std.proofs.lemmas.Option.{IfSome_then}
use Rattle.zerotrie_core.proofs.CursorLemmas.Runs.{same_span, same_after, literal_meets, branch_meets, follows_plain, follows_span}
use Rattle.zerotrie_core.proofs.ListingLemmas.Left.{branch_end, value_end}
use Rattle.zerotrie_core.proofs.CursorLemmas.Parts.{ends_more, lies_past}
use Rattle.zerotrie_core.proofs.edges.edge_like.Goals as goal

pub loop-node-preserved : goal.loop-node-preserved
loop-node-preserved g c =
    let begins = rw c.in-Value.is at c.in-Some.ensures.begins in
    let kind = g.K.ZeroTrieWithOptions.kind in
    let old = c.loop-node.invariant in
    record {
      edges = edges_past kind c.args.bytes.now c.loop-node.rest.now c.in-Value._value c.in-Value.after.now begins old.edges;
      ends = ends_more c.args.bytes.now c.loop-node.rest.now c.in-Value.after.now old.ends (value_end kind c.loop-node.rest.now c.in-Value.after.now c.in-Value._value begins);
      span = same_after kind c.args.bytes.now c.loop-node.rest.now c.in-Value._value c.in-Value.after.now begins old.span;
    }

pub loop-node-init : goal.loop-node-init
loop-node-init g c = record {
  edges = λ pairs text. (pairs, text, refl, λ edge. refl);
  ends = ([], refl);
  span = same_span g.K.ZeroTrieWithOptions.kind c.args.bytes.now;
}

pub returns-in-Literal-clause-step : goal.returns-in-Literal-clause-step
returns-in-Literal-clause-step g c =
    let begins = rw c.in-Literal.is at c.in-Some.ensures.begins in
    let found = c.literal_like.result in
    step_over g.K.ZeroTrieWithOptions.kind c.args.bytes.now c.loop-node.rest.now c.args.byte (option_map (λ a. a.edge) found) (ListsAt g.K.ZeroTrieWithOptions.kind (place_along found)) c.loop-node.invariant.edges
    (c.literal_like.ensures.step c.loop-node.rest.now begins)

pub returns-in-Span-clause-step : goal.returns-in-Span-clause-step
returns-in-Span-clause-step g c =
    let kind = g.K.ZeroTrieWithOptions.kind in
    let begins = rw c.in-Span.is at c.in-Some.ensures.begins in
    let answer = option_map (λ a. a.edge) c.run_edge_like.result in
    step_over kind c.args.bytes.now c.loop-node.rest.now c.args.byte answer (ListsAt kind (place_along c.run_edge_like.result)) c.loop-node.invariant.edges
    (span_steps kind c.loop-node.rest.now c.in-Span.run'.now c.in-Span.trie.now c.args.byte answer (ListsAt kind (place_along c.run_edge_like.result)) begins c.run_edge_like.ensures.step)

pub returns-in-Branch-clause-step : goal.returns-in-Branch-clause-step
returns-in-Branch-clause-step g c =
    let begins = rw c.in-Branch.is at c.in-Some.ensures.begins in
    let found = c.branch_edge_like.result in
    step_over g.K.ZeroTrieWithOptions.kind c.args.bytes.now c.loop-node.rest.now c.args.byte (option_map (λ a. a.edge) found) (ListsAt g.K.ZeroTrieWithOptions.kind (place_along found)) c.loop-node.invariant.edges
    (c.branch_edge_like.ensures.step c.loop-node.rest.now begins)

pub returns-clause-step : goal.returns-clause-step
returns-clause-step g c =
    let kind = g.K.ZeroTrieWithOptions.kind in
    step_over kind c.args.bytes.now c.loop-node.rest.now c.args.byte None (Lists kind []) c.loop-node.invariant.edges
    (nothing_steps kind c.loop-node.rest.now c.args.byte (nothing_begins g.K.ZeroTrieWithOptions.kind c.loop-node.rest.now c.in_default.ensures.node))

pub returns-in-Literal-clause-run : goal.returns-in-Literal-clause-run
returns-in-Literal-clause-run g c =
    let kind = g.K.ZeroTrieWithOptions.kind in
    let begins = rw c.in-Literal.is at c.in-Some.ensures.begins in
    IfSome_then c.literal_like.result c.literal_like.ensures.run
    (λ a none. follows_plain kind c.args.bytes.now c.loop-node.rest.now a.edge a.run.now a.trie.now none c.loop-node.invariant.span
    (λ r t. literal_meets kind c.loop-node.rest.now c.in-Literal.edge c.in-Literal.trie.now r t begins))

pub returns-in-Span-clause-run : goal.returns-in-Span-clause-run
returns-in-Span-clause-run g c =
    let kind = g.K.ZeroTrieWithOptions.kind in
    let begins = rw c.in-Span.is at c.in-Some.ensures.begins in
    IfSome_then c.run_edge_like.result c.run_edge_like.ensures.run
    (λ a h. follows_span kind c.args.bytes.now c.loop-node.rest.now c.in-Span.run'.now c.in-Span.trie.now a.edge a.run.now a.trie.now c.loop-node.invariant.span begins h.0 h.1)

pub returns-in-Branch-clause-run : goal.returns-in-Branch-clause-run
returns-in-Branch-clause-run g c =
    let kind = g.K.ZeroTrieWithOptions.kind in
    let begins = rw c.in-Branch.is at c.in-Some.ensures.begins in
    let b = c.in-Branch.branch in
    IfSome_then c.branch_edge_like.result c.branch_edge_like.ensures.run
    (λ a none. follows_plain kind c.args.bytes.now c.loop-node.rest.now a.edge a.run.now a.trie.now none c.loop-node.invariant.span
    (λ r t. branch_meets kind c.loop-node.rest.now b.edges b.width b.table.now b.behind.now r t begins))

pub returns-in-Literal-clause-lies : goal.returns-in-Literal-clause-lies
returns-in-Literal-clause-lies g c =
    let begins = rw c.in-Literal.is at c.in-Some.ensures.begins in
    let trie = c.in-Literal.trie.now in
    lies_past c.args.bytes.now trie c.literal_like.result (ends_more c.args.bytes.now c.loop-node.rest.now trie c.loop-node.invariant.ends (c.in-Literal.edge ∷ [], begins.1)) c.literal_like.ensures.lies

pub returns-in-Span-clause-lies : goal.returns-in-Span-clause-lies
returns-in-Span-clause-lies g c =
    let begins = rw c.in-Span.is at c.in-Some.ensures.begins in
    let both = c.in-Span.run'.now ++ c.in-Span.trie.now in
    lies_past c.args.bytes.now both c.run_edge_like.result (ends_more c.args.bytes.now c.loop-node.rest.now both c.loop-node.invariant.ends (begins.1.spelling, begins.1.bytes_are))
    c.run_edge_like.ensures.lies

pub returns-in-Branch-clause-lies : goal.returns-in-Branch-clause-lies
returns-in-Branch-clause-lies g c =
    let begins = rw c.in-Branch.is at c.in-Some.ensures.begins in
    let b = c.in-Branch.branch in
    let ends = branch_end g.K.ZeroTrieWithOptions.kind c.loop-node.rest.now b.edges b.width b.table.now b.behind.now begins in
    lies_past c.args.bytes.now b.behind.now c.branch_edge_like.result (ends_more c.args.bytes.now c.loop-node.rest.now b.behind.now c.loop-node.invariant.ends ends) c.branch_edge_like.ensures.lies
