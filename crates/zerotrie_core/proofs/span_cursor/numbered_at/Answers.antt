use Rattle.std.proofs.Common.{sym, ◌∙◌}
use Rattle.std.proofs.lemmas.List.{nil_from_length}
use Rattle.std.proofs.lemmas.Bool.{eqb-true}
use Rattle.zerotrie_core.proofs.CursorLemmas.Calls.{place_text}
use Rattle.zerotrie_core.proofs.span_cursor.numbered_at.Goals as goal

pub returns-then-is_empty-clause-probe : goal.returns-then-is_empty-clause-probe
returns-then-is_empty-clause-probe g c pairs lists =
    let none = nil_from_length c.args.run.now (eqb-true _ _ (sym c.is_empty.ensures ∙ c.if-is_empty.true)) in
    c.edge_numbered.ensures.probe pairs (place_text g.K.ZeroTrieWithOptions.kind c.args.run.now c.args.trie.now pairs none lists)

pub returns-then-is_empty-clause-lies : goal.returns-then-is_empty-clause-lies
returns-then-is_empty-clause-lies g c =
    let none = nil_from_length c.args.run.now (eqb-true _ _ (sym c.is_empty.ensures ∙ c.if-is_empty.true)) in
    rw none c.edge_numbered.ensures.lies
