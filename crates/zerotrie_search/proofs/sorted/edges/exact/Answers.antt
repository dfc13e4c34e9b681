use Rattle.std.proofs.Common.{◌≡◌, ◌∙◌, Some, sym}
use Rattle.zerotrie_core.specs.CursorPlaces.{cursor_at}
use Rattle.zerotrie_search.proofs.OrderLemmas.{not_stored, some_none}
use Rattle.zerotrie_search.proofs.sorted.edges.exact.Goals as goal

pub returns-in_default : goal.returns-in_default
returns-in_default g c pairs lists =
    let m = c.in_default.ensures.meaning pairs lists in
    not_stored c.steps_answer_stored_bytes.ensures g.K.ZeroTrieWithOptions.kind (cursor_at c.args.bytes.now c.args.place) pairs lists c.args.byte
    (λ e. some_none c.args.byte (sym (m.0 ∙ e)))

pub returns-else-edge-byte : goal.returns-else-edge-byte
returns-else-edge-byte g c pairs lists =
    let m = c.in-Some.ensures.meaning pairs lists in
    not_stored c.steps_answer_stored_bytes.ensures g.K.ZeroTrieWithOptions.kind (cursor_at c.args.bytes.now c.args.place) pairs lists c.args.byte
    (λ e. let q : Some c.in-Some.edge ≡ Some c.args.byte = m.0 ∙ e in c.if-edge-byte.false (let s : c.in-Some.edge ≡ c.args.byte = cc in s))
