use Rattle.std.proofs.Common.{◌∙◌, ◌++◌, ap, arith, length, length-append}
use Rattle.zerotrie_core.proofs.CursorLemmas.Parts.{lies_shorter}
use Rattle.zerotrie_core.proofs.span_cursor.SpanCursor.step.Goals as goal

pub returns-clause-shorter : goal.returns-clause-shorter
returns-clause-shorter g c =
    let old = c.self.inside in
    let a = c.in-Some.along in
    let less = lies_shorter (old.run.now ++ old.trie.now) a.run.now a.trie.now a.after c.in-Some.ensures.lies in
    let sum = length-append old.run.now old.trie.now in
    let run = ap (λ p. length p.run) c.self.view_is in
    let trie = ap (λ p. length p.trie) c.self.view_is in
    let run' = ap (λ p. length p.run) (c.self-2.view_is ∙ c.behind.ensures) in
    let trie' = ap (λ p. length p.trie) (c.self-2.view_is ∙ c.behind.ensures) in
    omega arith
