use Rattle.std.proofs.Common.{List, ℕ, [], sym, ap, subst, ◌∙◌}
use Rattle.zerotrie_core.specs.Kind.{simple_ascii}
use Rattle.zerotrie_core.specs.Maps.{value_at}
use Rattle.zerotrie_core.specs.Machine.{without_value, after_steps}
use Rattle.zerotrie_core.specs.Texts.{Lists}
use Rattle.zerotrie.specs.dense.Views.{parts_of}
use Rattle.zerotrie.proofs.StepLemmas.{value_at-steps}
use Rattle.zerotrie.proofs.LookLemmas.{nothing_behind, looked, behind_delimiter, dense_answer, sparse_answer}
use Rattle.zerotrie.proofs.dense.table.ZeroAsciiDenseSparse2dTrieBorrowed.answer.Goals as goal

pub returns-in-Some : goal.returns-in-Some
returns-in-Some c primary columns mp mc =
    let prefix : List ℕ = c.args.prefix.now in
    let start : Lists simple_ascii c.as_bytes-trie.result.now mp.pairs = subst (λ b. Lists simple_ascii b mp.pairs) (sym c.as_bytes-trie.ensures) mp.lists in
    let took = c.take_value-row.ensures.meaning simple_ascii (after_steps simple_ascii prefix mp.pairs) (c.follow.ensures mp.pairs start) in
    let gone = c.step-edge.ensures.meaning (without_value (after_steps simple_ascii prefix mp.pairs)) took.1 in
    let row = sym (looked c.args.self.now.primary.store.now mp.pairs primary mp.lists mp.is prefix) ∙ ap (λ k. value_at simple_ascii mp.pairs k) (sym (nothing_behind prefix))
    ∙ sym (value_at-steps prefix mp.pairs []) ∙ sym took.0 ∙ c.in-Some.is in
    c.answer_in_row.ensures _ columns gone.1 mc
    ∙ dense_answer (parts_of c.args.self.now) primary columns prefix c.args.suffix.now c.in-Some.row _ (sym c.contains.ensures.value ∙ c.if-contains.false) (sym c.contains-else-contains.ensures.value ∙ c.if-contains-2.false) row
    (λ key. behind_delimiter mp.pairs prefix c.args.self.now.delimiter c.step-edge.result key gone.0 ∙ looked c.args.self.now.primary.store.now mp.pairs primary mp.lists mp.is _)

pub returns-in-None : goal.returns-in-None
returns-in-None c primary columns mp mc =
    let prefix : List ℕ = c.args.prefix.now in
    let start : Lists simple_ascii c.as_bytes-trie.result.now mp.pairs = subst (λ b. Lists simple_ascii b mp.pairs) (sym c.as_bytes-trie.ensures) mp.lists in
    let took = c.take_value-row.ensures.meaning simple_ascii (after_steps simple_ascii prefix mp.pairs) (c.follow.ensures mp.pairs start) in
    let gone = c.step-edge.ensures.meaning (without_value (after_steps simple_ascii prefix mp.pairs)) took.1 in
    let row = sym (looked c.args.self.now.primary.store.now mp.pairs primary mp.lists mp.is prefix) ∙ ap (λ k. value_at simple_ascii mp.pairs k) (sym (nothing_behind prefix))
    ∙ sym (value_at-steps prefix mp.pairs []) ∙ sym took.0 ∙ c.in-None.is in
    c.value_after.ensures _ gone.1
    ∙ behind_delimiter mp.pairs prefix c.args.self.now.delimiter c.step-edge.result c.args.suffix.now gone.0 ∙ looked c.args.self.now.primary.store.now mp.pairs primary mp.lists mp.is _
    ∙ sparse_answer (parts_of c.args.self.now) primary columns prefix c.args.suffix.now (sym c.contains.ensures.value ∙ c.if-contains.false) (sym c.contains-else-contains.ensures.value ∙ c.if-contains-2.false) row
