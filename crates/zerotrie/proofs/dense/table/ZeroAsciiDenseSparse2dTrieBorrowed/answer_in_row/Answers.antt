use Rattle.std.proofs.Common.{ap, sym, ◌∙◌, []}
use Rattle.zerotrie_core.specs.Kind.{simple_ascii}
use Rattle.zerotrie_core.specs.Maps.{value_at}
use Rattle.zerotrie_core.specs.Machine.{without_value}
use Rattle.zerotrie.specs.dense.Laws.{in_matrix}
use Rattle.zerotrie.specs.dense.Views.{parts_of}
use Rattle.zerotrie.proofs.LookLemmas.{beside_taken, first_of, second_of}
use Rattle.zerotrie.proofs.dense.table.ZeroAsciiDenseSparse2dTrieBorrowed.answer_in_row.Goals as goal

pub returns-in-Some : goal.returns-in-Some
returns-in-Some c pairs columns lists means =
    let took = c.take_value-offset.ensures.meaning simple_ascii pairs lists in
    let beside = c.value_beside.ensures (without_value pairs) took.1 ∙ beside_taken pairs c.args.suffix.now in
    first_of _ _ c.in-Some.value (sym beside ∙ c.in-Some.is)

pub returns-in-None : goal.returns-in-None
returns-in-None c pairs columns lists means =
    let took = c.take_value-offset.ensures.meaning simple_ascii pairs lists in
    let beside = c.value_beside.ensures (without_value pairs) took.1 ∙ beside_taken pairs c.args.suffix.now in
    c.in_matrix.ensures
    ∙ ap (λ o. in_matrix (parts_of c.args.self.now) c.args.row o c.get.result) took.0
    ∙ ap (λ k. in_matrix (parts_of c.args.self.now) c.args.row (value_at simple_ascii pairs []) k) (c.get.ensures columns means)
    ∙ second_of _ _ (sym beside ∙ c.in-None.is)
