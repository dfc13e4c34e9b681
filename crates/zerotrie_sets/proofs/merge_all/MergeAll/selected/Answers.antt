use Rattle.std.proofs.Common.{◌≡◌, ◌∙◌, ap, length, sym, true}
use Rattle.std.proofs.lemmas.List.{length-map}
use Rattle.std.specs.Prelude.{is_some}
use Rattle.zerotrie_sets.specs.Inputs.{listed}
use Rattle.zerotrie_sets.specs.ManyInputs.{listed_all}
use Rattle.zerotrie_sets.specs.Selections.{is_taken, present}
use Rattle.zerotrie_sets.proofs.SelectionLemmas.{row_allowed, row_err}
use Rattle.zerotrie_sets.proofs.merge_all.MergeAll.selected.Goals as goal

pub returns-then-takes-clause-allowed : goal.returns-then-takes-clause-allowed
returns-then-takes-clause-allowed g c =
    row_allowed c.args.selection c.args.rule (listed_all g.S.PairStream.current c.deref-then-takes.result.now) c.args.self.now.current.1 c.one_listed.result
    (ap (listed_all g.S.PairStream.current) c.deref-then-takes.ensures.value ∙ ap (λ m. m.current.1) c.self.view_is) c.one_listed.ensures.allowed

pub returns-then-takes-clause-err : goal.returns-then-takes-clause-err
returns-then-takes-clause-err g c =
    let row = ap (λ m. m.current.1) c.self.view_is in
    let first = c.is_some-first.ensures ∙ ap is_some c.value.ensures in
    let some = c.count_listed.ensures ∙ ap (λ xs. length (present (listed_all g.S.PairStream.current xs))) c.deref.ensures.value ∙ ap (λ r. length (present r)) row in
    let all = c.len.ensures ∙ sym c.deref.ensures.len ∙ ap length c.deref.ensures.value ∙ sym (length-map c.self.inside.inputs.items (λ i. listed (g.S.PairStream.current i.stream) i.held)) ∙ ap length row in
    let taken : is_taken c.args.selection c.args.self.now.current.1 ≡ true = cc in
    row_err c.args.selection c.args.rule (listed_all g.S.PairStream.current c.deref-then-takes.result.now) c.args.self.now.current.1 c.one_listed.result
    (ap (listed_all g.S.PairStream.current) c.deref-then-takes.ensures.value ∙ row) taken c.one_listed.ensures.err
