use Rattle.std.proofs.Common.{◌≡◌, ◌<◌, ◌-◌, ℕ, List, [], ap, sym, subst, ◌∙◌, arith, drop, length, length-drop, All}
use Rattle.std.specs.List.{slice_range}
use Rattle.std.proofs.lemmas.List.{take_all}
use Rattle.std.proofs.lemmas.Option.{get_or_from_slice_get}
use Rattle.zerotrie_base.specs.Kind.{simple_ascii}
use Rattle.zerotrie_build.specs.passes.Windows.{item_no}
use Rattle.zerotrie_build.proofs.WindowLemmas.Windows.{rest_bytes}
use Rattle.zerotrie_build.proofs.windows.single_item.Goals as goal

rest_of : (key rest : List ℕ) (d : ℕ) → rest ≡ slice_range key d (length key) → rest ≡ drop d key
rest_of key rest d is = is ∙ take_all (length key - d) (drop d key) (let long = length-drop d key in omega arith)

pub returns-clause-is : goal.returns-clause-is
returns-clause-is g c =
    let key = c.get-value.result.0.now in
    let d = c.args.window.depth in
    let item : item_no (g.I.IndexedItems.pairs c.args.items) c.args.window.from ≡ (key, c.get-value.result.1) =
    get_or_from_slice_get (g.I.IndexedItems.pairs c.args.items) c.args.window.from (key, c.get-value.result.1) ([], 0) c.get-value.ensures in
    let found = c.in_ok-rest.ensures.lookup.0 in
    record {
      one = (let less = c.saturating_sub.ensures in let is = c.if-saturating_sub-ne1.false in omega arith);
      deep = (let k = ap (λ e. length e.0) item in let deep = found.0 in omega arith);
      rest_is = rest_of key c.in_ok-rest.rest.now d found.2 ∙ ap (λ e. drop d e.0) (sym item);
      value_is = ap (λ e. e.1) (sym item);
    }

pub returns-clause-low : goal.returns-clause-low
returns-clause-low g c = λ low.
    let key = c.get-value.result.0.now in
    let d = c.args.window.depth in
    subst (All (λ b. b < 128)) (sym (rest_of key c.in_ok-rest.rest.now d c.in_ok-rest.ensures.lookup.0.2))
    (rest_bytes simple_ascii (g.I.IndexedItems.pairs c.args.items) c.args.window.from d key c.get-value.result.1 low c.get-value.ensures)
