use Rattle.std.proofs.Common.{◌≡◌, refl, ap, inl, sym, ◌∙◌, ◌+◌, ◌-◌, ◌++◌, [], arith, length, take, drop, length-drop}
use Rattle.std.proofs.lemmas.List.{length-take-le}
use Rattle.std.proofs.lemmas.Option.{get_or_from_slice_get}
use Rattle.zerotrie_base.specs.Numbers.{span_form, spelled_as}
use Rattle.zerotrie_base.proofs.CallerLemmas.{spells_spelled}
use Rattle.zerotrie_build.proofs.WriteLemmas.Puts.{grows, puts_same, puts_then}
use Rattle.zerotrie_build.proofs.write.Writing.put_span.Goals as goal

pub put_all-requires : goal.put_all-requires
put_all-requires g c =
    let key = c.get.result.0.now in
    let d = c.args.window.depth in
    let is = ap (λ e. length e.0) (get_or_from_slice_get (g.I.IndexedItems.pairs c.args.items) c.args.window.from (key, c.get.result.1) ([], 0) c.get.ensures) in
    let long = length-drop d key in
    let run : (d + c.args.run) - d ≡ c.args.run = omega arith in
    let within = c.requires.run in
    let part = length-take-le ((d + c.args.run) - d) (drop d key) (omega arith) in
    let a = grows c.put_number.ensures in let s = c.put_number.ensures.same in
    let r = c.requires.room in
    omega arith

pub returns-clause-puts : goal.returns-clause-puts
returns-clause-puts g c =
    let key = c.get.result.0.now in
    let d = c.args.window.depth in
    let is = get_or_from_slice_get (g.I.IndexedItems.pairs c.args.items) c.args.window.from (key, c.get.result.1) ([], 0) c.get.ensures in
    let run : (d + c.args.run) - d ≡ c.args.run = omega arith in
    puts_same (ap (λ n. spelled_as span_form c.args.run ++ take n (drop d key)) run ∙ ap (λ e. spelled_as span_form c.args.run ++ take c.args.run (drop d e.0)) (sym is))
    (puts_then c.put_number.ensures c.put_all.ensures)

pub returns-clause-spells : goal.returns-clause-spells
returns-clause-spells g c = spells_spelled 16 5 c.args.run (omega arith) (inl refl)
