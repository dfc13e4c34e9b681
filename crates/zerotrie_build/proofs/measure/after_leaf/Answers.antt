use Rattle.std.proofs.Common.{◌+◌, sym, subst, length, arith}
use Rattle.std.proofs.lemmas.Result.{err_from_is_err_and}
use Rattle.zerotrie_build.specs.declared.windows.Window.{Window}
use Rattle.zerotrie_build.specs.passes.Measured.{Passes}
use Rattle.zerotrie_build.proofs.WindowLemmas.NodeRuns.{too_long}
use Rattle.zerotrie_build.proofs.WindowLemmas.Leaves.{one_run}
use Rattle.zerotrie_build.proofs.measure.after_leaf.Goals as goal

pub returns-in_err-checked_sum-clause-refused : goal.returns-in_err-checked_sum-clause-refused
returns-in_err-checked_sum-clause-refused g c =
    let kind = g.K.ZeroTrieWithOptions.kind in
    let p = err_from_is_err_and c.from_residual.result c.from_residual.ensures.1 in
    let f = c.in_err-checked_sum.ensures.refused in
    let run = one_run kind (g.I.IndexedItems.pairs c.args.items) c.args.start c.in-Some.rest.now c.in-Some.value c.in-Some-rest_len.len c.in-Some.ensures.is c.in-Some-rest_len.ensures in
    rw (p.1, p.2) (f.0, too_long run c.requires.within c.requires.keys c.requires.ordered (let e = c.value_len.ensures in omega (arith, f.1)))

pub returns-clause-run : goal.returns-clause-run
returns-clause-run g c =
    let kind = g.K.ZeroTrieWithOptions.kind in
    let start = c.args.start in
    let rest = c.in-Some.rest.now in
    let behind : Window = record { from = start.to; to = start.to; depth = start.depth + length rest } in
    subst (λ w. Passes kind (g.I.IndexedItems.pairs c.args.items) start w c.in_ok-checked_sum.field-0) (sym c.new-end.ensures)
    (subst (Passes kind (g.I.IndexedItems.pairs c.args.items) start behind) (let s = c.in_ok-checked_sum.ensures.sum in let e = c.value_len.ensures in omega arith)
    (one_run kind (g.I.IndexedItems.pairs c.args.items) start rest c.in-Some.value c.in-Some-rest_len.len c.in-Some.ensures.is c.in-Some-rest_len.ensures))
