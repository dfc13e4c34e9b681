use Rattle.std.proofs.Common.{rules}
use Rattle.std.proofs.lemmas.Result.{IfErr-weaker, err_from_is_err_and}
use Rattle.zerotrie_build.specs.Items.{pairs}
use Rattle.zerotrie_build.proofs.ArrayLemmas.Building.{too_much, not_ascii, disorder}
use Rattle.zerotrie_build.proofs.ArrayLemmas.Ordering.{ordered_ascends_in}
use Rattle.zerotrie_build.proofs.array.fill.write.Goals as goal

pub returns-then-not-is_all_ascii-clause-refused : goal.returns-then-not-is_all_ascii-clause-refused
returns-then-not-is_all_ascii-clause-refused g c = λ n.
    not_ascii g.K.ZeroTrieWithOptions.kind n g.row.STACK (pairs c.args.items) c.requires.kind (λ all. let yes = c.is_all_ascii.ensures.1 all in let no = c.if-not-is_all_ascii.true in cc)

pub returns-clause-written : goal.returns-clause-written
returns-clause-written g c =
    let up = ordered_ascends_in g.K.ZeroTrieWithOptions.kind (pairs c.args.items) c.in_ok-in_order.ensures.ordered in
    search rules

pub returns-clause-refused : goal.returns-clause-refused
returns-clause-refused g c =
    let up = ordered_ascends_in g.K.ZeroTrieWithOptions.kind (pairs c.args.items) c.in_ok-in_order.ensures.ordered in
    IfErr-weaker c.build_text.result _ _ (λ e stuck. λ n. too_much g.K.ZeroTrieWithOptions.kind n g.row.STACK (pairs c.args.items) e up stuck) c.build_text.ensures.refused

pub returns-in_err-in_order-clause-refused : goal.returns-in_err-in_order-clause-refused
returns-in_err-in_order-clause-refused g c =
    let q = err_from_is_err_and c.from_residual.result c.from_residual.ensures.1 in
    rw (q.1, q.2) (λ n. disorder g.K.ZeroTrieWithOptions.kind n g.row.STACK (pairs c.args.items) _ c.in_err-in_order.ensures.refused)
