use Rattle.std.proofs.Common.{rules, ◌++◌, length, ap, refl, ◌∙◌}
use Rattle.std.proofs.lemmas.Result.{err_from_is_err_and}
use Rattle.zerotrie_index.specs.Lent.{marked_pairs}
use Rattle.zerotrie_index.proofs.LentLemmas.{pairs_stay, pairs_more}
use Rattle.zerotrie_index.proofs.lent.put.Goals as goal

pub returns-in_err-push-clause-err : goal.returns-in_err-push-clause-err
returns-in_err-push-clause-err c =
    let p = err_from_is_err_and c.from_residual-in_err-push.result c.from_residual-in_err-push.ensures.1 in
    rw p.1 (ap (λ t. marked_pairs t c.push.new.self.items) c.in_ok-extend_from_slice.ensures.items
    ∙ ap (marked_pairs (c.args.text.now.items ++ c.args.key.now)) c.in_err-push.ensures.items
    ∙ pairs_stay c.args.text.now.items c.args.key.now c.args.marks.now.items c.requires)

pub returns-clause-ok : goal.returns-clause-ok
returns-clause-ok c =
    ap (λ t. marked_pairs t c.push.new.self.items) c.in_ok-extend_from_slice.ensures.items
    ∙ ap (marked_pairs (c.args.text.now.items ++ c.args.key.now)) c.in_ok-push.ensures.items
    ∙ pairs_more c.args.text.now.items c.args.key.now c.args.marks.now.items c.args.value c.len-start.result (length c.args.key.now) c.requires (search rules) refl
