use Rattle.std.proofs.Common.{[], ◌∷◌, ◌+◌, ◌++◌, get_or, arith, ap, ◌∙◌, sym}
use Rattle.std.proofs.lemmas.List.{append-nil}
use Rattle.zerotrie_core.specs.Items.{pairs_of}
use Rattle.zerotrie_c.proofs.FlatLemmas.{pairs_from, one_more, pushed, no_pairs}
use Rattle.zerotrie_c.proofs.flat.items_between.Goals as goal

pub loop-number-preserved : goal.loop-number-preserved
loop-number-preserved c =
    let n = c.loop-number.number in
    let value = get_or c.args.values.now n 0 in
    let left = pairs_from (n + 1) (get_or c.args.ends.now n 0) c.args.keys.now c.args.ends.now c.args.values.now in
    let made = pairs_of c.loop-number.items.items in
    ap (λ items. pairs_of items ++ left) c.in_ok-push.ensures.items
    ∙ ap (λ pairs. pairs ++ left) (pushed c.loop-number.items.items c.key_between.result value)
    ∙ ap (λ key. (made ++ (key, value) ∷ []) ++ left) c.key_between.ensures
    ∙ one_more n c.loop-number.from c.args.keys.now c.args.ends.now c.args.values.now made
    (omega (arith, c.min-count.ensures, c.loop-number-test.true)) (omega (arith, c.min-count.ensures, c.loop-number-test.true))
    ∙ c.loop-number.invariant

pub returns : goal.returns
returns c =
    let over = no_pairs c.loop-number.number c.loop-number.from c.args.keys.now c.args.ends.now c.args.values.now (λ p q. omega (arith, c.min-count.ensures, c.loop-number-test.false, p, q)) in
    sym (append-nil (pairs_of c.loop-number.items.items)) ∙ ap (λ l. pairs_of c.loop-number.items.items ++ l) (sym over) ∙ c.loop-number.invariant
