use Rattle.std.proofs.Common.{rules, inl, arith, sym, ◌∙◌}
use Rattle.zerotrie_making.specs.Others.{HasUtf16Mark}
use Rattle.zerotrie_making.proofs.OtherLemmas.{marked_settled, unmarked_settled, any_behind, feed_reaches}
use Rattle.zerotrie_making.proofs.others.is_settled.Goals as goal

pub returns-then-has_utf16_mark-clause-settled : goal.returns-then-has_utf16_mark-clause-settled
returns-then-has_utf16_mark-clause-settled c = λ is.
    let input = c.args.input.now in
    let mark : HasUtf16Mark input = search rules in
    marked_settled input mark (any_behind c.args.from input c.split_at.result.1.now c.split_at.ensures.back (sym c.contains.ensures.value ∙ is))

pub returns-then-input-ge8-clause-settled : goal.returns-then-input-ge8-clause-settled
returns-then-input-ge8-clause-settled c = λ _.
    unmarked_settled c.args.input.now (inl (omega arith)) (λ mark. absurd (cc (c.has_utf16_mark.ensures.1 mark, c.if-has_utf16_mark.false)))

pub returns-else-input-ge8-clause-settled : goal.returns-else-input-ge8-clause-settled
returns-else-input-ge8-clause-settled c = λ is.
    unmarked_settled c.args.input.now (feed_reaches c.args.input.now (sym c.contains-else-input-ge8.ensures.value ∙ is)) (λ mark. absurd (cc (c.has_utf16_mark.ensures.1 mark, c.if-has_utf16_mark.false)))
