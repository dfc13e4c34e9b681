use Rattle.std.proofs.Common.{subst, sym}
use Rattle.std.proofs.lemmas.Result.{IfOk-weaker}
use Rattle.zerotrie_lines.specs.Escapes.{Spells}
use Rattle.zerotrie_queries.specs.Finders.{Finds}
use Rattle.zerotrie_queries.proofs.AnswerLemmas.{added_spelled}
use Rattle.zerotrie_queries.proofs.lookups.add_spelled.Goals as goal

pub returns-then-branch : goal.returns-then-branch
returns-then-branch c =
    let text = c.args.text.now in
    let key = c.as_slice-key.result.now in
    let spells = subst (Spells text) (sym c.as_slice-key.ensures.value) (c.in_ok-unescape.ensures.yes c.if-branch.true) in
    IfOk-weaker c.add_answer.result _ _ (λ found h. added_spelled c.args.asked (Finds c.args.finder.now c.args.asked) text key c.args.line.now.items c.add_answer.new.line.items found spells h) c.add_answer.ensures
