use Rattle.std.proofs.Common.{subst, sym}
use Rattle.std.proofs.lemmas.Result.{IfOk-weaker}
use Rattle.zerotrie_queries.specs.Answers.{AddsAnswer, as_is}
use Rattle.zerotrie_queries.specs.declared.question.Asked.TheVariants.{KeyOf}
use Rattle.zerotrie_queries.proofs.AnswerLemmas.{in_pairs}
use Rattle.zerotrie_queries.proofs.lookups.add_answer.Goals as goal

pub returns-in-Trie : goal.returns-in-Trie
returns-in-Trie c = rw c.in-Trie.is (IfOk-weaker c.add_trie_answer.result _ _
    (λ found h. in_pairs c.in-Trie.trie.kind c.in-Trie.trie.bytes.now (λ d. AddsAnswer (as_is c.args.asked) d c.args.text.now c.args.line.now.items c.add_trie_answer.new.line.items found) h)
    c.add_trie_answer.ensures)

pub returns-in-Table : goal.returns-in-Table
returns-in-Table c = rw c.in-Table.is (IfOk-weaker c.add_key_by_table.result _ _
    (λ found h d has.
    let x = has.1 in
    subst (λ asked. AddsAnswer (as_is asked) d c.args.text.now c.args.line.now.items c.add_key_by_table.new.line.items found) (sym has.0)
    (subst (λ e. AddsAnswer (as_is KeyOf) e c.args.text.now c.args.line.now.items c.add_key_by_table.new.line.items found) (sym x.4) (h x.0 x.1 x.2 x.3)))
    c.add_key_by_table.ensures)
