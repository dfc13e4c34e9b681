use Rattle.std.proofs.Common.{◌∙◌, sym, ap, subst}
use Rattle.std.specs.Prelude.{IfOk, OnErr}
use Rattle.zerotrie_queries.specs.Finders.{TrieFinds}
use Rattle.zerotrie_queries.specs.Answers.{AreAnswered, AreAnsweredInPart, as_is}
use Rattle.zerotrie_queries.proofs.FoundLemmas.{nows}
use Rattle.zerotrie_queries.proofs.AnswerLemmas.{is_plain}
use Rattle.zerotrie_queries.proofs.lookups.write_answers.Goals as goal

pub returns-in-Trie-Value-Plain-clause-answered : goal.returns-in-Trie-Value-Plain-clause-answered
returns-in-Trie-Value-Plain-clause-answered g c =
    let is = ap as_is (sym c.in-Trie-Value-Plain.is-1) ∙ is_plain c.args.query c.in-Trie-Value-Plain.is-2 in
    let trie = c.in-Trie-Value-Plain.trie in
    rw c.in-Trie-Value-Plain.is-0
    (subst (λ q. IfOk c.write_values.result (AreAnswered q (TrieFinds trie.kind trie.bytes.now) (nows c.args.texts.now) (g.W.Write.contents c.args.output.now.inner) (g.W.Write.contents c.write_values.new.output.inner)))
    is c.write_values.ensures.answered)

pub returns-in-Trie-Value-Plain-clause-part : goal.returns-in-Trie-Value-Plain-clause-part
returns-in-Trie-Value-Plain-clause-part g c =
    let is = ap as_is (sym c.in-Trie-Value-Plain.is-1) ∙ is_plain c.args.query c.in-Trie-Value-Plain.is-2 in
    let trie = c.in-Trie-Value-Plain.trie in
    rw c.in-Trie-Value-Plain.is-0
    (subst (λ q. OnErr c.write_values.result (AreAnsweredInPart q (TrieFinds trie.kind trie.bytes.now) (nows c.args.texts.now) (g.W.Write.contents c.args.output.now.inner) (g.W.Write.contents c.write_values.new.output.inner)))
    is c.write_values.ensures.part)
