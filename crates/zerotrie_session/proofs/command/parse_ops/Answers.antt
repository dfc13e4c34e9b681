use Rattle.std.proofs.Common.{◌≡◌, sym, subst}
use Rattle.zerotrie_session.specs.Calls.{AreOps, words_of}
use Rattle.zerotrie.specs.Walks.{ops_of}
use Rattle.zerotrie_session.proofs.RunLemmas.{texts}
use Rattle.zerotrie_session.proofs.CallLemmas.{read_more, read_none, read_all}
use Rattle.zerotrie_session.proofs.command.parse_ops.Goals as goal

pub returns-in_default-clause-none : goal.returns-in_default-clause-none
returns-in_default-clause-none c = λ ops are.
    let same : texts c.deref-word-items.result.now ≡ words_of c.args.text.now = rw c.deref-word-items.ensures.value c.in_ok-words.ensures in
    read_none c.deref-word-items.result.now c.loop-word.word-index c.loop-word.ops.items c.loop-word-test.true c.in_default.ensures.none c.loop-word.invariant
    ops (subst (λ words. AreOps words ops) (sym same) are)

pub loop-word-preserved : goal.loop-word-preserved
loop-word-preserved c = rw c.in_ok-push.ensures.items
    (read_more c.deref-word-items.result.now c.loop-word.word-index c.loop-word.ops.items c.in-Some.op c.loop-word-test.true c.in-Some.ensures.some c.loop-word.invariant)

pub returns-clause-some : goal.returns-clause-some
returns-clause-some c =
    let same : texts c.deref-word-items.result.now ≡ words_of c.args.text.now = rw c.deref-word-items.ensures.value c.in_ok-words.ensures in
    subst (λ words. AreOps words (ops_of c.loop-word.ops.items)) same
    (read_all c.deref-word-items.result.now c.loop-word.word-index c.loop-word.ops.items c.loop-word-test.false c.loop-word.invariant)
