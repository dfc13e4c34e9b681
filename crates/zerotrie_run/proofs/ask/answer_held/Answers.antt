use Rattle.std.proofs.lemmas.Result.{IfErr-weaker, IfOk-weaker}
use Rattle.std.specs.Io.Buffered.{writer_contents}
use Rattle.zerotrie_run.specs.Runs.Content.{of_trie, of_index}
use Rattle.zerotrie_run.proofs.AskLemmas.{unanswered_of}
use Rattle.zerotrie_run.proofs.ask.answer_held.Goals as goal

pub returns-clause-err : goal.returns-clause-err
returns-clause-err g c =
    let contents = writer_contents g.W.Write.contents in
    IfErr-weaker c.answer.result _ _ (λ e h. unanswered_of c.args.file c.args.question (g.R.Read.remaining c.args.input.now.inner) c.args.held.now (contents c.args.output.now.inner) (contents c.answer.new.output.inner) c.in-Ok-open_trie.trie.kind c.in-Ok-open_trie.trie.bytes.now e c.in-Ok-open_trie.ensures.ok h) c.answer.ensures.part

pub returns-clause-ok : goal.returns-clause-ok
returns-clause-ok g c = IfOk-weaker c.answer.result _ _ (λ all h. (of_trie c.in-Ok-open_trie.trie.kind c.in-Ok-open_trie.trie.bytes.now, c.in-Ok-open_trie.ensures.ok, h)) c.answer.ensures.answered

pub returns-in-Ok-clause-ok : goal.returns-in-Ok-clause-ok
returns-in-Ok-clause-ok g c = (of_index c.in-Some.index.now, c.in-Some.ensures.some, c.in-Ok.ensures.answered)

pub returns-in-Err-clause-err : goal.returns-in-Err-clause-err
returns-in-Err-clause-err g c = (of_index c.in-Some.index.now, c.in-Some.ensures.some, c.in-Err.ensures.part, c.in-Err.ensures.none)
