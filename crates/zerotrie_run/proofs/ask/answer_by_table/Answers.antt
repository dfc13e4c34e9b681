use Rattle.std.proofs.lemmas.Result.{IfOk-weaker}
use Rattle.std.specs.Io.Buffered.{writer_contents}
use Rattle.zerotrie_queries.specs.Finders.{TrieFinds}
use Rattle.zerotrie_queries.proofs.ChoiceLemmas.{on_err_so}
use Rattle.zerotrie_run.specs.declared.command.Keys.TheVariants.{Lines}
use Rattle.zerotrie_run.proofs.AskLemmas.{keys_of_more, part_of_more, by_table}
use Rattle.zerotrie_run.proofs.LineLemmas.{none_begun}
use Rattle.zerotrie_run.proofs.ask.answer_by_table.Goals as goal

pub returns-clause-answered : goal.returns-clause-answered
returns-clause-answered g c =
    let contents = writer_contents g.W.Write.contents in
    let trie = c.args.trie.now in
    let more = by_table trie.kind trie.bytes.now c.args.query.asked c.in-Ok.table c.in-Ok.ensures.of.0 c.in-Ok.ensures.of.1 c.requires in
    IfOk-weaker c.answer_lines.result _ _
    (λ all h. keys_of_more c.args.query Lines (g.R.Read.remaining c.args.input.now.inner) _ (TrieFinds trie.kind trie.bytes.now)
    (contents c.args.output.now.inner) (contents c.answer_lines.new.output.inner) all more h)
    c.answer_lines.ensures.answered

pub returns-clause-part : goal.returns-clause-part
returns-clause-part g c =
    let contents = writer_contents g.W.Write.contents in
    let trie = c.args.trie.now in
    let more = by_table trie.kind trie.bytes.now c.args.query.asked c.in-Ok.table c.in-Ok.ensures.of.0 c.in-Ok.ensures.of.1 c.requires in
    on_err_so c.answer_lines.result
    (λ h. part_of_more c.args.query Lines (g.R.Read.remaining c.args.input.now.inner) _ (TrieFinds trie.kind trie.bytes.now)
    (contents c.args.output.now.inner) (contents c.answer_lines.new.output.inner) more h)
    c.answer_lines.ensures.part

pub returns-in-Err-clause-part : goal.returns-in-Err-clause-part
returns-in-Err-clause-part g c =
    let input = g.R.Read.remaining c.args.input.now.inner in
    let old = writer_contents g.W.Write.contents c.args.output.now.inner in
    let Has = TrieFinds c.args.trie.now.kind c.args.trie.now.bytes.now in
    none_begun c.args.query Has input old
