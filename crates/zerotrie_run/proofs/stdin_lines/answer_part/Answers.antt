use Rattle.std.proofs.Common.{◌∙◌, ap, map, subst}
use Rattle.zerotrie_queries.specs.Finders.{Finds}
use Rattle.zerotrie_queries.specs.Answers.{AreAnswered, AreAnsweredInPart}
use Rattle.std.specs.Io.Buffered.{writer_contents}
use Rattle.zerotrie_lines.specs.Lines.{ended_lines}
use Rattle.zerotrie_lines.specs.declared.reading.LineEnd.TheVariants.{CrLf}
use Rattle.zerotrie_queries.proofs.PartLemmas.{on_err}
use Rattle.zerotrie_queries.proofs.AnswerLemmas.{begun_none, begun_all}
use Rattle.zerotrie_run.proofs.AskLemmas.{kept_texts}
use Rattle.zerotrie_run.proofs.stdin_lines.answer_part.Goals as goal

pub returns-clause-answered : goal.returns-clause-answered
returns-clause-answered g c =
    let contents = writer_contents g.W.Write.contents in
    let Has = Finds c.args.finder.now c.args.query.asked in
    let old = contents c.args.output.now.inner in
    let mid = contents c.write_answers.new.output.inner in
    let lines = ap (map (λ line. line.now)) c.as_slice.ensures.value ∙ c.in_ok-lines.ensures in
    let answered = subst (λ ts. AreAnswered c.args.query Has ts old mid c.in_ok-all.all) lines c.in_ok-all.ensures.answered in
    kept_texts c.args.query Has _ old mid (contents c.hand_on.new.self.inner) c.in_ok-all.all answered c.hand_on.ensures.bytes

pub returns-in_err-lines-clause-part : goal.returns-in_err-lines-clause-part
returns-in_err-lines-clause-part g c = on_err c.from_residual.result (begun_none c.args.query (Finds c.args.finder.now c.args.query.asked) (ended_lines CrLf c.args.part.now) (writer_contents g.W.Write.contents c.args.output.now.inner))

pub returns-in_err-all-clause-part : goal.returns-in_err-all-clause-part
returns-in_err-all-clause-part g c =
    let lines = ap (map (λ line. line.now)) c.as_slice.ensures.value ∙ c.in_ok-lines.ensures in
    on_err c.from_residual-in_err-all.result
    (subst (λ ts. AreAnsweredInPart c.args.query (Finds c.args.finder.now c.args.query.asked) ts (writer_contents g.W.Write.contents c.args.output.now.inner) (writer_contents g.W.Write.contents c.write_answers.new.output.inner)) lines c.in_err-all.ensures.part)

pub returns-in_err-hand_on-clause-part : goal.returns-in_err-hand_on-clause-part
returns-in_err-hand_on-clause-part g c =
    let contents = writer_contents g.W.Write.contents in
    let Has = Finds c.args.finder.now c.args.query.asked in
    let old = contents c.args.output.now.inner in
    let mid = contents c.write_answers.new.output.inner in
    let lines = ap (map (λ line. line.now)) c.as_slice.ensures.value ∙ c.in_ok-lines.ensures in
    let answered = subst (λ ts. AreAnswered c.args.query Has ts old mid c.in_ok-all.all) lines c.in_ok-all.ensures.answered in
    let kept = kept_texts c.args.query Has _ old mid (contents c.hand_on.new.self.inner) c.in_ok-all.all answered c.hand_on.ensures.bytes in
    on_err c.from_residual-in_err-hand_on.result (begun_all c.args.query Has (ended_lines CrLf c.args.part.now) old (contents c.hand_on.new.self.inner) c.in_ok-all.all kept)
