use Rattle.std.proofs.Common.{string_bytes, arith, ◌≡◌, max}
use Rattle.zerotrie_session.proofs.RunLemmas.{answering_none, answering_empty, answering_more, answering_bad, answering_all, bad_at, line_at, is_nil, not_nil}
use Rattle.zerotrie_session.proofs.answer.answer_all.Goals as goal
use Rattle.zerotrie_session.proofs.answer.answer_all.Goals.{in-Done, in-Refused}

pub loop-index-init : goal.loop-index-init
loop-index-init c = record {
  low = omega arith;
  answering = rw c.new-output.ensures.bytes (answering_none c.args.input.now c.deref-line-items.result.now (rw c.deref-line-items.ensures.value c.in_ok-lines.ensures));
}

pub loop-index-preserved-then-is_empty : goal.loop-index-preserved-then-is_empty
loop-index-preserved-then-is_empty c = record {
  low = omega arith;
  answering = answering_empty c.args.input.now c.deref-line-items.result.now c.loop-index.index c.loop-index.held (string_bytes c.loop-index.output) c.loop-index.status
      c.loop-index.invariant.answering c.loop-index-test.true (is_nil (line_at c.deref-line-items.result.now c.loop-index.index) c.if-is_empty.ensures);
}

pub returns-in-Bad-clause-answers : goal.returns-in-Bad-clause-answers
returns-in-Bad-clause-answers c =
    let after = rw c.in-Bad.is at c.in_ok-answer_line.ensures in
    answering_bad c.args.input.now c.deref-line-items.result.now c.loop-index.index c.loop-index.held (string_bytes c.loop-index.output) (string_bytes c.answer_line.new.output) (string_bytes c.write_bad.new.output) c.loop-index.status
    c.loop-index.invariant.answering c.loop-index-test.true (not_nil (line_at c.deref-line-items.result.now c.loop-index.index) c.if-is_empty.ensures)
    after.1 after.0 c.in_ok-write_bad-in-Bad.ensures (omega arith)

pub returns-in-Bad-clause-why : goal.returns-in-Bad-clause-why
returns-in-Bad-clause-why c =
    let after = rw c.in-Bad.is at c.in_ok-answer_line.ensures in
    bad_at c.args.input.now c.deref-line-items.result.now c.loop-index.index c.in-Bad.bad (rw c.deref-line-items.ensures.value c.in_ok-lines.ensures) c.loop-index-test.true after.2

pub loop-index-preserved : goal.loop-index-preserved
loop-index-preserved c = elim c.match-branch-3.branch [
  | in-Done w ↦
      let most : max c.loop-index.status 0 ≡ c.match-branch-3.status = omega arith in record {
        low = omega arith;
        answering = rw most at (answering_more c.args.input.now c.deref-line-items.result.now c.loop-index.index c.loop-index.held c.answer_line.new.held (string_bytes c.loop-index.output) (string_bytes c.answer_line.new.output) c.loop-index.status 0
            c.loop-index.invariant.answering c.loop-index-test.true (rw w.in-Done.is at c.in_ok-answer_line.ensures));
      }
  | in-Refused w ↦
      let most : max c.loop-index.status 1 ≡ c.match-branch-3.status = omega arith in record {
        low = omega arith;
        answering = rw most at (answering_more c.args.input.now c.deref-line-items.result.now c.loop-index.index c.loop-index.held c.answer_line.new.held (string_bytes c.loop-index.output) (string_bytes c.answer_line.new.output) c.loop-index.status 1
            c.loop-index.invariant.answering c.loop-index-test.true (rw w.in-Refused.is at c.in_ok-answer_line.ensures));
      }
]

pub returns-clause-answers : goal.returns-clause-answers
returns-clause-answers c = answering_all c.args.input.now c.deref-line-items.result.now c.loop-index.index c.loop-index.held (string_bytes c.loop-index.output) c.loop-index.status c.loop-index.invariant.answering c.loop-index-test.false
