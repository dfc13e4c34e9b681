use Rattle.std.proofs.Common.{string_bytes}
use Rattle.zerotrie_session.specs.Commands.{choose}
use Rattle.zerotrie_session.specs.answer.Parsing.{meaning}
use Rattle.zerotrie_session.proofs.SessionLemmas.{performed_chosen, after_request}
use Rattle.zerotrie_session.proofs.answer.answer_line.Goals as goal

pub returns-in-Some : goal.returns-in-Some
returns-in-Some c = rw c.in-Some.is
    (after_request c.args.line.now (meaning c.in-Ok.request) (rw c.in-Ok.is at c.in_ok-request.ensures.ok) c.in-Some.session c.answer.new.self
    (string_bytes c.args.output.now) (string_bytes c.answer.new.output) c.answer.result c.answer.ensures)

pub returns : goal.returns
returns c = λ held h. (choose c.in-Kind.choice, rw c.in-Kind.is at (rw c.in-Ok.is at c.in_ok-request.ensures.ok), performed_chosen held c.new.result c.in-Kind.choice (string_bytes c.args.output.now) c.new.ensures)
