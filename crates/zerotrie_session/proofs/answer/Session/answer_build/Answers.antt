use Rattle.std.proofs.Common.{string_bytes, ◌∙◌}
use Rattle.zerotrie_session.proofs.SessionLemmas.{holds_none, holds_built, performed_ok, performed_refused}
use Rattle.zerotrie_session.proofs.answer.Session.answer_build.Goals as goal

pub returns-in_ok-write_ok-in-Ok : goal.returns-in_ok-write_ok-in-Ok
returns-in_ok-write_ok-in-Ok c = λ s h.
    let built = rw (c.as_slice.ensures.value, h.pairs, h.choice) at c.in-Ok.ensures.build in
    let kind = rw (c.as_slice.ensures.value, h.pairs, h.choice) at c.in-Ok.ensures.kind in
    performed_ok _ s (string_bytes c.args.output.now) (string_bytes c.write_ok.new.output) c.as_bytes.result.now built.0 built.1
    (holds_built _ s.choice s.pairs h.choice h.pairs (c.in-Ok.ensures.choice ∙ h.choice) kind built.1) c.as_bytes.ensures c.in_ok-write_ok-in-Ok.ensures

pub returns-in_ok-write_refused-in-Err : goal.returns-in_ok-write_refused-in-Err
returns-in_ok-write_refused-in-Err c = λ s h.
    let refusal = rw (c.as_slice.ensures.value, h.pairs, h.choice) at c.in-Err.ensures.build in
    performed_refused _ s (string_bytes c.args.output.now) (string_bytes c.write_refused.new.output) c.in-Err.error refusal
    (holds_none _ s.choice s.pairs h.choice h.pairs c.empty.ensures.choice c.empty.ensures.kind c.empty.ensures.bytes) c.in_ok-write_refused-in-Err.ensures
