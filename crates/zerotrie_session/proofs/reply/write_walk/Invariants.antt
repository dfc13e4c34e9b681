use Rattle.std.proofs.Common.{◌≡◌, ◌++◌, string_bytes, drop}
use Rattle.zerotrie_session.specs.Replies.{spaced_answers}
use Rattle.zerotrie.specs.Walks.{answers_of}
use Rattle.zerotrie_session.proofs.reply.write_walk.Given as goal

abbrev pub invariant-loop-answer : goal.invariant-loop-answer
invariant-loop-answer l =
    string_bytes l.output ++ spaced_answers (answers_of (drop l.answer-index l.rest)) ≡ string_bytes l.initial.output ++ spaced_answers (answers_of l.rest)
