use Rattle.std.proofs.Common.{◌≤◌, string_bytes}
use Rattle.zerotrie_session.proofs.RunLemmas.{Answering}
use Rattle.zerotrie_session.proofs.answer.answer_all.Given as goal

abbrev pub invariant-loop-index : goal.invariant-loop-index
invariant-loop-index l = record {
  low : l.status ≤ 1;
  answering : Answering l.input l.line-items l.index l.held (string_bytes l.output) l.status;
}
