use Rattle.zerotrie_session.proofs.CallLemmas.{ReadOps}
use Rattle.zerotrie_session.proofs.command.parse_ops.Given as goal

abbrev pub invariant-loop-word : goal.invariant-loop-word
invariant-loop-word l = ReadOps l.word-items l.word-index l.ops.items
