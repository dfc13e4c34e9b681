use Rattle.std.proofs.Common.{◌≡◌, drop}
use Rattle.clap.specs.Words.{app_of}
use Rattle.zerotrie_words.specs.Arguments.{with_rows}
use Rattle.zerotrie_words.proofs.arguments.with_commands.Given as goal

abbrev pub invariant-loop-row : goal.invariant-loop-row
invariant-loop-row l = with_rows (app_of l.program) (drop l.row-index l.rows) ≡ with_rows (app_of l.fn.program) l.rows
