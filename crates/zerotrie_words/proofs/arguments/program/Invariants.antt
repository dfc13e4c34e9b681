use Rattle.std.proofs.Common.{◌≡◌, drop, map}
use Rattle.clap.specs.Words.{app_of}
use Rattle.zerotrie_words.specs.Arguments.{program_by, with_parts}
use Rattle.zerotrie_words.proofs.arguments.program.Given as goal

abbrev pub invariant-loop-part : goal.invariant-loop-part
invariant-loop-part l = with_parts (app_of l.program) (map (λ part. part.now) (drop l.part-index l.rows)) ≡ program_by (map (λ part. part.now) l.rows)
