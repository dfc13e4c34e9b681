use Rattle.std.proofs.Common.{◌≡◌, drop, map}
use Rattle.clap.specs.Words.{app_of}
use Rattle.zerotrie_words.specs.Arguments.{app_by, rule_by, with_rules}
use Rattle.zerotrie_words.proofs.arguments.Subcommand.to_clap.Given as goal

abbrev pub invariant-loop-argument : goal.invariant-loop-argument
invariant-loop-argument l = with_rules (app_of l.command) (map rule_by (drop l.argument-index l.argument-items)) ≡ app_by l.self
