use Rattle.std.proofs.Common.{◌≡◌, ◌∙◌, ap, map}
use Rattle.clap.specs.Words.{App, app_of, rule_of, with_rule}
use Rattle.zerotrie_words.specs.Arguments.{rule_by, with_rules}
use Rattle.zerotrie_words.proofs.Rules.{one_argument_more}
use Rattle.zerotrie_words.proofs.arguments.Subcommand.to_clap.Goals as goal

pub loop-argument-init : goal.loop-argument-init
loop-argument-init c =
    let about : app_of c.about.result ≡ app_of c.new.result = rw c.about.ensures in
    let help : app_of c.after_help-command.result ≡ app_of c.about.result = rw c.after_help-command.ensures in
    ap (λ (a : App). with_rules a (map rule_by c.args.self.now.arguments.now)) (help ∙ (about ∙ c.new.ensures.app))

pub loop-argument-preserved : goal.loop-argument-preserved
loop-argument-preserved c =
    let same : app_of c.in_ok-command.command ≡ with_rule (app_of c.loop-argument.command) (rule_of c.to_clap.result) = c.in_ok-command.ensures.shape c.to_clap.ensures.local in
    one_argument_more (app_of c.loop-argument.command) _ _ (rule_of c.to_clap.result) _ c.loop-argument.argument-index _ c.loop-argument-test.true c.loop-argument.invariant same c.to_clap.ensures.rule
