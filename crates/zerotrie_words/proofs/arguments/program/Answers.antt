use Rattle.std.proofs.Common.{◌≡◌, ◌∙◌, ap, map, true}
use Rattle.clap.specs.Simple.{on_top}
use Rattle.clap.specs.Words.{App, Shape, app_of}
use Rattle.zerotrie_words.specs.Arguments.{program_by, with_parts}
use Rattle.zerotrie_words.proofs.Rules.{one_part_more}
use Rattle.zerotrie_words.proofs.arguments.program.Goals as goal

pub loop-part-init : goal.loop-part-init
unfolding program_by
loop-part-init c =
    let named : app_of c.in_ok-bin_name.field-0 ≡ app_of c.new.result = rw c.in_ok-bin_name.ensures.0 in
    let versioned : app_of c.version.result ≡ on_top (λ (s : Shape). record s { has_version = true }) (app_of c.in_ok-bin_name.field-0) = rw c.version.ensures in
    let about : app_of c.about.result ≡ app_of c.version.result = rw c.about.ensures in
    let help : app_of c.after_help.result ≡ app_of c.about.result = rw c.after_help.ensures in
    let required : app_of c.subcommand_required.result ≡ on_top (λ (s : Shape). record s { subcommand_required = true }) (app_of c.after_help.result) = rw c.subcommand_required.ensures in
    let whole : app_of c.arg_required_else_help-program.result ≡ on_top (λ (s : Shape). record s { arg_required_else_help = true }) (app_of c.subcommand_required.result) = rw c.arg_required_else_help-program.ensures in
    let bare = named ∙ c.new.ensures.app in
    let with_version = versioned ∙ ap (on_top (λ (s : Shape). record s { has_version = true })) bare in
    let with_command = required ∙ ap (on_top (λ (s : Shape). record s { subcommand_required = true })) (help ∙ (about ∙ with_version)) in
    ap (λ (a : App). with_parts a (map (λ part. part.now) c.args.rows.now)) (whole ∙ ap (on_top (λ (s : Shape). record s { arg_required_else_help = true })) with_command)

pub loop-part-preserved : goal.loop-part-preserved
loop-part-preserved c =
    one_part_more (app_of c.loop-part.program) _ _ c.args.rows.now c.loop-part.part-index _ c.loop-part-test.true c.loop-part.invariant c.in_ok-program.ensures
