use Rattle.std.proofs.Common.{◌≡◌, get_or, true}
use Rattle.clap.specs.Words.{app_of, with_subcommand}
use Rattle.zerotrie_words.proofs.Rules.{one_row_more, plain_by, plain_is_local}
use Rattle.zerotrie_words.proofs.arguments.with_commands.Goals as goal

pub loop-row-preserved : goal.loop-row-preserved
loop-row-preserved c =
    let plain : (app_of c.in_ok-to_clap.field-0).top.is_plain ≡ true = plain_by (app_of c.in_ok-to_clap.field-0) (get_or c.args.rows.now c.loop-row.row-index _) c.in_ok-to_clap.ensures in
    let same : app_of c.in_ok-program.program ≡ with_subcommand (app_of c.loop-row.program) (app_of c.in_ok-to_clap.field-0).top = c.in_ok-program.ensures.shape (plain_is_local _ _ _ _ plain) in
    one_row_more (app_of c.loop-row.program) _ (app_of c.in_ok-to_clap.field-0) _ c.args.rows.now c.loop-row.row-index _ c.loop-row-test.true c.loop-row.invariant same c.in_ok-to_clap.ensures
