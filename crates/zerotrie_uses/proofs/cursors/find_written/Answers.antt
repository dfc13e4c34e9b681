use Rattle.std.proofs.Common.{◌≡◌, rules, ◌∙◌}
use Rattle.std.specs.Prelude.{IsOk, is_ok}
use Rattle.zerotrie.specs.Auto.{is_ascii}
use Rattle.zerotrie.specs.Kind.{simple_ascii}
use Rattle.zerotrie.specs.Writing.{StepsBy}
use Rattle.zerotrie.proofs.Cursors.{written_value}
use Rattle.zerotrie_uses.proofs.cursors.find_written.Goals as goal

pub returns-clause-ascii : goal.returns-clause-ascii
returns-clause-ascii g c ascii m means =
    let h = c.get_with_write_fn.ensures in
    let exact : is_ok h.2 ≡ is_ascii c.args.name.now = search rules in
    let steps : IsOk h.2 → StepsBy simple_ascii h.0 c.args.name.now h.1 = search rules in
    written_value simple_ascii _ h.0 h.1 m means c.steps_look_ahead.ensures.pairs c.args.name.now c.get_with_write_fn.result h.2 h.3 (exact ∙ ascii) steps h.5
