use Rattle.std.proofs.Common.{rules, ◌≡◌, true}
use Rattle.zerotrie_run.proofs.messages.build.kind_text.Goals as goal

pub returns : goal.returns
returns c =
    let told : c.args.tells_kind ≡ true = search rules in
    rw told (rw (c.as_bytes.ensures.value, c.in_ok-words.ensures.ok, c.name-name.ensures) at c.line_on.ensures)
