use Rattle.std.proofs.Common.{rules, ◌≡◌}
use Rattle.std.specs.Prelude.{IsUtf8}
use Rattle.json.specs.Value.{value_view}
use Rattle.zerotrie_making.proofs.JsonLineLemmas.{no_text, of_value}
use Rattle.zerotrie_making.proofs.json_lines.pair_of_line.Goals as goal

pub returns-in_default : goal.returns-in_default
returns-in_default c = let none : IsUtf8 c.args.line.now → ⊥ = search rules in no_text c.args.names c.args.line.now none

pub returns-in-Ok-value_of : goal.returns-in-Ok-value_of
returns-in-Ok-value_of c =
    let is : IsUtf8 c.args.line.now = search rules in
    let same : c.in-Ok.text.now ≡ c.args.line.now = search rules in
    rw (of_value c.args.names c.args.line.now c.in-Ok.text.now (value_view c.in-Ok-value_of.value) is same c.in-Ok-value_of.ensures.ok) c.row_of.ensures
