use Rattle.std.proofs.Common.{rules, sym, ◌≤◌, length}
use Rattle.std.proofs.lemmas.List.{take_all}
use Rattle.zerotrie_lines.proofs.values.front_of.Goals as goal

pub returns-then-field-le-SHOWN : goal.returns-then-field-le-SHOWN
returns-then-field-le-SHOWN c = let few : length c.args.field.now ≤ 40 = search rules in sym (take_all 40 c.args.field.now few)
