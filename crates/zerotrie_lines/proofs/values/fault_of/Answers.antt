use Rattle.std.proofs.Common.{rules, ◌≡◌, ◌≤◌, length, true}
use Rattle.zerotrie_lines.specs.Faults.{is_digits}
use Rattle.zerotrie_lines.proofs.FaultLemmas.{too_great}
use Rattle.zerotrie_lines.proofs.values.fault_of.Goals as goal

pub returns-else-field-gt20 : goal.returns-else-field-gt20
returns-else-field-gt20 c =
    let field = c.args.field.now in
    let digits : is_digits field ≡ true = search rules in
    let some : 1 ≤ length field = search rules in
    let few : length field ≤ 20 = search rules in
    (digits, too_great field digits some few c.requires)
