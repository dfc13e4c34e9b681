use Rattle.std.proofs.Common.{subst}
use Rattle.zerotrie_lines.specs.Lines.{IsEnd}
use Rattle.zerotrie_lines.proofs.ItemLemmas.{number_line}
use Rattle.zerotrie_lines.proofs.items.take_number.Goals as goal

pub returns-in-Some-after_end-clause-number : goal.returns-in-Some-after_end-clause-number
returns-in-Some-after_end-clause-number c =
    let after = c.in-Some-after_end.after.now in
    let ends = subst (λ t. IsEnd c.args.end t after) c.split_at.ensures.back c.in-Some-after_end.ensures in
    (number_line c.args.end c.args.rest.now.now after c.in-Some.count c.in-Some.value c.in-Some.ensures.number ends).0

pub returns-in-Some-after_end-clause-rest : goal.returns-in-Some-after_end-clause-rest
returns-in-Some-after_end-clause-rest c =
    let after = c.in-Some-after_end.after.now in
    let ends = subst (λ t. IsEnd c.args.end t after) c.split_at.ensures.back c.in-Some-after_end.ensures in
    (number_line c.args.end c.args.rest.now.now after c.in-Some.count c.in-Some.value c.in-Some.ensures.number ends).1
