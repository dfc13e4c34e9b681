use Rattle.std.proofs.Common.{rules, ◌∙◌, sym, ap}
use Rattle.std.specs.Prelude.{option_and_then}
use Rattle.zerotrie_making.specs.Json.{pair_of_items}
use Rattle.zerotrie_making.proofs.WholeLemmas.{not_two}
use Rattle.zerotrie_making.proofs.json_pairs.pair_of.Goals as goal

pub returns-then-items-ne2 : goal.returns-then-items-ne2
returns-then-items-ne2 c =
    ap (option_and_then pair_of_items) (sym c.in-Some.ensures) ∙ not_two c.in-Some.items.now (search rules)
