use Rattle.std.proofs.Common.{rules, ◌∙◌, sym, ap}
use Rattle.std.specs.Option.{is_some}
use Rattle.std.specs.Prelude.{option_and_then}
use Rattle.zerotrie_any.specs.Json.{pair_of_items}
use Rattle.zerotrie_any.proofs.JsonLemmas.{not_two}
use Rattle.zerotrie_any.proofs.json.no_pair.is_pair.Goals as goal

pub returns-then-len-ne2 : goal.returns-then-len-ne2
returns-then-len-ne2 c =
    sym (ap is_some (ap (option_and_then pair_of_items) (sym c.in-Some.ensures) ∙ not_two c.in-Some.items.now.items (search rules)))
