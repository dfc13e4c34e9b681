use Rattle.std.proofs.Common.{◌∙◌, sym, ap, Some}
use Rattle.std.specs.Option.{option_map}
use Rattle.zerotrie_core.specs.Kind.{kind_with}
use Rattle.zerotrie_reverse.specs.Descent.{key_at}
use Rattle.zerotrie_reverse.proofs.FirstLemmas.{table_has}
use Rattle.zerotrie_reverse.proofs.table.found.Goals as goal

pub returns-in-None : goal.returns-in-None
returns-in-None c = λ table pairs text.
    ap (option_map (key_at (kind_with c.args.options) c.args.bytes.now)) (sym c.in-None.is ∙ c.first_place_of.ensures table.ascends) ∙ table_has table c.args.value pairs text

pub returns-in_ok-key-in-Some : goal.returns-in_ok-key-in-Some
returns-in_ok-key-in-Some c = λ table pairs text.
    ap Some c.in_ok-key-in-Some.ensures
    ∙ ap (option_map (key_at (kind_with c.args.options) c.args.bytes.now)) (sym c.in-Some.is ∙ c.first_place_of.ensures table.ascends)
    ∙ table_has table c.args.value pairs text
