use Rattle.std.proofs.Common.{◌≡◌, ◌∙◌, ap, subst}
use Rattle.std.specs.Prelude.{option_and_then}
use Rattle.zerotrie_making.specs.Json.{whole}
use Rattle.zerotrie_making.proofs.WholeLemmas.{parsed}
use Rattle.zerotrie_making.proofs.json_pairs.number_of.Goals as goal

pub returns : goal.returns
returns c =
    subst (λ d. c.parse_number.result ≡ whole d) c.as_bytes.ensures.value (parsed c.as_bytes.result.now c.parse_number.result c.parse_number.ensures.some c.parse_number.ensures.none)
    ∙ ap (option_and_then whole) c.in_ok-as_number.ensures
