use Rattle.std.proofs.Common.{◌∙◌, sym, ap}
use Rattle.zerotrie_reverse.specs.Descent.{value_of}
use Rattle.zerotrie_reverse.proofs.DescentLemmas.{value_from}
use Rattle.zerotrie_reverse.proofs.descent.value_at.Goals as goal

pub returns : goal.returns
returns c = c.value_of.ensures ∙ ap value_of c.from_place.ensures ∙ sym (value_from c.args.bytes.now c.args.place)
