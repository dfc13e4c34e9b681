use Rattle.zerotrie_core.proofs.CursorLemmas.CommonPrefixes.{looked_take}
use Rattle.zerotrie_core.proofs.prefixes.value_here.Goals as goal

pub returns-then-looked-clause-take : goal.returns-then-looked-clause-take
returns-then-looked-clause-take c kind = looked_take kind c.args.cursor.now c.args.looked.now c.if-looked.true
